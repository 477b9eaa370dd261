-- Laws of the codec `bytes`.
use Rattle.zarrs_data_type.specs.Form.{form_of}
use Rattle.std.specs.Prelude.{◌≡◌, ◌<◌, ◌≤◌, ◌+◌, ◌-◌, ◌*◌, ◌↔◌, ℕ, Option, Some, List, length, true, is_ok, Ok}
use Rattle.std.specs.List.{All}
use Rattle.zarrs_data_type.specs.Element.{Chunk}
use Rattle.zarrs_data_type.specs.ElementType.{ElementType}
use Rattle.zarrs_data_type.specs.declared.endianness.Endianness.{Endianness}
use Rattle.zarrs_chunk.specs.ChunkShape.{product}
use Rattle.zarrs_array_bytes.specs.Elements.{select}
use Rattle.zarrs_array_bytes.specs.Held.{Held}
use Rattle.zarrs_array_bytes.specs.Validity.{data_fit}
use Rattle.zarrs_bytes.specs.BytesCodec.{bytes_length, BytesStands, BytesWritten}
use Rattle.zarrs_codec.specs.ByteRanges.{SameByte}
use Rattle.zarrs_codec.specs.ChunkEdits.{with_elements}
use Rattle.zarrs_bytes.specs.PartialRead.{place_bytes, place_size, read_places}
use Rattle.zarrs_bytes.specs.PartialWrite.{bytes_left, StartsFrom}

-- A value that is written for a chunk stands for it.
abbrev pub WrittenStands : Type 0
WrittenStands =
    (order : Option Endianness) (sizes : List ℕ) (type : ElementType) (fill value : List ℕ) (chunk : Chunk)
    → BytesWritten order (form_of sizes type fill) value chunk → BytesStands order (form_of sizes type fill) value chunk

-- A value stands for at most one chunk.
abbrev pub StandsForOne : Type 0
StandsForOne =
    (order : Option Endianness) (sizes : List ℕ) (type : ElementType) (fill value : List ℕ) (chunk other : Chunk)
    → BytesStands order (form_of sizes type fill) value chunk → BytesStands order (form_of sizes type fill) value other → chunk ≡ other

-- Two chunks are written alike exactly if they are equal.
abbrev pub WrittenAlike : Type 0
WrittenAlike =
    (order : Option Endianness) (sizes : List ℕ) (type : ElementType) (fill value other_value : List ℕ) (chunk other : Chunk)
    → BytesWritten order (form_of sizes type fill) value chunk → BytesWritten order (form_of sizes type fill) other_value other → (value ≡ other_value) ↔ (chunk ≡ other)

-- A written value has the length that the representation declares.
abbrev pub HasRepresentedLength : Type 0
HasRepresentedLength =
    (order : Option Endianness) (sizes : List ℕ) (type : ElementType) (fill value : List ℕ) (chunk : Chunk) (len : ℕ)
    → BytesWritten order (form_of sizes type fill) value chunk → bytes_length order (form_of sizes type fill) ≡ Ok len → length value ≡ len

-- Of a value that stands for a chunk, a read of places inside selects the chunk's elements.
abbrev pub ReadSelects : Type 0
ReadSelects =
    (order : Option Endianness) (sizes : List ℕ) (type : ElementType) (fill value : List ℕ) (chunk : Chunk) (places : List ℕ)
    → BytesStands order (form_of sizes type fill) value chunk → All (λ place. place < length chunk) places
    → read_places order type fill (Some value) places ≡ Ok (select chunk places)

-- Two values that both have all bytes of these places, and the same ones there, are read alike at these places.
abbrev pub ReadsAlike : Type 0
ReadsAlike =
    (order : Option Endianness) (type : ElementType) (fill value other places : List ℕ)
    → All (SameByte value other) (place_bytes (place_size type) places)
    → read_places order type fill (Some value) places ≡ read_places order type fill (Some other) places

-- What is left where new elements are written at places inside is what is written for the chunk with these elements: over a value that stands for a chunk, whose places' bytes alone are replaced; and where nothing is stored, over fill elements.
abbrev pub WriteUpdates : Type 0
WriteUpdates =
    (order : Option Endianness) (sizes : List ℕ) (type : ElementType) (fill : List ℕ) (stored : Option (List ℕ)) (chunk : Chunk) (places : List ℕ) (new : Held)
    → is_ok (bytes_length order (form_of sizes type fill)) ≡ true → StartsFrom order (form_of sizes type fill) stored chunk → All (λ place. place < product sizes) places → data_fit type (length places) new ≡ Ok tt
    → BytesWritten order (form_of sizes type fill) (bytes_left order (form_of sizes type fill) stored places new) (with_elements type chunk places new)

-- Of as many elements a value is as long, or there is none by the same error, whatever the sizes.
abbrev pub LengthByCount : Type 0
LengthByCount =
    (order : Option Endianness) (sizes other_sizes : List ℕ) (type : ElementType) (fill : List ℕ)
    → product sizes ≡ product other_sizes → bytes_length order (form_of sizes type fill) ≡ bytes_length order (form_of other_sizes type fill)

-- Of more elements a value is longer, by as many bytes as those have that it has more. Fill values don't change it.
abbrev pub LengthGrows : Type 0
LengthGrows =
    (order : Option Endianness) (sizes other_sizes : List ℕ) (type : ElementType) (fill other_fill : List ℕ) (len other_len : ℕ)
    → bytes_length order (form_of sizes type fill) ≡ Ok len → bytes_length order (form_of other_sizes type other_fill) ≡ Ok other_len → product sizes ≤ product other_sizes
    → other_len ≡ len + (product other_sizes - product sizes) * place_size type
