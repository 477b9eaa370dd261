-- Lengths, bytes and the elements that are bytes, as codecs with chains inside share them.
use Rattle.std.specs.Int.{w64, to_le_bytes, from_le_bytes}
use Rattle.std.specs.List.{flat_map}
use Rattle.std.specs.Prelude.{ℕ, false, List, [], ◌∷◌, map, length, Result, Ok}
use Rattle.zarrs_bytes.specs.ByteOrder.{bytes_of}
use Rattle.zarrs_chunk.specs.Answer.{◌>>=◌}
use Rattle.zarrs_chunk.specs.declared.codec_error.CodecError.{CodecError}
use Rattle.zarrs_data_type.specs.Element.{Element, plain, Chunk}
use Rattle.zarrs_data_type.specs.ElementType.{ElementType, fixed}

-- what each item gives, in order, or the first error
abbrev pub for_each : {A T : Type 0} → (A → Result T CodecError) → List A → Result (List T) CodecError
for_each give [] = Ok []
for_each give (item ∷ items) = do
  given ← give item
  rest ← for_each give items
  Ok (given ∷ rest)

-- single bytes
abbrev pub byte_type : ElementType
byte_type = fixed 8 1 false

-- the byte of an element of one byte
abbrev pub the_byte : Element → ℕ
the_byte (plain (byte ∷ rest)) = byte
the_byte element = 0

-- bytes as elements
abbrev pub byte_elements : List ℕ → Chunk
byte_elements items = map (λ byte. plain (byte ∷ [])) items

-- all bytes of the elements, in order
abbrev pub all_bytes : Chunk → List ℕ
all_bytes chunk = flat_map bytes_of chunk

-- the 8 bytes of a part's length, the lowest first; shut, since they compute to a long list
unfoldable pub part_length_bytes : List ℕ → List ℕ
part_length_bytes part = to_le_bytes w64 (length part)

-- the number that 8 bytes spell, the lowest first; shut, since it computes to a long sum
unfoldable pub length_of : List ℕ → ℕ
length_of items = from_le_bytes w64 items
