-- Elements under a mask: those that are present, extracted and put back.
-- Source: zarrs, `OptionalCodec`.
use Rattle.std.specs.Prelude.{◌≡◌, ℕ, zero, suc, ◌*◌, ◌==◌, Bool, nat_lt, if◌then◌else◌, List, [], ◌∷◌, length, map, slice_index, take, Result, Ok}
use Rattle.std.specs.List.{filter, list_all, range_with_len}
use Rattle.zarrs_chunk.specs.Answer.{◌>>=◌, demand}
use Rattle.zarrs_chunk.specs.declared.codec_error.CodecError.{CodecError}
use Rattle.zarrs_chunk.specs.declared.codec_error.CodecError.TheVariants.{MaskValue}
use Rattle.zarrs_data_type.specs.ElementType.{ElementType, optional}
use Rattle.zarrs_data_type.specs.Element.{Element, absent, present, Chunk}
use Rattle.zarrs_array_bytes.specs.Held.{Held, masked, owned_bytes}
use Rattle.zarrs_array_bytes.specs.Elements.{elements}
use Rattle.zarrs_array_bytes.specs.Validity.{sizes_fit, validity}
use Rattle.zarrs_array_bytes.specs.Pieces.{pieces_at}
use Rattle.zarrs_array_bytes.specs.Filled.{blank_elements}
use Rattle.zarrs_array_bytes.specs.Update.{container_written, pieces_update}

-- what is inside the elements that are present, in order
abbrev pub present_elements : Chunk → Chunk
present_elements [] = []
present_elements (present element ∷ rest) = element ∷ present_elements rest
present_elements (_ ∷ rest) = present_elements rest

-- the mask byte of an element: 1 where it is present, else 0
abbrev pub presence : Element → ℕ
presence (present element) = 1
presence _ = 0

-- the mask bytes of a chunk's elements
abbrev pub mask_of : Chunk → List ℕ
mask_of chunk = map presence chunk

-- elements put back under a mask: at its bytes that aren't 0 these ones in order, each present, and elsewhere absent ones
abbrev pub expansion : List ℕ → Chunk → Chunk
expansion [] elements = []
expansion (zero ∷ mask) elements = absent ∷ expansion mask elements
expansion (suc byte ∷ mask) [] = absent ∷ expansion mask []
expansion (suc byte ∷ mask) (element ∷ elements) = present element ∷ expansion mask elements

-- the places at which a mask byte isn't 0, in order
abbrev pub present_places : List ℕ → List ℕ
present_places mask = filter (λ place. nat_lt 0 (slice_index mask place)) (range_with_len 0 (length mask))

-- how many elements are present under a mask of zeros and ones, or the error for another byte
abbrev pub present_count : List ℕ → Result ℕ CodecError
present_count mask = do
  _ ← demand (list_all (λ byte. nat_lt byte 2) mask) MaskValue
  Ok (length (present_places mask))

-- under the mask all elements are present
abbrev pub are_all_present : List ℕ → Bool
are_all_present mask = length (present_places mask) == length mask

-- the elements of a container that are present under a mask, or the first error
abbrev pub present_chunk : ElementType → Held → List ℕ → Result Chunk CodecError
present_chunk type held mask = do
  _ ← validity type (length mask) held
  Ok (present_elements (elements (optional type) (length mask) (masked held (owned_bytes mask))))

-- a container has one element for each that is present under a mask of zeros and ones, or the first error
abbrev pub expansion_fits : ElementType → Held → List ℕ → Result (Unit {0}) CodecError
expansion_fits type held mask = do
  count ← present_count mask
  _ ← validity type count held
  sizes_fit type (length mask)

-- the elements of a container put back under a mask, or the first error
abbrev pub expanded_chunk : ElementType → Held → List ℕ → Result Chunk CodecError
expanded_chunk type held mask = do
  _ ← expansion_fits type held mask
  Ok (expansion mask (elements type (length (present_places mask)) held))

-- blank elements, as many as there are mask bytes, with those at the present places replaced by the elements of a container in order
abbrev pub container_spread : ElementType → Held → List ℕ → Held
container_spread type held mask =
    container_written type (length mask) (blank_elements type (length mask)) (present_places mask) held

-- what is under a mask where the elements are put back: they themselves where all are present, else blank ones between them
abbrev pub container_expansion : ElementType → Held → List ℕ → Held
container_expansion type held mask = if are_all_present mask then held else container_spread type held mask

-- the same, or the first error
abbrev pub expansion_of : ElementType → Held → List ℕ → Result Held CodecError
expansion_of type held mask = do
  _ ← expansion_fits type held mask
  Ok (container_expansion type held mask)

-- the bytes begin with those of the elements of `size` at which a mask byte isn't 0, one after another
abbrev pub BeginsWithPresent : ℕ → List ℕ → List ℕ → List ℕ → Type 0
BeginsWithPresent size mask items out =
    take (length (present_places mask) * size) out ≡ pieces_at size items (present_places mask)

-- as many elements of `size` as there are mask bytes, with those at which the byte isn't 0 replaced by the new ones in order
abbrev pub present_update : ℕ → List ℕ → List ℕ → List ℕ → List ℕ
present_update size mask old new = pieces_update size (length mask) old (present_places mask) new
