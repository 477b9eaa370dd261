-- The container of a chunk's elements.
use Rattle.std.specs.Prelude.{ℕ, List, Option, Some, None, Result, replicate, map}
use Rattle.std.specs.List.{flat_map}
use Rattle.zarrs_chunk.specs.Answer.{◌>>=◌}
use Rattle.zarrs_chunk.specs.declared.codec_error.CodecError.{CodecError}
use Rattle.zarrs_data_type.specs.Element.{Element, plain, absent, present, Chunk}
use Rattle.zarrs_data_type.specs.ElementType.{ElementType, fixed, text, bytes, optional, element_size}
use Rattle.zarrs_array_bytes.specs.Held.{Held, masked, owned_bytes}
use Rattle.zarrs_array_bytes.specs.Offsets.{offsets_of}
use Rattle.zarrs_array_bytes.specs.Parts.{with_offsets}
use Rattle.zarrs_array_bytes.specs.Pieces.{bytes_with_offsets, fixed_of, variable_of}
use Rattle.zarrs_array_bytes.specs.Present.{mask_of}

-- the bytes that an element is; none of one that may be absent
abbrev pub plain_bytes : Element → Option (List ℕ)
plain_bytes (plain items) = Some items
plain_bytes _ = None

-- these bytes, or so many zeros
abbrev pub or_zeros : ℕ → Option (List ℕ) → List ℕ
or_zeros size None = replicate size 0
or_zeros size (Some items) = items

-- the bytes of an element, or so many zeros where there is none
abbrev pub bytes_or_zeros : ℕ → Element → List ℕ
bytes_or_zeros size element = or_zeros size (plain_bytes element)

-- the bytes of elements of one size, one after another
abbrev pub chunk_bytes : ℕ → Chunk → List ℕ
chunk_bytes size chunk = flat_map (bytes_or_zeros size) chunk

-- the bytes of elements of any length, one after another, and their offsets
abbrev pub chunk_cuts : Chunk → List ℕ × List ℕ
chunk_cuts chunk = bytes_with_offsets (bytes_or_zeros 0) chunk

-- what stands under the mask byte of an element: what is inside where it is present
abbrev pub under_mask : Element → Element
under_mask (present element) = element
under_mask _ = absent

-- The elements of a type in a container: their bytes one after another, with offsets where they are of any length. At each optional level a mask; under it zeros, or no bytes, where an element is absent.
abbrev pub container_of : ElementType → Chunk → Held
container_of (fixed width count sign) chunk = fixed_of (chunk_bytes (element_size width count) chunk)
container_of text chunk = variable_of (chunk_cuts chunk)
container_of bytes chunk = variable_of (chunk_cuts chunk)
container_of (optional type) chunk = masked (container_of type (map under_mask chunk)) (owned_bytes (mask_of chunk))

-- the container of bytes and offsets, or why there is none
abbrev pub variable_answer : List ℕ → List ℕ → Result Held CodecError
variable_answer items numbers = do
  offsets ← offsets_of numbers
  with_offsets (owned_bytes items) offsets
