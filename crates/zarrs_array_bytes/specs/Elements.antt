-- The elements of a container, read as those of a type.
use Rattle.std.specs.Prelude.{ℕ, zero, suc, ◌+◌, ◌*◌, List, map, slice_index, get_or}
use Rattle.std.specs.List.{range_with_len, between}
use Rattle.zarrs_data_type.specs.ElementType.{ElementType, fixed, text, bytes, optional, element_size}
use Rattle.zarrs_data_type.specs.Element.{Element, plain, absent, present, Chunk}
use Rattle.zarrs_array_bytes.specs.Held.{Held, flen, vlen, masked}

-- the bytes of the element at a place, where each element has `size` of them
abbrev pub piece : ℕ → List ℕ → ℕ → List ℕ
piece size items place = between (place * size) (place * size + size) items

-- the bytes of the element at a place, between its two offsets
abbrev pub cut : List ℕ → List ℕ → ℕ → List ℕ
cut offsets items place = between (slice_index offsets place) (slice_index offsets (place + 1)) items

-- an optional element, by its mask byte and the element under it: absent where the byte is 0
abbrev pub under_flag : ℕ → Element → Element
under_flag zero element = absent
under_flag (suc byte) element = present element

-- the element at a place
abbrev pub element_at : ElementType → Held → ℕ → Element
element_at (fixed width count sign) (flen raw) place = plain (piece (element_size width count) raw.items place)
element_at text (vlen raw offsets) place = plain (cut offsets raw.items place)
element_at bytes (vlen raw offsets) place = plain (cut offsets raw.items place)
element_at (optional type) (masked inner mask) place =
    under_flag (slice_index mask.items place) (element_at type inner place)
element_at _ _ place = absent

-- the elements at so many places, in order
abbrev pub elements : ElementType → ℕ → Held → Chunk
elements type count held = map (element_at type held) (range_with_len 0 count)

-- the elements of a chunk at these places, in their order
abbrev pub select : Chunk → List ℕ → Chunk
select chunk places = map (λ place. get_or chunk place absent) places
