-- The kept bits of a chunk's components, in order.
use Rattle.std.specs.Prelude.{ℕ, ◌+◌, ◌*◌, List, [], drop}
use Rattle.std.specs.List.{flat_map, range_with_len}
use Rattle.zarrs_data_type.specs.Element.{Element, plain, Chunk}
use Rattle.zarrs_packbits.specs.Bits.{bits_of, field}
use Rattle.zarrs_packbits.specs.KeptBits.{component_bits, full_component}
use Rattle.zarrs_packbits.specs.declared.layout.PackedLayout.{PackedLayout}
use Rattle.zarrs_packbits.specs.PackedLayout.{layout_components, element_bits_len}
use Rattle.zarrs_packbits.specs.PaddingByte.{lead, value_with}
use Rattle.zarrs_packbits.specs.Packing.{packing}

-- the kept bits of an element's components, in order
abbrev pub element_stream : PackedLayout → Element → List ℕ
element_stream l (plain bytes) =
    flat_map (λ part. field l.first l.count (component_bits l.size bytes part)) (range_with_len 0 l.group)
element_stream l element = []

-- those of a chunk's elements, in order
abbrev pub chunk_stream : PackedLayout → Chunk → List ℕ
chunk_stream l chunk = flat_map (element_stream l) chunk

-- the same of a chunk whose elements' bytes are joined
abbrev pub stream_of_bytes : PackedLayout → List ℕ → List ℕ
stream_of_bytes l bytes =
    flat_map (λ part. field l.first l.count (component_bits l.size bytes part)) (range_with_len 0 (layout_components l))

-- so many components, made of the kept bits that stand one after another from bit `at` on
abbrev pub components_from : PackedLayout → ℕ → ℕ → List ℕ → List ℕ
components_from l at parts bits =
    flat_map (λ part. full_component l.first l.above l.sign (field (at + part * l.count) l.count bits)) (range_with_len 0 parts)

-- so many components, made of the kept bits that stand in these bytes from bit `at` on
abbrev pub components_in : PackedLayout → ℕ → ℕ → List ℕ → List ℕ
components_in l at parts bytes = components_from l at parts (bits_of bytes)

-- the value of a chunk whose elements' bytes, joined, are these
abbrev pub bytes_packed : PackedLayout → List ℕ → List ℕ
bytes_packed l bytes = value_with l (stream_of_bytes l bytes)

-- the bytes, joined, of the elements of the chunk that a value stands for
abbrev pub bytes_unpacked : PackedLayout → List ℕ → List ℕ
bytes_unpacked l value = packing (components_in l 0 (layout_components l) (drop (lead l) value))

-- the components of the element at a place of a value, made of the kept bits of that place alone
abbrev pub element_bits : PackedLayout → List ℕ → ℕ → List ℕ
element_bits l value place =
    components_from l (place * element_bits_len l) l.group (bits_of (drop (lead l) value))

-- the element with these components
abbrev pub packed_element : PackedLayout → List ℕ → ℕ → Element
packed_element l value place = plain (packing (element_bits l value place))
