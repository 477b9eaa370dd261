-- What is left of elements where some bits of their components aren't kept.
use Rattle.std.specs.Prelude.{ℕ, List, map, if◌then◌else◌}
use Rattle.std.specs.List.{flat_map, range_with_len}
use Rattle.zarrs_data_type.specs.Element.{Element, plain, Chunk}
use Rattle.zarrs_data_type.specs.ElementType.{ElementType, fixed}
use Rattle.zarrs_packbits.specs.KeptBits.{component_bits, kept_component}
use Rattle.zarrs_packbits.specs.PackBitsSettings.{PackBitsSettings, has_bits, layout_for}
use Rattle.zarrs_packbits.specs.declared.layout.PackedLayout.{PackedLayout}
use Rattle.zarrs_packbits.specs.Packing.{packing}

-- the bytes of an element with the kept bits of each component alone
abbrev pub normal_bytes : PackedLayout → List ℕ → List ℕ
normal_bytes l bytes =
    packing (flat_map (λ part. kept_component l.first l.count l.sign (component_bits l.size bytes part)) (range_with_len 0 l.group))

-- the element with these bytes
abbrev pub kept_element : PackedLayout → Element → Element
kept_element l (plain bytes) = plain (normal_bytes l bytes)
kept_element l element = element

-- The normal form of an element: of each component the kept bits, and the others made of them. It is the element itself where the codec doesn't accept the type, or its components don't have the bits.
abbrev pub normal_element : PackBitsSettings → ElementType → Element → Element
normal_element settings (fixed width components sign) element =
    if has_bits settings width then kept_element (layout_for settings 1 width components sign) element else element
normal_element settings type element = element

-- the normal form of a chunk, element by element
abbrev pub normal_chunk : PackBitsSettings → ElementType → Chunk → Chunk
normal_chunk settings type chunk = map (normal_element settings type) chunk
