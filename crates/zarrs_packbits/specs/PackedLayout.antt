-- How the components of a chunk are packed.
use Rattle.std.specs.Prelude.{◌≡◌, ℕ, ◌+◌, ◌*◌, ◌/◌, ◌^◌, ◌<◌, ◌≤◌, Bool, true, false, ◌&&◌, ◌||◌, nat_lt, ◌==◌}
use Rattle.zarrs_metadata.specs.declared.codec.packbits.PackBitsPaddingEncoding.TheVariants as padding
use Rattle.zarrs_packbits.specs.Packing.{spare_bits}
use Rattle.zarrs_packbits.specs.declared.layout.PackedLayout.{PackedLayout}

-- all bits of whole bytes are kept
abbrev pub is_whole : PackedLayout → Bool
is_whole l = (l.first == 0) && (l.above == 0)

-- how many components a chunk has
abbrev pub layout_components : PackedLayout → ℕ
layout_components l = l.elements * l.group

-- how many bits of a chunk are kept
abbrev pub bits_in : PackedLayout → ℕ
bits_in l = layout_components l * l.count

-- how many bits of an element are kept
abbrev pub element_bits_len : PackedLayout → ℕ
element_bits_len l = l.group * l.count

-- how many bits of the last packed byte hold nothing
abbrev pub spare_of : PackedLayout → ℕ
spare_of l = spare_bits (bits_in l)

-- 64 bits count the chunk's bytes, and where not all bits of whole bytes are kept also the kept bits
abbrev pub is_in_reach : PackedLayout → Bool
is_in_reach l = nat_lt (layout_components l * l.size) (2 ^ 64) && (is_whole l || nat_lt (bits_in l) (2 ^ 64))

-- of a component one bit is kept, or two, or four
abbrev pub IsOneTwoOrFour : ℕ → Type 0
IsOneTwoOrFour count = (count ≡ 1 → ⊥) → (count ≡ 2 → ⊥) → count ≡ 4

-- each of so many first components has eight of these bytes, so many in number, from where its kept bits begin
abbrev pub ReachWords : PackedLayout → ℕ → ℕ → Type 0
ReachWords l parts len = parts * l.size + l.first / 8 + 8 ≤ len + l.size

-- A layout: some bits of a component are kept, an element has a component, the bits of a component are those of its bytes, 64 bits count what has to be counted, and where all bits of whole bytes are kept there is no padding byte.
pub record IsPackedLayout (l : PackedLayout) : Type 0 where
  pub some : 0 < l.count
  pub group : 0 < l.group
  pub size : l.first + l.count + l.above ≡ 8 * l.size
  pub bytes_fit : layout_components l * l.size < 2 ^ 64
  pub bits_fit : is_whole l ≡ false → bits_in l < 2 ^ 64
  pub bare : is_whole l ≡ true → l.padding ≡ padding.None
