-- The padding byte of a value: how many bits of the last packed byte hold nothing.
use Rattle.std.specs.Prelude.{ℕ, ◌+◌, ◌-◌, ◌/◌, ◌==◌, Bool, true, List, [], ◌∷◌, ◌++◌, length, slice_index}
use Rattle.zarrs_metadata.specs.declared.codec.packbits.PackBitsPaddingEncoding.{PackBitsPaddingEncoding}
use Rattle.zarrs_metadata.specs.declared.codec.packbits.PackBitsPaddingEncoding.TheVariants.{None, FirstByte, LastByte}
use Rattle.zarrs_packbits.specs.declared.layout.PackedLayout.{PackedLayout}
use Rattle.zarrs_packbits.specs.PackedLayout.{bits_in, spare_of}
use Rattle.zarrs_packbits.specs.Packing.{packing}

-- the padding byte, where it stands before the packed bytes
abbrev pub padding_bytes_before : PackBitsPaddingEncoding → ℕ → List ℕ
padding_bytes_before FirstByte spare = spare ∷ []
padding_bytes_before place spare = []

-- the padding byte, where it stands behind them
abbrev pub padding_bytes_behind : PackBitsPaddingEncoding → ℕ → List ℕ
padding_bytes_behind LastByte spare = spare ∷ []
padding_bytes_behind place spare = []

-- how many bytes stand before the packed ones
abbrev pub lead : PackedLayout → ℕ
lead l = length (padding_bytes_before l.padding 0)

-- how many bytes stand behind them
abbrev pub trail : PackedLayout → ℕ
trail l = length (padding_bytes_behind l.padding 0)

-- how many bytes the value of a chunk has
abbrev pub value_len : PackedLayout → ℕ
value_len l = lead l + (bits_in l + 7) / 8 + trail l

-- the padding byte of a value, if there is one, is this number
abbrev pub padding_is : PackBitsPaddingEncoding → ℕ → List ℕ → Bool
padding_is None spare value = true
padding_is FirstByte spare value = slice_index value 0 == spare
padding_is LastByte spare value = slice_index value (length value - 1) == spare

-- the padding byte of a value, if there is one, is the number of spare bits
abbrev pub padding_holds : PackedLayout → List ℕ → Bool
padding_holds l value = padding_is l.padding (spare_of l) value

-- the value with these bits packed, and the padding byte where it belongs
abbrev pub value_with : PackedLayout → List ℕ → List ℕ
value_with l bits = padding_bytes_before l.padding (spare_of l) ++ (packing bits ++ padding_bytes_behind l.padding (spare_of l))
