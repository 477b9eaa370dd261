-- Components of one byte each, and the bytes that hold their kept bits.
use Rattle.std.specs.List.{flat_map, range_with_len}
use Rattle.zarrs_packbits.specs.Bits.{field}
use Rattle.zarrs_packbits.specs.KeptBits.{component_bits}
use Rattle.zarrs_packbits.specs.declared.layout.PackedLayout.{PackedLayout}
use Rattle.std.specs.Prelude.{ℕ, zero, suc, ◌+◌, ◌-◌, ◌*◌, ◌/◌, ◌%◌, ◌^◌, List, [], ◌∷◌, bit_xor, length, ◌==◌, if◌then◌else◌}

-- the fields of so many bits each of a number, the lowest first
abbrev pub fields_of : ℕ → ℕ → ℕ → List ℕ
fields_of width zero number = []
fields_of width (suc count) number = number % 2 ^ width ∷ fields_of width count (number / 2 ^ width)

-- the byte whose kept bits are these, from bit `first` on; copies of the last one stand above them where it has a weight
abbrev pub lifted_byte : ℕ → ℕ → ℕ → ℕ
lifted_byte first weight kept = (bit_xor kept weight + (2 ^ 8 - weight)) % 2 ^ 8 * 2 ^ first % 2 ^ 8

-- the kept bits of the first components of a chunk whose elements' bytes are joined
abbrev pub stream_before : PackedLayout → ℕ → List ℕ → List ℕ
stream_before l parts bytes =
    flat_map (λ part. field l.first l.count (component_bits l.size bytes part)) (range_with_len 0 parts)

-- how many bytes hold a block of components of which so many bits are kept: 64 components, of four bits 128
abbrev pub block_len : ℕ → ℕ
block_len count = if count == 1 then 8 else (if count == 2 then 16 else 64)

-- how many of these bytes stand in whole blocks of 64
abbrev pub blocks_len : List ℕ → ℕ
blocks_len bytes = 64 * (length bytes / 64)
