-- Bits in whole bytes.
use Rattle.std.specs.Prelude.{ℕ, zero, suc, ◌+◌, ◌-◌, ◌*◌, ◌/◌, List, [], ◌∷◌, length, take, drop}

-- the number with these bits, the lowest first
abbrev pub number_of : List ℕ → ℕ
number_of [] = 0
number_of (bit ∷ bits) = bit + 2 * number_of bits

-- so many bytes with these bits; bits that are missing are zeros
abbrev pub bytes_from_bits : ℕ → List ℕ → List ℕ
bytes_from_bits zero bits = []
bytes_from_bits (suc count) bits = number_of (take 8 bits) ∷ bytes_from_bits count (drop 8 bits)

-- the bits in as few bytes as hold them, and zeros in what is left of the last one
abbrev pub packing : List ℕ → List ℕ
packing bits = bytes_from_bits ((length bits + 7) / 8) bits

-- how many bits so many leave of their last byte
abbrev pub spare_bits : ℕ → ℕ
spare_bits count = 8 * ((count + 7) / 8) - count
