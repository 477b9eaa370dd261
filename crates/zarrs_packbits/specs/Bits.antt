-- Bits of numbers and of bytes, the lowest first.
use Rattle.std.specs.Prelude.{ℕ, zero, suc, ◌/◌, ◌%◌, Bool, true, false, List, [], ◌∷◌, take, drop}
use Rattle.std.specs.List.{flat_map}

-- the lowest bits of a number, so many
abbrev pub low_bits : ℕ → ℕ → List ℕ
low_bits zero number = []
low_bits (suc count) number = number % 2 ∷ low_bits count (number / 2)

-- the bits of bytes, one byte after another
abbrev pub bits_of : List ℕ → List ℕ
bits_of bytes = flat_map (low_bits 8) bytes

-- the bits from `at` on, so many
abbrev pub field : ℕ → ℕ → List ℕ → List ℕ
field at count bits = take count (drop at bits)

-- the bit that a truth value is
abbrev pub bit_of : Bool → ℕ
bit_of true = 1
bit_of false = 0
