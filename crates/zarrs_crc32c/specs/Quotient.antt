-- Division of many bytes by a multiple of the divisor that has six terms alone, so that a byte of the quotient is made of six bytes, with no table.
use Rattle.std.specs.Prelude.{◌≡◌, length, ℕ, suc, ◌+◌, ◌*◌, ◌<◌, ◌^◌, nat_lt, if◌then◌else◌, bit_xor, List, [], ◌∷◌, get_or}
use Rattle.zarrs_crc32c.specs.Checksum.{after_bits, after_byte}

-- five numbers that are added
abbrev pub sum_of_five : ℕ → ℕ → ℕ → ℕ → ℕ → ℕ
sum_of_five a b c d e = bit_xor (bit_xor (bit_xor (bit_xor a b) c) d) e

-- The multiple: its highest term moves a register by 418 bytes, and the five others, by 0, 28, 78, 108 and 288 bytes, add up to the same.
abbrev pub SixTerms : Type 0
SixTerms =
    (register : ℕ) → register < 2 ^ 32
    → after_bits (8 * 418) register
    ≡ sum_of_five register (after_bits (8 * 28) register) (after_bits (8 * 78) register) (after_bits (8 * 108) register) (after_bits (8 * 288) register)

-- of the last 418 bytes of a quotient, which begin at a place, the byte that stands so far behind it; 0 behind them
abbrev pub last_byte : List ℕ → ℕ → ℕ → ℕ
last_byte quotient at place = if nat_lt place 418 then get_or quotient (at + place) 0 else 0

-- what these bytes add to the byte that comes so many bytes later than the next one: they stand at the five lower terms
abbrev pub owed : List ℕ → ℕ → ℕ → ℕ
owed quotient at place =
    sum_of_five (last_byte quotient at place) (last_byte quotient at (place + 28)) (last_byte quotient at (place + 78)) (last_byte quotient at (place + 108)) (last_byte quotient at (place + 288))

-- the register after bytes, where something is added to each
abbrev pub after_sums : ℕ → (ℕ → ℕ) → List ℕ → ℕ
after_sums register more [] = register
after_sums register more (byte ∷ bytes) = after_sums (after_byte register (bit_xor byte (more 0))) (λ place. more (suc place)) bytes

-- the register after all bytes, of which these are left to be divided: by what the quotient's last bytes add to them
abbrev pub after_division : List ℕ → ℕ → List ℕ → ℕ
after_division quotient at bytes = after_sums 0 (owed quotient at) bytes

-- what the quotient's bytes at the lower terms add up to, from a place on and so far behind it
abbrev pub lower_terms : List ℕ → ℕ → ℕ → ℕ
lower_terms quotient at place =
    sum_of_five (get_or quotient (at + place) 0) (get_or quotient (at + 28 + place) 0) (get_or quotient (at + 78 + place) 0) (get_or quotient (at + 108 + place) 0) (get_or quotient (at + 288 + place) 0)

-- sixteen of the bytes from a place on, to each of which these are added
abbrev pub AreSums : List ℕ → List ℕ → ℕ → List ℕ → Type 0
AreSums quotient bytes at sums =
    (length sums ≡ 16) × ((place : ℕ) → place < 16 → get_or sums place 0 ≡ bit_xor (get_or bytes (at + place) 0) (lower_terms quotient at place))
