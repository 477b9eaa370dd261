-- CRC-32C, the checksum that RFC 3720 defines in its section 12.1, with examples in its appendix B.4.
use Rattle.std.specs.Prelude.{ℕ, zero, suc, ◌/◌, ◌%◌, ◌==◌, if◌then◌else◌, bit_xor, List, [], ◌∷◌}

-- The divisor, Castagnoli's polynomial 11EDC6F41: a bit for each power, the lowest power in the highest of 32 bits, and without the highest power.
abbrev pub castagnoli : ℕ
castagnoli = 0x82f6_3b78

-- the register after one step of the division: it moves down by one bit, and where the bit that falls out is 1, the divisor is taken away
abbrev pub after_bit : ℕ → ℕ
after_bit register = if register % 2 == 1 then bit_xor (register / 2) castagnoli else register / 2

-- after so many steps
unfoldable pub after_bits : ℕ → ℕ → ℕ
after_bits zero register = register
after_bits (suc count) register = after_bits count (after_bit register)

-- after a byte, which is added to the register's lowest bits
abbrev pub after_byte : ℕ → ℕ → ℕ
after_byte register byte = after_bits 8 (bit_xor register byte)

-- after bytes, in their order
abbrev pub after_bytes : ℕ → List ℕ → ℕ
after_bytes register [] = register
after_bytes register (byte ∷ bytes) = after_bytes (after_byte register byte) bytes

-- 32 bits that are 1
abbrev pub all_ones : ℕ
all_ones = 0xffff_ffff

-- the checksum: the register after the bytes, where it began as all ones, with each bit turned
unfoldable pub crc32c : List ℕ → ℕ
crc32c bytes = bit_xor (after_bytes all_ones bytes) all_ones
