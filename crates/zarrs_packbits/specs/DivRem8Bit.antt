-- Where the bits of components stand in memory.
-- Source: zarrs, `div_rem_8bit`.
use Rattle.std.specs.Prelude.{ℕ, ◌+◌, ◌*◌, ◌/◌, ◌%◌}

-- the place of a bit among the bytes of components, where each has `bits` bits and whole bytes
abbrev pub padded_bit : ℕ → ℕ → ℕ
padded_bit bit bits = bit / bits * 8 * ((bits + 7) / 8) + bit % bits
