-- Numbers as bytes, the lowest first.
-- Source: the Zarr v3 core specification, `bytes` codec, little endian.
use Rattle.std.specs.Prelude.{ℕ, zero, suc, ◌+◌, ◌*◌, ◌/◌, ◌%◌, ◌<◌, ◌==◌, List, [], ◌∷◌, length, drop, take, slice_index, Option, Some, None, if◌then◌else◌}
use Rattle.std.specs.Str.{bytes_eq}

-- the lowest bytes of a number, so many, the lowest first
abbrev pub low_first : ℕ → ℕ → List ℕ
low_first zero n = []
low_first (suc size) n = n % 256 ∷ low_first size (n / 256)

-- the number whose bytes these are, the lowest first
abbrev pub low_first_number : List ℕ → ℕ
low_first_number [] = 0
low_first_number (byte ∷ rest) = byte + 256 * low_first_number rest

-- each is a byte
abbrev pub IsBytes : List ℕ → Type 0
IsBytes bytes = (i : ℕ) → slice_index bytes i < 256

-- what stands behind a text that another begins with
abbrev pub behind_prefix : List ℕ → List ℕ → Option (List ℕ)
behind_prefix prefix text = if bytes_eq (take (length prefix) text) prefix then Some (drop (length prefix) text) else None

-- the bytes, where they are so many
abbrev pub of_length : ℕ → List ℕ → Option (List ℕ)
of_length size bytes = if length bytes == size then Some bytes else None
