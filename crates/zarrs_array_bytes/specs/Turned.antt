-- Bytes with each component of an element turned round.
use Rattle.std.specs.Prelude.{◌≡◌, ℕ, ◌*◌, ◌/◌, ◌<◌, Option, Some, None, List, ◌++◌, length, map, drop, reverse}
use Rattle.std.specs.List.{concat}
use Rattle.zarrs_array_bytes.specs.Pieces.{pieces}

-- so many pieces of a size, each turned round, joined in order
abbrev pub reversed_pieces : ℕ → ℕ → List ℕ → List ℕ
reversed_pieces size count bytes = concat (map reverse (pieces size count bytes))

-- where a size is given, each whole piece of that size reversed; the bytes left over at the end stay
abbrev pub turned_bytes : Option ℕ → List ℕ → List ℕ
turned_bytes None bytes = bytes
turned_bytes (Some size) bytes =
    reversed_pieces size (length bytes / size) bytes ++ drop (length bytes / size * size) bytes

-- the elements of so many bytes are whole components of the size that is turned round, where one is given
abbrev pub WholeComponents : ℕ → Option ℕ → Type 0
WholeComponents size None = Unit {0}
WholeComponents size (Some turn) = (0 < turn) × (size / turn * turn ≡ size)
