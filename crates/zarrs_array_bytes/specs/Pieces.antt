-- Byte lists, one after another.
use Rattle.std.specs.Prelude.{◌≡◌, ℕ, ◌+◌, List, [], ◌∷◌, ◌++◌, length, map}
use Rattle.std.specs.List.{flat_map, range_with_len}
use Rattle.zarrs_array_bytes.specs.Held.{Held, flen, vlen, masked, owned_bytes}
use Rattle.zarrs_array_bytes.specs.Elements.{piece, cut}

-- the first `count` pieces of `size` items
abbrev pub pieces : ℕ → ℕ → List ℕ → List (List ℕ)
pieces size count items = map (piece size items) (range_with_len 0 count)

-- the bytes of the elements of one size at these places, one after another
abbrev pub pieces_at : ℕ → List ℕ → List ℕ → List ℕ
pieces_at size items places = flat_map (piece size items) places

-- where each list ends, if the first one begins at `start`
abbrev pub ends : ℕ → List (List ℕ) → List ℕ
ends start [] = []
ends start (first ∷ rest) = (start + length first) ∷ ends (start + length first) rest

-- the bytes that a function gives for each of the items, one after another, and their offsets: where each begins, and where the last one ends
abbrev pub bytes_with_offsets : {X : Type 0} → (X → List ℕ) → List X → List ℕ × List ℕ
bytes_with_offsets f xs = (flat_map f xs, 0 ∷ ends 0 (map f xs))

-- the bytes of the elements of any length at these places, one after another, and their offsets
abbrev pub cuts_at : List ℕ → List ℕ → List ℕ → List ℕ × List ℕ
cuts_at offsets items places = bytes_with_offsets (cut offsets items) places

-- a container of the bytes of elements of one size
abbrev pub fixed_of : List ℕ → Held
fixed_of items = flen (owned_bytes items)

-- a container of bytes and offsets
abbrev pub variable_of : List ℕ × List ℕ → Held
variable_of parts = vlen (owned_bytes parts.0) parts.1

-- a container under a mask of these bytes
abbrev pub masked_by : Held → List ℕ → Held
masked_by inner flags = masked inner (owned_bytes flags)

-- the new items are the old ones, and perhaps more behind them
abbrev pub IsLonger : List ℕ → List ℕ → Type 0
IsLonger old new = (more : List ℕ) × (new ≡ old ++ more)
