-- Rows in the order of their keys, to search in.
use Rattle.std.specs.Prelude.{◌≡◌, ℕ, List, map, Contains}
use Rattle.std.specs.Cmp.Lexicographic.{slice_cmp}
use Rattle.std.specs.List.Sorted.{IsSortedByKey, IsPermutation}
use Rattle.std.specs.Ordering.{nat_cmp}
use Rattle.zarrs_pairs.specs.Pairs.{Pairs, beside, turned}
use Rattle.zarrs_pairs.specs.declared.rows.Row.{Row}

-- a row as contracts see it: its key and its value
abbrev pub row_seen : Row → List ℕ × List ℕ
row_seen row = (row.key.now, row.value.now)

-- rows as contracts see them
abbrev pub rows_seen : List Row → Pairs
rows_seen rows = map row_seen rows

-- the keys never fall
abbrev pub IsRising : List Row → Type 0
IsRising rows = IsSortedByKey (λ row. row.key.now) (slice_cmp nat_cmp) rows

-- no key has two values
abbrev pub IsFunction : Pairs → Type 0
IsFunction rows = (key first second : List ℕ) → Contains rows (key, first) → Contains rows (key, second) → first ≡ second

-- the rows have these pairs, in the order of their keys
pub record AreRowsOf (pairs : Pairs) (rows : List Row) : Type 0 where
  pub rising : IsRising rows
  pub same : IsPermutation pairs (rows_seen rows)

-- two rows have one key and two values
pub record HaveClash (front behind : Row) : Type 0 where
  pub key : front.key.now ≡ behind.key.now
  pub value : front.value.now ≡ behind.value.now → ⊥

-- the second list finds what the first one does, turned round
abbrev pub AreTurned : Pairs → Pairs → Type 0
AreTurned rows other = (bytes : List ℕ) → beside other bytes ≡ beside (map turned rows) bytes
