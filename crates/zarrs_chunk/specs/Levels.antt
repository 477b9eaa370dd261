-- The numbers of a box's tuples, built axis by axis.
use Rattle.std.specs.Prelude.{◌≡◌, ℕ, ◌+◌, ◌-◌, ◌*◌, ◌^◌, ◌<◌, ◌≤◌, List, map, drop, length, get_or, slice_index}
use Rattle.std.specs.List.{flat_map, range_with_len}
use Rattle.zarrs_chunk.specs.ChunkShape.{product}
use Rattle.zarrs_chunk.specs.Tuples.{row_major, box_tuples}

-- the number of the tuple that begins with the one numbered `front` and goes on with `tuple` over `sizes`
abbrev pub number_behind : ℕ → List ℕ → List ℕ → ℕ
number_behind front sizes tuple = front * product sizes + row_major sizes tuple

-- the numbers of all tuples that begin with one of these fronts, each given by its number, and go on with a tuple of the box over the axes that are left
abbrev pub numbers_behind : List ℕ → List ℕ → List ℕ → List ℕ → List ℕ
numbers_behind sizes starts lengths fronts =
    flat_map (λ front. map (number_behind front sizes) (box_tuples starts lengths)) fronts

-- behind each front there are `rest` numbers, and all of them are below `total`
abbrev pub IsFitting : ℕ → ℕ → List ℕ → Type 0
IsFitting total rest fronts = (k : ℕ) → k < length fronts → (get_or fronts k 0 + 1) * rest ≤ total

-- the row-major numbers of a box's tuples, in order
abbrev pub box_places : List ℕ → List ℕ → List ℕ → List ℕ
box_places sizes starts lengths = map (row_major sizes) (box_tuples starts lengths)

-- the fronts over one axis more, of this size: each front gives way to the row of `len` numbers behind it, which begins at the index `start`
abbrev pub rows_behind : ℕ → ℕ → ℕ → List ℕ → List ℕ
rows_behind size start len fronts = flat_map (λ front. range_with_len (front * size + start) len) fronts

-- the row behind each front ends where 64 bits hold it
abbrev pub RowsFit : ℕ → ℕ → ℕ → List ℕ → Type 0
RowsFit size start len fronts = (k : ℕ) → k < length fronts → slice_index fronts k * size + start + len < 2 ^ 64

-- these are the numbers of the box's tuples over its first `axes` axes: with the tuples of the axes that are left behind them, they are the box's places
abbrev pub AreFronts : ℕ → List ℕ → List ℕ → List ℕ → List ℕ → Type 0
AreFronts axes sizes starts lengths fronts =
    numbers_behind (drop axes sizes) (drop axes starts) (drop axes lengths) fronts ≡ box_places sizes starts lengths

-- the elements of the axes that are left fit behind each front of the first `axes` axes
abbrev pub FrontsFit : ℕ → List ℕ → List ℕ → Type 0
FrontsFit axes sizes fronts = IsFitting (product sizes) (product (drop axes sizes)) fronts

-- the box doesn't cover the last of the first `axes` axes whole, if there is one
abbrev pub LastIsPartial : ℕ → List ℕ → List ℕ → Type 0
LastIsPartial axes sizes lengths = 0 < axes → slice_index lengths (axes - 1) < slice_index sizes (axes - 1)

-- from the axis `from` on, up to the axis before `to`, the box covers each axis whole: it begins at 0 and is as long as the axis
abbrev pub AreWhole : ℕ → ℕ → List ℕ → List ℕ → List ℕ → Type 0
AreWhole from to sizes starts lengths = (k : ℕ) → from ≤ k → k < to → (get_or starts k 0 ≡ 0) × (get_or lengths k 0 ≡ get_or sizes k 0)
