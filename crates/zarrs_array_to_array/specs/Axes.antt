-- The places of a chunk's elements, axis by axis.
use Rattle.std.specs.Prelude.{◌≡◌, ℕ, ◌+◌, ◌*◌, ◌-◌, ◌<◌, ◌≤◌, List, [], ◌∷◌, length, map, slice_index}
use Rattle.std.specs.List.{between, flat_map}
use Rattle.zarrs_array_to_array.specs.declared.transpose.axis.Axis.{Axis}
use Rattle.zarrs_array_to_array.specs.Strides.{row, next_rows}

-- the axes of a chunk in an order: each has its index count among the sizes and its step among the steps
abbrev pub axes_of : List ℕ → List ℕ → List ℕ → List Axis
axes_of sizes steps order = map (λ axis. record { size = slice_index sizes axis; step = slice_index steps axis }) order

-- the places of all tuples over these axes, behind each front, the last axis fastest
abbrev pub behind : List Axis → List ℕ → List ℕ
behind [] fronts = fronts
behind (axis ∷ axes) fronts = behind axes (next_rows axis.step axis.size fronts)

-- the places of all tuples over these axes
abbrev pub axes_places : List Axis → List ℕ
axes_places axes = behind axes (0 ∷ [])

-- how many tuples there are over these axes
abbrev pub tuples : List Axis → ℕ
tuples [] = 1
tuples (axis ∷ axes) = axis.size * tuples axes

-- how many places the last tuple over these axes stands behind the first
abbrev pub reach : List Axis → ℕ
reach [] = 0
reach (axis ∷ axes) = (axis.size - 1) * axis.step + reach axes

-- the new axes have the places of the old ones with this one behind them
abbrev pub HaveBehind : Axis → List Axis → List Axis → Type 0
HaveBehind axis old new = axes_places new ≡ next_rows axis.step axis.size (axes_places old)

-- the new axes reach no further than the old ones with this one behind them
abbrev pub ReachBehind : Axis → List Axis → List Axis → Type 0
ReachBehind axis old new = reach new ≤ reach old + (axis.size - 1) * axis.step

-- the places of a plane, from its first one on, row by row
abbrev pub plane_places : ℕ → Axis → Axis → List ℕ
plane_places front rows columns = next_rows columns.step columns.size (row front rows.step rows.size)

-- the number behind the last one of them
abbrev pub plane_end : ℕ → Axis → Axis → ℕ
plane_end front rows columns = front + (rows.size - 1) * rows.step + (columns.size - 1) * columns.step + 1

-- ---- bytes

-- so many bytes from the element at a place on, where each element has `size` of them
abbrev pub stretch : ℕ → ℕ → List ℕ → ℕ → List ℕ
stretch len size items place = between (place * size) (place * size + len) items

-- so many from the element at each of these places on
abbrev pub stretches_at : ℕ → ℕ → List ℕ → List ℕ → List ℕ
stretches_at len size items places = flat_map (stretch len size items) places

-- so many bytes are there from each element of a row on: it has `count` elements, a step apart
abbrev pub RowInside : ℕ → ℕ → ℕ → ℕ → ℕ → List ℕ → Type 0
RowInside len size front step count items =
    (k : ℕ) → k < count → (front + k * step) * size + len ≤ length items

-- the elements of a plane are there, from its first one on
abbrev pub PlaneInside : ℕ → ℕ → Axis → Axis → List ℕ → Type 0
PlaneInside size front rows columns items =
    (r k : ℕ) → r < rows.size → k < columns.size → (front + r * rows.step + k * columns.step) * size + size ≤ length items
