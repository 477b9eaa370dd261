-- Tuples and boxes in a box or a shape, axis by axis.
use Rattle.std.specs.Prelude.{◌≡◌, ℕ, ◌+◌, ◌<◌, ◌≤◌, List, length, slice_index}

-- the tuple has one number an axis, each in the range of its axis
pub record IsInBox (starts lengths tuple : List ℕ) : Type 0 where
  pub axes : length tuple ≡ length starts
  pub from_start : (axis : ℕ) → axis < length starts → slice_index starts axis ≤ slice_index tuple axis
  pub before_end : (axis : ℕ) → axis < length starts → slice_index tuple axis < slice_index starts axis + slice_index lengths axis

-- the tuple has one number an axis, each below the axis's size
pub record IsInShape (sizes tuple : List ℕ) : Type 0 where
  pub axes : length tuple ≡ length sizes
  pub below : (axis : ℕ) → axis < length sizes → slice_index tuple axis < slice_index sizes axis

-- the box has one range an axis, each of which ends within the axis's size
pub record IsBoxInShape (sizes starts lengths : List ℕ) : Type 0 where
  pub starts_axes : length starts ≡ length sizes
  pub lengths_axes : length lengths ≡ length sizes
  pub ends : (axis : ℕ) → axis < length sizes → slice_index starts axis + slice_index lengths axis ≤ slice_index sizes axis
