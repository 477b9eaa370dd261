-- What an array subset is seen as.
-- Source: zarrs, `ArraySubset`.
use Rattle.std.specs.Prelude.{◌≡◌, ℕ, ◌+◌, ◌^◌, ◌<◌, List, length, slice_index}

-- where each range of a box begins, and how long it is
pub record Region : Type 0 where
  pub starts : List ℕ
  pub lengths : List ℕ

-- the box has a length for each start, and each of its ranges ends below `2^64`
pub record IsRegion (starts lengths : List ℕ) : Type 0 where
  pub axes : length starts ≡ length lengths
  pub ends : (axis : ℕ) → axis < length starts → slice_index starts axis + slice_index lengths axis < 2 ^ 64
