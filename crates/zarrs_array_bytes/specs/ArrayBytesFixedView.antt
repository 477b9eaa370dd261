-- What a view's own parts are seen as.
-- Source: zarrs, `ArrayBytesFixedDisjointView`.
use Rattle.std.specs.Prelude.{◌≡◌, ℕ, List}
use Rattle.zarrs_chunk.specs.Runs.{joined_runs}
use Rattle.zarrs_array_bytes.specs.FixedView.{FixedView, written_view}
use Rattle.zarrs_array_bytes.specs.declared.array_bytes_fixed_view.ArrayBytesFixedView.{ArrayBytesFixedView}

-- what a view is seen as: the array's bytes, and the places in it that are written
abbrev pub view_of : ArrayBytesFixedView → FixedView
view_of view =
    record { bytes = view.bytes.now; element_size = view.element_size; count = view.count; places = joined_runs view.runs.items }

-- the new view is the old one with its elements replaced by these
abbrev pub IsWritten : ArrayBytesFixedView → ArrayBytesFixedView → List ℕ → Type 0
IsWritten old new elements = view_of new ≡ written_view (view_of old) elements
