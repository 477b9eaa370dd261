-- What a target's own parts are seen as.
-- Source: zarrs, `ArrayBytesDecodeIntoTarget`.
use Rattle.std.specs.Borrow.{GName}
use Rattle.std.specs.Prelude.{ℕ, List, map, take, drop, ◌++◌}
use Rattle.zarrs_array_bytes.specs.ArrayBytesFixedView.{view_of}
use Rattle.zarrs_array_bytes.specs.DecodeTarget.{DecodeTarget, under_views, written_masks}
use Rattle.zarrs_array_bytes.specs.FixedView.{FixedView}
use Rattle.zarrs_array_bytes.specs.Held.{Held}
use Rattle.zarrs_array_bytes.specs.declared.array_bytes_fixed_view.ArrayBytesFixedView.{ArrayBytesFixedView}
use Rattle.zarrs_array_bytes.specs.declared.array_bytes_decode_into_target.ArrayBytesDecodeIntoTarget.{ArrayBytesDecodeIntoTarget}

-- what a target is seen as: a view of the elements, and one of each mask
abbrev pub target_of : ArrayBytesDecodeIntoTarget → DecodeTarget
target_of target = record { values = view_of target.values; masks = map view_of target.masks.items }

-- the name of the reference that a view writes through
abbrev pub view_name : ArrayBytesFixedView → GName
view_name view = view.bytes.ghost_name

-- the names of the references that a target's views write through: that of the elements, and those of the masks
abbrev pub target_names : ArrayBytesDecodeIntoTarget → GName × List GName
target_names target = (view_name target.values, map view_name target.masks.items)

-- the views of the masks from this level on
abbrev pub views_from : ℕ → List ArrayBytesFixedView → List FixedView
views_from level masks = drop level (map view_of masks)

-- what is under the masks from this level on
abbrev pub under_from : ℕ → List ArrayBytesFixedView → Held → Held
under_from level masks held = under_views (views_from level masks) held

-- the views of the masks, those from this level on with the mask bytes of a container written into them
abbrev pub written_from : ℕ → List ArrayBytesFixedView → Held → List FixedView
written_from level masks held = take level (map view_of masks) ++ written_masks (views_from level masks) held
