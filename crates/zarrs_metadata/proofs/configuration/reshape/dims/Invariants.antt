use Rattle.std.proofs.Common.{◌≡◌, ◌++◌, drop, map}
use Rattle.serde_json.specs.View.{items_view}
use Rattle.zarrs_chunk.specs.Answer.{seen}
use Rattle.zarrs_metadata.specs.ReshapeConfiguration.{dims_in}
use Rattle.zarrs_metadata.specs.ReshapeShape.{dim_of}
use Rattle.zarrs_metadata.proofs.configuration.reshape.dims.Given as goal

-- the sizes so far and those to come are all
abbrev pub invariant-loop-item : goal.invariant-loop-item
invariant-loop-item l = seen (λ others. map dim_of l.dims.items ++ others) (dims_in (items_view (drop l.item-index l.item-items))) ≡ dims_in (items_view l.item-items)
