use Rattle.std.proofs.Common.{◌≡◌, ◌+◌, ◌*◌, take}
use Rattle.std.specs.List.{flat_map}
use Rattle.zarrs_array_bytes.specs.Tight.{IsTight}
use Rattle.zarrs_shard_bytes.specs.Bands.{run_elements}
use Rattle.zarrs_shard_bytes.proofs.Bands.{JoinsTo}
use Rattle.zarrs_shard_bytes.proofs.joined_bands.append_row.Given as goal

abbrev pub invariant-loop-content : goal.invariant-loop-content
invariant-loop-content l = record {
  joins : JoinsTo l.data_type l.fn.done l.fn.elements (flat_map (run_elements l.data_type l.first l.each) (take l.content-index l.contents)) (l.content-index * l.each) l.elements;
  counted : l.done ≡ l.fn.done + l.content-index * l.each;
  tight : IsTight l.data_type l.elements;
}
