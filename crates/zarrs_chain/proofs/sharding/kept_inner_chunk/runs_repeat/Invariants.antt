use Rattle.std.proofs.Common.{◌≡◌, drop}
use Rattle.zarrs_shard_bytes.specs.InnerPlaces.{places_from}
use Rattle.zarrs_chain.specs.sharding.ShardWalk.{are_item}
use Rattle.zarrs_chain.proofs.sharding.kept_inner_chunk.runs_repeat.Given as goal

abbrev pub invariant-loop-run : goal.invariant-loop-run
invariant-loop-run l = are_item l.item l.bytes (places_from l.start l.runs) ≡ are_item l.item l.bytes (places_from l.start (drop l.run-index l.runs))
