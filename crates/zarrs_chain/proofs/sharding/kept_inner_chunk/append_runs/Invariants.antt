use Rattle.std.proofs.Common.{◌≡◌, ◌++◌, take}
use Rattle.zarrs_array_bytes.specs.Pieces.{pieces_at}
use Rattle.zarrs_shard_bytes.specs.InnerPlaces.{places_from}
use Rattle.zarrs_chain.proofs.sharding.kept_inner_chunk.append_runs.Given as goal

abbrev pub invariant-loop-run : goal.invariant-loop-run
invariant-loop-run l = l.out.items ≡ l.initial.out.items ++ pieces_at l.size l.bytes (places_from l.start (take l.run-index l.runs))
