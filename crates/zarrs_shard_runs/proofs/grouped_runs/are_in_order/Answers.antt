use Rattle.std.proofs.Common.{arith}
use Rattle.std.proofs.lemmas.List.Sorted.{IsNonDecreasingBy-from_all_adjacent}
use Rattle.zarrs_shard_runs.specs.declared.cut_runs.CutRun.{CutRun}
use Rattle.zarrs_shard_runs.proofs.grouped_runs.are_in_order.Goals as goal

pub returns : goal.returns
returns c =
    record { value = λ _. IsNonDecreasingBy-from_all_adjacent (λ (it : CutRun). it.number) c.args.cuts.now (λ k d l. c.loop-index.invariant k d (omega (arith, l))) }
