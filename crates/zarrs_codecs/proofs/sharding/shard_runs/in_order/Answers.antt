use Rattle.std.proofs.Common.{sym, subst, refl}
use Rattle.zarrs_array_bytes.specs.Validity.{Holds}
use Rattle.zarrs_codecs.proofs.ShardSpans.{in_a_row}
use Rattle.zarrs_codecs.proofs.sharding.shard_runs.in_order.Goals as goal

pub returns-in-None-clause-answer : goal.returns-in-None-clause-answer
returns-in-None-clause-answer c = λ chunk holds e. rw c.in-None.is (record { is = subst (Holds c.args.kind.now c.args.elements) (sym (in_a_row chunk c.args.count e)) holds; no_fault = refl })
