use Rattle.std.proofs.Common.{◌+◌, arith}
use Rattle.zarrs_chunk.proofs.Apart.{AreApart-set}
use Rattle.zarrs_shard_runs.proofs.SpanSteps.{joined_runs-lengthen}
use Rattle.zarrs_shard_runs.proofs.reading_order.append_run.Goals as goal

pub returns-then-start-first-2-clause-places : goal.returns-then-start-first-2-clause-places
returns-then-start-first-2-clause-places c =
    let last = c.index.result.now in
    joined_runs-lengthen c.args.runs.now.items c.len-count.result last.0 last.1 c.args.start c.args.len (omega arith) c.if-count-gt0.true c.index.ensures (omega arith)

pub returns-then-start-first-2-clause-apart : goal.returns-then-start-first-2-clause-apart
returns-then-start-first-2-clause-apart c = λ apart.
    let last = c.index.result.now in
    AreApart-set c.args.runs.now.items c.len-count.result last.0 last.1 (last.1 + c.args.len) (omega arith) c.if-count-gt0.true c.index.ensures apart
