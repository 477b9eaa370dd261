use Rattle.std.proofs.Common.{◌+◌, arith}
use Rattle.zarrs_chunk.proofs.Apart.{joined_runs-grow, AreApart-set}
use Rattle.zarrs_chunk.proofs.runs.append_place.Goals as goal

pub returns-then-place-start-2-clause-places : goal.returns-then-place-start-2-clause-places
returns-then-place-start-2-clause-places c =
    let last = c.index.result.now in
    joined_runs-grow c.args.runs.now.items c.len-count.result last.0 last.1 c.args.place (omega arith) c.if-count-gt0.true c.index.ensures (omega arith)

pub returns-then-place-start-2-clause-apart : goal.returns-then-place-start-2-clause-apart
returns-then-place-start-2-clause-apart c = λ apart.
    let last = c.index.result.now in
    AreApart-set c.args.runs.now.items c.len-count.result last.0 last.1 (last.1 + 1) (omega arith) c.if-count-gt0.true c.index.ensures apart
