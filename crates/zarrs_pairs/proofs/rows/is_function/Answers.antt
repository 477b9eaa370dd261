use Rattle.std.proofs.Common.{arith}
use Rattle.zarrs_pairs.proofs.SortedRows.{is_function_of, no_clash}
use Rattle.zarrs_pairs.proofs.rows.is_function.Goals as goal

pub returns-then-have_clash-clause-rejected : goal.returns-then-have_clash-clause-rejected
returns-then-have_clash-clause-rejected c e one =
    no_clash c.args.rows.now one _ _ _ (omega arith) (omega arith) (c.have_clash.ensures.clash c.if-have_clash.true)

pub returns-clause-accepted : goal.returns-clause-accepted
returns-clause-accepted c e =
    is_function_of c.args.rows.now c.requires.rising (λ k d l. c.loop-place.invariant k d (omega arith))
