use Rattle.std.proofs.Common.{[], ◌∷◌, subst, arith}
use Rattle.std.proofs.lemmas.Result.{err_from_is_err_and}
use Rattle.zarrs_codec.specs.ByteSpan.{ByteSpan}
use Rattle.zarrs_lent_handles.specs.Lacking.{LacksOne}
use Rattle.zarrs_lent_handles.specs.Pieces.{pieces_seen}
use Rattle.zarrs_lent_handles.proofs.LackingLemmas.{lacks_at}
use Rattle.zarrs_lent_handles.proofs.piece.gather.Goals as goal

pub returns-in_err-part_of-clause-lacks : goal.returns-in_err-part_of-clause-lacks
returns-in_err-part_of-clause-lacks g c =
    let p = err_from_is_err_and c.from_residual-in_err-part_of.result c.from_residual-in_err-part_of.ensures.1 in
    let ps = pieces_seen c.args.pieces.now in
    rw (p.1, p.2) (λ f. lacks_at c.args.len ps c.args.ranges.now c.loop-range.range-index c.range-item.result (omega (arith, c.loop-range-test.true)) (subst (λ (r : ByteSpan). LacksOne c.args.len ps (r ∷ [])) c.range-item.is (c.in_err-part_of.ensures.lacks f)))
