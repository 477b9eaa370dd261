use Rattle.std.proofs.Common.{◌≡◌, true, List, refl, ap, sym, subst, ◌∙◌}
use Rattle.zarrs_codec.specs.ByteSpan.{ByteSpan}
use Rattle.zarrs_lent_handles.specs.Lacking.{are_all_lacking, ranges_kept}
use Rattle.zarrs_lent_handles.specs.Pieces.{pieces_seen}
use Rattle.zarrs_lent_handles.specs.PiecesHandle.{state_around}
use Rattle.zarrs_lent_handles.proofs.LackingLemmas.{all_unsure}
use Rattle.zarrs_lent_handles.proofs.pieces_handle.PiecesHandle.lacking.Goals as goal

pub returns-in-Some-clause-unsure : goal.returns-in-Some-clause-unsure
returns-in-Some-clause-unsure g c =
    let len = c.args.self.now.len in
    let ps = pieces_seen c.args.self.now.pieces.items in
    all_unsure g.E.Elsewhere.elsewhere len ps c.as_slice.result.now (state_around g.E.Elsewhere.elsewhere c.args.self.now) refl refl
    (subst (λ (rs : List ByteSpan). are_all_lacking len ps rs ≡ true) (ap ranges_kept c.in-Some.is ∙ sym c.as_slice.ensures.value) c.args.self.now.lack)
