use Rattle.std.proofs.Common.{ℕ, min, ap, ◌∙◌}
use Rattle.std.proofs.lemmas.Result.{on_ok_weaker}
use Rattle.zarrs_lent_handles.specs.Pieces.{pieces_seen}
use Rattle.zarrs_lent_handles.proofs.LackingLemmas.{adds_at}
use Rattle.zarrs_lent_handles.proofs.lacking.push_lacking.Goals as goal

pub returns : goal.returns
returns c =
    let near = pieces_seen c.pieces_near.result.now in
    let new = c.push_gaps.new.gaps.items in
    let end = c.min.ensures ∙ ap (λ (e : ℕ). min e c.args.len) c.end.ensures.value in
    record { added = on_ok_weaker c.push_gaps.result (adds_at c.args.len (pieces_seen c.args.pieces.now) c.args.range.now near c.args.gaps.now.items new c.start-start.result c.min.result c.start-start.ensures.value end c.pieces_near.ensures.same) c.push_gaps.ensures.appended }
