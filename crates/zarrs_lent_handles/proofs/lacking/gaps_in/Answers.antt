use Rattle.std.proofs.Common.{[], ◌∷◌, ◌++◌, List, take, ap, sym, subst, ◌∙◌, arith}
use Rattle.std.proofs.lemmas.List.{take_more}
use Rattle.zarrs_codec.specs.ByteSpan.{ByteSpan}
use Rattle.zarrs_lent_handles.specs.Lacking.{AddsLacking}
use Rattle.zarrs_lent_handles.specs.Pieces.{pieces_seen}
use Rattle.zarrs_lent_handles.proofs.LackingLemmas.{adds_more}
use Rattle.zarrs_lent_handles.proofs.lacking.gaps_in.Goals as goal

pub loop-range-preserved : goal.loop-range-preserved
loop-range-preserved c =
    let ranges = c.args.ranges.now in
    let i = c.loop-range.range-index in
    let range = c.range-item.result in
    let ps = pieces_seen c.args.pieces.now in
    let more = take_more ranges i range (omega arith) ∙ ap (λ (r : ByteSpan). take i ranges ++ r ∷ []) (sym c.range-item.is) in
    subst (λ (asked : List ByteSpan). AddsLacking c.args.len ps asked [] c.push_lacking.new.gaps.items) (sym more)
    (adds_more c.args.len ps (take i ranges) (range ∷ []) [] c.loop-range.gaps.items c.push_lacking.new.gaps.items c.loop-range.invariant c.in_ok-push_lacking.ensures.added)
