use Rattle.std.proofs.Common.{[], ◌∷◌, ap, sym, subst, ◌∙◌}
use Rattle.zarrs_codec.specs.ByteSpan.{ByteSpan}
use Rattle.zarrs_lent_handles.specs.Pieces.{pieces_seen}
use Rattle.zarrs_lent_handles.specs.PiecesHandle.{KeepsLacking}
use Rattle.zarrs_lent_handles.proofs.JoinLemmas.{span}
use Rattle.zarrs_lent_handles.proofs.PieceLemmas.{value_length}
use Rattle.zarrs_lent_handles.proofs.pieces_handle.PiecesHandleBytesPartialDecoderTraits.decode.Goals as goal

pub returns-clause-lacking : goal.returns-clause-lacking
returns-clause-lacking g c =
    let len = c.args.self.now.len in
    let whole = c.whole_range.ensures.value ∙ ap (span 0) (sym (value_length g.E.Elsewhere.elsewhere len (pieces_seen c.args.self.now.pieces.items))) in
    subst (λ (range : ByteSpan). KeepsLacking (range ∷ []) c.args.self.now c.counted.new.self c.counted.result) whole c.counted.ensures.lacking
