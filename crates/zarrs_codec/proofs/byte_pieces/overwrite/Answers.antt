use Rattle.std.proofs.Common.{◌≡◌, ◌+◌, ◌-◌, ◌++◌, length, take, drop, ap, sym, ◌∙◌, arith, drop-drop}
use Rattle.zarrs_codec.proofs.PieceLemmas.{update-from}
use Rattle.zarrs_codec.proofs.byte_pieces.overwrite.Goals as goal

pub returns : goal.returns
returns c =
    let old = c.args.value.now in
    let new = c.args.piece.now in
    let at = c.args.start in
    let len : at + length new - at ≡ length new = omega arith in
    record {
      written = ap (λ ys. take at old ++ (ys ++ drop (at + length new - at) (drop at old))) c.copy_from_slice.ensures.after
          ∙ ap (λ n. take at old ++ (new ++ drop n (drop at old))) len
          ∙ ap (λ ys. take at old ++ (new ++ ys)) (drop-drop (length new) at old)
          ∙ sym (update-from old new at c.requires.inside);
    }
