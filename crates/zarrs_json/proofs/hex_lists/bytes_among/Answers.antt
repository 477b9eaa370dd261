use Rattle.std.proofs.Common.{◌≡◌, ◌∙◌, [], ◌∷◌, ◌++◌, length, true, sym, ap, subst, arith}
use Rattle.zarrs_json.specs.HexLists.{AreHexTexts, texts_before}
use Rattle.zarrs_json.proofs.HexListLemmas.{AreHexTexts-more, texts_before-more}
use Rattle.zarrs_json.proofs.hex_lists.bytes_among.Goals as goal

pub texts-preserved : goal.texts-preserved
texts-preserved c =
    let l = c.texts in
    let size = length c.args.piece.now in
    let texts = l.invariant.0 in
    let is_hex : c.in_ok-append_next.field-0 ≡ true = grind arith in
    let taken = c.in_ok-append_next.ensures.appended is_hex in
    let appended = taken.2 in
    let going : c.take_end_array.new.self ≡ l.reader = grind arith in (
      texts ++ taken.0 ∷ [],
      l.invariant.1 ∙ ap (texts_before texts) (sym going ∙ taken.1) ∙ texts_before-more texts taken.0 c.append_next.new.reader,
      subst (λ bytes. AreHexTexts size (texts ++ taken.0 ∷ []) bytes) (sym appended.2) (AreHexTexts-more size texts l.bytes.items taken.0 appended.0 l.invariant.2 (rw l.invariant.3 at appended.1)),
      grind (arith, l.invariant.3),
    )
