use Rattle.std.proofs.Common.{◌∷◌, [], arith, refl, ap₂}
use Rattle.zarrs_array_to_array.proofs.Tiles.{turned}
use Rattle.zarrs_array_to_array.proofs.transpose.tiles.turned_fours.Goals as goal

pub returns : goal.returns
returns c = record {
  value =
      turned 4 2 2 c.args.rows (c.first_fours.result ∷ c.first_fours-2.result ∷ []) (c.last_fours.result ∷ c.last_fours-2.result ∷ []) c.turned_eights-front.result c.turned_eights-back.result (omega arith) c.requires.whole (omega arith)
      (ap₂ (λ x xs. x ∷ xs) c.first_fours.ensures.value (ap₂ (λ x xs. x ∷ xs) c.first_fours-2.ensures.value refl))
      (ap₂ (λ x xs. x ∷ xs) c.last_fours.ensures.value (ap₂ (λ x xs. x ∷ xs) c.last_fours-2.ensures.value refl))
      c.turned_eights-front.ensures.value c.turned_eights-back.ensures.value;
}
