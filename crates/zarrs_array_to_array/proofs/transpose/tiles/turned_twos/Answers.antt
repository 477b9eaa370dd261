use Rattle.std.proofs.Common.{◌∷◌, [], arith, refl, ap₂}
use Rattle.zarrs_array_to_array.proofs.Tiles.{turned, whole_pairs}
use Rattle.zarrs_array_to_array.proofs.transpose.tiles.turned_twos.Goals as goal

pub turned_fours-front-requires : goal.turned_fours-front-requires
turned_fours-front-requires c = record {
  whole =
      whole_pairs 2 0 4 4 c.args.rows (c.first_twos.result ∷ c.first_twos-2.result ∷ c.first_twos-3.result ∷ c.first_twos-4.result ∷ []) (omega arith) c.requires.whole (omega arith) (omega arith)
      (ap₂ (λ x xs. x ∷ xs) c.first_twos.ensures.value (ap₂ (λ x xs. x ∷ xs) c.first_twos-2.ensures.value (ap₂ (λ x xs. x ∷ xs) c.first_twos-3.ensures.value (ap₂ (λ x xs. x ∷ xs) c.first_twos-4.ensures.value refl))));
}

pub turned_fours-back-requires : goal.turned_fours-back-requires
turned_fours-back-requires c = record {
  whole =
      whole_pairs 2 4 4 4 c.args.rows (c.last_twos.result ∷ c.last_twos-2.result ∷ c.last_twos-3.result ∷ c.last_twos-4.result ∷ []) (omega arith) c.requires.whole (omega arith) (omega arith)
      (ap₂ (λ x xs. x ∷ xs) c.last_twos.ensures.value (ap₂ (λ x xs. x ∷ xs) c.last_twos-2.ensures.value (ap₂ (λ x xs. x ∷ xs) c.last_twos-3.ensures.value (ap₂ (λ x xs. x ∷ xs) c.last_twos-4.ensures.value refl))));
}

pub returns : goal.returns
returns c = record {
  value =
      turned 2 4 4 c.args.rows (c.first_twos.result ∷ c.first_twos-2.result ∷ c.first_twos-3.result ∷ c.first_twos-4.result ∷ []) (c.last_twos.result ∷ c.last_twos-2.result ∷ c.last_twos-3.result ∷ c.last_twos-4.result ∷ []) c.turned_fours-front.result c.turned_fours-back.result (omega arith) c.requires.whole (omega arith)
      (ap₂ (λ x xs. x ∷ xs) c.first_twos.ensures.value (ap₂ (λ x xs. x ∷ xs) c.first_twos-2.ensures.value (ap₂ (λ x xs. x ∷ xs) c.first_twos-3.ensures.value (ap₂ (λ x xs. x ∷ xs) c.first_twos-4.ensures.value refl))))
      (ap₂ (λ x xs. x ∷ xs) c.last_twos.ensures.value (ap₂ (λ x xs. x ∷ xs) c.last_twos-2.ensures.value (ap₂ (λ x xs. x ∷ xs) c.last_twos-3.ensures.value (ap₂ (λ x xs. x ∷ xs) c.last_twos-4.ensures.value refl))))
      c.turned_fours-front.ensures.value c.turned_fours-back.ensures.value;
}
