use Rattle.std.proofs.Common.{◌∷◌, [], arith, refl, ap₂}
use Rattle.zarrs_array_to_array.proofs.Tiles.{turned, whole_pairs}
use Rattle.zarrs_array_to_array.proofs.transpose.tiles.turned_ones.Goals as goal

pub turned_twos-front-requires : goal.turned_twos-front-requires
turned_twos-front-requires c = record {
  whole =
      whole_pairs 1 0 8 8 c.args.rows (c.first_ones.result ∷ c.first_ones-2.result ∷ c.first_ones-3.result ∷ c.first_ones-4.result ∷ c.first_ones-5.result ∷ c.first_ones-6.result ∷ c.first_ones-7.result ∷ c.first_ones-8.result ∷ []) (omega arith) c.requires.whole (omega arith) (omega arith)
      (ap₂ (λ x xs. x ∷ xs) c.first_ones.ensures.value (ap₂ (λ x xs. x ∷ xs) c.first_ones-2.ensures.value (ap₂ (λ x xs. x ∷ xs) c.first_ones-3.ensures.value (ap₂ (λ x xs. x ∷ xs) c.first_ones-4.ensures.value (ap₂ (λ x xs. x ∷ xs) c.first_ones-5.ensures.value (ap₂ (λ x xs. x ∷ xs) c.first_ones-6.ensures.value (ap₂ (λ x xs. x ∷ xs) c.first_ones-7.ensures.value (ap₂ (λ x xs. x ∷ xs) c.first_ones-8.ensures.value refl))))))));
}

pub turned_twos-back-requires : goal.turned_twos-back-requires
turned_twos-back-requires c = record {
  whole =
      whole_pairs 1 8 8 8 c.args.rows (c.last_ones.result ∷ c.last_ones-2.result ∷ c.last_ones-3.result ∷ c.last_ones-4.result ∷ c.last_ones-5.result ∷ c.last_ones-6.result ∷ c.last_ones-7.result ∷ c.last_ones-8.result ∷ []) (omega arith) c.requires.whole (omega arith) (omega arith)
      (ap₂ (λ x xs. x ∷ xs) c.last_ones.ensures.value (ap₂ (λ x xs. x ∷ xs) c.last_ones-2.ensures.value (ap₂ (λ x xs. x ∷ xs) c.last_ones-3.ensures.value (ap₂ (λ x xs. x ∷ xs) c.last_ones-4.ensures.value (ap₂ (λ x xs. x ∷ xs) c.last_ones-5.ensures.value (ap₂ (λ x xs. x ∷ xs) c.last_ones-6.ensures.value (ap₂ (λ x xs. x ∷ xs) c.last_ones-7.ensures.value (ap₂ (λ x xs. x ∷ xs) c.last_ones-8.ensures.value refl))))))));
}

pub returns : goal.returns
returns c = record {
  value =
      turned 1 8 8 c.args.rows (c.first_ones.result ∷ c.first_ones-2.result ∷ c.first_ones-3.result ∷ c.first_ones-4.result ∷ c.first_ones-5.result ∷ c.first_ones-6.result ∷ c.first_ones-7.result ∷ c.first_ones-8.result ∷ []) (c.last_ones.result ∷ c.last_ones-2.result ∷ c.last_ones-3.result ∷ c.last_ones-4.result ∷ c.last_ones-5.result ∷ c.last_ones-6.result ∷ c.last_ones-7.result ∷ c.last_ones-8.result ∷ []) c.turned_twos-front.result c.turned_twos-back.result (omega arith) c.requires.whole (omega arith)
      (ap₂ (λ x xs. x ∷ xs) c.first_ones.ensures.value (ap₂ (λ x xs. x ∷ xs) c.first_ones-2.ensures.value (ap₂ (λ x xs. x ∷ xs) c.first_ones-3.ensures.value (ap₂ (λ x xs. x ∷ xs) c.first_ones-4.ensures.value (ap₂ (λ x xs. x ∷ xs) c.first_ones-5.ensures.value (ap₂ (λ x xs. x ∷ xs) c.first_ones-6.ensures.value (ap₂ (λ x xs. x ∷ xs) c.first_ones-7.ensures.value (ap₂ (λ x xs. x ∷ xs) c.first_ones-8.ensures.value refl))))))))
      (ap₂ (λ x xs. x ∷ xs) c.last_ones.ensures.value (ap₂ (λ x xs. x ∷ xs) c.last_ones-2.ensures.value (ap₂ (λ x xs. x ∷ xs) c.last_ones-3.ensures.value (ap₂ (λ x xs. x ∷ xs) c.last_ones-4.ensures.value (ap₂ (λ x xs. x ∷ xs) c.last_ones-5.ensures.value (ap₂ (λ x xs. x ∷ xs) c.last_ones-6.ensures.value (ap₂ (λ x xs. x ∷ xs) c.last_ones-7.ensures.value (ap₂ (λ x xs. x ∷ xs) c.last_ones-8.ensures.value refl))))))))
      c.turned_twos-front.ensures.value c.turned_twos-back.ensures.value;
}
