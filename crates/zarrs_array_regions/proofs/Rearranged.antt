-- Lists with their items in another order.
use Rattle.std.proofs.Common.{◌≡◌, ◌≢◌, ℕ, zero, suc, ◌<◌, List, [], ◌∷◌, length, get_or, map, arith, refl, ap, ◌∙◌, sym, inl, inr, ◌⊎◌}
use Rattle.std.specs.List.{range_with_len}
use Rattle.std.proofs.lemmas.Bool.{cases_eq}
use Rattle.std.proofs.lemmas.List.{ext_get_or, get_or-map, length-map}
use Rattle.std.proofs.lemmas.List.FromFn.{get_or-map-range_with_len, length-map-range_with_len}
use Rattle.zarrs_array_bytes.specs.Update.{update}
use Rattle.zarrs_array_bytes.proofs.UpdateLaw.{untouched, written}
use Rattle.zarrs_array_bytes.proofs.WriteLemmas.{length-update}
use Rattle.zarrs_codec.specs.CoordinateMap.{IsOneToOne}

-- item k is the item `at k` of the list
abbrev pub rearranged : {A : Type 0} → (ℕ → ℕ) → ℕ → A → List A → List A
rearranged at n d xs = map (λ k. get_or xs (at k) d) (range_with_len 0 n)

pub length-rearranged : {A : Type 0} (at : ℕ → ℕ) (n : ℕ) (d : A) (xs : List A) → length (rearranged at n d xs) ≡ n
length-rearranged at n d xs = length-map-range_with_len (λ k. get_or xs (at k) d) 0 n

pub rearranged_at : {A : Type 0} (at : ℕ → ℕ) (n : ℕ) (d : A) (xs : List A) (k : ℕ) → k < n → get_or (rearranged at n d xs) k d ≡ get_or xs (at k) d
rearranged_at at n d xs k l = get_or-map-range_with_len (λ j. get_or xs (at j) d) 0 n k k d l (omega arith)

-- a list of n items is its rearrangement, where each of its items is the one of the other list
pub is_rearranged : {A : Type 0} (at : ℕ → ℕ) (n : ℕ) (d : A) (xs ys : List A) → length ys ≡ n → ((k : ℕ) → k < n → get_or xs (at k) d ≡ get_or ys k d) → ys ≡ rearranged at n d xs
is_rearranged at n d xs ys e each =
    ext_get_or d ys (rearranged at n d xs) (e ∙ sym (length-rearranged at n d xs))
    (λ k l. sym (rearranged_at at n d xs k (omega arith) ∙ each k (omega arith)))

-- what is made of each item is made of the rearranged ones
pub map-rearranged : {A B : Type 0} (f : A → B) (at : ℕ → ℕ) (n : ℕ) (d : A) (e : B) (xs : List A) → ((k : ℕ) → k < n → at k < length xs) → map f (rearranged at n d xs) ≡ rearranged at n e (map f xs)
map-rearranged f at n d e xs below =
    is_rearranged at n e (map f xs) (map f (rearranged at n d xs)) (length-map (rearranged at n d xs) f ∙ length-rearranged at n d xs)
    (λ k l.
    get_or-map f xs (at k) d e (below k l)
    ∙ ap f (sym (rearranged_at at n d xs k l))
    ∙ sym (get_or-map f (rearranged at n d xs) k d e (omega (arith, length-rearranged at n d xs))))

-- where a number stands in a list, if it does
pub found : (q : ℕ) (xs : List ℕ) → ((k : ℕ) × (k < length xs) × (get_or xs k 0 ≡ q)) ⊎ ((k : ℕ) → k < length xs → get_or xs k 0 ≢ q)
found q [] = inr (λ k l. absurd (omega arith))
found q (x ∷ xs) =
    elim (cases_eq x q) [
      | inl same ↦ inl (0, omega arith, same)
      | inr other ↦ elim (found q xs) [
        | inl here ↦ inl (suc here.0, omega (arith, here.1), here.2)
        | inr none ↦ inr (λ k. elim k as (λ j. j < length (x ∷ xs) → get_or (x ∷ xs) j 0 ≢ q) [
          | zero ↦ (λ l. other)
          | suc j ↦ (λ l. none j (omega arith))
        ])
      ]
    ]

-- New items at places, none of which comes twice, may be written in any order.
module _ {A : Type 0} (n : ℕ) (to from : ℕ → ℕ) (one : IsOneToOne n to from) (d : A) (old : List A) (ps qs : List ℕ) (xs : List A)
    (p_count : length ps ≡ n) (q_count : length qs ≡ n) (x_count : length xs ≡ n)
    (apart : (i j : ℕ) → i < j → j < n → get_or ps i 0 ≢ get_or ps j 0)
    (goes : (k : ℕ) → k < n → get_or qs (to k) 0 ≡ get_or ps k 0) where
  apart_too : (i j : ℕ) → i < n → j < n → i ≢ j → get_or ps i 0 ≢ get_or ps j 0
  apart_too i j l m differ = elim (order i j differ) [
    | inl less ↦ apart i j less m
    | inr more ↦ (λ e. apart j i more l (sym e))
  ]
    where
      order : (i j : ℕ) → i ≢ j → (i < j) ⊎ (j < i)
      order zero zero h = absurd (h refl)
      order zero (suc j) h = inl (omega arith)
      order (suc i) zero h = inr (omega arith)
      order (suc i) (suc j) h = elim (order i j (λ e. h (ap suc e))) [
        | inl l ↦ inl (omega arith)
        | inr l ↦ inr (omega arith)
      ]

  back : (j : ℕ) → j < n → get_or qs j 0 ≡ get_or ps (from j) 0
  back j l = ap (λ i. get_or qs i 0) (sym (one.to_from j l)) ∙ goes (from j) (one.from_below j l)

  pub update_rearranged : update old qs (rearranged from n d xs) ≡ update old ps xs
  update_rearranged =
      ext_get_or d (update old qs (rearranged from n d xs)) (update old ps xs) (length-update old qs (rearranged from n d xs) ∙ sym (length-update old ps xs))
      (λ q l.
      let inside : q < length old = omega (arith, length-update old qs (rearranged from n d xs)) in
      elim (found q ps) as (λ _. get_or (update old qs (rearranged from n d xs)) q d ≡ get_or (update old ps xs) q d) [
        | inl here ↦ (let k : ℕ = here.0 in
            let below : k < n = omega (arith, here.1, p_count) in
            let there : to k < n = one.to_below k below in
            written old (rearranged from n d xs) qs q d (to k) inside (q_count ∙ sym (length-rearranged from n d xs)) (omega (arith, q_count)) (goes k below ∙ here.2)
            (λ j after m.
            let j_below : j < n = omega (arith, q_count) in
            let other : from j ≢ k = λ e. differ (to k) j after (ap to (sym e) ∙ one.to_from j j_below) in
            (λ e. apart_too (from j) k (one.from_below j j_below) below other (sym (back j j_below) ∙ e ∙ sym here.2)))
            ∙ rearranged_at from n d xs (to k) there
            ∙ ap (λ i. get_or xs i d) (one.from_to k below)
            ∙ sym (written old xs ps q d k inside (p_count ∙ sym x_count) (omega (arith, here.1)) here.2
            (λ j after m. (λ e. apart k j after (omega (arith, p_count)) (here.2 ∙ sym e)))))
        | inr none ↦ (untouched old (rearranged from n d xs) qs q d
            (λ j m. let j_below : j < n = omega (arith, q_count) in (λ e. none (from j) (omega (arith, one.from_below j j_below, p_count)) (sym (back j j_below) ∙ e)))
            ∙ sym (untouched old xs ps q d none))
      ])
    where
      differ : (a b : ℕ) → a < b → a ≡ b → ⊥
      differ a b l e = omega arith
