-- Being equal is an equivalence of containers.
use Rattle.std.proofs.Common.{◌≡◌, ℕ, Bool, true, false, List, [], ◌∷◌, nat_eq, ◌&&◌, refl, ap, ◌∙◌, sym, eqb-true, eq-eqb}
use Rattle.std.proofs.lemmas.Bool.{false≢true}
use Rattle.std.specs.Cmp.{IsEquivalence, both_ways}
use Rattle.std.specs.Cmp.Lexicographic.{pointwise}
use Rattle.zarrs_array_bytes.specs.Held.{Held, flen, vlen, masked, owned_bytes}
use Rattle.zarrs_array_bytes.specs.SameBytes.{is_same_raw, is_same_held}

-- the container with its bytes owned_bytes
abbrev contents : Held → Held
contents (flen r) = flen (owned_bytes r.items)
contents (vlen r os) = vlen (owned_bytes r.items) os
contents (masked h m) = masked (contents h) (owned_bytes m.items)

pub both_true : (a b : Bool) → a && b ≡ true → (a ≡ true) × (b ≡ true)
both_true true b h = (refl, h)
both_true false b h = absurd (false≢true h)

pub same_numbers : (xs ys : List ℕ) → pointwise nat_eq xs ys ≡ true → xs ≡ ys
same_numbers [] [] h = refl
same_numbers [] (y ∷ ys) h = absurd (false≢true h)
same_numbers (x ∷ xs) [] h = absurd (false≢true h)
same_numbers (x ∷ xs) (y ∷ ys) h =
    ap (λ z. z ∷ xs) (eqb-true x y (both_true _ _ h).0) ∙ ap (λ zs. y ∷ zs) (same_numbers xs ys (both_true _ _ h).1)

pub numbers_same : (xs : List ℕ) → pointwise nat_eq xs xs ≡ true
numbers_same [] = refl
numbers_same (x ∷ xs) = ap (λ b. b && pointwise nat_eq xs xs) (eq-eqb x x refl) ∙ numbers_same xs

same_contents : (h g : Held) → is_same_held h g ≡ true → contents h ≡ contents g
same_contents (flen r) (flen q) e = ap (λ xs. flen (owned_bytes xs)) (same_numbers _ _ e)
same_contents (flen r) (vlen q us) e = absurd (false≢true e)
same_contents (flen r) (masked g k) e = absurd (false≢true e)
same_contents (vlen r os) (flen q) e = absurd (false≢true e)
same_contents (vlen r os) (vlen q us) e =
    ap (λ xs. vlen (owned_bytes xs) os) (same_numbers _ _ (both_true _ _ e).0) ∙ ap (vlen (owned_bytes q.items)) (same_numbers _ _ (both_true _ _ e).1)
same_contents (vlen r os) (masked g k) e = absurd (false≢true e)
same_contents (masked h m) (flen q) e = absurd (false≢true e)
same_contents (masked h m) (vlen q us) e = absurd (false≢true e)
same_contents (masked h m) (masked g k) e =
    ap (λ x. masked x (owned_bytes m.items)) (same_contents h g (both_true _ _ e).0) ∙ ap (λ xs. masked (contents g) (owned_bytes xs)) (same_numbers _ _ (both_true _ _ e).1)

same_itself : (h : Held) → is_same_held h h ≡ true
same_itself (flen r) = numbers_same r.items
same_itself (vlen r os) = ap (λ b. b && pointwise nat_eq os os) (numbers_same r.items) ∙ numbers_same os
same_itself (masked h m) = ap (λ b. b && is_same_raw m m) (same_itself h) ∙ numbers_same m.items

-- equality looks at the contents alone
by_contents : (h g : Held) → is_same_held h g ≡ is_same_held (contents h) (contents g)
by_contents (flen r) (flen q) = refl
by_contents (flen r) (vlen q us) = refl
by_contents (flen r) (masked g k) = refl
by_contents (vlen r os) (flen q) = refl
by_contents (vlen r os) (vlen q us) = refl
by_contents (vlen r os) (masked g k) = refl
by_contents (masked h m) (flen q) = refl
by_contents (masked h m) (vlen q us) = refl
by_contents (masked h m) (masked g k) = ap (λ b. b && is_same_raw m k) (by_contents h g)

same_back : (h g : Held) → is_same_held h g ≡ true → is_same_held g h ≡ true
same_back h g e = by_contents g h ∙ ap (is_same_held (contents g)) (same_contents h g e) ∙ same_itself (contents g)

same_beside : (h g f : Held) → is_same_held h g ≡ true → is_same_held h f ≡ is_same_held g f
same_beside h g f e = by_contents h f ∙ ap (λ x. is_same_held x (contents f)) (same_contents h g e) ∙ sym (by_contents g f)

pub is_same_held-equivalence : IsEquivalence is_same_held
is_same_held-equivalence = record {
  refl = same_itself;
  symm = λ h g. both_ways (is_same_held h g) (is_same_held g h) (same_back h g) (same_back g h);
  congr = same_beside;
}
