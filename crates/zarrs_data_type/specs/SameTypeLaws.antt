-- Types are the same just where they are equal.
use Rattle.std.proofs.Common.{◌≡◌, Bool, true, false, ◌&&◌, refl, ap, ◌∙◌, ◌==◌, subst, eqb-true, eq-eqb}
use Rattle.std.proofs.lemmas.Bool.{false≢true, and_parts}
use Rattle.std.specs.Cmp.{IsEquivalence, both_ways}
use Rattle.zarrs_data_type.specs.ElementType.{ElementType, fixed, text, bytes, optional}
use Rattle.zarrs_data_type.specs.SameType.{is_same_sign, is_same_type}

is_same_sign-equal : (s r : Bool) → is_same_sign s r ≡ true → s ≡ r
is_same_sign-equal true true h = refl
is_same_sign-equal true false h = absurd (false≢true h)
is_same_sign-equal false true h = absurd (false≢true h)
is_same_sign-equal false false h = refl

pub is_same_type-equal : (t u : ElementType) → is_same_type t u ≡ true → t ≡ u
is_same_type-equal (fixed w c s) (fixed v d r) h =
    let sign = and_parts _ _ h in
    let sizes = and_parts _ _ sign.0 in
    let w-is = eqb-true w v sizes.0 in
    let c-is = eqb-true c d sizes.1 in
    let s-is = is_same_sign-equal s r sign.1 in
    ap (λ x. fixed x c s) w-is ∙ ap (λ x. fixed v x s) c-is ∙ ap (fixed v d) s-is
is_same_type-equal text text h = refl
is_same_type-equal bytes bytes h = refl
is_same_type-equal (optional t) (optional u) h = ap optional (is_same_type-equal t u h)
is_same_type-equal (fixed w c s) text h = absurd (false≢true h)
is_same_type-equal (fixed w c s) bytes h = absurd (false≢true h)
is_same_type-equal (fixed w c s) (optional u) h = absurd (false≢true h)
is_same_type-equal text (fixed w c s) h = absurd (false≢true h)
is_same_type-equal text bytes h = absurd (false≢true h)
is_same_type-equal text (optional u) h = absurd (false≢true h)
is_same_type-equal bytes (fixed w c s) h = absurd (false≢true h)
is_same_type-equal bytes text h = absurd (false≢true h)
is_same_type-equal bytes (optional u) h = absurd (false≢true h)
is_same_type-equal (optional t) (fixed w c s) h = absurd (false≢true h)
is_same_type-equal (optional t) text h = absurd (false≢true h)
is_same_type-equal (optional t) bytes h = absurd (false≢true h)

is_same_sign-itself : (s : Bool) → is_same_sign s s ≡ true
is_same_sign-itself true = refl
is_same_sign-itself false = refl

is_same_type-itself : (t : ElementType) → is_same_type t t ≡ true
is_same_type-itself (fixed w c s) =
    ap (λ b. b && (c == c) && is_same_sign s s) (eq-eqb w w refl) ∙ ap (λ b. b && is_same_sign s s) (eq-eqb c c refl) ∙ is_same_sign-itself s
is_same_type-itself text = refl
is_same_type-itself bytes = refl
is_same_type-itself (optional t) = is_same_type-itself t

is_same_type-back : (t u : ElementType) → is_same_type t u ≡ true → is_same_type u t ≡ true
is_same_type-back t u h = subst (λ x. is_same_type x t ≡ true) (is_same_type-equal t u h) (is_same_type-itself t)

pub is_same_type-equivalence : IsEquivalence is_same_type
is_same_type-equivalence = record {
  refl = is_same_type-itself;
  symm = λ t u. both_ways (is_same_type t u) (is_same_type u t) (is_same_type-back t u) (is_same_type-back u t);
  congr = λ t u v h. ap (λ x. is_same_type x v) (is_same_type-equal t u h);
}
