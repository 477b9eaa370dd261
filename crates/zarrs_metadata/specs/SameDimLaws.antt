-- Sizes of a reshape are the same just where they are equal.
use Rattle.std.proofs.Common.{◌≡◌, true, ℕ, sym, refl, ap, subst, arith}
use Rattle.std.proofs.lemmas.Bool.{false≢true}
use Rattle.std.proofs.lemmas.Bool.Decides.{nat_tests}
use Rattle.std.proofs.lemmas.Cmp.{nat_list_eq_equiv}
use Rattle.std.specs.Bool.{nat_eq}
use Rattle.std.specs.Cmp.{IsEquivalence, both_ways, nat_eq_equiv}
use Rattle.std.specs.Cmp.Lexicographic.{same_text}
use Rattle.zarrs_metadata.specs.Dims.{Dim, size, auto, input_dims}
use Rattle.zarrs_metadata.specs.SameDim.{is_same_dim}

nat_eq-equal : (n m : ℕ) → nat_eq n m ≡ true → n ≡ m
nat_eq-equal n m h = grind (arith, nat_tests)

is_same_dim-equal : (one other : Dim) → is_same_dim one other ≡ true → one ≡ other
is_same_dim-equal (size n) (size m) h = ap size (nat_eq-equal n m h)
is_same_dim-equal auto auto h = refl
is_same_dim-equal (input_dims axes) (input_dims others) h = ap input_dims (same_text axes others (sym h))
is_same_dim-equal (size n) auto h = absurd (false≢true h)
is_same_dim-equal (size n) (input_dims others) h = absurd (false≢true h)
is_same_dim-equal auto (size m) h = absurd (false≢true h)
is_same_dim-equal auto (input_dims others) h = absurd (false≢true h)
is_same_dim-equal (input_dims axes) (size m) h = absurd (false≢true h)
is_same_dim-equal (input_dims axes) auto h = absurd (false≢true h)

is_same_dim-itself : (dim : Dim) → is_same_dim dim dim ≡ true
is_same_dim-itself (size n) = nat_eq_equiv.refl n
is_same_dim-itself auto = refl
is_same_dim-itself (input_dims axes) = nat_list_eq_equiv.refl axes

is_same_dim-back : (one other : Dim) → is_same_dim one other ≡ true → is_same_dim other one ≡ true
is_same_dim-back one other h = subst (λ dim. is_same_dim dim one ≡ true) (is_same_dim-equal one other h) (is_same_dim-itself one)

pub is_same_dim-equivalence : IsEquivalence is_same_dim
is_same_dim-equivalence = record {
  refl = is_same_dim-itself;
  symm = λ one other. both_ways (is_same_dim one other) (is_same_dim other one) (is_same_dim-back one other) (is_same_dim-back other one);
  congr = λ one other third h. ap (λ dim. is_same_dim dim third) (is_same_dim-equal one other h);
}
