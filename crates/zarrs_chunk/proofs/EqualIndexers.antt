-- Indexers are equal just where they are of the same variant and hold the same.
use Rattle.std.proofs.Common.{◌≡◌, ◌↔◌, ◌&&◌, Bool, true, false, ℕ, List, Vec, Global, refl, ap, sym, ◌∙◌}
use Rattle.std.proofs.lemmas.Bool.{false≢true}
use Rattle.std.proofs.lemmas.Bool.Decides.{Decides-and}
use Rattle.std.proofs.lemmas.Slice.Eq.{slice_eq-Decides}
use Rattle.std.specs.Bool.{Decides, nat_eq}
use Rattle.std.specs.Cmp.{unsigned_Decides}
use Rattle.std.specs.Cmp.Derive.Mapped.{pointwise-map}
use Rattle.std.specs.Cmp.Lexicographic.{pointwise}
use Rattle.zarrs_chunk.specs.Indexer.{PlainIndexer, plain_subset, plain_indices, plain_tuples, plain_indexer}
use Rattle.zarrs_chunk.specs.IndexTuples.{TupleNumbers}
use Rattle.zarrs_chunk.specs.Region.{Region}
use Rattle.zarrs_chunk.specs.Selection.{tuples_seen}
use Rattle.zarrs_chunk.specs.declared.indexer.Indexer.{Indexer}
use Rattle.zarrs_chunk.specs.declared.indexer.Indexer.TheVariants.{Subset, Indices, Tuples}

abbrev numbers_equal : List ℕ → List ℕ → Bool
numbers_equal xs ys = pointwise nat_eq xs ys

numbers_decide : (xs ys : List ℕ) → Decides (numbers_equal xs ys) (xs ≡ ys)
numbers_decide xs ys = slice_eq-Decides unsigned_Decides xs ys (numbers_equal xs ys) refl

abbrev regions_equal : Region → Region → Bool
regions_equal one other = numbers_equal one.starts other.starts && numbers_equal one.lengths other.lengths

region-same : (one other : Region) → (one.starts ≡ other.starts) × (one.lengths ≡ other.lengths) → one ≡ other
region-same one other h = ap (λ starts. record { starts = starts; lengths = one.lengths }) h.0 ∙ ap (λ lengths. record { starts = other.starts; lengths = lengths }) h.1

regions_decide : (one other : Region) → Decides (regions_equal one other) (one ≡ other)
regions_decide one other =
    let parts = Decides-and (numbers_equal one.starts other.starts) (numbers_equal one.lengths other.lengths) (numbers_decide one.starts other.starts) (numbers_decide one.lengths other.lengths) in
    (λ h. region-same one other (parts.0 h), λ e. parts.1 (ap (λ it. it.starts) e, ap (λ it. it.lengths) e))

abbrev vectors_equal : List (Vec ℕ Global) → List (Vec ℕ Global) → Bool
vectors_equal one other = pointwise (λ v w. numbers_equal v.items w.items) one other

vectors_decide : (one other : List (Vec ℕ Global)) → Decides (vectors_equal one other) (tuples_seen one ≡ tuples_seen other)
vectors_decide one other =
    slice_eq-Decides numbers_decide (tuples_seen one) (tuples_seen other) (vectors_equal one other) (sym (pointwise-map (λ v. v.items) numbers_equal one other))

abbrev lent_equal : TupleNumbers → TupleNumbers → Bool
lent_equal one other = nat_eq one.axes other.axes && (nat_eq one.count other.count && numbers_equal one.numbers other.numbers)

lent-same : (one other : TupleNumbers) → (one.axes ≡ other.axes) × ((one.count ≡ other.count) × (one.numbers ≡ other.numbers)) → one ≡ other
lent-same one other h =
    ap (λ axes. record { axes = axes; count = one.count; numbers = one.numbers }) h.0
    ∙ ap (λ count. record { axes = other.axes; count = count; numbers = one.numbers }) h.1.0
    ∙ ap (λ numbers. record { axes = other.axes; count = other.count; numbers = numbers }) h.1.1

lent_decide : (one other : TupleNumbers) → Decides (lent_equal one other) (one ≡ other)
lent_decide one other =
    let behind = Decides-and (nat_eq one.count other.count) (numbers_equal one.numbers other.numbers) (unsigned_Decides one.count other.count) (numbers_decide one.numbers other.numbers) in
    let parts = Decides-and (nat_eq one.axes other.axes) (nat_eq one.count other.count && numbers_equal one.numbers other.numbers) (unsigned_Decides one.axes other.axes) behind in
    (λ h. lent-same one other (parts.0 h), λ e. parts.1 (ap (λ it. it.axes) e, (ap (λ it. it.count) e, ap (λ it. it.numbers) e)))

-- what an indexer holds, where it is of the variant
abbrev region_held : PlainIndexer → Region → Region
region_held (plain_subset region) other = region
region_held (plain_indices tuples) other = other
region_held (plain_tuples tuples) other = other

abbrev vectors_held : PlainIndexer → List (List ℕ) → List (List ℕ)
vectors_held (plain_subset region) other = other
vectors_held (plain_indices tuples) other = tuples
vectors_held (plain_tuples tuples) other = other

abbrev lent_held : PlainIndexer → TupleNumbers → TupleNumbers
lent_held (plain_subset region) other = other
lent_held (plain_indices tuples) other = other
lent_held (plain_tuples tuples) other = tuples

-- a test that says of two indexers whether they are equal, by their variants
pub record ComparesByVariant (test : Indexer → Indexer → Bool) : Type 0 where
  pub subsets : (one other : Region) → test (Subset one) (Subset other) ≡ regions_equal one other
  pub indices : (one other : Vec (Vec ℕ Global) Global) → test (Indices one) (Indices other) ≡ vectors_equal one.items other.items
  pub tuples : (one other : TupleNumbers) → test (Tuples one) (Tuples other) ≡ lent_equal one other
  pub subset_indices : (one : Region) (other : Vec (Vec ℕ Global) Global) → test (Subset one) (Indices other) ≡ false
  pub subset_tuples : (one : Region) (other : TupleNumbers) → test (Subset one) (Tuples other) ≡ false
  pub indices_subset : (one : Vec (Vec ℕ Global) Global) (other : Region) → test (Indices one) (Subset other) ≡ false
  pub indices_tuples : (one : Vec (Vec ℕ Global) Global) (other : TupleNumbers) → test (Indices one) (Tuples other) ≡ false
  pub tuples_subset : (one : TupleNumbers) (other : Region) → test (Tuples one) (Subset other) ≡ false
  pub tuples_indices : (one : TupleNumbers) (other : Vec (Vec ℕ Global) Global) → test (Tuples one) (Indices other) ≡ false

never_equal : {one other : PlainIndexer} (answer : Bool) → answer ≡ false → (one ≡ other → ⊥) → (answer ≡ true) ↔ (one ≡ other)
never_equal answer e differ = (λ h. absurd (false≢true (sym e ∙ h)), λ same. absurd (differ same))

module _ (test : Indexer → Indexer → Bool) (by : ComparesByVariant test) where
  pub equal_as_plain : (one other : Indexer) → (test one other ≡ true) ↔ (plain_indexer one ≡ plain_indexer other)
  equal_as_plain (Subset one) (Subset other) =
      let decides = regions_decide one other in
      (λ h. ap plain_subset (decides.0 (sym (by.subsets one other) ∙ h)), λ e. by.subsets one other ∙ decides.1 (ap (λ it. region_held it one) e))
  equal_as_plain (Indices one) (Indices other) =
      let decides = vectors_decide one.items other.items in
      (λ h. ap plain_indices (decides.0 (sym (by.indices one other) ∙ h)), λ e. by.indices one other ∙ decides.1 (ap (λ it. vectors_held it (tuples_seen one.items)) e))
  equal_as_plain (Tuples one) (Tuples other) =
      let decides = lent_decide one other in
      (λ h. ap plain_tuples (decides.0 (sym (by.tuples one other) ∙ h)), λ e. by.tuples one other ∙ decides.1 (ap (λ it. lent_held it one) e))
  equal_as_plain (Subset one) (Indices other) = never_equal (test (Subset one) (Indices other)) (by.subset_indices one other) (λ e. cc)
  equal_as_plain (Subset one) (Tuples other) = never_equal (test (Subset one) (Tuples other)) (by.subset_tuples one other) (λ e. cc)
  equal_as_plain (Indices one) (Subset other) = never_equal (test (Indices one) (Subset other)) (by.indices_subset one other) (λ e. cc)
  equal_as_plain (Indices one) (Tuples other) = never_equal (test (Indices one) (Tuples other)) (by.indices_tuples one other) (λ e. cc)
  equal_as_plain (Tuples one) (Subset other) = never_equal (test (Tuples one) (Subset other)) (by.tuples_subset one other) (λ e. cc)
  equal_as_plain (Tuples one) (Indices other) = never_equal (test (Tuples one) (Indices other)) (by.tuples_indices one other) (λ e. cc)
