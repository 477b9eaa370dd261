use Rattle.std.proofs.Common.{refl}
use Rattle.zarrs_chunk.proofs.EqualIndexers.{ComparesByVariant, equal_as_plain}
use Rattle.zarrs_chunk.proofs.laws.equal_indexers_are_same.Goals as goal

pub returns : goal.returns
returns c =
    let by_variant : ComparesByVariant _ = record {
      subsets = λ _ _. refl;
      indices = λ _ _. refl;
      tuples = λ _ _. refl;
      subset_indices = λ _ _. refl;
      subset_tuples = λ _ _. refl;
      indices_subset = λ _ _. refl;
      indices_tuples = λ _ _. refl;
      tuples_subset = λ _ _. refl;
      tuples_indices = λ _ _. refl;
    } in
    record { equal = equal_as_plain _ by_variant }
