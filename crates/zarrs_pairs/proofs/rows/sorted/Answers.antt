use Rattle.std.proofs.Common.{rules}
use Rattle.std.proofs.lemmas.List.Sorted.{answers_always, IsPermutation-map}
use Rattle.zarrs_pairs.specs.Rows.{row_seen}
use Rattle.zarrs_pairs.proofs.rows.sorted.Goals as goal

-- the closure gives a row's key
pub returns : goal.returns
returns c =
    let facts = c.sort_unstable_by_key.ensures in
    record {
      rows = record {
        rising = facts.sorted (λ row. row.key) (answers_always _ _ _ (λ f a r g called. search rules));
        same = IsPermutation-map row_seen _ _ facts.permutation;
      };
    }
