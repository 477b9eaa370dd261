-- An inner chunk that has all places is the only group.
use Rattle.std.proofs.Common.{◌≡◌, ℕ, ◌+◌, ◌<◌, List, [], ◌∷◌, length, map, arith, ap, sym, subst, ◌∙◌}
use Rattle.std.specs.List.{range_with_len}
use Rattle.std.proofs.lemmas.List.{append-nil, length-map}
use Rattle.std.proofs.lemmas.List.Elements.{All-cons, All-nil}
use Rattle.zarrs_chain_meaning.specs.sharding.InnerChunks.{inner_chunk_count}
use Rattle.zarrs_chunk.specs.ChunkShape.{product}
use Rattle.zarrs_chunk.specs.Runs.{AreApart, AreFilled, EndWithin, joined_runs}
use Rattle.zarrs_shard_runs.specs.CutRuns.{cell, cells_at}
use Rattle.zarrs_shard_runs.specs.GroupedRuns.{AreGroups, IsOneGroup, IsReadingOrder}
use Rattle.zarrs_shard_runs.specs.Groups.{AreRising, cells_of_groups}
use Rattle.zarrs_shard_runs.specs.PlacesInside.{groups_of}
use Rattle.zarrs_shard_runs.specs.declared.grouped_runs.InnerRuns.{InnerRuns}
use Rattle.zarrs_shard_runs.proofs.Grouping.{cells_in, groups_again, groups_agree, groups_are_cells}
use Rattle.zarrs_shard_runs.proofs.Orders.{order_kept}

-- all places, of which there are some, are these places of the inner chunk of this number
module _ (shape sizes places : List ℕ) (number : ℕ) (moved : List ℕ) (cells : map (cell shape sizes) places ≡ cells_at number moved) (some : 0 < length places) (low : number < inner_chunk_count shape sizes) where
  abbrev found : List (ℕ × List ℕ)
  found = (number, moved) ∷ []

  cells_are : cells_of_groups found ≡ map (cell shape sizes) places
  cells_are = append-nil (cells_at number moved) ∙ sym cells

  pub moved_count : length moved ≡ length places
  moved_count =
      sym (length-map moved (λ (place : ℕ). (number, place)))
      ∙ ap length (sym cells)
      ∙ length-map places (cell shape sizes)

  rises : AreRising 0 found
  rises = (omega arith, (let same = moved_count in omega (arith, same, some)), tt)

  pub groups_are : found ≡ groups_of shape sizes places
  groups_are =
      let count = inner_chunk_count shape sizes in
      sym (groups_again count 0 found rises (All-cons (λ (it : ℕ × List ℕ). it.0 < 0 + count) (number, moved) [] (omega (arith, low)) (All-nil (λ (it : ℕ × List ℕ). it.0 < 0 + count))))
      ∙ groups_agree (cells_of_groups found) (map (cell shape sizes) places) 0 count (λ number _ _. ap (cells_in number) cells_are)
      ∙ sym (groups_are_cells shape sizes places (range_with_len 0 count))

  pub order_is : IsReadingOrder shape sizes places (range_with_len 0 (length places))
  order_is = order_kept shape sizes places found cells_are groups_are

module _ {shape sizes places : List ℕ} {it : InnerRuns} (one : IsOneGroup shape sizes places it) where
  pub one_group : AreGroups shape sizes places (it ∷ [])
  one_group = record {
    groups = groups_are shape sizes places it.number (joined_runs it.runs.items) one.cells one.some one.number;
    filled = All-cons (λ (it : InnerRuns). AreFilled it.runs.items) it [] one.filled (All-nil (λ (it : InnerRuns). AreFilled it.runs.items));
    inside = All-cons (λ (it : InnerRuns). EndWithin (product shape) it.runs.items) it [] one.inside (All-nil (λ (it : InnerRuns). EndWithin (product shape) it.runs.items));
    apart = All-cons (λ (it : InnerRuns). AreApart it.runs.items) it [] one.apart (All-nil (λ (it : InnerRuns). AreApart it.runs.items));
  }

  pub one_order : IsReadingOrder shape sizes places (range_with_len 0 (length places))
  one_order = order_is shape sizes places it.number (joined_runs it.runs.items) one.cells one.some one.number

-- the same with the slices that the code has
pub one_of : (shape sizes parts others places : List ℕ) (it : InnerRuns) → parts ≡ shape → others ≡ sizes → IsOneGroup parts others places it → IsOneGroup shape sizes places it
one_of shape sizes parts others places it p o one =
    subst (λ (xs : List ℕ). IsOneGroup xs sizes places it) p (subst (λ (xs : List ℕ). IsOneGroup parts xs places it) o one)
