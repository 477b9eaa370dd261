-- Indexers as JSON: {"ranges":[[start,end],..]} or {"indices":[[..],..]}.
use Rattle.std.specs.Prelude.{ℕ, List, [], ◌∷◌, Option, Some, None, ok_or, Result, Ok, Err, codes}
use Rattle.std.specs.declared.ops.Range.{Range}
use Rattle.serde_json.specs.Data.{Data, Items, no_items, item}
use Rattle.serde_json.specs.Find.{as_array, as_object}
use Rattle.zarrs_chunk.specs.Answer.{◌>>=◌}
use Rattle.zarrs_chunk.specs.ArraySubset.{subset_of_ranges}
use Rattle.zarrs_chunk.specs.Selection.{Selection, subset, indices}
use Rattle.zarrs_json.specs.declared.refusal.Refusal.{Refusal}
use Rattle.zarrs_json.specs.declared.refusal.Refusal.TheVariants.{Syntax}
use Rattle.zarrs_json.specs.Refusal.{codec_answer}
use Rattle.zarrs_json.specs.Json.{number_list_shown, only_member}

-- a start and an end
abbrev pub range_between : List ℕ → Option (Range ℕ)
range_between [] = None
range_between (start ∷ []) = None
range_between (start ∷ end ∷ []) = Some (record { start = start; end = end })
range_between (start ∷ end ∷ more ∷ numbers) = None

-- a range, as a list of its start and its end
abbrev pub range_in : Data → Result (Range ℕ) Refusal
range_in tree = do
  ends ← number_list_shown tree
  ok_or (range_between ends) Syntax

-- the ranges of a list's items
abbrev pub ranges_in : Items → Result (List (Range ℕ)) Refusal
ranges_in no_items = Ok []
ranges_in (item tree items) = do
  range ← range_in tree
  ranges ← ranges_in items
  Ok (range ∷ ranges)

-- the index tuples of a list's items
abbrev pub tuples_shown : Items → Result (List (List ℕ)) Refusal
tuples_shown no_items = Ok []
tuples_shown (item tree items) = do
  tuple ← number_list_shown tree
  tuples ← tuples_shown items
  Ok (tuple ∷ tuples)

-- the box of a list of ranges; all of them are read before one is found that ends before it starts
abbrev pub ranges_selection : Data → Result Selection Refusal
ranges_selection tree = do
  items ← ok_or (as_array tree) Syntax
  ranges ← ranges_in items
  region ← codec_answer (subset_of_ranges ranges)
  Ok (subset region)

-- a list of index tuples
abbrev pub indices_selection : Data → Result Selection Refusal
indices_selection tree = do
  items ← ok_or (as_array tree) Syntax
  tuples ← tuples_shown items
  Ok (indices tuples)

-- by which of the two keys there is
abbrev pub selection_at : Option Data → Option Data → Result Selection Refusal
selection_at (Some ranges) other = ranges_selection ranges
selection_at None (Some tuples) = indices_selection tuples
selection_at None None = Err Syntax

-- what an indexer selects, which has one key alone; or the first error
abbrev pub selection_shown : Data → Result Selection Refusal
selection_shown tree = do
  members ← ok_or (as_object tree) Syntax
  selection_at (only_member (codes "ranges") members) (only_member (codes "indices") members)
