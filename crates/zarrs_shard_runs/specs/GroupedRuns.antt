-- What runs of places are as runs in inner chunks.
use Rattle.std.specs.List.{All, flat_map, range_with_len}
use Rattle.std.specs.Prelude.{◌≡◌, ◌<◌, ℕ, length, Option, Some, None, List, Vec, map, get_or}
use Rattle.std.specs.declared.alloc.Global.{Global}
use Rattle.zarrs_chain_meaning.specs.sharding.InnerChunks.{inner_chunk_count, inner_chunk_of, place_inside}
use Rattle.zarrs_chunk.specs.ChunkShape.{product}
use Rattle.zarrs_chunk.specs.Runs.{AreApart, AreFilled, EndWithin, joined_runs}
use Rattle.zarrs_data_type.specs.Element.{absent, Element}
use Rattle.zarrs_shard_runs.specs.CutRuns.{cell, cells_at}
use Rattle.zarrs_shard_runs.specs.PlacesInside.{groups_of}
use Rattle.zarrs_shard_runs.specs.declared.grouped_runs.InnerRuns.{InnerRuns}

-- an inner chunk's number, and the places of it that its runs cover
abbrev pub group : InnerRuns → ℕ × List ℕ
group it = (it.number, joined_runs it.runs.items)

-- what is read of the places of groups, one behind the other, where `read` gives the element at a place of an inner chunk
abbrev pub group_elements : (ℕ → ℕ → Element) → List (ℕ × List ℕ) → List Element
group_elements read groups = flat_map (λ it. map (read it.0) it.1) groups

-- taken in this order, the elements of the groups are those of the places
abbrev pub IsReadingOrder : List ℕ → List ℕ → List ℕ → List ℕ → Type 0
IsReadingOrder shape sizes places order =
    (read : ℕ → ℕ → Element)
    → map (λ at. get_or (group_elements read (groups_of shape sizes places)) at absent) order
    ≡ map (λ place. read (inner_chunk_of shape sizes place) (place_inside shape sizes place)) places

-- the places that an order's runs cover, or so many in a row where there is none
abbrev pub order_places : ℕ → Option (Vec (ℕ × ℕ) Global) → List ℕ
order_places count None = range_with_len 0 count
order_places count (Some runs) = joined_runs runs.items

-- The groups are the inner chunks that have any of the places, in the order of their numbers, each with its places; none of their runs is empty, each ends within the inner chunk, and none begins where the one before it ends.
pub record AreGroups (shape sizes places : List ℕ) (found : List InnerRuns) : Type 0 where
  pub groups : map group found ≡ groups_of shape sizes places
  pub filled : All (λ it. AreFilled it.runs.items) found
  pub inside : All (λ it. EndWithin (product shape) it.runs.items) found
  pub apart : All (λ it. AreApart it.runs.items) found

-- All places, of which there are some, are an inner chunk's: those of its runs, of which none is empty, each ends within it, and none begins where the one before it ends.
pub record IsOneGroup (shape sizes places : List ℕ) (it : InnerRuns) : Type 0 where
  pub cells : map (cell shape sizes) places ≡ cells_at it.number (joined_runs it.runs.items)
  pub some : 0 < length places
  pub number : it.number < inner_chunk_count shape sizes
  pub filled : AreFilled it.runs.items
  pub inside : EndWithin (product shape) it.runs.items
  pub apart : AreApart it.runs.items
