-- What an indexer is seen as.
-- Source: zarrs, `Indexer`.
use Rattle.std.specs.Prelude.{ℕ, List, map}
use Rattle.zarrs_chunk.specs.IndexTuples.{TupleNumbers, tuples_lent}
use Rattle.zarrs_chunk.specs.Region.{Region}
use Rattle.zarrs_chunk.specs.Selection.{Selection, subset, indices, tuples_seen}
use Rattle.zarrs_chunk.specs.declared.indexer.Indexer.{Indexer}
use Rattle.zarrs_chunk.specs.declared.indexer.Indexer.TheVariants.{Subset, Indices, Tuples}

-- the box or the list of index tuples that an indexer selects
abbrev pub selection_of : Indexer → Selection
selection_of (Subset region) = subset region
selection_of (Indices tuples) = indices (map (λ tuple. tuple.items) tuples.items)
selection_of (Tuples tuples) = indices (tuples_lent tuples)

-- an indexer as plain data: which of its three forms it has, and the box or the tuples
pub data PlainIndexer : Type 0 where
  plain_subset : Region → PlainIndexer
  plain_indices : List (List ℕ) → PlainIndexer
  plain_tuples : TupleNumbers → PlainIndexer

-- the form that an indexer has, and what it holds
abbrev pub plain_indexer : Indexer → PlainIndexer
plain_indexer (Subset region) = plain_subset region
plain_indexer (Indices tuples) = plain_indices (tuples_seen tuples.items)
plain_indexer (Tuples tuples) = plain_tuples tuples
