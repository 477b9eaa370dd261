-- Index tuples of places.
use Rattle.std.specs.Prelude.{◌≡◌, ◌++◌, ℕ, List, Vec, true}
use Rattle.std.specs.declared.alloc.Global.{Global}
use Rattle.zarrs_chunk.specs.Numbering.{are_tuples_inside, numbers_of_tuples}
use Rattle.zarrs_chunk.specs.Selection.{tuples_seen}

-- the tuples lie inside a chunk of these sizes, and these are their places, in order
pub record HavePlaces (sizes : List ℕ) (tuples : List (Vec ℕ Global)) (places : List ℕ) : Type 0 where
  pub inside : are_tuples_inside sizes (tuples_seen tuples) ≡ true
  pub numbers : numbers_of_tuples sizes (tuples_seen tuples) ≡ places

-- new tuples have these places more, behind all that the old ones have
abbrev pub HaveMore : List ℕ → List (Vec ℕ Global) → List (Vec ℕ Global) → List ℕ → Type 0
HaveMore sizes old new more = (places : List ℕ) → HavePlaces sizes old places → HavePlaces sizes new (places ++ more)
