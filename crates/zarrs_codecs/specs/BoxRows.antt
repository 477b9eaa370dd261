-- Laws of the rows of a box: its tuples by the numbers of its first axis.
use Rattle.std.specs.Prelude.{◌≡◌, ℕ, ◌+◌, ◌<◌, List, ◌∷◌, ◌++◌, map}
use Rattle.zarrs_chunk.specs.Tuples.{box_tuples}
use Rattle.zarrs_data_type.specs.Element.{Element}

-- The tuples of a box are those of its first rows, followed by those of the rest.
abbrev pub BoxesAreCut : Type 0
BoxesAreCut =
    (row count more : ℕ) (starts lengths : List ℕ)
    → box_tuples (row ∷ starts) ((count + more) ∷ lengths) ≡ box_tuples (row ∷ starts) (count ∷ lengths) ++ box_tuples ((row + count) ∷ starts) (more ∷ lengths)

-- Two arrays, each seen as the element at an index tuple, that agree in so many rows, each from a row of its own on, have the same elements in the two boxes of these rows.
abbrev pub RowsAreAlike : Type 0
RowsAreAlike =
    (one other : List ℕ → Element) (row there count : ℕ) (starts lengths : List ℕ)
    → ((i : ℕ) → i < count → (tuple : List ℕ) → one ((row + i) ∷ tuple) ≡ other ((there + i) ∷ tuple))
    → map one (box_tuples (row ∷ starts) (count ∷ lengths)) ≡ map other (box_tuples (there ∷ starts) (count ∷ lengths))
