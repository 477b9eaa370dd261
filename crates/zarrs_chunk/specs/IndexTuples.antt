-- Index tuples whose numbers stand one after another in one list.
use Rattle.std.specs.Prelude.{ℕ, zero, suc, ◌*◌, ◌==◌, if◌then◌else◌, Option, Some, None, List, [], ◌∷◌, length, take, drop}

-- how many numbers each tuple has, how many tuples there are, and the numbers of all of them
pub record TupleNumbers : Type 0 where
  pub axes : ℕ
  pub count : ℕ
  pub numbers : List ℕ

-- so many tuples of so many numbers each, one after another
abbrev pub rows : ℕ → ℕ → List ℕ → List (List ℕ)
rows axes zero numbers = []
rows axes (suc count) numbers = take axes numbers ∷ rows axes count (drop axes numbers)

-- the tuples that have these numbers
abbrev pub tuples_lent : TupleNumbers → List (List ℕ)
tuples_lent tuples = rows tuples.axes tuples.count tuples.numbers

-- so many tuples, where there are just so many numbers
abbrev pub tuples_of_numbers : ℕ → ℕ → List ℕ → Option TupleNumbers
tuples_of_numbers axes count numbers =
    if axes * count == length numbers then Some (record { axes = axes; count = count; numbers = numbers }) else None
