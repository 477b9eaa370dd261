-- Where each element of an updated container comes from.
use Rattle.std.specs.Prelude.{ℕ, ◌-◌, ◌<◌, List, length, All}
use Rattle.zarrs_array_bytes.specs.declared.sources.Source.{Source}
use Rattle.zarrs_array_bytes.specs.declared.sources.Source.TheVariants.{Old, New}

-- what the source gives, from the old elements or the new ones
abbrev pub source_bytes : (ℕ → List ℕ) → (ℕ → List ℕ) → Source → List ℕ
source_bytes old new (Old place) = old place
source_bytes old new (New place) = new place

-- the source is one of so many old or new elements
abbrev pub IsSourceOf : ℕ → ℕ → Source → Type 0
IsSourceOf count new_count (Old place) = place < count
IsSourceOf count new_count (New place) = place < new_count

-- each source is one of the elements between these old or new offsets
abbrev pub AreSources : List ℕ → List ℕ → List Source → Type 0
AreSources offsets new_offsets from = All (IsSourceOf (length offsets - 1) (length new_offsets - 1)) from
