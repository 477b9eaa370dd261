-- What is due to a call that reads a list of selections.
use Rattle.std.specs.Prelude.{◌≡◌, ◌⊎◌, ℕ, nat_le, Option, List, [], ◌∷◌, length, take, drop, Result, Ok, Err}
use Rattle.zarrs_chunk.specs.Answer.{◌>>=◌, demand}
use Rattle.zarrs_array_bytes.specs.Held.{Held}
use Rattle.zarrs_json.specs.Header.{Header}
use Rattle.zarrs_c_calls.specs.Buffers.{Room}
use Rattle.zarrs_c_calls.specs.Codes.{IsRefusal}
use Rattle.zarrs_c_calls.specs.JoinedParts.{ToldJoined, joined_parts}
use Rattle.zarrs_c_calls.specs.Reads.{header_read}
use Rattle.zarrs_c_calls.specs.Told.{Elements, HoldsThese}
use Rattle.zarrs_c_calls.specs.declared.cause.Cause.{Cause}
use Rattle.zarrs_c_calls.specs.declared.cause.Cause.TheVariants.{Argument}
use Rattle.zarrs_c_calls.specs.declared.sizes.SelectionSize.{SelectionSize}

-- ---- what is due

-- the elements of a selection whose numbers stand in front of those that are left, read as `zarrs_read` reads it
abbrev pub front_read : Header → Option (List ℕ) → SelectionSize → List ℕ → Result Elements Cause
front_read header stored size numbers = do
  _ ← demand (nat_le size.numbers (length numbers)) Argument
  header_read header stored size.tuples (take size.numbers numbers)

-- the elements of each selection of a list, read one after another, where just so many numbers are given; or the first error
abbrev pub selections_read : Header → Option (List ℕ) → List SelectionSize → List ℕ → Result (List Elements) Cause
selections_read header stored [] [] = Ok []
selections_read header stored [] (number ∷ numbers) = Err Argument
selections_read header stored (size ∷ sizes) numbers = do
  first ← front_read header stored size numbers
  more ← selections_read header stored sizes (drop size.numbers numbers)
  Ok (first ∷ more)

-- what is due to a read of several selections of a header's chunk: the elements of each, read one after another; or the first error
abbrev pub many_read : Result Header Cause → Option (List ℕ) → List SelectionSize → List ℕ → Result (List Elements) Cause
many_read given_header stored sizes numbers = do
  header ← given_header
  selections_read header stored sizes numbers

-- each container holds the elements in its place, and there are as many
abbrev pub HoldEach : List Held → List Elements → Type 0
HoldEach [] [] = Unit {0}
HoldEach (held ∷ more) (elements ∷ others) = HoldsThese held elements × HoldEach more others
HoldEach _ _ = ⊥

-- ---- returned

-- The call returns containers of the elements that are due, one for each selection; or it fails, and leaves the buffers and the counts as they were.
abbrev pub TellsMany : Result (List Elements) Cause → ℕ → Room → Room → Type 0
TellsMany expected code old new =
    ((answers : List Elements) × (helds : List Held) × (expected ≡ Ok answers) × HoldEach helds answers × ToldJoined (joined_parts helds) code old.parts new.parts new.needed)
    ⊎ (IsRefusal expected code × (new.parts ≡ old.parts) × (new.needed ≡ old.needed))
