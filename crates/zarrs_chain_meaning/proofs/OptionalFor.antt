-- What stands and what is written by `optional` of a type that is optional, nothing of any other; and how many flags are set.
use Rattle.std.proofs.Common.{ℕ, Bool, List, length, filter, IsSomeAnd}
use Rattle.zarrs_data_type.specs.Element.{Chunk}
use Rattle.zarrs_data_type.specs.ElementType.{ElementType, inner_of}
use Rattle.zarrs_chain_meaning.specs.Meaning.{Standing}
use Rattle.zarrs_chain_meaning.specs.optional.Optional.{OptionalStands, OptionalWritten}

abbrev pub OptionalStandsFor : Standing → Standing → List ℕ → ElementType → List ℕ → Chunk → Type 0
OptionalStandsFor mask content sizes type value chunk = IsSomeAnd (inner_of type) (λ inner. OptionalStands mask content sizes inner value chunk)

abbrev pub OptionalWrittenFor : Standing → Standing → List ℕ → ElementType → List ℕ → Chunk → Type 0
OptionalWrittenFor mask content sizes type value chunk = IsSomeAnd (inner_of type) (λ inner. OptionalWritten mask content sizes inner value chunk)

-- how many flags are set
abbrev pub count_set : List Bool → ℕ
count_set flags = length (filter (λ set. set) flags)
