-- Selections as they cross: a box, by its starts and then its lengths, or tuples one after another.
use Rattle.std.specs.Prelude.{ℕ, ◌==◌, ◌*◌, ◌/◌, ◌%◌, ◌^◌, ◌-◌, if◌then◌else◌, List, length, take, drop, Result, Ok}
use Rattle.zarrs_chunk.specs.Answer.{◌>>=◌, demand, Answers}
use Rattle.zarrs_chunk.specs.ArraySubset.{subset_of_start_shape}
use Rattle.zarrs_chunk.specs.IndexTuples.{rows}
use Rattle.zarrs_chunk.specs.Indexer.{selection_of}
use Rattle.zarrs_chunk.specs.Selection.{Selection, subset, indices}
use Rattle.zarrs_chunk.specs.declared.indexer.Indexer.{Indexer}
use Rattle.zarrs_c_calls.specs.Codes.{cause_memory, codec_call_answer}
use Rattle.zarrs_c_calls.specs.declared.cause.Cause.{Cause}
use Rattle.zarrs_c_calls.specs.declared.cause.Cause.TheVariants.{Argument}

-- the first half of the numbers are a box's starts, and the second its lengths
abbrev pub box_given : List ℕ → Result Selection Cause
box_given numbers = do
  _ ← demand (length numbers % 2 == 0) Argument
  region ← codec_call_answer (subset_of_start_shape (take (length numbers / 2) numbers) (drop (length numbers / 2) numbers))
  Ok (subset region)

-- these tuples, where there are just so many numbers
abbrev pub tuples_given : ℕ → ℕ → List ℕ → Result Selection Cause
tuples_given axes count numbers = do
  _ ← demand (axes * count == length numbers) Argument
  Ok (indices (rows axes count numbers))

-- the selection of these numbers in a chunk of so many axes: a box where `tuples` is 2^64 - 1, and else so many tuples
abbrev pub selection_given : ℕ → ℕ → List ℕ → Result Selection Cause
selection_given axes tuples numbers = if tuples == 2 ^ 64 - 1 then box_given numbers else tuples_given axes tuples numbers

-- the indexer of the selection that is due is returned, or the first error
abbrev pub Selects : Result Indexer Cause → Result Selection Cause → Type 0
Selects result expected = Answers cause_memory selection_of result expected
