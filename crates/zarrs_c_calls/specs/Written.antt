-- What one write leaves that is made into a caller's buffer.
use Rattle.std.specs.Prelude.{◌≡◌, ℕ, ◌≤◌, Bool, true, false, Option, Some, None, List, length, take, drop, OnErr, IfOk, Result}
use Rattle.zarrs_chunk.specs.Answer.{Answers, seen}
use Rattle.zarrs_c_calls.specs.Told.{ToldBytes}
use Rattle.zarrs_c_calls.specs.declared.written.Written.{Written}
use Rattle.zarrs_c_calls.specs.declared.written.Written.TheVariants.{Nothing, Front, Apart, Erased}

-- there was a write
abbrev pub is_written : Written → Bool
is_written Nothing = false
is_written (Front _) = true
is_written Apart = true
is_written Erased = true

-- how many bytes in front of the buffer were replaced
abbrev pub replaced : Written → ℕ
replaced Nothing = 0
replaced (Front count) = count
replaced Apart = 0
replaced Erased = 0

-- the value that is there: what was stored, where there was no write; else what the write left of the buffer, or apart
abbrev pub value_written : Written → Option (List ℕ) → List ℕ → List ℕ → Option (List ℕ)
value_written Nothing stored out apart = stored
value_written (Front count) stored out apart = Some (take count out)
value_written Apart stored out apart = Some apart
value_written Erased stored out apart = None

-- A write replaced bytes in front of the buffer alone: the others are as they were.
pub record KeepsRest (old new : List ℕ) (written : Written) : Type 0 where
  pub inside : replaced written ≤ length old
  pub rest : drop (replaced written) new ≡ drop (replaced written) old
  pub len : length new ≡ length old

-- a write left this value, and the rest of the buffer as it was
pub record LeavesValue (bytes old new apart : List ℕ) (written : Written) : Type 0 where
  pub accepted : is_written written ≡ true
  pub value : value_written written None new apart ≡ Some bytes
  pub rest : KeepsRest old new written

-- A write leaves this value; or it fails, and leaves the buffer as it was.
pub record WritesOnce {E : Type 0} (value old new apart : List ℕ) (result : Result Written E) : Type 0 where
  pub written : IfOk result (LeavesValue value old new apart)
  pub kept : OnErr result (new ≡ old)

-- A call writes the value that is due, or answers the first error; `excuse` says what may come at any time. The bytes of the buffer that aren't the value's stay as they were; all of them, where it fails.
pub record WritesDue {E : Type 0} (excuse : E → Bool) (due : Result (List ℕ) E) (old new apart : List ℕ) (result : Result Written E) : Type 0 where
  pub answer : Answers excuse (λ written. value_written written None new apart) result (seen Some due)
  pub rest : IfOk result (KeepsRest old new)
  pub kept : OnErr result (new ≡ old)

-- The call returns what a write left: it is in the buffer, and stays there; or it was kept apart, and is returned as any value.
abbrev pub TellsWritten : Written → List ℕ → ℕ → List ℕ → List ℕ → ℕ → Type 0
TellsWritten (Front count) apart code old new needed = (code ≡ 0) × (new ≡ old) × (needed ≡ count)
TellsWritten _ apart code old new needed = ToldBytes apart code old new needed
