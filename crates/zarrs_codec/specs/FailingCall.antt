-- The one call of a handle that fails, for tests.
use Rattle.std.specs.Prelude.{◌≡◌, ℕ, ◌-◌, ◌==◌, Bool, false, ◌&&◌, Option, Some, None, if◌then◌else◌, Result, Ok, Err}
use Rattle.zarrs_chunk.specs.Answer.{Excused, memory}
use Rattle.zarrs_chunk.specs.declared.codec_error.CodecError.{CodecError}
use Rattle.zarrs_chunk.specs.declared.codec_error.StorageError.{StorageError}
use Rattle.zarrs_codec.specs.StorageState.{last_failure}
use Rattle.zarrs_codec.specs.declared.testing.failing_call.FailingCall.{FailingCall}

-- Which of the calls to come fails, the next one being 1, and with which code. For 0 none fails.
pub record Turn : Type 0 where
  pub left : ℕ
  pub code : ℕ

-- what the next call fails with, where it is its turn
abbrev pub failure_due : Turn → Option StorageError
failure_due turn = if turn.left == 1 then Some (record { code = turn.code }) else None

-- the turn behind the next call
abbrev pub turn_after : Turn → Turn
turn_after turn = record turn { left = turn.left - 1 }

-- a call fails where it is its turn and else doesn't, and it is counted
pub record FailsInTurn {T : Type 0} (result : Result T CodecError) (before after : Turn) : Type 0 where
  pub failure : last_failure result None ≡ failure_due before
  pub counted : after ≡ turn_after before

-- whether memory was lacking in the call that gave this result
abbrev pub wants_memory : {T : Type 0} → Result T CodecError → Bool
wants_memory (Ok _) = false
wants_memory (Err e) = memory e

-- a writing call fails where it is its turn and else doesn't, and it is counted. One of a handle that tears takes memory before it fails: `OutOfMemory` may come in place of the failure.
pub record TearsInTurn {T : Type 0} (tears : Bool) (result : Result T CodecError) (before after : Turn) : Type 0 where
  pub failure : Excused (tears && wants_memory result) (last_failure result None ≡ failure_due before)
  pub counted : after ≡ turn_after before

-- which call fails
abbrev pub turn_of : FailingCall → Turn
turn_of calls = record { left = calls.left; code = calls.code }

-- a record of calls of which none has been made yet, and this one fails, with its number for a code
abbrev pub none_made : ℕ → FailingCall
none_made n = record { left = n; code = n; faults = 0; failure = None; write_calls = 0; accepted_writes = 0 }
