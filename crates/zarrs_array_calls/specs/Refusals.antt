-- Why a call over arrays fails, and the numbers that say so: those of the header for C.
use Rattle.std.specs.Prelude.{◌≡◌, ◌⊎◌, ℕ, Bool, false, Result, Ok, Err}
use Rattle.zarrs_chunk.specs.Answer.{memory}
use Rattle.zarrs_chunk.specs.declared.codec_error.CodecError.{CodecError}
use Rattle.zarrs_chunk.specs.declared.codec_error.CodecError.TheVariants.{OutOfMemory, InvalidBytesLength, IncompatibleDimensionality, OutOfBounds, Overflow, TargetMismatch}
use Rattle.zarrs_array_calls.specs.declared.refusal.ArrayRefusal.{ArrayRefusal}
use Rattle.zarrs_array_calls.specs.declared.refusal.ArrayRefusal.TheVariants.{Argument, ZeroSize, Codec}

-- an allocation failed
abbrev pub refusal_wants : ArrayRefusal → Bool
refusal_wants Argument = false
refusal_wants ZeroSize = false
refusal_wants (Codec error) = memory error

-- an answer of the library, whose error is one of these calls'
abbrev pub grid_answer : {A : Type 0} → Result A CodecError → Result A ArrayRefusal
grid_answer (Ok value) = Ok value
grid_answer (Err error) = Err (Codec error)

-- the number of an error; these calls have no others than those that are named here
abbrev pub error_number : CodecError → ℕ
error_number OutOfMemory = 10
error_number (InvalidBytesLength _ _) = 15
error_number IncompatibleDimensionality = 16
error_number OutOfBounds = 17
error_number Overflow = 18
error_number TargetMismatch = 34
error_number _ = 3

-- the number of what a call fails for
abbrev pub refusal_number : ArrayRefusal → ℕ
refusal_number Argument = 3
refusal_number ZeroSize = 56
refusal_number (Codec error) = error_number error

-- a call that fails returns this number: that of the error that is due, or 10, since memory may be lacking at any time
abbrev pub RefusesWith : {A : Type 0} → Result A ArrayRefusal → ℕ → Type 0
RefusesWith expected code = ((refusal : ArrayRefusal) × (expected ≡ Err refusal) × (code ≡ refusal_number refusal)) ⊎ (code ≡ 10)
