-- What a handle is seen as of which one call fails.
use Rattle.std.specs.Prelude.{◌≡◌, ℕ, ◌/◌, Bool, ◌&&◌, Option, Some, None, List, length, take, Result, Ok, Err, OnErr, if◌then◌else◌}
use Rattle.zarrs_chunk.specs.Answer.{is_fault}
use Rattle.zarrs_chunk.specs.declared.codec_error.CodecError.{CodecError}
use Rattle.zarrs_codec.specs.BytePieces.{pieces_fit, with_pieces}
use Rattle.zarrs_codec.specs.StorageState.{StorageState, value_or_empty}
use Rattle.zarrs_codec.specs.FailingCall.{Turn, turn_of}
use Rattle.zarrs_codec.specs.MemoryHandle.{handle_value}
use Rattle.zarrs_codec.specs.declared.testing.watched_handle.WatchedHandle.{WatchedHandle}

-- the state of a handle of which one call fails: no byte is sure (the logic has a number for the const parameter)
abbrev pub watched_state : {TEARS : ℕ} → WatchedHandle TEARS → StorageState
watched_state handle =
    record {
      value = handle_value handle.memory;
      sure = None;
      faults = handle.calls.faults;
      failure = handle.calls.failure;
      writes = handle.calls.write_calls;
      accepted_writes = handle.calls.accepted_writes;
    }

-- which call of the handle fails
abbrev pub watched_turn : {TEARS : ℕ} → WatchedHandle TEARS → Turn
watched_turn handle = turn_of handle.calls

-- the first half of a value, rounded down
abbrev pub first_half : List ℕ → List ℕ
first_half value = take (length value / 2) value

-- what a write leaves that fails, by whether it could be made: the first half of the value that it was to make, or the value as it was
abbrev pub half_of_made : Result (Unit {0}) CodecError → List ℕ → Option (List ℕ) → Option (List ℕ)
half_of_made (Ok _) made value = Some (first_half made)
half_of_made (Err _) made value = value

-- half of what a failing write of pieces was to make of a value, or the old value where they don't fit
abbrev pub half_of_pieces : List (ℕ × ℕ) → List ℕ → Option (List ℕ) → Option (List ℕ)
half_of_pieces pieces bytes value =
    half_of_made (pieces_fit pieces (length bytes)) (with_pieces (value_or_empty value) pieces bytes) value

-- what a failed write leaves: what is torn, where the handle tears and failed in it, and else the value as it was
abbrev pub torn_or_kept : {T : Type 0} → Bool → Result T CodecError → Option (List ℕ) → Option (List ℕ) → Option (List ℕ)
torn_or_kept tears result torn value = if tears && is_fault result then torn else value

-- a call that failed leaves what is torn of the value, where the handle tears and failed in it, else the value as it was
abbrev pub Tears : {TEARS : ℕ} → {T : Type 0} → Bool → (Option (List ℕ) → Option (List ℕ)) → WatchedHandle TEARS → WatchedHandle TEARS → Result T CodecError → Type 0
Tears tears torn before after result =
    OnErr result ((watched_state after).value ≡ torn_or_kept tears result (torn (watched_state before).value) (watched_state before).value)
