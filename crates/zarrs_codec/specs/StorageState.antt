-- What contracts see of a storage handle.
use Rattle.std.specs.Prelude.{◌≡◌, ℕ, ◌+◌, ◌%◌, ◌^◌, Bool, true, false, Option, Some, None, List, [], length, Result, Err, OnErr, is_ok}
use Rattle.std.specs.List.{list_all, range_with_len}
use Rattle.std.specs.Option.{option_map}
use Rattle.zarrs_chunk.specs.Answer.{is_fault}
use Rattle.zarrs_chunk.specs.declared.codec_error.CodecError.{CodecError}
use Rattle.zarrs_chunk.specs.declared.codec_error.CodecError.TheVariants.{Storage}
use Rattle.zarrs_chunk.specs.declared.codec_error.StorageError.{StorageError}

-- The stored value, or none; which of its bytes, by their numbers, are sure to be read without a failure, where the handle promises that of any; the calls so far that failed, and what the last of them answered; the calls so far that write, and those of them that were accepted. The counts are modulo 2^64.
pub record StorageState : Type 0 where
  pub value : Option (List ℕ)
  pub sure : Option (ℕ → Bool)
  pub faults : ℕ
  pub failure : Option StorageError
  pub writes : ℕ
  pub accepted_writes : ℕ

-- all bytes with these numbers are sure to be read; never where the handle promises nothing
abbrev pub are_sure : Option (ℕ → Bool) → List ℕ → Bool
are_sure None numbers = false
are_sure (Some sure) numbers = list_all sure numbers

-- the numbers of a value's bytes
abbrev pub value_indices : Option (List ℕ) → List ℕ
value_indices None = []
value_indices (Some value) = range_with_len 0 (length value)

-- all bytes of the value are sure to be read
abbrev pub value_is_sure : StorageState → Bool
value_is_sure state = are_sure state.sure (value_indices state.value)

-- how many bytes a value has; none, where there is none
abbrev pub value_size : Option (List ℕ) → Option ℕ
value_size value = option_map (λ bytes. length bytes) value

-- a count modulo 2^64, one more where the test passes
abbrev pub count_if : Bool → ℕ → ℕ
count_if true count = (count + 1) % 2 ^ 64
count_if false count = count

-- the failure that a call answers, else the one before it
abbrev pub last_failure : {T : Type 0} → Result T CodecError → Option StorageError → Option StorageError
last_failure (Err (Storage failure)) before = Some failure
last_failure _ before = before

-- what a reading call leaves: all as it was, but for the failure that it answers
abbrev pub after_reading : {T : Type 0} → Result T CodecError → StorageState → StorageState
after_reading result state =
    record state { faults = count_if (is_fault result) state.faults; failure = last_failure result state.failure }

-- how many bytes of a value a handle keeps in memory that keeps all of it there
abbrev pub held_bytes : Option (List ℕ) → ℕ
held_bytes None = 0
held_bytes (Some value) = length value

-- the bytes of a value; none, where there is none
abbrev pub value_or_empty : Option (List ℕ) → List ℕ
value_or_empty None = []
value_or_empty (Some value) = value

-- all of a state but the value
abbrev pub apart_from_value : StorageState → StorageState
apart_from_value state = record state { value = None }

-- what a writing call leaves apart from the value: all as it was, but for one writing call more, an accepted one more where it is accepted, and the failure that it answers
abbrev pub after_writing : {T : Type 0} → Result T CodecError → StorageState → StorageState
after_writing result state =
    record (apart_from_value (after_reading result state)) {
      writes = count_if true state.writes;
      accepted_writes = count_if (is_ok result) state.accepted_writes;
    }

-- ---- what a call leaves: `state` is what its object keeps of the handle

-- the value is as it was
abbrev pub SameValue : {C : Type 0} → (C → StorageState) → C → C → Type 0
SameValue state before after = (state after).value ≡ (state before).value

-- a call that fails leaves the value where its writing calls are atomic
abbrev pub KeptIfAtomic : {C T : Type 0} → Bool → (C → StorageState) → C → C → Result T CodecError → Type 0
KeptIfAtomic atomic state before after result = OnErr result (atomic ≡ true → SameValue state before after)

-- apart from the value all is as one writing call leaves it that answers this
abbrev pub LeftByWriting : {C T : Type 0} → (C → StorageState) → C → C → Result T CodecError → Type 0
LeftByWriting state before after result = apart_from_value (state after) ≡ after_writing result (state before)
