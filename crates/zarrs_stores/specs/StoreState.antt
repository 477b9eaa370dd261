-- What contracts see of a store.
-- Source: zarrs, `ReadableStorageTraits`.
use Rattle.std.specs.Prelude.{◌≡◌, ◌≢◌, ℕ, Option, None, List, Result}
use Rattle.zarrs_chunk.specs.Answer.{is_fault}
use Rattle.zarrs_chunk.specs.declared.codec_error.CodecError.{CodecError}
use Rattle.zarrs_chunk.specs.declared.codec_error.StorageError.{StorageError}
use Rattle.zarrs_codec.specs.StorageState.{StorageState, count_if, last_failure}

-- The value of each key, by the key's bytes, or none; the calls so far that failed, modulo 2^64, and what the last of them answered.
pub record StoreState : Type 0 where
  pub values : List ℕ → Option (List ℕ)
  pub faults : ℕ
  pub failure : Option StorageError

-- what a reading call leaves: all as it was, but for the failure that it answers
abbrev pub after_get : {T : Type 0} → Result T CodecError → StoreState → StoreState
after_get result state =
    record state { faults = count_if (is_fault result) state.faults; failure = last_failure result state.failure }

-- A call that names this key asks for no other: of two counts of how often each key was asked for, before the call and after it, each other key has the same.
abbrev pub AsksOnly : List ℕ → (before after : List ℕ → ℕ) → Type 0
AsksOnly key before after = (other : List ℕ) → other ≢ key → after other ≡ before other

-- what a handle on a key of a store in this state is seen as: the key's value, of which no byte is sure, and the store's failures
abbrev pub key_state : StoreState → List ℕ → StorageState
key_state state key = record {
  value = state.values key;
  sure = None;
  faults = state.faults;
  failure = state.failure;
  writes = 0;
  accepted_writes = 0;
}

-- Of two stores' values, the first before a key was set and the second after it: the key has this value, or none, and each other key has its own.
pub record SetsValue (key : List ℕ) (value : Option (List ℕ)) (before after : List ℕ → Option (List ℕ)) : Type 0 where
  pub there : after key ≡ value
  pub others : (other : List ℕ) → other ≢ key → after other ≡ before other
