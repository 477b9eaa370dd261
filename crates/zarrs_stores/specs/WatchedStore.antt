-- What a store is seen as of which one call fails, and which counts the calls for one key.
use Rattle.std.specs.Prelude.{ℕ, List, bytes_eq, if◌then◌else◌, string_bytes}
use Rattle.zarrs_codec.specs.FailingCall.{Turn}
use Rattle.zarrs_codec.specs.StorageState.{count_if}
use Rattle.zarrs_stores.specs.MemoryStore.{memory_values}
use Rattle.zarrs_stores.specs.StoreState.{StoreState}
use Rattle.zarrs_stores.specs.declared.testing.watched_store.WatchedStore.{WatchedStore}

-- the state of a store of which one call fails
abbrev pub watched_store_state : WatchedStore → StoreState
watched_store_state store = record { values = memory_values store.memory; faults = store.faults; failure = store.failure }

-- which call of the store fails
abbrev pub watched_store_turn : WatchedStore → Turn
watched_store_turn store = record { left = store.left; code = store.code }

-- how often each key was asked for, modulo 2^64: the one that is watched, and of others nothing is counted
abbrev pub times_asked : WatchedStore → List ℕ → ℕ
times_asked store key = if bytes_eq (string_bytes store.key) key then store.asked else 0

-- the same after a call for a key more
abbrev pub counted_for : List ℕ → List ℕ → (List ℕ → ℕ) → List ℕ → ℕ
counted_for watched key asked other = if bytes_eq watched other then count_if (bytes_eq watched key) (asked other) else 0
