-- What a store in memory is seen as.
use Rattle.std.specs.Prelude.{ℕ, Option, None, List}
use Rattle.std.specs.BTreeMap.{get_by_text}
use Rattle.std.specs.Option.{option_map}
use Rattle.zarrs_stores.specs.StoreState.{StoreState}
use Rattle.zarrs_stores.specs.declared.memory_store.MemoryStore.{MemoryStore}

-- the value of each key of a store in memory, or none
abbrev pub memory_values : MemoryStore → List ℕ → Option (List ℕ)
memory_values store key = option_map (λ value. value.items) (get_by_text store.values key)

-- its state: it never fails
abbrev pub memory_store_state : MemoryStore → StoreState
memory_store_state store = record { values = memory_values store; faults = 0; failure = None }
