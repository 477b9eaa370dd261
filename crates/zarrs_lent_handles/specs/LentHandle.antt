-- What a handle on a value that is lent is seen as.
use Rattle.std.specs.Prelude.{ℕ, Option, List, Some, Bool}
use Rattle.std.specs.Option.{option_map}
use Rattle.zarrs_chunk.specs.declared.codec_error.StorageError.{StorageError}
use Rattle.zarrs_codec.specs.StorageState.{StorageState}
use Rattle.zarrs_lent_handles.specs.declared.lent_handle.LentHandle.{LentHandle}

-- the value that is lent, or none
abbrev pub lent_value : LentHandle → Option (List ℕ)
lent_value handle = option_map (λ value. value.now) handle.value

-- the state of a handle that is never written
abbrev pub read_state : Option (List ℕ) → (ℕ → Bool) → ℕ → Option StorageError → StorageState
read_state value sure faults failure =
    record { value = value; sure = Some sure; faults = faults; failure = failure; writes = 0; accepted_writes = 0 }
