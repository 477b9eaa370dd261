-- What a handle that is written once is seen as.
use Rattle.std.specs.Prelude.{ℕ, true, Option, Some, None, List}
use Rattle.std.specs.Borrow.{GName}
use Rattle.zarrs_chunk.specs.declared.codec_error.StorageError.{StorageError}
use Rattle.zarrs_codec.specs.StorageState.{StorageState, count_if}
use Rattle.zarrs_c_calls.specs.Reads.{stored_value}
use Rattle.zarrs_c_calls.specs.Written.{value_written}
use Rattle.zarrs_c_calls.specs.declared.written.Written.{Written}
use Rattle.zarrs_c_calls.specs.declared.written.Written.TheVariants.{Nothing, Front, Apart, Erased}
use Rattle.zarrs_c_calls.specs.declared.one_write_handle.OneWriteHandle.{OneWriteHandle}

-- the name of the reference by which the buffer is lent
abbrev pub out_name : {B : Type 0} {b : _} → OneWriteHandle B b → GName
out_name handle = handle.out.ghost_name

-- the name of the one to what is kept apart
abbrev pub apart_name : {B : Type 0} {b : _} → OneWriteHandle B b → GName
apart_name handle = handle.apart.ghost_name

-- the bytes of the buffer
abbrev pub out_bytes : {B : Type 0} {b : _} → OneWriteHandle B b → List ℕ
out_bytes handle = handle.out.now

-- what the write left, and where
abbrev pub once_written : {B : Type 0} {b : _} → OneWriteHandle B b → Written
once_written handle = handle.written

-- what is kept apart
abbrev pub apart_bytes : {B : Type 0} {b : _} → OneWriteHandle B b → List ℕ
apart_bytes handle = handle.apart.now.items

-- the value that is there, or none
abbrev pub once_value : {B : Type 0} {b : _} → OneWriteHandle B b → Option (List ℕ)
once_value handle = value_written (once_written handle) (stored_value handle.is_stored handle.value.now) (out_bytes handle) (apart_bytes handle)

-- what a write left, or none
abbrev pub newly_written : {B : Type 0} {b : _} → OneWriteHandle B b → Option (List ℕ)
newly_written handle = value_written (once_written handle) None (out_bytes handle) (apart_bytes handle)

-- how many writes were accepted: one, or none
abbrev pub accepted : Written → ℕ
accepted Nothing = 0
accepted (Front _) = 1
accepted Apart = 1
accepted Erased = 1

-- its state: all bytes are sure
abbrev pub once_state : {B : Type 0} {b : _} → OneWriteHandle B b → StorageState
once_state handle =
    record {
      value = once_value handle;
      sure = Some (λ _. true);
      faults = handle.faults;
      failure = handle.failure;
      writes = handle.write_calls;
      accepted_writes = accepted handle.written;
    }

-- the same before any call
abbrev pub fresh_state : Option (List ℕ) → StorageState
fresh_state stored =
    record { value = stored; sure = Some (λ _. true); faults = 0; failure = None; writes = 0; accepted_writes = 0 }

-- the failure of a second write
abbrev pub second_write : StorageError
second_write = record { code = 0 }

-- what a second write leaves, apart from the count of writing calls
abbrev pub after_refusal : StorageState → StorageState
after_refusal state = record state { faults = count_if true state.faults; failure = Some second_write }
