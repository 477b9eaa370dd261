-- What a handle on a lent buffer is seen as.
use Rattle.std.specs.Prelude.{ℕ, Bool, true, Some, None, List}
use Rattle.std.specs.Borrow.{GName}
use Rattle.zarrs_codec.specs.StorageState.{StorageState}
use Rattle.zarrs_c_calls.specs.Reads.{stored_value}
use Rattle.zarrs_c_calls.specs.declared.buffer_handle.BufferHandle.{BufferHandle}

-- the bytes that are lent
abbrev pub buffer_bytes : BufferHandle → List ℕ
buffer_bytes handle = handle.value.now

-- they are the value that is stored; else nothing is
abbrev pub buffer_is_stored : BufferHandle → Bool
buffer_is_stored handle = handle.is_stored

-- the name of the reference by which they are lent
abbrev pub buffer_name : BufferHandle → GName
buffer_name handle = handle.value.ghost_name

-- its state: all bytes are sure, since it never fails
abbrev pub buffer_state : BufferHandle → StorageState
buffer_state handle =
    record {
      value = stored_value (buffer_is_stored handle) (buffer_bytes handle);
      sure = Some (λ _. true);
      faults = 0;
      failure = None;
      writes = handle.write_calls;
      accepted_writes = handle.accepted_writes;
    }
