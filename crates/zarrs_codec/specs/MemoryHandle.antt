-- What a handle in memory is seen as.
-- Source: zarrs, storage handles.
use Rattle.std.specs.Prelude.{ℕ, true, Option, Some, None, List}
use Rattle.std.specs.Option.{option_map}
use Rattle.zarrs_codec.specs.StorageState.{StorageState}
use Rattle.zarrs_codec.specs.declared.memory_handle.MemoryHandle.{MemoryHandle}

-- the value of a handle in memory, or none
abbrev pub handle_value : MemoryHandle → Option (List ℕ)
handle_value handle = option_map (λ value. value.items) handle.value

-- how many writing calls there were, modulo 2^64
abbrev pub write_count : MemoryHandle → ℕ
write_count handle = handle.write_calls

-- how many writing calls were accepted, modulo 2^64
abbrev pub accepted_count : MemoryHandle → ℕ
accepted_count handle = handle.accepted_writes

-- its state: all bytes are sure, since it never fails
abbrev pub memory_state : MemoryHandle → StorageState
memory_state handle =
    record {
      value = handle_value handle;
      sure = Some (λ _. true);
      faults = 0;
      failure = None;
      writes = write_count handle;
      accepted_writes = accepted_count handle;
    }
