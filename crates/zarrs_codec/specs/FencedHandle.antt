-- What a handle is seen as that reads the bytes inside its ranges alone.
use Rattle.std.specs.Prelude.{◌≡◌, ℕ, ◌&&◌, nat_le, nat_lt, Bool, true, false, Option, Some, None, List, Result}
use Rattle.std.specs.List.{list_any}
use Rattle.zarrs_chunk.specs.declared.codec_error.CodecError.{CodecError}
use Rattle.zarrs_chunk.specs.declared.codec_error.StorageError.{StorageError}
use Rattle.zarrs_codec.specs.ByteSpan.{ByteSpan}
use Rattle.zarrs_codec.specs.StorageState.{StorageState, last_failure}
use Rattle.zarrs_codec.specs.MemoryHandle.{handle_value}
use Rattle.zarrs_codec.specs.declared.testing.fenced_handle.FencedHandle.{FencedHandle}

-- whether a range has the byte of this number
abbrev pub has_byte : ℕ → ByteSpan → Bool
has_byte byte range = nat_le range.start byte && nat_lt byte range.end

-- one of the ranges has the byte of this number
abbrev pub is_fenced : List ByteSpan → ℕ → Bool
is_fenced ranges byte = list_any (has_byte byte) ranges

-- the state of a handle that reads the bytes of its ranges alone: these are sure
abbrev pub fenced_state : FencedHandle → StorageState
fenced_state handle =
    record {
      value = handle_value handle.memory;
      sure = Some (is_fenced handle.ranges.items);
      faults = handle.faults;
      failure = handle.failure;
      writes = 0;
      accepted_writes = 0;
    }

-- what a read fails with, by whether all bytes that it asks for are sure
abbrev pub fence_failure : Bool → Option StorageError
fence_failure true = None
fence_failure false = Some (record { code = 1 })

-- a read fails, with code 1, exactly where not all bytes that it asks for are sure
abbrev pub FailsUnless : {T : Type 0} → Bool → Result T CodecError → Type 0
FailsUnless sure result = last_failure result None ≡ fence_failure sure
