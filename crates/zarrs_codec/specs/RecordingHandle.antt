-- What a handle is seen as that keeps a record of its calls.
use Rattle.std.specs.Prelude.{List}
use Rattle.zarrs_chunk.specs.Runs.{joined_runs}
use Rattle.zarrs_codec.specs.ByteSpan.{ByteSpan}
use Rattle.zarrs_codec.specs.Calls.{Calls}
use Rattle.zarrs_codec.specs.MemoryHandle.{memory_state}
use Rattle.zarrs_codec.specs.StorageState.{StorageState}
use Rattle.zarrs_codec.specs.declared.testing.recording_handle.RecordingHandle.{RecordingHandle}

-- the state of a handle that keeps a record of its calls: all bytes are sure, since it never fails
abbrev pub recorded_state : RecordingHandle → StorageState
recorded_state handle = memory_state handle.memory

-- the record that such a handle keeps
abbrev pub recorded_calls : RecordingHandle → Calls
recorded_calls handle = record { reads = handle.reads; replaced = joined_runs handle.replaced.items }

-- the ranges that such a handle was asked for
abbrev pub asked_ranges : RecordingHandle → List ByteSpan
asked_ranges handle = handle.asked.items
