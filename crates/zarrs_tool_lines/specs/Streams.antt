-- What std's readers and writers are seen as, as streams of lines.
use Rattle.std.specs.Prelude.{ℕ, Bool, List, Option}
use Rattle.zarrs_tool_lines.specs.declared.streams.StreamReader.{StreamReader}
use Rattle.zarrs_tool_lines.specs.declared.streams.StreamWriter.{StreamWriter}

-- the bytes that the reader has left, where they are known
abbrev pub stream_bytes_left : {R : Type 0} → (R → Option (List ℕ)) → StreamReader R → Option (List ℕ)
stream_bytes_left remaining stream = remaining stream.reader

-- how many lines it gives at most
abbrev pub lines_to_read : {R : Type 0} → StreamReader R → ℕ
lines_to_read stream = stream.lines_left

-- how many calls of the reader failed
abbrev pub read_faults : {R : Type 0} → StreamReader R → ℕ
read_faults stream = stream.faults

-- the bytes that the writer holds, where they are known
abbrev pub stream_bytes_written : {W : Type 0} → (W → Option (List ℕ)) → StreamWriter W → Option (List ℕ)
stream_bytes_written contents stream = contents stream.writer

-- whether its last call was a flush
abbrev pub flush_is_last : {W : Type 0} → StreamWriter W → Bool
flush_is_last stream = stream.is_flushed

-- how many calls of the writer failed
abbrev pub write_faults : {W : Type 0} → StreamWriter W → ℕ
write_faults stream = stream.faults
