-- Which failures of the streams a run reports, by the counts of them that the streams keep.
use Rattle.std.specs.Prelude.{◌≡◌, ℕ, ◌==◌, Bool, true, false, not, if◌then◌else◌, Option, Some, None, Result, Ok, Err}
use Rattle.zarrs_codec.specs.StorageState.{count_if}
use Rattle.zarrs_tool_lines.specs.declared.run.RunEnd.{RunEnd}
use Rattle.zarrs_tool_lines.specs.declared.run.RunEnd.TheVariants.{Done, BadHeader, Fault}
use Rattle.zarrs_tool_lines.specs.declared.run.StreamFault.{StreamFault}
use Rattle.zarrs_tool_lines.specs.declared.run.StreamFault.TheVariants.{Reader, Writer}

-- the fault that a run ended in
abbrev pub fault_of : RunEnd → Option StreamFault
fault_of Done = None
fault_of BadHeader = None
fault_of (Fault fault) = Some fault

-- the fault that a call answers
abbrev pub fault_in : {T : Type 0} → Result T StreamFault → Option StreamFault
fault_in (Ok _) = None
fault_in (Err fault) = Some fault

-- whether it is the reader's, and the writer's
abbrev pub is_of_reader : Option StreamFault → Bool
is_of_reader (Some Reader) = true
is_of_reader _ = false

-- the fault is one of the writer
abbrev pub is_of_writer : Option StreamFault → Bool
is_of_writer (Some Writer) = true
is_of_writer _ = false

-- calls of a stream failed, by its counts of them before and after
abbrev pub has_failed : {S : Type 0} → (S → ℕ) → S → S → Bool
has_failed faults before after = not (faults after == faults before)

-- the fault that is due where these failed: the reader's where both did, since what is written is flushed behind a failure of the reader too
abbrev pub due_fault : Bool → Bool → Option StreamFault
due_fault reader_failed writer_failed =
    if reader_failed then Some Reader else if writer_failed then Some Writer else None

-- a fault is reported exactly where a stream failed, and it is the one that is due
abbrev pub ReportsFault : {R W : Type 0} → (R → ℕ) → R → R → (W → ℕ) → W → W → Option StreamFault → Type 0
ReportsFault read_faults unread read write_faults unwritten written reported =
    reported ≡ due_fault (has_failed read_faults unread read) (has_failed write_faults unwritten written)

-- the one stream whose fault a call answers failed once, and the other one not at all; neither did where it answers Ok
pub record CountsFault {R W T : Type 0} (read_faults : R → ℕ) (unread read : R) (write_faults : W → ℕ) (unwritten written : W) (result : Result T StreamFault) : Type 0 where
  pub reader : read_faults read ≡ count_if (is_of_reader (fault_in result)) (read_faults unread)
  pub writer : write_faults written ≡ count_if (is_of_writer (fault_in result)) (write_faults unwritten)
