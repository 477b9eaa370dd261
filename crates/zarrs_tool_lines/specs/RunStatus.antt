-- How a run ended: its exit status, and what was read and written, by the bytes that the streams had and have.
use Rattle.std.specs.Prelude.{◌≡◌, ℕ, Bool, true, false, List, Option, Result, Ok}
use Rattle.zarrs_tool_lines.specs.Run.{EndsDone, EndsBad}
use Rattle.zarrs_tool_lines.specs.declared.run.RunEnd.{RunEnd}
use Rattle.zarrs_tool_lines.specs.declared.run.RunEnd.TheVariants.{Done, BadHeader, Fault}

-- 0 where the run was done, 2 for a bad header, 1 where a stream failed
abbrev pub status_of : RunEnd → ℕ
status_of Done = 0
status_of BadHeader = 2
status_of (Fault _) = 1

-- of a call that returns whether the header was good, or there was none: where it was, all is read, and what was written answers all lines that aren't empty
abbrev pub IfGood : {R W E : Type 0} → (R → Option (List ℕ)) → R → R → (W → Option (List ℕ)) → W → W → Result Bool E → Type 0
IfGood remaining unread left contents held holds result =
    result ≡ Ok true → EndsDone (remaining unread) (remaining left) (contents held) (contents holds)

-- and where it was bad, its one answer was written
abbrev pub IfBad : {R W E : Type 0} → (R → Option (List ℕ)) → R → (W → Option (List ℕ)) → W → W → Result Bool E → Type 0
IfBad remaining unread contents held holds result =
    result ≡ Ok false → EndsBad (remaining unread) (contents held) (contents holds)
