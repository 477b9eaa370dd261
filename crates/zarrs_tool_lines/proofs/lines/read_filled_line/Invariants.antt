use Rattle.std.proofs.Common.{◌≡◌, ◌≤◌, ℕ, List, Some, IfSome}
use Rattle.zarrs_tool_lines.specs.Lines.{filled_lines}
use Rattle.zarrs_tool_lines.proofs.lines.read_filled_line.Given as goal

-- only empty lines were passed over, and no call failed
abbrev pub invariant-lines : goal.invariant-lines
invariant-lines g l = record {
  passed : IfSome (g.R.ReadLines.remaining l.fn.reader) (λ input. (rest : List ℕ) × (g.R.ReadLines.remaining l.reader ≡ Some rest) × (filled_lines input ≡ filled_lines rest));
  faults : g.R.ReadLines.faults l.reader ≡ g.R.ReadLines.faults l.fn.reader;
  left : g.R.ReadLines.lines_left l.reader ≤ g.R.ReadLines.lines_left l.fn.reader;
}

abbrev pub decreases-lines : goal.decreases-lines
decreases-lines g l = g.R.ReadLines.lines_left l.reader
