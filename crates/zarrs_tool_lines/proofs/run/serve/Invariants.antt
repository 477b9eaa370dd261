use Rattle.std.proofs.Common.{◌≡◌}
use Rattle.zarrs_tool_lines.specs.Session.{state_of}
use Rattle.zarrs_tool_lines.proofs.RunLemmas.{SoFar}
use Rattle.zarrs_tool_lines.proofs.run.serve.Given as goal

abbrev pub invariant-commands : goal.invariant-commands
invariant-commands g l = record {
  answered : SoFar (g.R.ReadLines.remaining l.fn.reader) (g.R.ReadLines.remaining l.reader) (g.W.WriteLines.contents l.fn.writer) (g.W.WriteLines.contents l.writer) (state_of l.fn.session) (state_of l.session);
  read : g.R.ReadLines.faults l.reader ≡ g.R.ReadLines.faults l.fn.reader;
  written : g.W.WriteLines.faults l.writer ≡ g.W.WriteLines.faults l.fn.writer;
}

abbrev pub decreases-commands : goal.decreases-commands
decreases-commands g l = g.R.ReadLines.lines_left l.reader
