use Rattle.zarrs_tool_lines.specs.Session.{state_of}
use Rattle.zarrs_tool_lines.proofs.RunLemmas.{ends_done, ends_empty, ends_bad, bad_header, gives, ends}
use Rattle.zarrs_tool_lines.proofs.run.try_run.Goals as goal

pub returns-then-not-branch-clause-done : goal.returns-then-not-branch-clause-done
returns-then-not-branch-clause-done g c = λ _.
    ends_empty _ _ _ (ends _ _ c.next_filled_line.new.line.items _ c.if-not-branch.true c.in_ok-next_filled_line.ensures.next)

pub returns-in-Ok-clause-done : goal.returns-in-Ok-clause-done
returns-in-Ok-clause-done g c = λ _.
    let given = gives (g.R.ReadLines.remaining c.args.input.now) (g.R.ReadLines.remaining c.next_filled_line.new.reader) c.next_filled_line.new.line.items _ c.if-not-branch.false c.in_ok-next_filled_line.ensures.next in
    ends_done _ _ _ _ _ _ c.deref.result.now (state_of c.in-Ok.session) given c.deref.ensures.value c.in-Ok.ensures.answer c.in_ok-serve-in-Ok.ensures.done

pub returns-clause-bad : goal.returns-clause-bad
returns-clause-bad g c = λ _.
    let given = gives (g.R.ReadLines.remaining c.args.input.now) (g.R.ReadLines.remaining c.next_filled_line.new.reader) c.next_filled_line.new.line.items _ c.if-not-branch.false c.in_ok-next_filled_line.ensures.next in
    ends_bad _ _ _ _ _ c.deref.result.now _ given c.deref.ensures.value (bad_header c.deref.result.now c.in-Err.refusal c.in-Err.ensures.answer) c.in_ok-write_refusal-in-Err.ensures.written
