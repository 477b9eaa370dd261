use Rattle.std.proofs.Common.{refl, rules}
use Rattle.zarrs_json.specs.Refusal.{error_line}
use Rattle.zarrs_tool_lines.proofs.RunLemmas.{so_far-replied, so_far-end, gives, ends, reply-given, reply-refused}
use Rattle.zarrs_tool_lines.proofs.run.serve.Goals as goal

pub returns-clause-done : goal.returns-clause-done
returns-clause-done g c =
    so_far-end _ _ _ _ _ _ _ c.commands.invariant.answered (ends _ _ c.next_filled_line.new.line.items _ c.if-branch.false c.in_ok-next_filled_line.ensures.next)

pub commands-preserved-in-Ok : goal.commands-preserved-in-Ok
commands-preserved-in-Ok g c =
    let given = gives (g.R.ReadLines.remaining c.commands.reader) (g.R.ReadLines.remaining c.next_filled_line.new.reader) c.next_filled_line.new.line.items _ c.if-branch.true c.in_ok-next_filled_line.ensures.next in
    record {
      answered =
          so_far-replied _ _ _ _ _ _ _ _ _ _ c.deref.result.now c.in-Ok.answer.items c.deref-in-Ok.result.now c.deref.ensures.value c.deref-in-Ok.ensures.value
          c.commands.invariant.answered given (reply-given _ _ c.deref.result.now c.in-Ok.answer.items c.in-Ok.ensures.answer) c.in_ok-write_line-in-Ok.ensures.written;
      read = search rules;
      written = search rules;
    }

pub commands-preserved : goal.commands-preserved
commands-preserved g c =
    let given = gives (g.R.ReadLines.remaining c.commands.reader) (g.R.ReadLines.remaining c.next_filled_line.new.reader) c.next_filled_line.new.line.items _ c.if-branch.true c.in_ok-next_filled_line.ensures.next in
    record {
      answered =
          so_far-replied _ _ _ _ _ _ _ _ _ _ c.deref.result.now (error_line c.in-Err.refusal) _ c.deref.ensures.value refl
          c.commands.invariant.answered given (reply-refused _ _ c.deref.result.now c.in-Err.refusal c.in-Err.ensures.answer c.in-Err.ensures.kept) c.in_ok-write_refusal-in-Err.ensures.written;
      read = search rules;
      written = search rules;
    }
