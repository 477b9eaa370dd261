use Rattle.std.proofs.Common.{◌≡◌, ap, sym, subst, List, ℕ}
use Rattle.serde_json.specs.View.{view}
use Rattle.zarrs_chunk.specs.Answer.{Answers}
use Rattle.zarrs_chunk.specs.Indexer.{selection_of}
use Rattle.zarrs_tool_lines.specs.Commands.{LineAnswer, State, line_part}
use Rattle.zarrs_json.specs.Refusal.{refusal_memory}
use Rattle.zarrs_tool_lines.specs.Session.{state_of}
use Rattle.zarrs_tool_lines.proofs.ReadLemmas.{held_some, read_answer-selection, shown_elements}
use Rattle.zarrs_tool_lines.proofs.session.Session.read.Goals as goal

pub ok_elements-requires : goal.ok_elements-requires
ok_elements-requires c =
    let before = state_of c.args.self.now in
    let kept : state_of c.selected.new.self ≡ before = c.in_ok-elements.ensures.kept in
    record { held = held_some before.header.data_type c.selected.new.self.header.data_type c.in_ok-elements.elements (line_part before.header before.value (selection_of c.in_ok-indexer.indexer)) (ap (λ (s : State). s.header.data_type) kept) c.in_ok-elements.ensures.answer }

pub returns-clause-answer : goal.returns-clause-answer
returns-clause-answer c =
    let before = state_of c.args.self.now in
    let after = state_of c.selected.new.self in
    let selection = selection_of c.in_ok-indexer.indexer in
    let kept : after ≡ before = c.in_ok-elements.ensures.kept in
    subst (λ (y : LineAnswer). Answers {V = List ℕ × State} refusal_memory (λ line. (line.items, after)) c.ok_elements.result y)
    (sym (read_answer-selection before c.args.text.now (view c.in_ok-tree.tree) selection c.in_ok-tree.ensures.answer c.in_ok-indexer.ensures.answer))
    (shown_elements (λ line. line.items) before.header.data_type c.selected.new.self.header.data_type c.in_ok-elements.elements (line_part before.header before.value selection) c.ok_elements.result before after kept (ap (λ (s : State). s.header.data_type) kept) c.in_ok-elements.ensures.answer c.ok_elements.ensures.answer)
