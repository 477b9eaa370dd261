use Rattle.std.proofs.Common.{rules, ◌∙◌, sym}
use Rattle.serde_json.specs.View.{view}
use Rattle.zarrs_json.proofs.JsonLemmas.{tree_of-read, tree_of-unread}
use Rattle.zarrs_json.proofs.trees.tree.Goals as goal

pub returns-else-holds_float : goal.returns-else-holds_float
returns-else-holds_float c =
    record { answer = tree_of-read c.args.text.now (view c.in-Ok.tree) c.in-Ok.ensures.ok.0 c.in-Ok.ensures.ok.1 (sym c.holds_float.ensures.value ∙ c.if-holds_float.false) }

pub returns-else-is_memory : goal.returns-else-is_memory
returns-else-is_memory c = record { answer = λ _. tree_of-unread c.args.text.now (c.in-Err.ensures.err (search rules)) }
