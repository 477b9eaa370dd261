use Rattle.std.proofs.Common.{rules}
use Rattle.zarrs_json.proofs.JsonLemmas.{member_count_of_view}
use Rattle.zarrs_json.proofs.edits.edit_among.Goals as goal

pub returns-then-len-ne2 : goal.returns-then-len-ne2
returns-then-len-ne2 c = record { answer = λ _. search (rules, member_count_of_view) }
