use Rattle.std.proofs.Common.{◌≡◌, ◌∙◌, length, sym}
use Rattle.zarrs_json.proofs.JsonLemmas.{only_member-one, only_member-none}
use Rattle.zarrs_json.proofs.trees.only_member.Goals as goal

pub returns-then-len-eq1 : goal.returns-then-len-eq1
returns-then-len-eq1 c =
    let one : length c.args.members.now.entries ≡ 1 = sym c.len.ensures.len ∙ c.if-len-eq1.true in
    record { value = c.member.ensures.value ∙ only_member-one c.args.name.now c.args.members.now.entries one }

pub returns-else-len-eq1 : goal.returns-else-len-eq1
returns-else-len-eq1 c =
    record { value = only_member-none c.args.name.now c.args.members.now.entries (λ h. c.if-len-eq1.false (c.len.ensures.len ∙ h)) }
