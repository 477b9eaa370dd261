use Rattle.std.proofs.Common.{◌≡◌, ◌++◌, OnOk, subst}
use Rattle.zarrs_array_bytes.proofs.FillLemmas.{copies-one}
use Rattle.zarrs_array_bytes.proofs.repeat.append_byte.Goals as goal

pub returns-in-None : goal.returns-in-None
returns-in-None c = record {
  appended = subst (λ xs. OnOk c.append_each.result (c.append_each.new.out.items ≡ c.args.out.now.items ++ xs)) (copies-one c.args.byte c.args.count) c.append_each.ensures.appended;
  behind = c.append_each.ensures.behind;
}
