use Rattle.std.proofs.Common.{◌≡◌, ◌++◌, OnOk, List, ℕ, subst}
use Rattle.zarrs_array_bytes.proofs.FillLemmas.{copies-one}
use Rattle.zarrs_json.proofs.containers.append_zeros.Goals as goal

pub returns : goal.returns
returns c =
    record { appended = subst (λ (zeros : List ℕ). OnOk c.append_copies.result (c.append_copies.new.out.items ≡ c.args.out.now.items ++ zeros)) (copies-one 0 c.args.size) c.append_copies.ensures.appended }
