use Rattle.std.proofs.Common.{◌≡◌, Some, string_bytes}
use Rattle.std.proofs.lemmas.Result.{IfOk-at_ok}
use Rattle.zarrs_stores.proofs.StoreLemmas.{value_set}
use Rattle.zarrs_stores.proofs.memory_store.MemoryStore.set.Goals as goal

pub returns-in-Ok-clause-value : goal.returns-in-Ok-clause-value
returns-in-Ok-clause-value c =
    let key = c.in_ok-key.key in
    let key_is = IfOk-at_ok (λ s. string_bytes s ≡ c.args.key.now) c.in_ok-key.was c.from_str.ensures.ok in
    value_set (string_bytes key) c.args.key.now c.args.self.now.values c.insert.new.self (Some c.args.value) key_is c.in-Ok.ensures.updates
