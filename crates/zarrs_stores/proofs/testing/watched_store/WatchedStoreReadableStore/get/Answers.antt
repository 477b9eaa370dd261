use Rattle.std.proofs.Common.{ℕ, List, Ok, Option, ap, string_bytes, subst}
use Rattle.zarrs_codec.specs.HandleCalls.{ReadsBytes}
use Rattle.zarrs_stores.specs.StoreState.{StoreState}
use Rattle.zarrs_stores.specs.WatchedStore.{times_asked}
use Rattle.zarrs_stores.proofs.StoreLemmas.{asks_watched}
use Rattle.zarrs_stores.proofs.testing.watched_store.WatchedStoreReadableStore.get.Goals as goal

pub returns-in_err-pass-clause-asked : goal.returns-in_err-pass-clause-asked
returns-in_err-pass-clause-asked c =
    asks_watched (string_bytes c.args.self.now.key) c.args.key.now c.args.self.now.asked (times_asked c.pass.new.self) c.pass.ensures.asked

pub returns-clause-asked : goal.returns-clause-asked
returns-clause-asked c =
    asks_watched (string_bytes c.args.self.now.key) c.args.key.now c.args.self.now.asked (times_asked c.pass.new.self) c.pass.ensures.asked

pub returns-clause-answer : goal.returns-clause-answer
returns-clause-answer c =
    subst (λ (values : List ℕ → Option (List ℕ)). ReadsBytes c.get.result (Ok (values c.args.key.now))) (ap (λ (state : StoreState). state.values) c.pass.ensures.left) c.get.ensures.answer
