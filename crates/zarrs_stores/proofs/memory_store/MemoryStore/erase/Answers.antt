use Rattle.std.proofs.Common.{None, refl}
use Rattle.zarrs_stores.proofs.StoreLemmas.{value_set}
use Rattle.zarrs_stores.proofs.memory_store.MemoryStore.erase.Goals as goal

pub returns : goal.returns
returns c = record { value = value_set c.args.key.now c.args.key.now c.args.self.now.values c.remove.new.self None refl c.remove.ensures.updates }
