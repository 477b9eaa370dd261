use Rattle.std.proofs.Common.{◌+◌, rules, ℕ}
use Rattle.std.proofs.lemmas.Iterator.{YieldsList-from_slice, YieldsList-from_map}
use Rattle.std.proofs.lemmas.Iterator.Adapters.{items_from_extend}
use Rattle.zarrs_shard_bytes.proofs.inner_places.moved_runs.Goals as goal

pub returns : goal.returns
returns c =
    let h = items_from_extend c.extend.result c.extend.ensures.ran (YieldsList-from_map _ (λ (run : ℕ × ℕ). (c.args.start + run.0, run.1)) (YieldsList-from_slice c.args.runs.now cc) c.map.ensures.closure (λ x r q k. search rules)) in
    record { moved = search rules }
