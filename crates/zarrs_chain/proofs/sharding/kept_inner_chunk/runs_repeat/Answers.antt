use Rattle.std.proofs.Common.{◌≡◌, ◌+◌, ◌&&◌, drop, true, false, rules, ap, sym, ◌∙◌}
use Rattle.zarrs_shard_bytes.specs.InnerPlaces.{places_from}
use Rattle.zarrs_chain.specs.sharding.ShardWalk.{are_item}
use Rattle.zarrs_chain.proofs.KeptInner.{runs_told}
use Rattle.zarrs_chain.proofs.sharding.kept_inner_chunk.runs_repeat.Goals as goal

pub returns-then-not-repeats : goal.returns-then-not-repeats
returns-then-not-repeats c =
    let runs = c.args.runs.now in
    let index = c.loop-run.run-index in
    let told = runs_told c.args.item.now c.args.bytes.now c.args.start runs index c.repeats.result c.loop-run-test.true (c.requires.inside index (0, 0) c.loop-run-test.true) c.repeats.ensures.value in
    let other : c.repeats.result ≡ false = search rules in
    record { value = sym (c.loop-run.invariant ∙ told ∙ ap (λ b. b && are_item c.args.item.now c.args.bytes.now (places_from c.args.start (drop (index + 1) runs))) other) }

pub loop-run-preserved : goal.loop-run-preserved
loop-run-preserved c =
    let runs = c.args.runs.now in
    let index = c.loop-run.run-index in
    let told = runs_told c.args.item.now c.args.bytes.now c.args.start runs index c.repeats.result c.loop-run-test.true (c.requires.inside index (0, 0) c.loop-run-test.true) c.repeats.ensures.value in
    let same : c.repeats.result ≡ true = search rules in
    c.loop-run.invariant ∙ told ∙ ap (λ b. b && are_item c.args.item.now c.args.bytes.now (places_from c.args.start (drop (index + 1) runs))) same
