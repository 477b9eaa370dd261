use Rattle.std.proofs.Common.{◌+◌, ◌*◌, ◌++◌, ℕ, List, drop, get_or, arith, ap, ◌∙◌}
use Rattle.zarrs_chain_meaning.specs.sharding.ShardSteps.{inner_start}
use Rattle.zarrs_chain_meaning.proofs.ShardGrid.{numbers_long, number_within, one_more, start_at}
use Rattle.zarrs_chain_meaning.proofs.sharding.inner_chunks.inner_start.Goals as goal

pub bounds-numbers-axis : goal.bounds-numbers-axis
bounds-numbers-axis c =
    let long = numbers_long c.args.parts.now c.args.sizes.now c.args.numbers.now c.requires.divided c.requires.inside in
    omega (arith, long)

pub overflow_mul-numbers : goal.overflow_mul-numbers
overflow_mul-numbers c =
    let axis = c.loop-axis.axis in
    let within = number_within c.args.parts.now c.args.sizes.now c.args.numbers.now axis c.requires.divided c.requires.inside (omega arith) in
    let fits = c.type_inv.sizes axis in
    omega (arith, within, fits)

pub loop-axis-preserved : goal.loop-axis-preserved
loop-axis-preserved c =
    let parts = c.args.parts.now in
    let numbers = c.args.numbers.now in
    let axis = c.loop-axis.axis in
    let long = numbers_long parts c.args.sizes.now numbers c.requires.divided c.requires.inside in
    let rest = inner_start (drop (axis + 1) parts) (drop (axis + 1) numbers) in
    ap (λ (xs : List ℕ). xs ++ rest) (c.in_ok-push.ensures {u = tt}).items
    ∙ one_more c.loop-axis.start.items (get_or numbers axis 0 * get_or parts axis 0) rest (inner_start (drop axis parts) (drop axis numbers)) (inner_start parts numbers) (start_at parts numbers axis (omega arith) (omega (arith, long))) c.loop-axis.invariant
