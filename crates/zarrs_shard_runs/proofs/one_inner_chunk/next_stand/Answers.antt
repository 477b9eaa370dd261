use Rattle.std.proofs.Common.{◌≡◌, ◌+◌, arith, subst}
use Rattle.zarrs_shard_runs.specs.BlockRows.{StandsAt}
use Rattle.zarrs_shard_runs.proofs.Stands.{below_inside, stands_below}
use Rattle.zarrs_shard_runs.proofs.one_inner_chunk.next_stand.Goals as goal

pub overflow_add-result : goal.overflow_add-result
overflow_add-result c =
    let from = c.args.from in
    let below : c.args.place ≡ from.place + c.args.blocks.row = omega arith in
    let inside = below_inside c.args.parts.now c.args.sizes.now c.args.blocks from c.args.place c.requires.divided c.requires.positive c.requires.sizes_positive c.requires.blocks c.requires.known (omega arith) below c.requires.inside in
    omega (arith, inside, c.requires.fits)

pub returns-then-place-from-2 : goal.returns-then-place-from-2
returns-then-place-from-2 c =
    let from = c.args.from in
    let below : c.args.place ≡ from.place + c.args.blocks.row = omega arith in
    record { stand = stands_below c.args.parts.now c.args.sizes.now c.args.blocks from c.args.place c.requires.blocks c.requires.known (omega arith) below }

pub returns-then-place-from-3 : goal.returns-then-place-from-3
returns-then-place-from-3 c =
    let from = c.args.from in
    let same : from.place ≡ c.args.place = omega arith in
    record { stand = subst (λ place. StandsAt c.args.parts.now c.args.sizes.now c.args.blocks place from) same c.requires.known }
