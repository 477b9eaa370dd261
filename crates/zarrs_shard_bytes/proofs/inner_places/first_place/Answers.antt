use Rattle.std.proofs.Common.{◌≡◌, ◌+◌, ◌-◌, arith}
use Rattle.zarrs_shard_bytes.proofs.InnerPlaces.{axes_are, reached_end, reached_next, reached_small, reached_start}
use Rattle.zarrs_shard_bytes.proofs.inner_places.first_place.Goals as goal

pub loop-axis-init : goal.loop-axis-init
loop-axis-init c = reached_start c.args.parts.now c.args.sizes.now c.args.counts.now c.args.number c.requires.there

pub bounds-parts-axis : goal.bounds-parts-axis
bounds-parts-axis c =
    let axes = axes_are c.args.parts.now c.args.sizes.now c.args.counts.now c.args.number c.requires.there in
    omega (arith, axes.0, axes.1, c.loop-axis.invariant.axes)

pub bounds-sizes-axis : goal.bounds-sizes-axis
bounds-sizes-axis c =
    let axes = axes_are c.args.parts.now c.args.sizes.now c.args.counts.now c.args.number c.requires.there in
    omega (arith, axes.0, axes.1, c.loop-axis.invariant.axes)

pub overflow_mul-place : goal.overflow_mul-place
overflow_mul-place c =
    let back : c.loop-axis.axis ≡ c.loop-axis.axis - 1 + 1 = omega arith in
    let small = reached_small c.args.parts.now c.args.sizes.now c.args.counts.now c.args.number c.loop-axis.axis (c.loop-axis.axis - 1) c.loop-axis.rest c.loop-axis.step c.loop-axis.place c.requires.there back c.loop-axis.invariant in
    omega (arith, small.part_small)

pub overflow_mul-place-in-loop-axis : goal.overflow_mul-place-in-loop-axis
overflow_mul-place-in-loop-axis c =
    let back : c.loop-axis.axis ≡ c.loop-axis.axis - 1 + 1 = omega arith in
    let small = reached_small c.args.parts.now c.args.sizes.now c.args.counts.now c.args.number c.loop-axis.axis (c.loop-axis.axis - 1) c.loop-axis.rest c.loop-axis.step c.loop-axis.place c.requires.there back c.loop-axis.invariant in
    omega (arith, small.row_small)

pub overflow_add-place : goal.overflow_add-place
overflow_add-place c =
    let back : c.loop-axis.axis ≡ c.loop-axis.axis - 1 + 1 = omega arith in
    let small = reached_small c.args.parts.now c.args.sizes.now c.args.counts.now c.args.number c.loop-axis.axis (c.loop-axis.axis - 1) c.loop-axis.rest c.loop-axis.step c.loop-axis.place c.requires.there back c.loop-axis.invariant in
    omega (arith, small.place_small)

pub overflow_mul-step : goal.overflow_mul-step
overflow_mul-step c =
    let back : c.loop-axis.axis ≡ c.loop-axis.axis - 1 + 1 = omega arith in
    let small = reached_small c.args.parts.now c.args.sizes.now c.args.counts.now c.args.number c.loop-axis.axis (c.loop-axis.axis - 1) c.loop-axis.rest c.loop-axis.step c.loop-axis.place c.requires.there back c.loop-axis.invariant in
    omega (arith, small.step_small)

pub loop-axis-preserved : goal.loop-axis-preserved
loop-axis-preserved c =
    let back : c.loop-axis.axis ≡ c.loop-axis.axis - 1 + 1 = omega arith in
    reached_next c.args.parts.now c.args.sizes.now c.args.counts.now c.args.number c.loop-axis.axis (c.loop-axis.axis - 1) c.loop-axis.rest c.loop-axis.step c.loop-axis.place c.requires.there back c.loop-axis.invariant

pub returns : goal.returns
returns c =
    let done : c.loop-axis.axis ≡ 0 = omega arith in
    record { value = reached_end c.args.parts.now c.args.sizes.now c.args.counts.now c.args.number c.loop-axis.axis c.loop-axis.rest c.loop-axis.step c.loop-axis.place c.requires.there done c.loop-axis.invariant }
