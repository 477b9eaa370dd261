use Rattle.std.proofs.Common.{◌≡◌, ◌+◌, ◌-◌, arith}
use Rattle.zarrs_shard_runs.proofs.Blocks.{divided_axes}
use Rattle.zarrs_shard_runs.proofs.CellSteps.{reached_end, reached_next, reached_small, reached_start}
use Rattle.zarrs_shard_runs.proofs.cut_runs.cell_of.Goals as goal

pub loop-axis-init : goal.loop-axis-init
loop-axis-init c = reached_start c.args.parts.now c.args.sizes.now c.args.place c.requires.divided

pub bounds-parts-axis : goal.bounds-parts-axis
bounds-parts-axis c =
    let same = (divided_axes c.args.parts.now c.args.sizes.now c.requires.divided).same in
    omega (arith, same, c.loop-axis.invariant.axes)

pub nonzero_div-number : goal.nonzero_div-number
nonzero_div-number c =
    let same = (divided_axes c.args.parts.now c.args.sizes.now c.requires.divided).same in
    c.requires.positive (c.loop-axis.axis - 1) 0 (omega (arith, same, c.loop-axis.invariant.axes))

pub nonzero_rem-inside : goal.nonzero_rem-inside
nonzero_rem-inside c =
    let same = (divided_axes c.args.parts.now c.args.sizes.now c.requires.divided).same in
    c.requires.positive (c.loop-axis.axis - 1) 0 (omega (arith, same, c.loop-axis.invariant.axes))

pub nonzero_div-chunks : goal.nonzero_div-chunks
nonzero_div-chunks c =
    let same = (divided_axes c.args.parts.now c.args.sizes.now c.requires.divided).same in
    c.requires.positive (c.loop-axis.axis - 1) 0 (omega (arith, same, c.loop-axis.invariant.axes))

pub overflow_mul-number : goal.overflow_mul-number
overflow_mul-number c =
    let l = c.loop-axis in
    let back : l.axis ≡ l.axis - 1 + 1 = omega arith in
    let next = reached_next c.args.parts.now c.args.sizes.now c.args.place l.axis (l.axis - 1) l.rest l.number l.inside l.chunks l.elements c.requires.divided c.requires.sizes_positive back l.invariant in
    let small = reached_small c.args.parts.now c.args.sizes.now c.args.place _ _ _ _ _ _ c.requires.divided c.requires.positive c.requires.sizes_positive next in
    omega (arith, small.number_small, c.requires.fits)

pub overflow_add-number : goal.overflow_add-number
overflow_add-number c =
    let l = c.loop-axis in
    let back : l.axis ≡ l.axis - 1 + 1 = omega arith in
    let next = reached_next c.args.parts.now c.args.sizes.now c.args.place l.axis (l.axis - 1) l.rest l.number l.inside l.chunks l.elements c.requires.divided c.requires.sizes_positive back l.invariant in
    let small = reached_small c.args.parts.now c.args.sizes.now c.args.place _ _ _ _ _ _ c.requires.divided c.requires.positive c.requires.sizes_positive next in
    omega (arith, small.number_small, c.requires.fits)

pub overflow_mul-inside : goal.overflow_mul-inside
overflow_mul-inside c =
    let l = c.loop-axis in
    let back : l.axis ≡ l.axis - 1 + 1 = omega arith in
    let next = reached_next c.args.parts.now c.args.sizes.now c.args.place l.axis (l.axis - 1) l.rest l.number l.inside l.chunks l.elements c.requires.divided c.requires.sizes_positive back l.invariant in
    let small = reached_small c.args.parts.now c.args.sizes.now c.args.place _ _ _ _ _ _ c.requires.divided c.requires.positive c.requires.sizes_positive next in
    omega (arith, small.inside_small, c.requires.fits)

pub overflow_add-inside : goal.overflow_add-inside
overflow_add-inside c =
    let l = c.loop-axis in
    let back : l.axis ≡ l.axis - 1 + 1 = omega arith in
    let next = reached_next c.args.parts.now c.args.sizes.now c.args.place l.axis (l.axis - 1) l.rest l.number l.inside l.chunks l.elements c.requires.divided c.requires.sizes_positive back l.invariant in
    let small = reached_small c.args.parts.now c.args.sizes.now c.args.place _ _ _ _ _ _ c.requires.divided c.requires.positive c.requires.sizes_positive next in
    omega (arith, small.inside_small, c.requires.fits)

pub overflow_mul-chunks : goal.overflow_mul-chunks
overflow_mul-chunks c =
    let l = c.loop-axis in
    let back : l.axis ≡ l.axis - 1 + 1 = omega arith in
    let next = reached_next c.args.parts.now c.args.sizes.now c.args.place l.axis (l.axis - 1) l.rest l.number l.inside l.chunks l.elements c.requires.divided c.requires.sizes_positive back l.invariant in
    let small = reached_small c.args.parts.now c.args.sizes.now c.args.place _ _ _ _ _ _ c.requires.divided c.requires.positive c.requires.sizes_positive next in
    omega (arith, small.chunks_small, c.requires.fits)

pub overflow_mul-elements : goal.overflow_mul-elements
overflow_mul-elements c =
    let l = c.loop-axis in
    let back : l.axis ≡ l.axis - 1 + 1 = omega arith in
    let next = reached_next c.args.parts.now c.args.sizes.now c.args.place l.axis (l.axis - 1) l.rest l.number l.inside l.chunks l.elements c.requires.divided c.requires.sizes_positive back l.invariant in
    let small = reached_small c.args.parts.now c.args.sizes.now c.args.place _ _ _ _ _ _ c.requires.divided c.requires.positive c.requires.sizes_positive next in
    omega (arith, small.elements_small, c.requires.fits)

pub loop-axis-preserved : goal.loop-axis-preserved
loop-axis-preserved c =
    let l = c.loop-axis in
    let back : l.axis ≡ l.axis - 1 + 1 = omega arith in
    reached_next c.args.parts.now c.args.sizes.now c.args.place l.axis (l.axis - 1) l.rest l.number l.inside l.chunks l.elements c.requires.divided c.requires.sizes_positive back l.invariant

pub returns : goal.returns
returns c =
    let l = c.loop-axis in
    let done : l.axis ≡ 0 = omega arith in
    record { value = reached_end c.args.parts.now c.args.sizes.now c.args.place l.axis l.rest l.number l.inside l.chunks l.elements done c.requires.inside l.invariant }
