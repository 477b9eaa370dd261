use Rattle.std.proofs.Common.{◌≡◌, ◌+◌, ◌-◌, arith, get_or}
use Rattle.std.proofs.lemmas.Bool.{eqb-true}
use Rattle.zarrs_shard_runs.proofs.Bands.{all_blocks, band_blocks, next_row, row_start, takes_row}
use Rattle.zarrs_shard_runs.proofs.Blocks.{divided_axes, takes_axis}
use Rattle.zarrs_shard_runs.proofs.block_rows.blocks_of.Goals as goal

pub loop-whole-init : goal.loop-whole-init
loop-whole-init c = row_start c.args.parts.now c.args.sizes.now c.requires.divided

pub bounds-sizes-axis-in-loop-whole : goal.bounds-sizes-axis-in-loop-whole
bounds-sizes-axis-in-loop-whole c =
    let same = (divided_axes c.args.parts.now c.args.sizes.now c.requires.divided).same in
    omega (arith, same, c.loop-whole.invariant.from.axes)

pub bounds-sizes-axis : goal.bounds-sizes-axis
bounds-sizes-axis c =
    let same = (divided_axes c.args.parts.now c.args.sizes.now c.requires.divided).same in
    omega (arith, same, c.loop-whole.invariant.from.axes)

pub overflow_mul-block : goal.overflow_mul-block
overflow_mul-block c =
    let l = c.loop-whole in
    let back : l.axis ≡ l.axis - 1 + 1 = omega arith in
    let takes = takes_axis c.args.parts.now c.args.sizes.now l.axis (l.axis - 1) l.block l.whole c.requires.divided c.requires.sizes_positive back c.loop-whole-test.true l.invariant.from in
    omega (arith, takes.fits, c.requires.fits)

pub overflow_mul-row : goal.overflow_mul-row
overflow_mul-row c =
    let l = c.loop-whole in
    let back : l.axis ≡ l.axis - 1 + 1 = omega arith in
    let takes = takes_row c.args.parts.now c.args.sizes.now l.axis (l.axis - 1) l.row c.requires.divided c.requires.sizes_positive back l.invariant.from.axes l.invariant.row_is in
    omega (arith, takes.row_fits, c.requires.fits)

pub loop-whole-preserved : goal.loop-whole-preserved
loop-whole-preserved c =
    let l = c.loop-whole in
    let back : l.axis ≡ l.axis - 1 + 1 = omega arith in
    next_row c.args.parts.now c.args.sizes.now l.axis (l.axis - 1) l.block l.row l.whole _ c.requires.divided c.requires.positive c.requires.sizes_positive back c.loop-whole-test.true
    (eqb-true (get_or c.args.parts.now (l.axis - 1) 0) (get_or c.args.sizes.now (l.axis - 1) 0)) l.invariant

pub returns-then-axis-eq0 : goal.returns-then-axis-eq0
returns-then-axis-eq0 c =
    let l = c.loop-whole in
    let first : l.axis ≡ 0 = omega arith in
    record { blocks = all_blocks c.args.parts.now c.args.sizes.now l.axis l.block l.row l.whole c.requires.divided c.requires.sizes_positive l.invariant first }

pub overflow_mul-band : goal.overflow_mul-band
overflow_mul-band c =
    let l = c.loop-whole in
    let back : l.axis ≡ l.axis - 1 + 1 = omega arith in
    let takes = takes_row c.args.parts.now c.args.sizes.now l.axis (l.axis - 1) l.row c.requires.divided c.requires.sizes_positive back l.invariant.from.axes l.invariant.row_is in
    omega (arith, takes.band_fits, c.requires.fits)

pub returns : goal.returns
returns c =
    let l = c.loop-whole in
    let back : l.axis ≡ l.axis - 1 + 1 = omega arith in
    record { blocks = band_blocks c.args.parts.now c.args.sizes.now l.axis (l.axis - 1) l.block l.row l.whole c.requires.divided c.requires.positive c.requires.sizes_positive l.invariant back }
