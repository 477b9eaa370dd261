use Rattle.std.proofs.Common.{◌+◌, arith, subst, sym}
use Rattle.zarrs_shard_runs.proofs.InnerStarts.{IsStarted, box_axes, next_fits, started_first, started_last, started_leaves, started_next}
use Rattle.zarrs_shard_runs.proofs.inner_boxes.inner_start.Goals as goal

pub loop-axis-init : goal.loop-axis-init
loop-axis-init c = subst (IsStarted c.args.parts.now c.args.sizes.now c.args.starts.now c.args.lengths.now 0 0) (sym (c.in_ok-inside.ensures {u = tt}).items) (started_first c.args.parts.now c.args.sizes.now c.args.starts.now c.args.lengths.now)

pub bounds-starts-axis : goal.bounds-starts-axis
bounds-starts-axis c =
    let axes = (box_axes c.args.parts.now c.args.sizes.now c.args.starts.now c.args.lengths.now c.requires.divided c.requires.inside).starts_axes in
    omega (arith, axes)

pub bounds-lengths-axis : goal.bounds-lengths-axis
bounds-lengths-axis c =
    let axes = (box_axes c.args.parts.now c.args.sizes.now c.args.starts.now c.args.lengths.now c.requires.divided c.requires.inside).lengths_axes in
    omega (arith, axes)

pub bounds-sizes-axis : goal.bounds-sizes-axis
bounds-sizes-axis c =
    let axes = (box_axes c.args.parts.now c.args.sizes.now c.args.starts.now c.args.lengths.now c.requires.divided c.requires.inside).sizes_axes in
    omega (arith, axes)

pub returns-then-lengths-axis-clause-found : goal.returns-then-lengths-axis-clause-found
returns-then-lengths-axis-clause-found c =
    let r = c.requires in
    let l = c.loop-axis in
    sym (started_leaves _ _ _ _ r.divided r.positive r.inside r.filled l.axis (omega arith) l.number l.inside.items l.invariant (omega arith))

pub overflow_mul-number : goal.overflow_mul-number
overflow_mul-number c =
    let r = c.requires in
    let l = c.loop-axis in
    let fits = next_fits _ _ _ _ r.divided r.positive r.inside r.filled l.axis (omega arith) l.number l.inside.items l.invariant (omega arith) r.sizes_positive r.fits in
    omega (arith, fits)

pub overflow_add-number : goal.overflow_add-number
overflow_add-number c =
    let r = c.requires in
    let l = c.loop-axis in
    let fits = next_fits _ _ _ _ r.divided r.positive r.inside r.filled l.axis (omega arith) l.number l.inside.items l.invariant (omega arith) r.sizes_positive r.fits in
    omega (arith, fits)

pub loop-axis-preserved : goal.loop-axis-preserved
loop-axis-preserved c =
    let r = c.requires in
    let l = c.loop-axis in
    let next = started_next _ _ _ _ r.divided r.positive r.inside r.filled l.axis (omega arith) l.number l.inside.items l.invariant (omega arith) in
    subst (IsStarted c.args.parts.now c.args.sizes.now c.args.starts.now c.args.lengths.now (l.axis + 1) _) (sym (c.in_ok-push.ensures {u = tt}).items) next

pub returns-clause-found : goal.returns-clause-found
returns-clause-found c =
    let r = c.requires in
    let l = c.loop-axis in
    (started_last c.args.parts.now c.args.sizes.now c.args.starts.now c.args.lengths.now l.axis l.number l.inside.items r.divided r.inside (omega arith) l.invariant).one_is
