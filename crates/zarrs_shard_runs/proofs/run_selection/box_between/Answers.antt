use Rattle.std.proofs.Common.{◌≡◌, ◌<◌, ℕ, List, length, ap, arith}
use Rattle.zarrs_chunk.proofs.Inside.{is_tuple_inside-length}
use Rattle.zarrs_shard_runs.proofs.TuplesOfPlaces.{index_small}
use Rattle.zarrs_shard_runs.proofs.run_selection.box_between.Goals as goal

pub bounds-last-axis : goal.bounds-last-axis
bounds-last-axis c =
    let last = is_tuple_inside-length c.args.shape.now c.args.last.now c.requires.there in
    let first = is_tuple_inside-length c.args.shape.now c.args.first.items c.requires.known in
    let starts : length c.as_slice-starts.result.now ≡ length c.args.first.items = ap (λ (xs : List ℕ). length xs) c.as_slice-starts.ensures.value in
    omega (arith, last, first, starts)

pub overflow_add-high : goal.overflow_add-high
overflow_add-high c =
    let first = is_tuple_inside-length c.args.shape.now c.args.first.items c.requires.known in
    let starts : length c.as_slice-starts.result.now ≡ length c.args.first.items = ap (λ (xs : List ℕ). length xs) c.as_slice-starts.ensures.value in
    let here : c.loop-axis.axis < length c.args.shape.now = omega (arith, first, starts) in
    let small = index_small c.args.shape.now c.as_slice.result.now c.args.last.now c.loop-axis.axis c.as_slice.ensures.value c.as_slice.ensures.positive c.requires.counted c.requires.there here in
    omega (arith, small)
