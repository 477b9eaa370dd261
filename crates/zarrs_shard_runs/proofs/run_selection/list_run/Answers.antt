use Rattle.std.proofs.Common.{◌≡◌, ◌-◌, ◌++◌, ℕ, arith, subst}
use Rattle.std.specs.List.{range_with_len}
use Rattle.zarrs_shard_runs.specs.RunSelection.{HavePlaces}
use Rattle.zarrs_shard_runs.proofs.TuplesOfPlaces.{have_more}
use Rattle.zarrs_shard_runs.proofs.run_selection.list_run.Goals as goal

pub loop-place-preserved : goal.loop-place-preserved
loop-place-preserved c = λ places before.
    rw c.in_ok-push.ensures.items
    (have_more c.args.shape.now c.loop-place.tuples.items c.in_ok-tuple.tuple places c.args.start c.loop-place.place c.loop-place.auto.place c.in_ok-tuple.ensures.answer (c.loop-place.invariant places before))

pub returns : goal.returns
returns c =
    let all : c.loop-place.place - c.args.start ≡ c.args.len = omega arith in
    record { places = λ places before. subst (λ (n : ℕ). HavePlaces c.args.shape.now c.loop-place.tuples.items (places ++ range_with_len c.args.start n)) all (c.loop-place.invariant places before) }
