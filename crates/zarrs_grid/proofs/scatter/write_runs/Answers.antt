use Rattle.std.proofs.Common.{◌≡◌, ◌≤◌, ◌+◌, ◌-◌, length, get_or, take, drop, sym, ap, ◌∙◌, arith}
use Rattle.std.specs.List.{range_with_len}
use Rattle.std.proofs.lemmas.List.{length-take-le, length-drop}
use Rattle.zarrs_chunk.specs.Runs.{joined_runs}
use Rattle.zarrs_array_bytes.specs.Update.{update}
use Rattle.zarrs_array_bytes.proofs.RunLemmas.{left_of_runs}
use Rattle.zarrs_grid.proofs.RunWrites.{run_written}
use Rattle.zarrs_grid.proofs.scatter.write_runs.Goals as goal

pub overflow_add-done : goal.overflow_add-done
overflow_add-done g c = omega (arith, left_of_runs 1 c.args.runs.now c.loop-run.run-index c.loop-run-test.true, c.loop-run.invariant.left)

pub slice_bounds-copy_to-end : goal.slice_bounds-copy_to-end
slice_bounds-copy_to-end g c = omega (arith, left_of_runs 1 c.args.runs.now c.loop-run.run-index c.loop-run-test.true, c.loop-run.invariant.left)

pub loop-run-preserved : goal.loop-run-preserved
loop-run-preserved g c =
    let i = c.loop-run.run-index in
    let done = c.loop-run.done in
    let whole = c.loop-run.whole in
    let new = c.args.new.now in
    let runs = c.args.runs.now in
    let run = get_or runs i (0, 0) in
    let left = left_of_runs 1 runs i c.loop-run-test.true in
    let count : done + run.1 - done ≡ run.1 = omega arith in
    let enough : run.1 ≤ length (drop done new) = omega (arith, left, c.loop-run.invariant.left, length-drop done new) in
    let given = ap (λ n. update whole (range_with_len run.0 (length (take n (drop done new)))) (take n (drop done new))) count in
    let wrote =
    ◌∙◌ {b = update whole (range_with_len run.0 (length (take run.1 (drop done new)))) (take run.1 (drop done new))} (c.copy_to.ensures.written ∙ given)
    (ap (λ n. update whole (range_with_len run.0 n) (take run.1 (drop done new))) (length-take-le run.1 (drop done new) enough)) in
    record {
      left = omega (arith, left, c.loop-run.invariant.left);
      told = ap (λ xs. update xs (joined_runs (drop (i + 1) runs)) (drop (done + run.1) new)) wrote
          ∙ sym (run_written whole new runs i done c.loop-run-test.true c.loop-run.invariant.left) ∙ c.loop-run.invariant.told;
    }
