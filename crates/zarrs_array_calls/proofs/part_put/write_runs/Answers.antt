use Rattle.std.proofs.Common.{◌≡◌, ◌+◌, ◌*◌, ◌-◌, get_or, take, drop, sym, ap, ◌∙◌, arith}
use Rattle.zarrs_array_bytes.specs.Update.{with_items_at, with_runs}
use Rattle.zarrs_array_bytes.proofs.RunLemmas.{left_of_runs}
use Rattle.zarrs_array_bytes.proofs.UpdateSteps.{with_runs-step}
use Rattle.zarrs_array_calls.proofs.part_put.write_runs.Goals as goal

pub loop-run-preserved : goal.loop-run-preserved
loop-run-preserved c =
    let i = c.loop-run.run-index in
    let done = c.loop-run.done in
    let new = c.args.elements.now in
    let size = c.args.size in
    let run = get_or c.args.runs.now i (0, 0) in
    let len = run.1 * size in
    let count : done + len - done ≡ len = omega arith in
    let wrote = c.overwrite.ensures.written ∙ ap (λ n. with_items_at c.loop-run.region (run.0 * size) (take n (drop done new))) count in
    record {
      left = omega (arith, left_of_runs size c.args.runs.now i c.loop-run-test.true, c.loop-run.invariant.left);
      told = ap (λ bytes. with_runs size bytes (drop (i + 1) c.args.runs.now) (drop (done + len) new)) wrote
          ∙ sym (with_runs-step size c.loop-run.region c.args.runs.now new i done c.loop-run-test.true) ∙ c.loop-run.invariant.told;
    }

pub slice_bounds-overwrite-end : goal.slice_bounds-overwrite-end
slice_bounds-overwrite-end c =
    omega (arith, left_of_runs c.args.size c.args.runs.now c.loop-run.run-index c.loop-run-test.true, c.loop-run.invariant.left)
