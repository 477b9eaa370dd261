use Rattle.std.proofs.Common.{◌≡◌, ◌+◌, ◌*◌, ◌-◌, ◌++◌, get_or, take, drop, length, ap, sym, ◌∙◌, arith, length-append}
use Rattle.zarrs_array_bytes.specs.Pieces.{pieces_at}
use Rattle.zarrs_array_bytes.specs.Update.{with_items_at}
use Rattle.zarrs_array_bytes.proofs.RunLemmas.{left_of_runs}
use Rattle.zarrs_chunk.specs.Runs.{joined_runs}
use Rattle.zarrs_array_calls.proofs.CopiedRuns.{copied_on, copied_all, run_long, run_more}
use Rattle.zarrs_array_calls.proofs.part_take.copy_runs.Goals as goal

pub overflow_add-done : goal.overflow_add-done
overflow_add-done c =
    omega (arith, left_of_runs c.args.size c.args.runs.now c.loop-run.run-index c.loop-run-test.true, c.loop-run.invariant.left)

pub overwrite-requires : goal.overwrite-requires
overwrite-requires c =
    omega (
      arith,
      left_of_runs c.args.size c.args.runs.now c.loop-run.run-index c.loop-run-test.true,
      c.loop-run.invariant.left,
      c.loop-run.auto.elements,
      run_long c.args.size c.args.region.now (get_or c.args.runs.now c.loop-run.run-index (0, 0)) (c.requires.inside c.loop-run.run-index (0, 0) c.loop-run-test.true),
    )

pub loop-run-preserved : goal.loop-run-preserved
loop-run-preserved c =
    let i = c.loop-run.run-index in
    let size = c.args.size in
    let region = c.args.region.now in
    let runs = c.args.runs.now in
    let first = c.args.elements.now in
    let done = c.loop-run.done in
    let run = get_or runs i (0, 0) in
    let len = run.1 * size in
    let part = take (run.0 * size + len - run.0 * size) (drop (run.0 * size) region) in
    let front = pieces_at size region (joined_runs (take i runs)) in
    let more = run_more size region runs i c.loop-run-test.true in
    let long : length part ≡ len = run_long size region run (c.requires.inside i (0, 0) c.loop-run-test.true) in
    let left = left_of_runs size runs i c.loop-run-test.true in
    record {
      left = omega (arith, left, c.loop-run.invariant.left);
      long = ap length more ∙ omega (arith, length-append front part, long, c.loop-run.invariant.long);
      told = c.overwrite.ensures.written ∙ ap (λ bytes. with_items_at bytes done part) c.loop-run.invariant.told
          ∙ copied_on front first part done len c.loop-run.invariant.long long ∙ ap (λ xs. xs ++ drop (done + len) first) (sym more);
    }

pub returns : goal.returns
returns c =
    record {
      written = c.loop-run.invariant.told
          ∙ copied_all c.args.size c.args.region.now c.args.elements.now c.args.runs.now c.loop-run.run-index c.loop-run.done (omega (arith, c.loop-run-test.false)) c.loop-run.invariant.left;
    }
