use Rattle.std.proofs.Common.{◌<◌, ◌≤◌, ◌+◌, ◌%◌, arith, refl}
use Rattle.std.proofs.lemmas.Nat.{mod_below}
use Rattle.zarrs_chain_meaning.proofs.InnerChunks.{is_cut}
use Rattle.zarrs_shard_runs.specs.declared.cut_runs.CutRun.{CutRun}
use Rattle.zarrs_shard_runs.proofs.CutSteps.{cells_more, cut-push, is_cut_run}
use Rattle.zarrs_shard_runs.proofs.cut_runs.cut_run.Goals as goal

pub loop-done-preserved : goal.loop-done-preserved
loop-done-preserved c =
    let parts = c.args.parts.now in
    let sizes = c.args.sizes.now in
    let block = c.args.block in
    let cuts = c.loop-done.cuts.items in
    let place = c.args.start + c.loop-done.done in
    let found = c.cell_of-number.result in
    let count = c.min-count.result in
    let it : CutRun = record { number = found.0; start = found.1; len = count; index = c.len.result } in
    let low : place % block < block = mod_below place block c.requires.block.some in
    let stays : place % block + count ≤ block = omega (arith, c.min-count.ensures, low) in
    let some : 0 < count = omega (arith, c.min-count.ensures, low) in
    let within : c.loop-done.done + count ≤ c.args.len = omega (arith, c.min-count.ensures) in
    rw c.in_ok-push.ensures.items (record {
      within = within;
      cells = cells_more parts sizes block c.args.start c.loop-done.done count found.0 found.1 c.args.cuts.now.items cuts it c.requires.block stays c.cell_of-number.ensures.value refl c.loop-done.invariant.cells;
      cut = λ before. cut-push parts sizes cuts it (c.loop-done.invariant.cut before)
          (is_cut_run parts sizes block place count found.0 found.1 it (is_cut parts sizes c.requires.positive c.requires.divided) c.requires.block stays some (omega (arith, within, c.requires.inside)) c.cell_of-number.ensures.value refl refl refl)
          (omega (arith, c.len.ensures));
    })
