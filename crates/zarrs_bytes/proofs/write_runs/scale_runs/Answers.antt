use Rattle.std.proofs.Common.{◌≡◌, ◌∙◌, ◌*◌, ℕ, ap, arith, get_or, set}
use Rattle.zarrs_bytes.proofs.ByteRuns.{run_at, run_scaled}
use Rattle.zarrs_bytes.proofs.write_runs.scale_runs.Goals as goal

pub loop-index-preserved : goal.loop-index-preserved
loop-index-preserved c =
    let old = c.args.runs.now in
    let now = c.loop-index.runs in
    let index = c.loop-index.index in
    let size = c.args.size in
    let same : get_or now index (0, 0) ≡ get_or old index (0, 0) = run_at size old now index (0, 0) (omega arith) c.loop-index.invariant in
    ap (λ (run : ℕ × ℕ). set now index (run.0 * size, run.1 * size)) same
    ∙ run_scaled size old now index (0, 0) (omega arith) c.loop-index.invariant
