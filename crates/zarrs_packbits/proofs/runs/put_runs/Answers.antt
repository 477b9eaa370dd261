use Rattle.std.proofs.Common.{◌≡◌, ℕ, ◌+◌, ◌*◌, get_or, arith}
use Rattle.zarrs_packbits.proofs.runs.put_runs.Goals as goal
use Rattle.zarrs_packbits.proofs.RunLemmas.{run_within, run_parts, run_some}

pub overflow_mul-offset-in-loop-start : goal.overflow_mul-offset-in-loop-start
overflow_mul-offset-in-loop-start c =
    let l = c.args.layout.now in
    let rs = c.args.runs.now in
    let i = c.loop-start.start-index in
    let r : ℕ × ℕ = get_or rs i (0, 0) in
    let some = c.requires.filled i (0, 0) (omega arith) in
    let within = c.requires.below i (0, 0) (omega arith) in
    omega (arith, run_within l r.0 r.1 within, run_some l r.0 r.1 c.requires.layout some, c.requires.layout.bits_fit c.requires.in_part)

pub overflow_mul-len : goal.overflow_mul-len
overflow_mul-len c =
    let l = c.args.layout.now in
    let rs = c.args.runs.now in
    let i = c.loop-start.start-index in
    let r : ℕ × ℕ = get_or rs i (0, 0) in
    let some = c.requires.filled i (0, 0) (omega arith) in
    let within = c.requires.below i (0, 0) (omega arith) in
    omega (arith, run_parts l r.0 r.1 c.requires.layout within)

pub put_components-requires-clause-at : goal.put_components-requires-clause-at
put_components-requires-clause-at c =
    let l = c.args.layout.now in
    let rs = c.args.runs.now in
    let i = c.loop-start.start-index in
    let r : ℕ × ℕ = get_or rs i (0, 0) in
    let some = c.requires.filled i (0, 0) (omega arith) in
    let within = c.requires.below i (0, 0) (omega arith) in
    let e : (r.0 + r.1) * (l.group * l.count) ≡ r.0 * (l.group * l.count) + r.1 * l.group * l.count = omega arith in
    omega (arith, run_within l r.0 r.1 within, c.requires.layout.bits_fit c.requires.in_part)
