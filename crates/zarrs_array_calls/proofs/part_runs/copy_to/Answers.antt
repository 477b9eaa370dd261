use Rattle.std.proofs.Common.{◌≡◌, ◌+◌, ◌-◌, ◌++◌, length, take, drop, ap, ◌∙◌, arith, drop-drop}
use Rattle.zarrs_array_calls.proofs.part_runs.copy_to.Goals as goal

pub returns : goal.returns
returns c =
    let old = c.args.bytes.now in
    let new = c.args.new.now in
    let at = c.args.at in
    let len : at + length new - at ≡ length new = omega arith in
    record {
      written = ap (λ ys. take at old ++ (ys ++ drop (at + length new - at) (drop at old))) c.copy_from_slice.ensures.after
          ∙ ap (λ n. take at old ++ (new ++ drop n (drop at old))) len
          ∙ ap (λ ys. take at old ++ (new ++ ys)) (drop-drop (length new) at old);
    }
