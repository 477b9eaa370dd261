use Rattle.std.proofs.Common.{◌≡◌, ◌+◌, ◌-◌, ◌++◌, length, take, drop, ap, ◌∙◌, arith, drop-drop}
use Rattle.zarrs_grid.proofs.RunWrites.{copied}
use Rattle.zarrs_grid.proofs.scatter.copy_to.Goals as goal

pub returns-clause-written : goal.returns-clause-written
returns-clause-written g c =
    let old = c.args.whole.now in
    let new = c.args.new.now in
    let at = c.args.at in
    let len : at + length new - at ≡ length new = omega arith in
    ap (λ ys. take at old ++ (ys ++ drop (at + length new - at) (drop at old))) c.copy_from_slice.ensures.after
    ∙ ap (λ n. take at old ++ (new ++ drop n (drop at old))) len
    ∙ ap (λ ys. take at old ++ (new ++ ys)) (drop-drop (length new) at old)
    ∙ copied old new at c.requires.inside
