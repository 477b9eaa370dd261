use Rattle.std.proofs.Common.{◌^◌, ◌++◌, ◌+◌, ◌-◌, ℕ, List, map, sym, ap, ◌∙◌}
use Rattle.std.specs.List.{between}
use Rattle.std.proofs.lemmas.Result.{on_ok_weaker}
use Rattle.zarrs_array_bytes.proofs.RunLemmas.{run_offsets_behind, run_offsets_fit}
use Rattle.zarrs_plain_vlen.proofs.ElementBytes.{blank_ends}
use Rattle.zarrs_plain_vlen.proofs.elements.append_ends.Goals as goal

pub append_moved-requires-clause-above : goal.append_moved-requires-clause-above
append_moved-requires-clause-above c = rw c.at-from.ensures.value (run_offsets_behind c.args.offsets.now c.requires.rising c.args.first c.args.count c.requires.known)

pub append_moved-requires-clause-fits : goal.append_moved-requires-clause-fits
append_moved-requires-clause-fits c = rw c.at-from.ensures.value (run_offsets_fit c.args.offsets.now c.requires.rising c.args.start c.args.first c.args.count (2 ^ 64) c.requires.known c.requires.fits)

pub returns : goal.returns
returns c =
    let moved = blank_ends c.args.offsets.now c.requires.rising c.args.start c.args.first c.args.count c.requires.known in
    let part = between (c.args.first + 1) (c.args.first + c.args.count + 1) c.args.offsets.now in
    let from_first = ap (λ (from : ℕ). c.args.ends.now.items ++ map (λ offset. offset - from + c.args.start) part) c.at-from.ensures.value in
    record { ends = on_ok_weaker c.append_moved.result (λ e. e ∙ from_first ∙ ap (λ (xs : List ℕ). c.args.ends.now.items ++ xs) (sym moved)) c.append_moved.ensures.appended }
