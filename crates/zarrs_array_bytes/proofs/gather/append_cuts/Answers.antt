use Rattle.std.proofs.Common.{◌≡◌, ◌^◌, ◌++◌, ℕ, List, length, map, sym, ap, ◌∙◌, arith}
use Rattle.std.specs.List.{range_with_len}
use Rattle.std.proofs.lemmas.Result.{on_ok_weaker}
use Rattle.zarrs_array_bytes.specs.Elements.{cut}
use Rattle.zarrs_array_bytes.specs.Pieces.{ends}
use Rattle.zarrs_array_bytes.proofs.RunLemmas.{run_offsets_behind, run_offsets_fit, ends_of_run}
use Rattle.zarrs_array_bytes.proofs.gather.append_cuts.Goals as goal

pub append_moved-requires-clause-above : goal.append_moved-requires-clause-above
append_moved-requires-clause-above c = run_offsets_behind c.args.offsets.now c.requires.rising c.args.first c.args.count c.requires.inside

pub append_moved-requires-clause-fits : goal.append_moved-requires-clause-fits
append_moved-requires-clause-fits c =
    run_offsets_fit c.args.offsets.now c.requires.rising c.len-start.result c.args.first c.args.count (2 ^ 64) c.requires.inside
    (omega (arith, c.in_ok-extend_from_slice.ensures.len, c.bytes_of_run.ensures.len))

pub returns-clause-bytes : goal.returns-clause-bytes
returns-clause-bytes c =
    on_ok_weaker c.append_moved.result (λ _. c.in_ok-extend_from_slice.ensures.items ∙ ap (λ (xs : List ℕ). c.args.out.now.items ++ xs) c.bytes_of_run.ensures.bytes) c.append_moved.ensures.appended

pub returns-clause-ends : goal.returns-clause-ends
returns-clause-ends c =
    let parts = map (cut c.args.offsets.now c.args.bytes.now) (range_with_len c.args.first c.args.count) in
    let start : length c.args.out.now.items ≡ c.len-start.result = omega arith in
    let moved = ap (λ n. ends n parts) start ∙ ends_of_run c.args.offsets.now c.args.bytes.now c.requires.rising c.requires.ending c.len-start.result c.args.first c.args.count c.requires.inside in
    on_ok_weaker c.append_moved.result (λ e. e ∙ ap (λ (xs : List ℕ). c.args.ends.now.items ++ xs) (sym moved)) c.append_moved.ensures.appended
