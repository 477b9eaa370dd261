use Rattle.std.proofs.Common.{rules, ◌≡◌, ◌-◌, [], Ok, length, get_or, drop, arith, sym, ap, ◌∙◌}
use Rattle.std.specs.List.{range_with_len}
use Rattle.std.proofs.lemmas.List.{drop_all}
use Rattle.zarrs_array_bytes.specs.Elements.{cut}
use Rattle.zarrs_array_bytes.specs.Update.{with_parts}
use Rattle.zarrs_array_bytes.proofs.RunLemmas.{left_of_runs}
use Rattle.zarrs_array_bytes.proofs.Stretches.{with_parts_is}
use Rattle.zarrs_array_bytes.proofs.Splices.{spliced, spliced_step, rising_more, cuts_update-spliced}
use Rattle.zarrs_array_bytes.proofs.splice.splice_cuts.Goals as goal

pub overflow_sub-start : goal.overflow_sub-start
overflow_sub-start c = (rising_more c.loop-run.at c.args.runs.now c.loop-run.run-index c.loop-run-test.true c.loop-run.invariant.rising).0

pub append_cuts-requires-in-loop-run-clause-inside : goal.append_cuts-requires-in-loop-run-clause-inside
append_cuts-requires-in-loop-run-clause-inside c =
    omega (arith, left_of_runs 1 c.args.runs.now c.loop-run.run-index c.loop-run-test.true, c.loop-run.invariant.left)

pub loop-run-preserved : goal.loop-run-preserved
loop-run-preserved c =
    let i = c.loop-run.run-index in
    let at = c.loop-run.at in
    let done = c.loop-run.done in
    let runs = c.args.runs.now in
    let run = get_or runs i (0, 0) in
    let f = cut c.args.old_offsets.now c.args.old.now in
    let g = cut c.args.new_offsets.now c.args.new.now in
    let first = with_parts_is f (range_with_len at (run.0 - at)) c.loop-run.bytes.items c.loop-run.ends.items c.append_cuts.new.out.items c.append_cuts.new.ends.items c.in_ok-append_cuts.ensures.bytes c.in_ok-append_cuts.ensures.ends in
    let second = with_parts_is g (range_with_len done run.1) c.append_cuts.new.out.items c.append_cuts.new.ends.items c.append_cuts-in-loop-run.new.out.items c.append_cuts-in-loop-run.new.ends.items c.in_ok-append_cuts-2.ensures.bytes c.in_ok-append_cuts-2.ensures.ends in
    record {
      told = spliced_step f g (length c.args.old_offsets.now - 1) at done runs i c.loop-run.bytes.items c.loop-run.ends.items c.append_cuts.new.out.items c.append_cuts.new.ends.items
          c.append_cuts-in-loop-run.new.out.items c.append_cuts-in-loop-run.new.ends.items c.loop-run-test.true first second ∙ c.loop-run.invariant.told;
      rising = (rising_more at runs i c.loop-run-test.true c.loop-run.invariant.rising).1;
      inside = c.requires.inside i (0, 0) c.loop-run-test.true;
      left = omega (arith, left_of_runs 1 runs i c.loop-run-test.true, c.loop-run.invariant.left);
    }

pub returns : goal.returns
returns c =
    let runs = c.args.runs.now in
    let os = c.args.old_offsets.now in
    let n = length os - 1 in
    let f = cut os c.args.old.now in
    let g = cut c.args.new_offsets.now c.args.new.now in
    let last = with_parts_is f (range_with_len c.loop-run.at (n - c.loop-run.at)) c.loop-run.bytes.items c.loop-run.ends.items c.append_cuts-2.new.out.items c.append_cuts-2.new.ends.items c.in_ok-append_cuts-3.ensures.bytes c.in_ok-append_cuts-3.ensures.ends in
    let none : drop c.loop-run.run-index runs ≡ [] = drop_all c.loop-run.run-index runs (omega arith) in
    let is = cuts_update-spliced os c.args.old.now c.args.new_offsets.now c.args.new.now runs c.requires.enough c.requires.rising c.requires.inside
    ∙ sym c.loop-run.invariant.told
    ∙ ap (λ rs. with_parts (c.loop-run.bytes.items, c.loop-run.ends.items) (spliced f g n c.loop-run.at c.loop-run.done rs)) none
    ∙ sym last in
    record { exact = record { is = ap Ok is; no_fault = search rules } }
