use Rattle.std.proofs.Common.{◌^◌, get_or, arith}
use Rattle.zarrs_array_bytes.proofs.RunLemmas.{rising_between}
use Rattle.zarrs_plain_vlen.specs.Elements.{element_zeros}
use Rattle.zarrs_plain_vlen.proofs.ElementBytes.{ends_more, start_next, start_fits}
use Rattle.zarrs_plain_vlen.proofs.elements.ends_of_runs.Goals as goal

pub append_ends-requires-clause-fits : goal.append_ends-requires-clause-fits
append_ends-requires-clause-fits c =
    start_fits c.args.offsets.now c.requires.rising c.args.runs.now c.loop-first.first-index c.loop-first.start (2 ^ 64) (omega arith) (c.requires.known c.loop-first.first-index (0, 0) (omega arith)) c.loop-first.invariant.start_so_far c.requires.fits

pub overflow_sub-start : goal.overflow_sub-start
overflow_sub-start c =
    let run = get_or c.args.runs.now c.loop-first.first-index (0, 0) in
    let up = rising_between c.args.offsets.now c.requires.rising run.0 run.1 (c.requires.known c.loop-first.first-index (0, 0) (omega arith)) in
    omega (arith, up)

pub overflow_add-start : goal.overflow_add-start
overflow_add-start c =
    let fits = start_fits c.args.offsets.now c.requires.rising c.args.runs.now c.loop-first.first-index c.loop-first.start (2 ^ 64) (omega arith) (c.requires.known c.loop-first.first-index (0, 0) (omega arith)) c.loop-first.invariant.start_so_far c.requires.fits in
    omega (arith, fits)

pub loop-first-preserved : goal.loop-first-preserved
loop-first-preserved c =
    let known = c.requires.known c.loop-first.first-index (0, 0) (omega arith) in
    let next = start_next c.args.offsets.now c.requires.rising c.args.runs.now c.loop-first.first-index c.loop-first.start (omega arith) known c.loop-first.invariant.start_so_far in
    record {
      ends_so_far = ends_more (element_zeros c.args.offsets.now) c.args.runs.now c.loop-first.first-index c.loop-first.start c.loop-first.ends.items c.append_ends.new.ends.items (omega arith) c.loop-first.invariant.start_so_far c.loop-first.invariant.ends_so_far c.in_ok-append_ends.ensures.ends;
      start_so_far = omega (arith, next);
    }
