use Rattle.std.proofs.Common.{rules, ◌≡◌, ◌+◌, refl, take, slice_index}
use Rattle.std.specs.List.{between}
use Rattle.zarrs_shard_bytes.proofs.LentRuns.{cuts_given, end_there, first_ones, run_taken}
use Rattle.zarrs_shard_bytes.proofs.lent_run.lent_cuts.Goals as goal

pub slice_bounds-t-35-end : goal.slice_bounds-t-35-end
slice_bounds-t-35-end c = end_there c.args.offsets.now c.args.bytes.now c.args.first c.args.count c.requires.rising c.requires.ending c.requires.inside

pub returns-in_err-new : goal.returns-in_err-new
returns-in_err-new c =
    let ends : c.in_ok-ends.ends.items ≡ between c.args.first (c.args.first + c.args.count + 1) c.args.offsets.now = search rules in
    absurd (run_taken c.args.offsets.now c.in_ok-ends.ends.items c.args.first c.args.count c.in_err-new.field-0.0 c.requires.rising c.requires.inside ends c.in_err-new.ensures.answer)

pub returns : goal.returns
returns c =
    let end = slice_index c.args.offsets.now (c.args.first + c.args.count) in
    let ends : c.in_ok-ends.ends.items ≡ between c.args.first (c.args.first + c.args.count + 1) c.args.offsets.now = search rules in
    record { answer = cuts_given c.args.offsets.now c.args.bytes.now c.in_ok-ends.ends.items (take end c.args.bytes.now) c.args.first c.args.count c.new_vlen.result c.requires.rising c.requires.ending c.requires.inside ends (first_ones c.args.bytes.now end end refl) (search rules) }
