use Rattle.std.proofs.Common.{◌∙◌, ◌++◌, ◌-◌, ap}
use Rattle.std.specs.List.{range_with_len}
use Rattle.std.proofs.lemmas.Result.{on_ok_weaker}
use Rattle.zarrs_codec.specs.ByteSpan.{ByteSpan}
use Rattle.zarrs_codec.specs.ByteRanges.{range_indices}
use Rattle.zarrs_plain_vlen.proofs.ElementBytes.{run_planned, run_unplanned}
use Rattle.zarrs_plain_vlen.proofs.elements.plan_run.Goals as goal

pub returns-then-from-to-clause-numbers : goal.returns-then-from-to-clause-numbers
returns-then-from-to-clause-numbers c =
    run_unplanned c.args.start c.args.offsets.now c.args.first c.args.count c.at-from.result c.at-to.result (range_indices c.args.ranges.now.items) c.requires.rising c.requires.known c.at-from.ensures.value c.at-to.ensures.value c.if-from-to.true

pub returns-clause-numbers : goal.returns-clause-numbers
returns-clause-numbers c =
    on_ok_weaker c.push_joined.result
    (λ e. run_planned c.args.start c.args.offsets.now c.args.first c.args.count c.at-from.result c.at-to.result (range_indices c.args.ranges.now.items) (range_indices c.push_joined.new.ranges.items) c.requires.rising c.requires.known c.at-from.ensures.value c.at-to.ensures.value
    (e ∙ ap (λ (s : ByteSpan). range_indices c.args.ranges.now.items ++ range_with_len s.start (s.end - s.start)) c.range_of.ensures.range))
    c.push_joined.ensures.numbers
