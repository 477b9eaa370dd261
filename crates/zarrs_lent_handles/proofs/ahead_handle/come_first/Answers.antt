use Rattle.std.proofs.Common.{arith, length, sym, take, ◌∙◌}
use Rattle.zarrs_lent_handles.proofs.AheadLemmas.{next_is, ranges_same}
use Rattle.zarrs_lent_handles.proofs.ahead_handle.come_first.Goals as goal

pub returns-then-count-ranges-clause-value : goal.returns-then-count-ranges-clause-value
returns-then-count-ranges-clause-value c = c.eq.ensures ∙ sym (next_is c.args.asked.now c.args.ranges.now (omega arith))

pub returns-then-count-ranges-clause-first : goal.returns-then-count-ranges-clause-first
returns-then-count-ranges-clause-first c = λ e. ranges_same (take (length c.args.asked.now) c.args.ranges.now) c.args.asked.now (sym c.eq.ensures ∙ e)
