use Rattle.std.proofs.Common.{◌≡◌, ◌<◌, ◌+◌, ◌*◌, ◌^◌, ℕ, List, get_or, drop, length, arith, sym, subst}
use Rattle.std.proofs.lemmas.Bool.Decides.{nat_tests}
use Rattle.zarrs_chain_meaning.specs.sharding.Sharding.{Span, spans_of}
use Rattle.zarrs_chunk.specs.Runs.{joined_runs}
use Rattle.zarrs_codecs.proofs.GroupWalks.{next_at, next_is, span_at}
use Rattle.zarrs_codecs.proofs.JointReads.{one_counted, ranges_end, ranges_go_on}
use Rattle.zarrs_codecs.specs.JointReads.{AddsSpan}
use Rattle.zarrs_codecs.proofs.sharding.joint_reads.group_ranges.Goals as goal

pub append_group-requires-clause-count : goal.append_group-requires-clause-count
append_group-requires-clause-count g c =
    let groups = c.args.groups.now in
    let index = c.loop-group.group-index in
    let it = c.group-item.result in
    let under : index < length groups = grind (arith, nat_tests) in
    let next = next_at groups index it under c.group-item.is in
    let one = one_counted groups index it (drop (index + 1) groups) next in
    let few : length (joined_runs it.runs.items) < 2 ^ 64 = omega (arith, one, c.requires.groups.counted) in
    subst (λ rs. length (joined_runs rs) < 2 ^ 64) (sym c.as_slice-runs.ensures.value) few

pub loop-group-preserved : goal.loop-group-preserved
loop-group-preserved g c =
    let taken = c.args.taken.now in
    let groups = c.args.groups.now in
    let numbers = c.args.numbers.now in
    let spans = spans_of numbers in
    let index = c.loop-group.group-index in
    let it = c.group-item.result in
    let under : index < length groups = grind (arith, nat_tests) in
    let next = next_at groups index it under c.group-item.is in
    let inside : it.number < length spans = next_is (λ it. it.number < length spans) groups index it (drop (index + 1) groups) next c.requires.groups.there in
    let at : get_or spans it.number (0, 0) ≡ (get_or numbers (it.number * 2) 0, get_or numbers (it.number * 2 + 1) 0) = span_at numbers it.number (omega (arith, inside, c.requires.numbers)) in
    ranges_go_on taken c.args.span.now numbers groups index it c.loop-group.ranges.items c.append_group.new.ranges.items next c.loop-group.invariant
    (subst (λ (p : Span). AddsSpan taken c.args.span.now p it.runs.items c.loop-group.ranges.items c.append_group.new.ranges.items) (sym at)
    (subst (λ (rs : List (ℕ × ℕ)). AddsSpan taken c.args.span.now (get_or numbers (it.number * 2) 0, get_or numbers (it.number * 2 + 1) 0) rs c.loop-group.ranges.items c.append_group.new.ranges.items) c.as_slice-runs.ensures.value ((c.in_ok-append_group.ensures {u = tt}).added c.if-not-branch.false)))

pub returns-clause-ranges : goal.returns-clause-ranges
returns-clause-ranges g c =
    ranges_end c.args.taken.now c.args.span.now c.args.numbers.now c.args.groups.now c.loop-group.group-index c.loop-group.ranges.items c.loop-group.invariant
