use Rattle.std.proofs.Common.{◌≡◌, ◌≤◌, ◌-◌, ℕ, List, length, arith, sym, subst, ap, ◌∙◌}
use Rattle.std.specs.List.{flat_map}
use Rattle.zarrs_chunk.specs.Answer.{Answers, memory_or_fault}
use Rattle.zarrs_chunk.specs.AnswerLaws.{found_from}
use Rattle.zarrs_chunk.specs.Runs.{joined_runs}
use Rattle.zarrs_codec.specs.ByteRanges.{range_indices, bytes_in_ranges}
use Rattle.zarrs_codec.specs.ByteSpan.{ByteSpan}
use Rattle.zarrs_codec.specs.StorageState.{value_or_empty}
use Rattle.zarrs_bytes.proofs.Coding.{ok}
use Rattle.zarrs_chain_meaning.proofs.ArraySteps.{ok_is}
use Rattle.zarrs_plain_vlen.specs.Elements.{element_zeros}
use Rattle.zarrs_plain_vlen.specs.VlenRead.{element_numbers}
use Rattle.zarrs_plain_vlen.proofs.ElementReads.{unread, all_there, ranges_inside, read, read_long}
use Rattle.std.specs.Prelude.{OnOk}
use Rattle.zarrs_codec.specs.Calls.{after_reads}
use Rattle.zarrs_plain_vlen.specs.ReadingCalls.{calls_for}
use Rattle.zarrs_plain_vlen.proofs.CallCounts.{calls_for_bytes}
use Rattle.zarrs_plain_vlen.proofs.elements.read_bytes.Goals as goal

pub returns-then-not-are_there-clause-answer : goal.returns-then-not-are_there-clause-answer
returns-then-not-are_there-clause-answer g c =
    let value = value_or_empty (g.H.BytesPartialDecoderTraits.state c.args.handle.now).value in
    let content = c.args.content in
    let size = c.end.result - c.start-start.result in
    let sized : size ≡ content.end - content.start = omega (arith, c.end.ensures.value, c.start-start.ensures.value) in
    let ordered : content.start ≤ content.end = omega (arith, c.end.ensures.ordered, c.end.ensures.value) in
    λ _. unread value content c.args.offsets.now c.args.runs.now size sized ordered c.requires.inside (sym c.if-not-are_there.ensures.value)

pub plan_runs-requires-clause-there : goal.plan_runs-requires-clause-there
plan_runs-requires-clause-there g c =
    let value = value_or_empty (g.H.BytesPartialDecoderTraits.state c.args.handle.now).value in
    let content = c.args.content in
    let size = c.end.result - c.start-start.result in
    let sized : size ≡ content.end - content.start = omega (arith, c.end.ensures.value, c.start-start.ensures.value) in
    let ordered : content.start ≤ content.end = omega (arith, c.end.ensures.ordered, c.end.ensures.value) in
    all_there value content c.args.offsets.now c.args.runs.now size sized ordered c.requires.inside (sym c.if-not-are_there.ensures.value)

pub read_inside-requires-clause-inside : goal.read_inside-requires-clause-inside
read_inside-requires-clause-inside g c =
    let value = value_or_empty (g.H.BytesPartialDecoderTraits.state c.args.handle.now).value in
    let content = c.args.content in
    let runs = c.args.runs.now in
    let size = c.end.result - c.start-start.result in
    let sized : size ≡ content.end - content.start = omega (arith, c.end.ensures.value, c.start-start.ensures.value) in
    let ordered : content.start ≤ content.end = omega (arith, c.end.ensures.ordered, c.end.ensures.value) in
    let there = all_there value content c.args.offsets.now runs size sized ordered c.requires.inside (sym c.if-not-are_there.ensures.value) in
    let numbers : range_indices c.in_ok-ranges.ranges.items ≡ element_numbers content.start c.args.offsets.now (joined_runs runs) = c.in_ok-ranges.ensures.numbers ∙ ap (λ (s : ℕ). element_numbers s c.args.offsets.now (joined_runs runs)) c.start-start.ensures.value in
    rw c.as_slice.ensures.value (ranges_inside value content c.args.offsets.now runs size sized ordered c.requires.inside c.in_ok-ranges.ranges.items there numbers c.in_ok-ranges.ensures.filled)

pub returns-clause-answer : goal.returns-clause-answer
returns-clause-answer g c =
    let value = value_or_empty (g.H.BytesPartialDecoderTraits.state c.args.handle.now).value in
    let content = c.args.content in
    let runs = c.args.runs.now in
    let size = c.end.result - c.start-start.result in
    let sized : size ≡ content.end - content.start = omega (arith, c.end.ensures.value, c.start-start.ensures.value) in
    let ordered : content.start ≤ content.end = omega (arith, c.end.ensures.ordered, c.end.ensures.value) in
    let there = all_there value content c.args.offsets.now runs size sized ordered c.requires.inside (sym c.if-not-are_there.ensures.value) in
    let numbers : range_indices c.in_ok-ranges.ranges.items ≡ element_numbers content.start c.args.offsets.now (joined_runs runs) = c.in_ok-ranges.ensures.numbers ∙ ap (λ (s : ℕ). element_numbers s c.args.offsets.now (joined_runs runs)) c.start-start.ensures.value in
    let is = read value content c.args.offsets.now runs size sized ordered c.requires.inside c.in_ok-ranges.ranges.items there numbers c.in_ok-ranges.ensures.filled in
    subst (λ r. Answers memory_or_fault (λ bytes. bytes.items) c.read_inside.result r)
    (ap (λ (rs : List ByteSpan). ok (bytes_in_ranges value rs)) c.as_slice.ensures.value ∙ sym is)
    c.read_inside.ensures.answer

pub returns-clause-lengths : goal.returns-clause-lengths
returns-clause-lengths g c =
    let value = value_or_empty (g.H.BytesPartialDecoderTraits.state c.args.handle.now).value in
    let content = c.args.content in
    let runs = c.args.runs.now in
    let size = c.end.result - c.start-start.result in
    let sized : size ≡ content.end - content.start = omega (arith, c.end.ensures.value, c.start-start.ensures.value) in
    let ordered : content.start ≤ content.end = omega (arith, c.end.ensures.ordered, c.end.ensures.value) in
    let there = all_there value content c.args.offsets.now runs size sized ordered c.requires.inside (sym c.if-not-are_there.ensures.value) in
    let numbers : range_indices c.in_ok-ranges.ranges.items ≡ element_numbers content.start c.args.offsets.now (joined_runs runs) = c.in_ok-ranges.ensures.numbers ∙ ap (λ (s : ℕ). element_numbers s c.args.offsets.now (joined_runs runs)) c.start-start.ensures.value in
    let long = read_long value content c.args.offsets.now runs size sized ordered c.requires.inside c.in_ok-ranges.ranges.items there numbers c.in_ok-ranges.ensures.filled in
    found_from memory_or_fault (λ bytes. bytes.items) c.read_inside.result (ok (bytes_in_ranges value c.as_slice.result.now)) (λ (items : List ℕ). length items ≡ length (flat_map (element_zeros c.args.offsets.now) (joined_runs runs))) c.read_inside.ensures.answer
    (λ items e. ap length (sym (ok_is (bytes_in_ranges value c.as_slice.result.now) items e) ∙ ap (λ (rs : List ByteSpan). bytes_in_ranges value rs) c.as_slice.ensures.value) ∙ long)

pub returns-clause-counted : goal.returns-clause-counted
returns-clause-counted g c =
    let D = g.H.BytesPartialDecoderTraits in
    let content = c.args.content in
    let runs = c.args.runs.now in
    let ranges = c.in_ok-ranges.ranges.items in
    let numbers : range_indices ranges ≡ element_numbers content.start c.args.offsets.now (joined_runs runs) = c.in_ok-ranges.ensures.numbers ∙ ap (λ (s : ℕ). element_numbers s c.args.offsets.now (joined_runs runs)) c.start-start.ensures.value in
    let all = ap (λ (rs : List ByteSpan). calls_for rs) c.as_slice.ensures.value ∙ calls_for_bytes ranges c.in_ok-ranges.ensures.filled ∙ ap (λ (ns : List ℕ). calls_for ns) numbers in
    subst (λ (n : ℕ). OnOk c.read_inside.result (D.calls c.read_inside.new.handle ≡ after_reads n (D.calls c.args.handle.now))) all c.read_inside.ensures.counted
