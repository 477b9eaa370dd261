use Rattle.std.proofs.Common.{◌∙◌, ◌≡◌, ℕ, map, subst}
use Rattle.zarrs_chunk.specs.Runs.{joined_runs}
use Rattle.zarrs_codec.specs.ByteRanges.{range_indices}
use Rattle.zarrs_bytes.specs.PartialRead.{place_bytes, place_size}
use Rattle.zarrs_bytes.specs.PlannedRanges.{element_span, spans}
use Rattle.zarrs_bytes.proofs.Ranges.{plan_of_runs, ranges_sum}
use Rattle.zarrs_bytes.proofs.bytes_codec.BytesCodec.planned_runs.Goals as goal

bytes_are : (c : goal.In_ok-ranges) → range_indices c.in_ok-ranges.ranges.items ≡ place_bytes (place_size c.args.data_type.now) (joined_runs c.args.runs.now)
bytes_are c = c.in_ok-ranges.ensures.bytes ∙ (λ i. place_bytes (c.element_size-size.ensures.size i) (joined_runs c.args.runs.now))

pub returns-clause-sum : goal.returns-clause-sum
returns-clause-sum c = ranges_sum (place_size c.args.data_type.now) (joined_runs c.args.runs.now) c.in_ok-ranges.ranges.items (bytes_are c)

pub returns-clause-plan : goal.returns-clause-plan
returns-clause-plan c = λ apart.
    let each : spans c.in_ok-ranges.ranges.items ≡ map (element_span (place_size c.args.data_type.now)) c.args.runs.now
    = subst (λ (n : ℕ). spans c.in_ok-ranges.ranges.items ≡ map (element_span n) c.args.runs.now) c.element_size-size.ensures.size c.in_ok-ranges.ensures.each in
    plan_of_runs (place_size c.args.data_type.now) c.args.runs.now c.in_ok-ranges.ranges.items c.requires.filled apart each (bytes_are c)
