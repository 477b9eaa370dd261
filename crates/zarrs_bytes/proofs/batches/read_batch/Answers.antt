use Rattle.std.proofs.Common.{◌≡◌, ◌∙◌, List, Option, Result, ℕ, ap, map, subst}
use Rattle.zarrs_chunk.specs.Runs.{joined_runs}
use Rattle.zarrs_chunk.specs.declared.codec_error.CodecError.{CodecError}
use Rattle.zarrs_codec.specs.ByteRanges.{range_indices, read_ranges}
use Rattle.zarrs_codec.specs.HandleCalls.{ReadsBytes}
use Rattle.zarrs_codec.specs.StorageState.{are_sure}
use Rattle.zarrs_bytes.proofs.BytesAt.{ranges_read}
use Rattle.zarrs_bytes.proofs.CallCounts.{one_read}
use Rattle.zarrs_codec.specs.ByteSpan.{ByteSpan}
use Rattle.zarrs_codec.specs.Calls.{after_ranges}
use Rattle.zarrs_codec.proofs.CallLemmas.{ranges_asked}
use Rattle.zarrs_bytes.specs.AskedRanges.{ranges_of_runs}
use Rattle.zarrs_bytes.specs.PlannedRanges.{element_span}
use Rattle.zarrs_bytes.proofs.AskedCalls.{ranges_by_spans}
use Rattle.zarrs_bytes.proofs.batches.read_batch.Goals as goal

pub returns-clause-answer : goal.returns-clause-answer
returns-clause-answer g c =
    let stored = (g.H.BytesPartialDecoderTraits.state c.args.handle.now).value in
    let is = ap (read_ranges stored) c.as_slice.ensures.value ∙ ranges_read c.args.size stored (joined_runs c.args.runs.now) c.in_ok-ranges.ranges.items c.requires.sized c.in_ok-ranges.ensures.bytes c.in_ok-ranges.ensures.filled in
    subst (λ (expected : Result (Option (List ℕ)) CodecError). ReadsBytes c.partial_decode_many.result expected) is c.partial_decode_many.ensures.answer

pub returns-clause-sure : goal.returns-clause-sure
returns-clause-sure g c = λ h.
    let sure = (g.H.BytesPartialDecoderTraits.state c.args.handle.now).sure in
    c.partial_decode_many.ensures.sure (ap (are_sure sure) (ap range_indices c.as_slice.ensures.value ∙ c.in_ok-ranges.ensures.bytes) ∙ h)

pub returns-clause-counted : goal.returns-clause-counted
returns-clause-counted g c =
    let D = g.H.BytesPartialDecoderTraits in
    one_read c.partial_decode_many.result (D.calls c.args.handle.now) (D.calls c.partial_decode_many.new.self) c.partial_decode_many.ensures.counted

pub returns-clause-asked : goal.returns-clause-asked
returns-clause-asked g c =
    let D = g.H.BytesPartialDecoderTraits in
    let r = c.partial_decode_many.result in
    let runs = c.args.runs.now in
    let is : c.as_slice.result.now ≡ ranges_of_runs c.args.size runs
    = c.as_slice.ensures.value ∙ ranges_by_spans c.in_ok-ranges.ranges.items (map (element_span c.args.size) runs) c.in_ok-ranges.ensures.each in
    ranges_asked r (ranges_of_runs c.args.size runs) (D.asked c.args.handle.now) (D.asked c.partial_decode_many.new.self) (c.partial_decode_many.ensures.asked ∙ ap (λ (rs : List ByteSpan). after_ranges r rs (D.asked c.args.handle.now)) is)
