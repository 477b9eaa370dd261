use Rattle.std.proofs.Common.{◌≡◌, ◌∙◌, List, ap, map, sym, Ok, length}
use Rattle.std.proofs.lemmas.Result.{err_from_is_err_and}
use Rattle.zarrs_chunk.specs.Answer.{memory_or_fault}
use Rattle.zarrs_chunk.specs.declared.codec_error.CodecError.{CodecError}
use Rattle.zarrs_bytes.proofs.Reading.{Excused-weaker}
use Rattle.zarrs_packbits.specs.Packing.{packing}
use Rattle.zarrs_codec.specs.ByteSpan.{ByteSpan}
use Rattle.zarrs_codec.specs.Calls.{after_asking}
use Rattle.zarrs_codec.proofs.CallLemmas.{ranges_asked}
use Rattle.zarrs_bytes.proofs.AskedCalls.{ranges_by_spans}
use Rattle.zarrs_packbits.specs.ReadPlan.{packed_ranges, run_bits, run_span}
use Rattle.zarrs_packbits.proofs.FlatRead.{are_runs-from}
use Rattle.zarrs_packbits.proofs.RunLemmas.{runs_read, runs_read_len, finished_runs, sure_runs}
use Rattle.zarrs_packbits.proofs.runs.read_runs.Goals as goal

pub returns-in_err-bytes-clause-answer : goal.returns-in_err-bytes-clause-answer
returns-in_err-bytes-clause-answer g c =
    let l = c.args.layout.now in
    let runs = c.args.runs.now in
    let rs = c.in_ok-ranges.ranges.items in
    let are = are_runs-from l.elements runs c.requires.filled c.requires.below in
    let through = runs_read l (g.H.BytesPartialDecoderTraits.state c.args.handle.now).value c.args.fill.now runs rs c.as_slice.result.now c.requires.layout are (sym c.in_ok-ranges.ensures.spans) c.as_slice.ensures.value in
    let p = err_from_is_err_and c.from_residual-in_err-bytes.result c.from_residual-in_err-bytes.ensures.1 in
    rw (p.1, p.2) (Excused-weaker (memory_or_fault c.in_err-bytes.field-0.0) (λ h. through ∙ ap (finished_runs l c.args.fill.now runs) h) c.in_err-bytes.ensures.answer)

pub returns-in_err-bytes-clause-sure : goal.returns-in_err-bytes-clause-sure
returns-in_err-bytes-clause-sure g c =
    let l = c.args.layout.now in
    let runs = c.args.runs.now in
    let rs = c.in_ok-ranges.ranges.items in
    let are = are_runs-from l.elements runs c.requires.filled c.requires.below in
    let p = err_from_is_err_and c.from_residual-in_err-bytes.result c.from_residual-in_err-bytes.ensures.1 in
    λ h. rw (p.1, p.2) (c.in_err-bytes.ensures.sure (sure_runs (g.H.BytesPartialDecoderTraits.state c.args.handle.now).sure l runs rs c.as_slice.result.now c.requires.layout are (sym c.in_ok-ranges.ensures.spans) c.as_slice.ensures.value h))

pub unpack_runs-requires-clause-len : goal.unpack_runs-requires-clause-len
unpack_runs-requires-clause-len g c =
    let l = c.args.layout.now in
    let runs = c.args.runs.now in
    let rs = c.in_ok-ranges.ranges.items in
    let read = rw c.in-Some.is at c.in_ok-bytes.ensures.answer in
    ap length c.as_slice-in-Some.ensures.value
    ∙ runs_read_len l (g.H.BytesPartialDecoderTraits.state c.args.handle.now).value c.in-Some.bytes.items runs rs c.as_slice.result.now (sym c.in_ok-ranges.ensures.spans) c.as_slice.ensures.value read

pub returns-in-Some-clause-answer : goal.returns-in-Some-clause-answer
returns-in-Some-clause-answer g c =
    let l = c.args.layout.now in
    let runs = c.args.runs.now in
    let rs = c.in_ok-ranges.ranges.items in
    let are = are_runs-from l.elements runs c.requires.filled c.requires.below in
    let through = runs_read l (g.H.BytesPartialDecoderTraits.state c.args.handle.now).value c.args.fill.now runs rs c.as_slice.result.now c.requires.layout are (sym c.in_ok-ranges.ensures.spans) c.as_slice.ensures.value in
    let read = rw c.in-Some.is at c.in_ok-bytes.ensures.answer in
    through ∙ ap (finished_runs l c.args.fill.now runs) read ∙ ap (λ b. Ok (packing (run_bits l b runs))) (sym c.as_slice-in-Some.ensures.value)
    ∙ ap Ok (sym c.in_ok-unpack_runs-in-Some.ensures.value)

pub returns-in-Some-clause-asked : goal.returns-in-Some-clause-asked
returns-in-Some-clause-asked g c =
    let D = g.H.BytesPartialDecoderTraits in
    let l = c.args.layout.now in
    let runs = c.args.runs.now in
    let is : c.as_slice.result.now ≡ packed_ranges l runs
    = c.as_slice.ensures.value ∙ ranges_by_spans c.in_ok-ranges.ranges.items (map (run_span l) runs) (sym c.in_ok-ranges.ensures.spans) in
    ranges_asked {E = CodecError} {T = Unit {0}} (Ok tt) c.as_slice.result.now (D.asked c.args.handle.now) _ c.in_ok-bytes.ensures.asked ∙ ap (λ (rs : List ByteSpan). after_asking rs (D.asked c.args.handle.now)) is

pub returns-clause-asked : goal.returns-clause-asked
returns-clause-asked g c =
    let D = g.H.BytesPartialDecoderTraits in
    let l = c.args.layout.now in
    let runs = c.args.runs.now in
    let is : c.as_slice.result.now ≡ packed_ranges l runs
    = c.as_slice.ensures.value ∙ ranges_by_spans c.in_ok-ranges.ranges.items (map (run_span l) runs) (sym c.in_ok-ranges.ensures.spans) in
    ranges_asked {E = CodecError} {T = Unit {0}} (Ok tt) c.as_slice.result.now (D.asked c.args.handle.now) _ c.in_ok-bytes.ensures.asked ∙ ap (λ (rs : List ByteSpan). after_asking rs (D.asked c.args.handle.now)) is
