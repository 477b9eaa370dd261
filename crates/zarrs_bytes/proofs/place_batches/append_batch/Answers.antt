use Rattle.std.proofs.Common.{◌∙◌, ◌++◌, ap}
use Rattle.std.proofs.lemmas.Result.{err_from_is_err_and}
use Rattle.zarrs_chunk.specs.Answer.{memory_or_fault, seen}
use Rattle.zarrs_bytes.proofs.BytesAt.{batch_appended, grown}
use Rattle.zarrs_bytes.proofs.Reading.{Excused-weaker}
use Rattle.zarrs_bytes.proofs.place_batches.append_batch.Goals as goal

pub returns-in_err-read_batch-clause-answer : goal.returns-in_err-read_batch-clause-answer
returns-in_err-read_batch-clause-answer g c =
    let p = err_from_is_err_and c.from_residual.result c.from_residual.ensures.1 in
    let e = c.in_err-read_batch.field-0.0 in
    rw (p.1, p.2) (Excused-weaker (memory_or_fault e) (ap (seen (grown c.args.elements.now.items))) c.in_err-read_batch.ensures.answer)

pub returns-clause-answer : goal.returns-clause-answer
returns-clause-answer g c =
    let stored = (g.H.BytesPartialDecoderTraits.state c.args.handle.now).value in
    let read = rw c.in-Some.is at c.in_ok-read_batch.ensures.answer in
    let is = c.in_ok-extend_from_slice-in-Some.ensures.items ∙ ap (λ xs. c.args.elements.now.items ++ xs) c.as_slice.ensures.value in
    batch_appended c.args.size stored c.args.elements.now.items c.in-Some.bytes.items c.extend_from_slice.new.self.items c.args.places.now read is
