use Rattle.std.proofs.Common.{◌≡◌, ◌∙◌, ap, arith, subst, Some, ℕ, List, Result, length}
use Rattle.std.specs.Prelude.{OnOk}
use Rattle.zarrs_chunk.specs.Answer.{Answers, memory_or_fault}
use Rattle.zarrs_chunk.specs.declared.codec_error.CodecError.{CodecError}
use Rattle.zarrs_codec.specs.BytePieces.{pieces_fit, with_pieces}
use Rattle.zarrs_chunk.specs.Runs.{joined_runs}
use Rattle.zarrs_codec.specs.Calls.{after_write}
use Rattle.zarrs_codec.specs.StorageState.{value_or_empty}
use Rattle.zarrs_bytes.proofs.ByteRuns.{byte_runs-numbers, byte_runs-ready, byte_runs-written}
use Rattle.zarrs_bytes.proofs.write_runs.put_runs.Goals as goal

pub returns-clause-answer : goal.returns-clause-answer
returns-clause-answer g c =
    let bytes = c.args.bytes.now in
    let ready = byte_runs-ready c.args.size c.args.runs.now (length bytes) c.requires.ends c.requires.enough (omega arith) in
    subst (λ (fits : Result (Unit {0}) CodecError). Answers memory_or_fault (λ done. done) c.partial_encode_many.result fits) (ap (λ pieces. pieces_fit pieces (length bytes)) c.scale_runs.ensures.scaled ∙ ready) c.partial_encode_many.ensures.answer

pub returns-clause-written : goal.returns-clause-written
returns-clause-written g c =
    let bytes = c.args.bytes.now in
    let value = value_or_empty (g.H.BytesPartialDecoderTraits.state c.args.handle.now).value in
    let written = byte_runs-written c.args.size c.args.runs.now value bytes c.requires.sized c.requires.filled in
    subst (λ (left : List ℕ). OnOk c.partial_encode_many.result ((g.H.BytesPartialDecoderTraits.state c.partial_encode_many.new.self).value ≡ Some left)) (ap (λ pieces. with_pieces value pieces bytes) c.scale_runs.ensures.scaled ∙ written) c.partial_encode_many.ensures.written

pub returns-clause-counted : goal.returns-clause-counted
returns-clause-counted g c =
    let H = g.H.BytesPartialDecoderTraits in
    let numbers = ap joined_runs c.scale_runs.ensures.scaled ∙ byte_runs-numbers c.args.size c.args.runs.now in
    subst (λ (ns : List ℕ). H.calls c.partial_encode_many.new.self ≡ after_write c.partial_encode_many.result ns (H.calls c.args.handle.now)) numbers c.partial_encode_many.ensures.counted
