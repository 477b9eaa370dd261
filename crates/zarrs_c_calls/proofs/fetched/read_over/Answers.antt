use Rattle.std.proofs.Common.{IfOk, Result, sym, subst}
use Rattle.zarrs_chunk.specs.Answer.{memory_or_fault}
use Rattle.zarrs_chunk.specs.declared.codec_error.CodecError.{CodecError}
use Rattle.zarrs_array_bytes.specs.Held.{Held}
use Rattle.zarrs_array_bytes.specs.Tight.{IsTight}
use Rattle.zarrs_json.specs.HeaderRead.{header_seen}
use Rattle.zarrs_c_calls.specs.Fetched.{ReadsSurelyInPart}
use Rattle.zarrs_c_calls.specs.Reads.{ReadsForm}
use Rattle.zarrs_c_calls.proofs.fetched.read_over.Goals as goal

pub returns : goal.returns
returns g c =
    let form = c.args.form.now in
    let state = g.H.BytesPartialDecoderTraits.state c.args.handle in
    let same = sym c.handed_on.ensures.same in
    record {
      answer = subst (λ (r : Result Held CodecError). ReadsForm memory_or_fault form state.value c.args.indexer.now r) same c.read_handle.ensures.answer;
      tight = subst (λ (r : Result Held CodecError). IfOk r (IsTight (header_seen form).data_type)) same c.read_handle.ensures.tight;
      sure = subst (λ (r : Result Held CodecError). ReadsSurelyInPart form state c.args.indexer.now r) same c.read_handle.ensures.sure;
    }
