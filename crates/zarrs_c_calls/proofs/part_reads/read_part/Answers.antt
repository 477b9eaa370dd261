use Rattle.std.proofs.Common.{◌≡◌, IfOk, ap, subst}
use Rattle.zarrs_chunk.specs.Answer.{is_fault, fault}
use Rattle.zarrs_chunk.specs.Indexer.{selection_of}
use Rattle.zarrs_array_bytes.specs.Tight.{IsTight}
use Rattle.zarrs_json.specs.HeaderRead.{header_seen}
use Rattle.zarrs_codecs.specs.PartialDecoder.{decoder_form, handle_of, decoder_source}
use Rattle.zarrs_json.specs.KnownBytesCodec.{known_codecs, known_reads}
use Rattle.zarrs_codecs.proofs.MadeCoders.{no_fault, read_made, read_unmade}
use Rattle.zarrs_json.specs.Header.{HeaderForm, header_form}
use Rattle.zarrs_lent_handles.specs.LentHandle.{lent_value}
use Rattle.zarrs_c_calls.proofs.part_reads.read_part.Goals as goal

pub returns-in-Err : goal.returns-in-Err
returns-in-Err c =
    let chunk = header_form (header_seen c.args.form.now) in
    record {
      answer = read_unmade known_codecs known_reads chunk (lent_value c.args.handle) (selection_of c.args.indexer.now) c.in-Err.refused.error
          (no_fault (fault c.in-Err.refused.error) (ap (λ s. s.faults) c.in-Err.ensures.handed_left)) c.in-Err.ensures.answer;
      tight = tt;
      no_fault = no_fault (fault c.in-Err.refused.error) (ap (λ s. s.faults) c.in-Err.ensures.handed_left);
    }

pub returns-in-Ok : goal.returns-in-Ok
returns-in-Ok c =
    let chunk = header_form (header_seen c.args.form.now) in
    let value = lent_value c.args.handle in
    let over : lent_value (handle_of c.in-Ok.decoder) ≡ value = ap (λ s. s.value) c.in-Ok.ensures.over_state in
    record {
      answer = read_made known_codecs known_reads chunk (decoder_form c.in-Ok.decoder) value (lent_value (handle_of c.in-Ok.decoder)) (selection_of c.args.indexer.now) c.partial_decode.result (decoder_source c.in-Ok.decoder value) c.in-Ok.ensures.form over c.in-Ok.ensures.answer
          (no_fault (is_fault c.partial_decode.result) (ap (λ s. s.faults) c.partial_decode.ensures.left.left)) c.partial_decode.ensures.reads.exact;
      no_fault = no_fault (is_fault c.partial_decode.result) (ap (λ s. s.faults) c.partial_decode.ensures.left.left);
      tight = subst (λ (form : HeaderForm). IfOk c.partial_decode.result (IsTight form.type)) c.in-Ok.ensures.form c.partial_decode.ensures.tight;
    }
