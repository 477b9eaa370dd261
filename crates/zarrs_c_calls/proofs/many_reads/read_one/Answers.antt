use Rattle.std.proofs.Common.{IfOk, refl, ap, subst}
use Rattle.zarrs_chunk.specs.Answer.{is_fault}
use Rattle.zarrs_chunk.specs.Indexer.{selection_of}
use Rattle.zarrs_array_bytes.specs.Tight.{IsTight}
use Rattle.zarrs_json.specs.KnownBytesCodec.{known_codecs, known_reads}
use Rattle.zarrs_codecs.specs.ChunkSource.{source_made}
use Rattle.zarrs_codecs.specs.PartialDecoder.{decoder_form}
use Rattle.zarrs_codecs.proofs.MadeCoders.{no_fault, read_made}
use Rattle.zarrs_json.specs.Header.{HeaderForm}
use Rattle.zarrs_c_calls.specs.EachRead.{decoder_value}
use Rattle.zarrs_c_calls.specs.Reads.{form_seen}
use Rattle.zarrs_c_calls.proofs.ManyLemmas.{ok_of}
use Rattle.zarrs_c_calls.proofs.many_reads.read_one.Goals as goal

pub returns : goal.returns
returns c =
    let chunk = form_seen c.args.form.now in
    let old = c.args.decoder.now in
    let value = decoder_value old in
    let source = ok_of (source_made known_codecs known_reads chunk value) c.requires.sourced in
    record {
      answer = read_made known_codecs known_reads chunk (decoder_form old) value value (selection_of c.args.indexer.now) c.partial_decode.result source.0 c.requires.form refl source.1
          (no_fault (is_fault c.partial_decode.result) (ap (λ s. s.faults) c.partial_decode.ensures.left.left)) c.partial_decode.ensures.reads.exact;
      tight = subst (λ (form : HeaderForm). IfOk c.partial_decode.result (IsTight form.type)) c.requires.form c.partial_decode.ensures.tight;
      value_kept = ap (λ s. s.value) c.partial_decode.ensures.left.left;
      form_kept = c.partial_decode.ensures.left.form_kept;
    }
