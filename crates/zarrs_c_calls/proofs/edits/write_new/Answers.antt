use Rattle.std.proofs.Common.{◌≡◌, ℕ, Bool, List, Option, Some, OnErr, true, refl, ap, subst}
use Rattle.zarrs_chunk.specs.Answer.{Answers, memory, seen}
use Rattle.zarrs_chunk.specs.Indexer.{selection_of}
use Rattle.zarrs_codecs.specs.PartialEncoder.{encoder_form}
use Rattle.zarrs_json.specs.KnownBytesCodec.{known_codecs}
use Rattle.zarrs_codecs.proofs.MadeCoders.{written_made}
use Rattle.zarrs_c_calls.specs.BufferHandle.{buffer_bytes, buffer_is_stored, buffer_name, buffer_state}
use Rattle.zarrs_c_calls.specs.EditRuns.{buffer_of}
use Rattle.zarrs_c_calls.specs.Reads.{form_seen, stored_value}
use Rattle.zarrs_c_calls.specs.Writes.{known_written}
use Rattle.zarrs_c_calls.proofs.EditLemmas.{bytes_kept, bytes_left, same_name, stored_after, write_quiet}
use Rattle.zarrs_c_calls.proofs.edits.write_new.Goals as goal

pub returns : goal.returns
returns c =
    let chunk = form_seen c.args.form.now in
    let old = buffer_of c.args.encoder.now in
    let left = buffer_of c.partial_encode.new.self in
    let r = c.partial_encode.result in
    let selection = selection_of c.args.indexer.now in
    let new = c.args.new.now in
    let flag = buffer_is_stored left in
    let bytes = buffer_bytes left in
    let before = buffer_bytes old in
    let stored : (buffer_state old).value ≡ Some before = ap (λ (f : Bool). stored_value f before) c.requires.stored in
    let written : Answers memory (λ _. stored_value flag bytes) r (seen (λ value. Some value) (known_written chunk (Some before) selection new)) =
    written_made known_codecs chunk (encoder_form c.args.encoder.now) (Some before) (buffer_state old).value (buffer_state left).value (buffer_state left).value selection new r c.requires.form stored c.requires.represented
    (write_quiet _ r old left c.partial_encode.ensures.left.refused) c.partial_encode.ensures.edits.exact refl in
    let kept : OnErr r (true ≡ true → stored_value flag bytes ≡ stored_value true before) = subst (λ (v : Option (List ℕ)). OnErr r (true ≡ true → (buffer_state left).value ≡ v)) stored c.partial_encode.ensures.left.kept_if_atomic in
    record {
      answer = bytes_left flag bytes r (known_written chunk (Some before) selection new) written;
      kept = bytes_kept flag bytes before r kept;
      same_reference = same_name (buffer_name left) (buffer_name old) c.partial_encode.ensures.left.same_reference;
      stored = stored_after flag bytes before r (known_written chunk (Some before) selection new) written kept;
      form_kept = c.partial_encode.ensures.left.form_kept;
    }
