use Rattle.std.proofs.lemmas.Result.{err_from_is_err_and}
use Rattle.zarrs_chunk.specs.Answer.{memory}
use Rattle.zarrs_chunk.specs.Indexer.{selection_of}
use Rattle.zarrs_json.specs.HeaderRead.{header_seen}
use Rattle.zarrs_c_calls.specs.BufferHandle.{buffer_bytes}
use Rattle.zarrs_c_calls.specs.Buffers.{buffers}
use Rattle.zarrs_c_calls.specs.EditRuns.{buffer_of}
use Rattle.zarrs_c_calls.proofs.EditLemmas.{edit_due, edit_not_due}
use Rattle.zarrs_c_calls.proofs.edits.make_edit.Goals as goal

pub returns : goal.returns
returns c =
    let edit = c.args.edit.now in
    let before = buffer_bytes (buffer_of c.args.encoder.now) in
    record {
      answer = record {
        made = edit_due (header_seen c.args.form.now) before edit.tuples edit.numbers.now (buffers edit.masks.now edit.offsets.now edit.bytes.now) (selection_of c.in_ok-indexer.indexer) c.in_ok-new.new (buffer_bytes (buffer_of c.write_new.new.encoder)) c.in_ok-indexer.ensures.answer c.in_ok-new.ensures.answer c.in_ok-write_new.ensures.answer;
        kept = tt;
      };
      stored = c.in_ok-write_new.ensures.stored;
      same_reference = c.in_ok-write_new.ensures.same_reference;
      form_kept = c.in_ok-write_new.ensures.form_kept;
    }

pub returns-in_err-write_new : goal.returns-in_err-write_new
returns-in_err-write_new c =
    let edit = c.args.edit.now in
    let before = buffer_bytes (buffer_of c.args.encoder.now) in
    let p = err_from_is_err_and c.from_residual-in_err-write_new.result c.from_residual-in_err-write_new.ensures.1 in
    let e = c.in_err-write_new.field-0.0 in
    record {
      answer = rw (p.1, p.2) (record {
        made = edit_not_due (header_seen c.args.form.now) before edit.tuples edit.numbers.now (buffers edit.masks.now edit.offsets.now edit.bytes.now) (selection_of c.in_ok-indexer.indexer) c.in_ok-new.new c.in_ok-indexer.ensures.answer c.in_ok-new.ensures.answer (memory e) e c.in_err-write_new.ensures.answer;
        kept = c.in_err-write_new.ensures.kept;
      });
      stored = c.in_err-write_new.ensures.stored;
      same_reference = c.in_err-write_new.ensures.same_reference;
      form_kept = c.in_err-write_new.ensures.form_kept;
    }
