use Rattle.std.proofs.Common.{refl}
use Rattle.std.proofs.lemmas.Result.{err_from_is_err_and}
use Rattle.zarrs_chunk.specs.Answer.{memory}
use Rattle.zarrs_chunk.specs.Indexer.{selection_of}
use Rattle.zarrs_json.specs.HeaderRead.{header_seen}
use Rattle.zarrs_c_calls.specs.Calls.{known_header}
use Rattle.zarrs_c_calls.specs.Buffers.{buffers}
use Rattle.zarrs_c_calls.specs.Reads.{stored_value}
use Rattle.zarrs_c_calls.proofs.WrittenLemmas.{written_due, write_refused}
use Rattle.zarrs_c_calls.proofs.part_writes.write.Goals as goal

pub returns : goal.returns
returns c =
    let edit = c.args.edit.now in
    let stored = stored_value c.args.is_stored c.args.value.now in
    let wrote = c.in_ok-written.ensures.writes in
    record {
      writes = record {
        answer = written_due (known_header c.args.form.now) stored edit.tuples edit.numbers.now (buffers edit.masks.now edit.offsets.now edit.bytes.now) (header_seen c.args.form.now) (selection_of c.in_ok-indexer.indexer) c.in_ok-new.new refl c.in_ok-indexer.ensures.answer c.in_ok-new.ensures.answer _ wrote.answer;
        rest = wrote.rest;
        kept = tt;
      };
    }

pub returns-in_err-written : goal.returns-in_err-written
returns-in_err-written c =
    let edit = c.args.edit.now in
    let stored = stored_value c.args.is_stored c.args.value.now in
    let p = err_from_is_err_and c.from_residual-in_err-written.result c.from_residual-in_err-written.ensures.1 in
    let e = c.in_err-written.field-0.0 in
    let wrote = c.in_err-written.ensures.writes in
    record {
      writes = rw (p.1, p.2) (record {
        answer = write_refused (known_header c.args.form.now) stored edit.tuples edit.numbers.now (buffers edit.masks.now edit.offsets.now edit.bytes.now) (header_seen c.args.form.now) (selection_of c.in_ok-indexer.indexer) c.in_ok-new.new refl c.in_ok-indexer.ensures.answer c.in_ok-new.ensures.answer (memory e) e wrote.answer;
        rest = tt;
        kept = wrote.kept;
      });
    }
