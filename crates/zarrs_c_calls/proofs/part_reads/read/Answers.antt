use Rattle.std.proofs.Common.{refl}
use Rattle.zarrs_chunk.specs.Indexer.{selection_of}
use Rattle.zarrs_json.specs.HeaderRead.{header_seen}
use Rattle.zarrs_lent_handles.specs.LentHandle.{lent_value}
use Rattle.zarrs_c_calls.specs.Calls.{known_header}
use Rattle.zarrs_c_calls.specs.Reads.{lent_stored}
use Rattle.zarrs_c_calls.proofs.AnswerLemmas.{read_due}
use Rattle.zarrs_c_calls.proofs.part_reads.read.Goals as goal

pub returns : goal.returns
returns c =
    let stored = lent_stored c.args.stored in
    record { answer = read_due (known_header c.args.form.now) stored (lent_value c.new.result) c.args.tuples c.args.numbers.now (header_seen c.args.form.now) (selection_of c.in_ok-indexer.indexer) refl c.in_ok-indexer.ensures.answer c.new.ensures.made c.in_ok-elements.elements c.in_ok-elements.ensures.answer c.in_ok-elements.ensures.tight }
