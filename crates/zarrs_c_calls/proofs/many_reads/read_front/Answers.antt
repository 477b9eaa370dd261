use Rattle.zarrs_chunk.specs.Indexer.{selection_of}
use Rattle.zarrs_json.specs.HeaderRead.{header_seen}
use Rattle.zarrs_c_calls.specs.EachRead.{decoder_value}
use Rattle.zarrs_c_calls.proofs.ManyLemmas.{front_due}
use Rattle.zarrs_c_calls.proofs.many_reads.read_front.Goals as goal

pub returns-clause-answer : goal.returns-clause-answer
returns-clause-answer c =
    front_due (header_seen c.args.form.now) (decoder_value c.args.decoder.now) c.args.size.now c.args.numbers.now (selection_of c.in_ok-indexer.indexer) c.in_ok-indexer.ensures.answer c.in_ok-elements.elements c.in_ok-elements.ensures.answer c.in_ok-elements.ensures.tight
