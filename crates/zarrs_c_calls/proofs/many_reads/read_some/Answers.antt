use Rattle.std.proofs.Common.{ap}
use Rattle.zarrs_chunk.specs.Answer.{fault, memory}
use Rattle.zarrs_json.specs.HeaderRead.{header_seen}
use Rattle.zarrs_json.specs.KnownBytesCodec.{known_codecs, known_reads}
use Rattle.zarrs_codecs.proofs.MadeCoders.{no_fault, read_unmade}
use Rattle.zarrs_lent_handles.specs.LentHandle.{lent_value}
use Rattle.zarrs_c_calls.specs.Reads.{form_seen}
use Rattle.zarrs_c_calls.proofs.ManyLemmas.{first_refused}
use Rattle.zarrs_c_calls.proofs.many_reads.read_some.Goals as goal

pub returns-in-Err : goal.returns-in-Err
returns-in-Err c =
    let error = c.in-Err.refused.error in
    let stored = lent_value c.args.handle in
    record {
      answer = first_refused (header_seen c.args.form.now) stored c.args.sizes.now c.args.numbers.now (memory error) error c.requires.first
          (λ selection. read_unmade known_codecs known_reads (form_seen c.args.form.now) stored selection error (no_fault (fault error) (ap (λ s. s.faults) c.in-Err.ensures.handed_left)) c.in-Err.ensures.answer);
    }
