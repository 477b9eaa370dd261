use Rattle.std.proofs.Common.{◌≡◌}
use Rattle.zarrs_json.specs.HeaderRead.{header_seen}
use Rattle.zarrs_codecs.specs.PartialDecoder.{decoder_form}
use Rattle.zarrs_c_calls.specs.EachRead.{decoder_value}
use Rattle.zarrs_c_calls.specs.Reads.{form_seen}
use Rattle.zarrs_c_calls.proofs.ManyLemmas.{ReadsOn}
use Rattle.zarrs_c_calls.proofs.many_reads.read_each.Given as goal

-- the answers so far are those of the first selections, and the decoder reads what it did
abbrev pub invariant-loop-size : goal.invariant-loop-size
invariant-loop-size l = record {
  reads : ReadsOn (header_seen l.form) (decoder_value l.fn.decoder) l.sizes l.numbers l.answers.items l.size-index l.left;
  value : decoder_value l.decoder ≡ decoder_value l.fn.decoder;
  form : decoder_form l.decoder ≡ form_seen l.form;
}
