use Rattle.std.proofs.Common.{◌&&◌}
use Rattle.zarrs_codec.proofs.WriteLemmas.{keeps_sure}
use Rattle.zarrs_chain_meaning.specs.Chain.{chain_reads}
use Rattle.zarrs_codecs.specs.PartialEncoder.{encoder_form, encoder_handle}
use Rattle.zarrs_codecs.proofs.SameWriters.{writer_same}
use Rattle.zarrs_codecs.proofs.partial_encoder.array_partial_encoder.ArrayPartialEncoderArrayPartialEncoderTraits.partial_encode.Goals as goal

pub returns-clause-left : goal.returns-clause-left
returns-clause-left g c =
    let was = c.args.self.now in
    let now = c.partial_encode.new.self in
    let before = g.H.BytesPartialDecoderTraits.state (encoder_handle was) in
    let after = g.H.BytesPartialDecoderTraits.state (encoder_handle now) in
    let left = c.partial_encode.ensures.left in
    record {
      one_write = left.one_write;
      refused = left.refused;
      kept_if_atomic = left.kept_if_atomic;
      unharmed = left.unharmed;
      same_reference = left.same_reference;
      form_kept = writer_same g.B.BytesToBytesCodecTraits.functions (λ form. (chain_reads g.B.BytesToBytesCodecTraits.reads_in_part form.chain).partial_decode && g.H.BytesPartialDecoderTraits.reads_ranges) (encoder_form now) (encoder_form was) after.sure before.sure
          left.form_kept (keeps_sure c.partial_encode.result before after left.one_write left.refused);
    }
