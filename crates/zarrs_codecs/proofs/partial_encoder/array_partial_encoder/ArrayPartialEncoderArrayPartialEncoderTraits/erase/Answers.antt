use Rattle.std.proofs.Common.{◌&&◌}
use Rattle.zarrs_codec.proofs.WriteLemmas.{written_sure}
use Rattle.zarrs_chain_meaning.specs.Chain.{chain_reads}
use Rattle.zarrs_codecs.specs.PartialEncoder.{encoder_form, encoder_handle}
use Rattle.zarrs_codecs.proofs.SameWriters.{writer_same}
use Rattle.zarrs_codecs.proofs.partial_encoder.array_partial_encoder.ArrayPartialEncoderArrayPartialEncoderTraits.erase.Goals as goal

pub returns-clause-writer_kept : goal.returns-clause-writer_kept
returns-clause-writer_kept g c =
    let was = c.args.self.now in
    let now = c.erase.new.self in
    let before = g.H.BytesPartialDecoderTraits.state (encoder_handle was) in
    let after = g.H.BytesPartialDecoderTraits.state (encoder_handle now) in
    writer_same g.B.BytesToBytesCodecTraits.functions (λ form. (chain_reads g.B.BytesToBytesCodecTraits.reads_in_part form.chain).partial_decode && g.H.BytesPartialDecoderTraits.reads_ranges) (encoder_form now) (encoder_form was) after.sure before.sure
    c.erase.ensures.form_kept (written_sure c.erase.result before after c.erase.ensures.one_write)
