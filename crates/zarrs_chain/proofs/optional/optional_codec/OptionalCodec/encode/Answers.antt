use Rattle.std.proofs.Common.{◌<◌, subst}
use Rattle.std.specs.List.{All}
use Rattle.zarrs_data_type.specs.Form.{form_of}
use Rattle.zarrs_chain.specs.ChainView.{plain_optional}
use Rattle.zarrs_chain.proofs.CodecRelations.{codec_encodes}
use Rattle.zarrs_chain.proofs.optional.optional_codec.OptionalCodec.encode.Goals as goal

pub returns : goal.returns
returns g c =
    let form = form_of c.args.shape.now c.args.data_type.now c.args.fill_value.now in
    record { encodes = codec_encodes g.B.BytesToBytesCodecTraits.functions (plain_optional c.args.self.now) form c.args.elements c.optional_taken_encode.result c.optional_is_sound.ensures.mappings (subst (All (λ size. 0 < size)) c.as_slice.ensures.value c.as_slice.ensures.positive) c.optional_taken_encode.ensures.answer }
