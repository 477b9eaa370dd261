use Rattle.std.proofs.Common.{◌<◌, subst}
use Rattle.std.specs.List.{All}
use Rattle.zarrs_data_type.specs.Form.{form_of}
use Rattle.zarrs_chain.specs.ChainView.{plain_sharding}
use Rattle.zarrs_chain.proofs.CodecRelations.{codec_encodes}
use Rattle.zarrs_chain.proofs.sharding.sharding_codec.ShardingCodec.encode.Goals as goal

pub returns : goal.returns
returns g c =
    let form = form_of c.args.shape.now c.args.data_type.now c.args.fill_value.now in
    record { encodes = codec_encodes g.B.BytesToBytesCodecTraits.functions (plain_sharding c.args.self.now) form c.args.elements c.sharding_taken_encode.result c.sharding_is_sound.ensures.mappings (subst (All (λ size. 0 < size)) c.as_slice.ensures.value c.as_slice.ensures.positive) c.sharding_taken_encode.ensures.answer }
