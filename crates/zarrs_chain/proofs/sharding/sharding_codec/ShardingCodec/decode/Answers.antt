use Rattle.std.proofs.Common.{◌<◌, subst}
use Rattle.std.specs.List.{All}
use Rattle.zarrs_data_type.specs.Form.{form_of}
use Rattle.zarrs_array_bytes.specs.Held.{items_of}
use Rattle.zarrs_chain.specs.ChainView.{plain_sharding}
use Rattle.zarrs_chain.proofs.CodecRelations.{codec_decodes}
use Rattle.zarrs_chain.proofs.sharding.sharding_codec.ShardingCodec.decode.Goals as goal

pub returns : goal.returns
returns g c =
    let form = form_of c.args.shape.now c.args.data_type.now c.args.fill_value.now in
    record { decodes = codec_decodes g.B.BytesToBytesCodecTraits.functions (plain_sharding c.args.self.now) form (items_of c.args.value) c.sharding_taken_decode.result c.sharding_is_sound.ensures.mappings (subst (All (λ size. 0 < size)) c.as_slice.ensures.value c.as_slice.ensures.positive) c.sharding_taken_decode.ensures.exact; tight = c.sharding_taken_decode.ensures.tight }
