use Rattle.std.proofs.Common.{◌<◌, subst}
use Rattle.std.specs.List.{All}
use Rattle.zarrs_data_type.specs.Form.{form_of}
use Rattle.zarrs_chain.specs.ChainView.{plain_sharding}
use Rattle.zarrs_chain.proofs.EncodedAgain.{codec_encodes_again}
use Rattle.zarrs_chain.proofs.sharding.sharding_codec_traits.ShardingCodecArrayToBytesCodecTraits.encode.Goals as goal

pub returns-clause-decoded_again : goal.returns-clause-decoded_again
returns-clause-decoded_again g c =
    codec_encodes_again g.B.BytesToBytesCodecTraits.functions (plain_sharding c.args.self.now) (form_of c.args.shape.now c.args.data_type.now c.args.fill_value.now) c.args.elements c.encode.result g.met.B.BytesToBytesCodecTraits.lawful c.sharding_is_sound.ensures.mappings (subst (All (λ size. 0 < size)) c.as_slice.ensures.value c.as_slice.ensures.positive) c.elements_are_bytes.ensures.bytes (record { is = c.encode.ensures.encodes.exact; no_fault = c.encode.ensures.encodes.no_fault })
