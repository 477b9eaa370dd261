-- What is written of a codec makes an equal one.
use Rattle.std.proofs.Common.{◌≡◌, Ok, refl}
use Rattle.zarrs_metadata.specs.CodecMetadata.{codec_metadata}
use Rattle.zarrs_vlen_v2.specs.VlenV2Metadata.{vlen_v2_made, vlen_v2_name, write_vlen_v2}
use Rattle.zarrs_vlen_v2.specs.declared.vlen_v2_codec.VlenV2Codec.{VlenV2Codec}
use Rattle.zarrs_vlen_v2.specs.declared.vlen_v2_codec.VlenV2Codec.TheVariants.{Utf8, Bytes}

pub codecs_made_again : (codec : VlenV2Codec) → vlen_v2_made (codec_metadata (vlen_v2_name codec) write_vlen_v2) ≡ Ok codec
codecs_made_again Utf8 = refl
codecs_made_again Bytes = refl
