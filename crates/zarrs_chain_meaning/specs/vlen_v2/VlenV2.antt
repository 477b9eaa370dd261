-- The codecs `vlen-utf8` and `vlen-bytes`: what they mean, elements of any length, each behind its length, and how they are written as metadata.
use Rattle.zarrs_chain_meaning.specs.Meaning.{Meaning, leaf_meaning}
use Rattle.zarrs_chain_meaning.specs.MetadataFacts.{MetadataFacts}
use Rattle.zarrs_vlen_v2.specs.VlenV2Codec.{vlen_v2_represented, prefixed_value, vlen_v2_chunk, VlenV2Stands, VlenV2Written}
use Rattle.zarrs_vlen_v2.specs.VlenV2Metadata.{vlen_v2_name, write_vlen_v2}
use Rattle.zarrs_vlen_v2.specs.declared.vlen_v2_codec.VlenV2Codec.{VlenV2Codec}

-- what `vlen-utf8` means, or `vlen-bytes`
abbrev pub vlen_v2_meaning : {B : Type 0} → VlenV2Codec → Meaning B
vlen_v2_meaning codec =
    leaf_meaning (λ type element. element) (vlen_v2_represented codec) (λ form. prefixed_value) (vlen_v2_chunk codec) (VlenV2Stands codec) (VlenV2Written codec)

-- the name of the two and the configuration, which has no settings
abbrev pub vlen_v2_metadata_facts : {B : Type 0} → VlenV2Codec → MetadataFacts B
vlen_v2_metadata_facts codec = record {
  name = vlen_v2_name codec;
  configuration = λ described. write_vlen_v2;
  Ranges = Unit {0};
  Outer = λ P. Unit {0};
}
