-- What the codecs `vlen-utf8` and `vlen-bytes` state of chunks.
use Rattle.zarrs_codec.specs.Grammar.{Grammar}
use Rattle.zarrs_vlen_v2.specs.VlenV2Codec.{VlenV2Stands, VlenV2Written, vlen_v2_value, vlen_v2_chunk}
use Rattle.zarrs_vlen_v2.specs.declared.vlen_v2_codec.VlenV2Codec.{VlenV2Codec}

-- what the codecs state of chunks: for which a value stands, which value is written, what calls answer
abbrev pub vlen_v2_grammar : VlenV2Codec → Grammar
vlen_v2_grammar codec = record {
  Stands = VlenV2Stands codec;
  Written = VlenV2Written codec;
  value = vlen_v2_value codec;
  chunk = vlen_v2_chunk codec;
}
