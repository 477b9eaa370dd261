-- Chains of codecs as the plain chains that contracts speak of.
-- Source: zarrs, `CodecChain`.
use Rattle.std.specs.Prelude.{◌≡◌, ℕ, List, map, Vec}
use Rattle.std.proofs.Common.{ap}
use Rattle.std.specs.declared.alloc.Global.{Global}
use Rattle.std.specs.declared.boxed.Box.{Box}
use Rattle.zarrs_metadata.specs.declared.codec.sharding.ShardingIndexLocation.{ShardingIndexLocation}
use Rattle.zarrs_metadata.specs.declared.codec.vlen.VlenIndexDataType.{VlenIndexDataType}
use Rattle.zarrs_metadata.specs.declared.codec.vlen.VlenIndexLocation.{VlenIndexLocation}
use Rattle.zarrs_array_to_array.specs.Mapping.{mapping_of}
use Rattle.zarrs_chain_meaning.specs.sharding.ShardingSettings.{is_index_at_end}
use Rattle.zarrs_chain_meaning.specs.vlen.VlenSettings.{is_wide, is_at_end}
use Rattle.zarrs_chain_meaning.specs.CodecMeaning.{PlainCodec, bytes_codec, packbits_codec, vlen_v2_codec, vlen_codec, optional_codec, sharding_codec, PlainChain, vlen_codec_of, optional_codec_of, sharding_codec_of}
use Rattle.zarrs_chain.specs.declared.array_to_bytes_codec.ArrayToBytesCodec.{ArrayToBytesCodec}
use Rattle.zarrs_chain.specs.declared.array_to_bytes_codec.ArrayToBytesCodec.TheVariants.{Bytes, PackBits, VlenV2, Vlen, Optional, Sharding}
use Rattle.zarrs_chain.specs.declared.codec_chain.CodecChain.{CodecChain}
use Rattle.zarrs_chain.specs.declared.optional.optional_codec.OptionalCodec.{OptionalCodec, OptionalCodec', out-OptionalCodec, is-OptionalCodec', roll-OptionalCodec, rolls-OptionalCodec'}
use Rattle.zarrs_chain.specs.declared.sharding.sharding_codec.ShardingCodec.{ShardingCodec, ShardingCodec', out-ShardingCodec, is-ShardingCodec', roll-ShardingCodec, rolls-ShardingCodec'}
use Rattle.zarrs_chain.specs.declared.vlen.vlen_codec.VlenCodec.{VlenCodec, VlenCodec', out-VlenCodec, is-VlenCodec', roll-VlenCodec, rolls-VlenCodec'}
use Rattle.zarrs_array_to_array.specs.declared.array_to_array_codec.ArrayToArrayCodec.{ArrayToArrayCodec}

unfoldable mutual
  -- an array-to-bytes codec as plain data
  pub plain_codec : {B : Type 0} → ArrayToBytesCodec B → PlainCodec B
  plain_codec (Bytes order) = bytes_codec order
  plain_codec (PackBits settings) = packbits_codec settings
  plain_codec (VlenV2 codec) = vlen_v2_codec codec
  plain_codec (Vlen codec) = plain_vlen codec
  plain_codec (Optional codec) = plain_optional codec
  plain_codec (Sharding codec) = plain_sharding codec

  -- a `vlen` with its chains as plain data
  pub plain_vlen : {B : Type 0} → VlenCodec B → PlainCodec B
  plain_vlen (VlenCodec' p ia ix ib q da dx db index_data_type index_location) =
      vlen_codec (map mapping_of ia.items) (plain_codec ix) ib.items (map mapping_of da.items) (plain_codec dx) db.items (is_wide index_data_type) (is_at_end index_location)

  -- an `optional` with its chains as plain data
  pub plain_optional : {B : Type 0} → OptionalCodec B → PlainCodec B
  plain_optional (OptionalCodec' p ma mx mb q da dx db) =
      optional_codec (map mapping_of ma.items) (plain_codec mx) mb.items (map mapping_of da.items) (plain_codec dx) db.items

  -- a `sharding_indexed` with its chains as plain data
  pub plain_sharding : {B : Type 0} → ShardingCodec B → PlainCodec B
  plain_sharding (ShardingCodec' chunk_shape p sa sx sb q ia ix ib index_location) =
      sharding_codec (map mapping_of sa.items) (plain_codec sx) sb.items (map mapping_of ia.items) (plain_codec ix) ib.items chunk_shape (is_index_at_end index_location)

-- a chain as plain data
abbrev pub plain_chain : {B : Type 0} → CodecChain B → PlainChain B
plain_chain chain = record {
  array_to_array = map mapping_of chain.array_to_array.items;
  array_to_bytes = plain_codec chain.array_to_bytes;
  bytes_to_bytes = chain.bytes_to_bytes.items;
}

-- one level of each codec with chains inside, as the code opens it

pub plain_vlen_at : {B : Type 0} (codec : VlenCodec B) → plain_vlen codec ≡ vlen_codec_of (plain_chain (out-VlenCodec _ codec).index_codecs.value) (plain_chain (out-VlenCodec _ codec).data_codecs.value) (is_wide (out-VlenCodec _ codec).index_data_type) (is_at_end (out-VlenCodec _ codec).index_location)
unfolding plain_vlen plain_codec
plain_vlen_at codec = ap (λ x. plain_vlen x) (is-VlenCodec' codec)

pub plain_optional_at : {B : Type 0} (codec : OptionalCodec B) → plain_optional codec ≡ optional_codec_of (plain_chain (out-OptionalCodec _ codec).mask_codecs.value) (plain_chain (out-OptionalCodec _ codec).data_codecs.value)
unfolding plain_optional plain_codec
plain_optional_at codec = ap (λ x. plain_optional x) (is-OptionalCodec' codec)

pub plain_sharding_at : {B : Type 0} (codec : ShardingCodec B) → plain_sharding codec ≡ sharding_codec_of (plain_chain (out-ShardingCodec _ codec).codecs.value) (plain_chain (out-ShardingCodec _ codec).index_codecs.value) (out-ShardingCodec _ codec).chunk_shape (is_index_at_end (out-ShardingCodec _ codec).index_location)
unfolding plain_sharding plain_codec
plain_sharding_at codec = ap (λ x. plain_sharding x) (is-ShardingCodec' codec)

-- and as the code makes it

pub plain_vlen_made : {B : Type 0} (index content : Box (CodecChain B) Global) (index_data_type : VlenIndexDataType) (index_location : VlenIndexLocation)
    → plain_vlen (roll-VlenCodec _ (record { index_codecs = index; data_codecs = content; index_data_type = index_data_type; index_location = index_location })) ≡ vlen_codec_of (plain_chain index.value) (plain_chain content.value) (is_wide index_data_type) (is_at_end index_location)
unfolding plain_vlen plain_codec
plain_vlen_made index content index_data_type index_location =
    ap (λ x. plain_vlen x) (rolls-VlenCodec' (record { index_codecs = index; data_codecs = content; index_data_type = index_data_type; index_location = index_location }))

pub plain_optional_made : {B : Type 0} (mask content : Box (CodecChain B) Global) → plain_optional (roll-OptionalCodec _ (record { mask_codecs = mask; data_codecs = content })) ≡ optional_codec_of (plain_chain mask.value) (plain_chain content.value)
unfolding plain_optional plain_codec
plain_optional_made mask content =
    ap (λ x. plain_optional x) (rolls-OptionalCodec' (record { mask_codecs = mask; data_codecs = content }))

pub plain_sharding_made : {B : Type 0} (chunk_shape : List ℕ) (inner index : Box (CodecChain B) Global) (index_location : ShardingIndexLocation)
    → plain_sharding (roll-ShardingCodec _ (record { chunk_shape = chunk_shape; codecs = inner; index_codecs = index; index_location = index_location })) ≡ sharding_codec_of (plain_chain inner.value) (plain_chain index.value) chunk_shape (is_index_at_end index_location)
unfolding plain_sharding plain_codec
plain_sharding_made chunk_shape inner index index_location =
    ap (λ x. plain_sharding x) (rolls-ShardingCodec' (record { chunk_shape = chunk_shape; codecs = inner; index_codecs = index; index_location = index_location }))

-- the chain of these codecs
abbrev pub chain_of : {B : Type 0} → Vec ArrayToArrayCodec Global → ArrayToBytesCodec B → Vec B Global → PlainChain B
chain_of arrays codec outer =
    record { array_to_array = map mapping_of arrays.items; array_to_bytes = plain_codec codec; bytes_to_bytes = outer.items }

-- `vlen` with these chains inside and these settings
abbrev pub vlen_of : {B : Type 0} → CodecChain B → CodecChain B → VlenIndexDataType → VlenIndexLocation → PlainCodec B
vlen_of index content index_data_type index_location =
    vlen_codec_of (plain_chain index) (plain_chain content) (is_wide index_data_type) (is_at_end index_location)

-- `optional` with these chains inside
abbrev pub optional_of : {B : Type 0} → CodecChain B → CodecChain B → PlainCodec B
optional_of mask content = optional_codec_of (plain_chain mask) (plain_chain content)

-- `sharding_indexed` with inner chunks of this shape, these chains inside and the index at this place
abbrev pub sharding_of : {B : Type 0} → List ℕ → CodecChain B → CodecChain B → ShardingIndexLocation → PlainCodec B
sharding_of chunk_shape inner index index_location =
    sharding_codec_of (plain_chain inner) (plain_chain index) chunk_shape (is_index_at_end index_location)

-- the codec is the `sharding_indexed` with inner chunks of this shape, the chains of these boxes inside and the index at this place
abbrev pub IsShardingOf : {B : Type 0} → List ℕ → Box (CodecChain B) Global → Box (CodecChain B) Global → ShardingIndexLocation → ShardingCodec B → Type 0
IsShardingOf chunk_shape inner index index_location codec =
    plain_sharding codec ≡ sharding_of chunk_shape inner.value index.value index_location
