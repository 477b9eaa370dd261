-- What is made of metadata: codecs, and chains of them.
-- Source: the Zarr v3 core specification, `codecs`; codec.zarrs.dev.
use Rattle.std.specs.Prelude.{ℕ, ◌<◌, zero, suc, max, Bool, true, false, not, List, [], ◌∷◌, ◌++◌, Option, Some, None, is_some, ok_or, Result, Ok, Err, if◌then◌else◌}
use Rattle.zarrs_chunk.specs.Answer.{◌>>=◌, demand, seen}
use Rattle.zarrs_chain_meaning.specs.declared.codec_name.KnownCodec.{KnownCodec}
use Rattle.zarrs_chain_meaning.specs.declared.codec_name.KnownCodec.TheVariants.{Array, Bytes, PackBits, VlenV2, Vlen, Optional, Sharding}
use Rattle.zarrs_metadata.specs.CodecMetadata.{made_of, members_of, is_bytes_name, is_packbits_name, bytes_made}
use Rattle.zarrs_metadata.specs.Data.{members_depth}
use Rattle.zarrs_metadata.specs.Metadata.{Metadata}
use Rattle.zarrs_metadata.specs.MetadataV3.{metadata_seen}
use Rattle.zarrs_metadata.specs.OptionalConfiguration.{OptionalChains, read_optional}
use Rattle.zarrs_metadata.specs.ShardingConfiguration.{ShardingParts, read_sharding}
use Rattle.zarrs_metadata.specs.VlenConfiguration.{VlenParts, read_vlen}
use Rattle.zarrs_metadata.specs.declared.codec.vlen.VlenIndexLocation.{VlenIndexLocation}
use Rattle.zarrs_metadata.specs.declared.codec.vlen.VlenIndexLocation.TheVariants.{Start}
use Rattle.zarrs_metadata.specs.declared.metadata_v3.MetadataV3.{MetadataV3}
use Rattle.zarrs_metadata.specs.declared.plugin_create_error.PluginCreateError.{PluginCreateError}
use Rattle.zarrs_metadata.specs.declared.plugin_create_error.PluginCreateError.TheVariants.{UnknownName, InvalidConfiguration, MissingArrayToBytes, MultipleArrayToBytes}
use Rattle.zarrs_array_to_array.specs.ArrayToArrayCodec.{ArrayMapping}
use Rattle.zarrs_array_to_array.specs.MappingMetadata.{is_mapping_name, mapping_made}
use Rattle.zarrs_packbits.specs.SettingsMetadata.{settings_made}
use Rattle.zarrs_vlen_v2.specs.VlenV2Metadata.{is_vlen_v2_name, vlen_v2_made}
use Rattle.zarrs_chain_meaning.specs.sharding.ShardingSettings.{is_index_at_end}
use Rattle.zarrs_chain_meaning.specs.vlen.VlenSettings.{is_wide, is_at_end}
use Rattle.zarrs_chain_meaning.specs.CodecNames.{is_vlen_name, is_optional_name, is_sharding_name}
use Rattle.zarrs_chain_meaning.specs.CodecMeaning.{PlainCodec, bytes_codec, packbits_codec, vlen_v2_codec, PlainChain, vlen_codec_of, optional_codec_of, sharding_codec_of}

-- A codec that a metadata makes: one of chunks to chunks, one of chunks to bytes, one of bytes to bytes.
pub data CodecMade (B : Type 0) : Type 0 where
  array_made : ArrayMapping → CodecMade B
  to_bytes_made : PlainCodec B → CodecMade B
  outer_made : B → CodecMade B

-- What the metadata of a list make so far: codecs by their kind, of those to bytes at most one.
pub record Gathered (B : Type 0) : Type 0 where
  pub array_to_array : List ArrayMapping
  pub array_to_bytes : Option (PlainCodec B)
  pub bytes_to_bytes : List B

-- ---- codecs with chains inside, which `inside` makes of their lists

-- where the index stands, at the start where nothing is declared
abbrev pub location_or_start : Option VlenIndexLocation → VlenIndexLocation
location_or_start None = Start
location_or_start (Some location) = location

-- the codec of a configuration of `vlen`: the index chain's errors come first
abbrev pub vlen_of_parts : {B : Type 0} → (List Metadata → Result (PlainChain B) PluginCreateError) → VlenParts → Result (PlainCodec B) PluginCreateError
vlen_of_parts inside parts = do
  index ← inside parts.index_codecs
  content ← inside parts.data_codecs
  Ok (vlen_codec_of index content (is_wide parts.index_data_type) (is_at_end (location_or_start parts.index_location)))

-- the codec of a configuration of `optional`: the mask chain's errors come first
abbrev pub optional_of_chains : {B : Type 0} → (List Metadata → Result (PlainChain B) PluginCreateError) → OptionalChains → Result (PlainCodec B) PluginCreateError
optional_of_chains inside chains = do
  mask ← inside chains.mask_codecs
  content ← inside chains.data_codecs
  Ok (optional_codec_of mask content)

-- the codec of a configuration of `sharding_indexed`: the errors of the chain of inner chunks come first
abbrev pub sharding_of_parts : {B : Type 0} → (List Metadata → Result (PlainChain B) PluginCreateError) → ShardingParts → Result (PlainCodec B) PluginCreateError
sharding_of_parts inside parts = do
  inner ← inside parts.codecs
  index ← inside parts.index_codecs
  Ok (sharding_codec_of inner index parts.chunk_shape (is_index_at_end parts.index_location))

-- the configuration of a metadata of `vlen`, or the first error: another name is rejected before it is looked at
abbrev pub read_as_vlen : Metadata → Result VlenParts PluginCreateError
read_as_vlen metadata = made_of is_vlen_name read_vlen metadata

-- the configuration of a metadata of `optional`, or the first error: another name is rejected before it is looked at
abbrev pub read_as_optional : Metadata → Result OptionalChains PluginCreateError
read_as_optional metadata = made_of is_optional_name read_optional metadata

-- the configuration of a metadata of `sharding_indexed`, or the first error: another name is rejected before it is looked at
abbrev pub read_as_sharding : Metadata → Result ShardingParts PluginCreateError
read_as_sharding metadata = made_of is_sharding_name read_sharding metadata

-- the codec `vlen` of a metadata: its name, its configuration, its chains
abbrev pub vlen_made_by : {B : Type 0} → (List Metadata → Result (PlainChain B) PluginCreateError) → Metadata → Result (PlainCodec B) PluginCreateError
vlen_made_by inside metadata = do
  parts ← read_as_vlen metadata
  vlen_of_parts inside parts

-- the codec `optional` of a metadata, likewise
abbrev pub optional_made_by : {B : Type 0} → (List Metadata → Result (PlainChain B) PluginCreateError) → Metadata → Result (PlainCodec B) PluginCreateError
optional_made_by inside metadata = do
  chains ← read_as_optional metadata
  optional_of_chains inside chains

-- the codec `sharding_indexed` of a metadata, likewise
abbrev pub sharding_made_by : {B : Type 0} → (List Metadata → Result (PlainChain B) PluginCreateError) → Metadata → Result (PlainCodec B) PluginCreateError
sharding_made_by inside metadata = do
  parts ← read_as_sharding metadata
  sharding_of_parts inside parts

-- ---- one codec

-- the codec that is known by a name
abbrev pub codec_named : List ℕ → Option KnownCodec
codec_named name =
    if is_mapping_name name then Some Array
    else if is_bytes_name name then Some Bytes
    else if is_packbits_name name then Some PackBits
    else if is_vlen_v2_name name then Some VlenV2
    else if is_vlen_name name then Some Vlen
    else if is_optional_name name then Some Optional
    else if is_sharding_name name then Some Sharding
    else None

-- the maker's codec; where it makes none, no codec has the name
abbrev pub asked_maker : {B : Type 0} → Result (Option B) PluginCreateError → Result (CodecMade B) PluginCreateError
asked_maker (Ok (Some codec)) = Ok (outer_made codec)
asked_maker (Ok None) = Err UnknownName
asked_maker (Err refusal) = Err refusal

-- what a metadata makes whose name is that of a codec, or of none: then the maker is asked
abbrev pub made_by_name : {B : Type 0} → Option KnownCodec → (List Metadata → Result (PlainChain B) PluginCreateError) → (Metadata → Result (Option B) PluginCreateError) → Metadata → Result (CodecMade B) PluginCreateError
made_by_name (Some Array) inside makes metadata = seen array_made (mapping_made metadata)
made_by_name (Some Bytes) inside makes metadata = seen (λ order. to_bytes_made (bytes_codec order)) (bytes_made metadata)
made_by_name (Some PackBits) inside makes metadata = seen (λ settings. to_bytes_made (packbits_codec settings)) (settings_made metadata)
made_by_name (Some VlenV2) inside makes metadata = seen (λ codec. to_bytes_made (vlen_v2_codec codec)) (vlen_v2_made metadata)
made_by_name (Some Vlen) inside makes metadata = seen to_bytes_made (vlen_made_by inside metadata)
made_by_name (Some Optional) inside makes metadata = seen to_bytes_made (optional_made_by inside metadata)
made_by_name (Some Sharding) inside makes metadata = seen to_bytes_made (sharding_made_by inside metadata)
made_by_name None inside makes metadata = asked_maker (makes metadata)

-- what a metadata makes, or the first cause why it makes nothing
abbrev pub codec_made : {B : Type 0} → (List Metadata → Result (PlainChain B) PluginCreateError) → (Metadata → Result (Option B) PluginCreateError) → Metadata → Result (CodecMade B) PluginCreateError
codec_made inside makes metadata = made_by_name (codec_named metadata.name) inside makes metadata

-- ---- lists

-- a codec behind those gathered so far: each kind keeps its order, and a second one to bytes is rejected
abbrev pub with_codec : {B : Type 0} → CodecMade B → Gathered B → Result (Gathered B) PluginCreateError
with_codec (array_made codec) so_far = Ok (record { array_to_array = so_far.array_to_array ++ codec ∷ []; array_to_bytes = so_far.array_to_bytes; bytes_to_bytes = so_far.bytes_to_bytes })
with_codec (to_bytes_made codec) so_far = do
  _ ← demand (not (is_some so_far.array_to_bytes)) MultipleArrayToBytes
  Ok (record { array_to_array = so_far.array_to_array; array_to_bytes = Some codec; bytes_to_bytes = so_far.bytes_to_bytes })
with_codec (outer_made codec) so_far = Ok (record { array_to_array = so_far.array_to_array; array_to_bytes = so_far.array_to_bytes; bytes_to_bytes = so_far.bytes_to_bytes ++ codec ∷ [] })

-- what a metadata makes, behind those gathered so far; where it makes nothing it is passed over, unless it has to be understood
abbrev pub joined : {B : Type 0} → Result (CodecMade B) PluginCreateError → Bool → Gathered B → Result (Gathered B) PluginCreateError
joined (Ok codec) must_understand so_far = with_codec codec so_far
joined (Err refusal) true so_far = Err refusal
joined (Err refusal) false so_far = Ok so_far

-- what a list makes, in order, behind what was gathered so far
abbrev pub gathered : {B : Type 0} → (List Metadata → Result (PlainChain B) PluginCreateError) → (Metadata → Result (Option B) PluginCreateError) → List Metadata → Gathered B → Result (Gathered B) PluginCreateError
gathered inside makes [] so_far = Ok so_far
gathered inside makes (metadata ∷ metadatas) so_far = do
  next ← joined (codec_made inside makes metadata) metadata.must_understand so_far
  gathered inside makes metadatas next

-- the chain of the gathered codecs, among which one to bytes has to be
abbrev pub finished : {B : Type 0} → Gathered B → Result (PlainChain B) PluginCreateError
finished so_far = do
  codec ← ok_or so_far.array_to_bytes MissingArrayToBytes
  Ok (record { array_to_array = so_far.array_to_array; array_to_bytes = codec; bytes_to_bytes = so_far.bytes_to_bytes })

-- a chain of which no codec has been made yet
abbrev pub nothing_gathered : {B : Type 0} → Gathered B
nothing_gathered = record { array_to_array = []; array_to_bytes = None; bytes_to_bytes = [] }

-- the chain of a list of metadata, or the first error; `inside` makes the chains inside
abbrev pub chain_made_by : {B : Type 0} → (List Metadata → Result (PlainChain B) PluginCreateError) → (Metadata → Result (Option B) PluginCreateError) → List Metadata → Result (PlainChain B) PluginCreateError
chain_made_by inside makes metadatas = do
  all ← gathered inside makes metadatas nothing_gathered
  finished all

-- ---- chains inside chains

-- how deep the trees of a configuration are
abbrev pub depth_of : Metadata → ℕ
depth_of metadata = members_depth (members_of metadata.configuration)

-- the depth of the deepest of a list
abbrev pub depth_all : List Metadata → ℕ
depth_all [] = 0
depth_all (metadata ∷ metadatas) = max (depth_of metadata) (depth_all metadatas)

-- the configurations of a list are less deep than that of this metadata
abbrev pub LessDeep : List Metadata → MetadataV3 → Type 0
LessDeep metadatas metadata = depth_all metadatas < depth_of (metadata_seen metadata)

-- the chain of a list whose configurations are less deep than a number
abbrev pub chain_in : {B : Type 0} → (Metadata → Result (Option B) PluginCreateError) → ℕ → List Metadata → Result (PlainChain B) PluginCreateError
chain_in makes zero metadatas = Err InvalidConfiguration
chain_in makes (suc depth) metadatas = chain_made_by (chain_in makes depth) makes metadatas

-- the chain of a list of metadata, or the first error; `makes` makes what the table of names doesn't know
unfoldable pub chain_made : {B : Type 0} → (Metadata → Result (Option B) PluginCreateError) → List Metadata → Result (PlainChain B) PluginCreateError
chain_made makes metadatas = chain_in makes (suc (depth_all metadatas)) metadatas

-- ---- by a maker of bytes-to-bytes codecs

-- `optional` of these chains
abbrev pub optional_by : {B : Type 0} → (Metadata → Result (Option B) PluginCreateError) → OptionalChains → Result (PlainCodec B) PluginCreateError
optional_by makes chains = optional_of_chains (chain_made makes) chains

-- the codec of a metadata
abbrev pub codec_by : {B : Type 0} → (Metadata → Result (Option B) PluginCreateError) → Metadata → Result (CodecMade B) PluginCreateError
codec_by makes metadata = codec_made (chain_made makes) makes metadata

-- the codecs that were gathered, with that of the metadata, or without it where it may be passed over
abbrev pub joined_by : {B : Type 0} → (Metadata → Result (Option B) PluginCreateError) → Metadata → Gathered B → Result (Gathered B) PluginCreateError
joined_by makes metadata parts = joined (codec_by makes metadata) metadata.must_understand parts
