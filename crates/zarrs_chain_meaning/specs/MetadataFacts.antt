-- How an array-to-bytes codec is written as metadata, and when it is made again of that, as one record.
use Rattle.std.specs.Prelude.{◌≡◌, ℕ, Bool, false, List, ◌∷◌, ◌++◌, map, Option, Some, All}
use Rattle.zarrs_metadata.specs.BytesConfiguration.{write_bytes}
use Rattle.zarrs_metadata.specs.CodecMetadata.{codec_metadata, bytes_name, packbits_name}
use Rattle.zarrs_metadata.specs.Data.{Members}
use Rattle.zarrs_metadata.specs.Metadata.{Metadata}
use Rattle.zarrs_metadata.specs.OptionalConfiguration.{write_optional}
use Rattle.zarrs_metadata.specs.ShardingConfiguration.{write_sharding}
use Rattle.zarrs_metadata.specs.VlenConfiguration.{write_vlen}
use Rattle.zarrs_data_type.specs.declared.endianness.Endianness.{Endianness}
use Rattle.zarrs_array_to_array.specs.ArrayToArrayCodec.{ArrayMapping}
use Rattle.zarrs_array_to_array.specs.MappingMetadata.{mapping_name, mapping_configuration}
use Rattle.zarrs_packbits.specs.PackBitsSettings.{PackBitsSettings, is_reversed}
use Rattle.zarrs_packbits.specs.SettingsMetadata.{write_settings}
use Rattle.zarrs_chain_meaning.specs.CodecNames.{vlen_name, optional_name, sharding_name}
use Rattle.zarrs_chain_meaning.specs.sharding.ShardingSettings.{shard_index_place}
use Rattle.zarrs_chain_meaning.specs.vlen.VlenSettings.{offset_type_of, index_place}

-- The name and the configuration, where `described` writes bytes-to-bytes codecs. The bits that are kept, in all chains inside too, are ranges; and something holds of each bytes-to-bytes codec of all chains inside.
pub record MetadataFacts (B : Type 0) : Type 1 where
  pub name : List ℕ
  pub configuration : (B → Metadata) → Members
  pub Ranges : Type 0
  pub Outer : (B → Type 0) → Type 0

-- what a codec with chains inside asks of each: its metadata, one for each codec; and the last two as above
pub record ChainFacts (B : Type 0) : Type 1 where
  pub metadatas : (B → Metadata) → List Metadata
  pub Ranges : Type 0
  pub Outer : (B → Type 0) → Type 0

-- ---- chains

-- the metadata of an array-to-array codec
abbrev pub mapping_metadata : ArrayMapping → Metadata
mapping_metadata codec = codec_metadata (mapping_name codec) (mapping_configuration codec)

-- the metadata of a chain's codecs, in the order in which they encode; `described` writes those of bytes-to-bytes codecs
abbrev pub listed : {B : Type 0} → (B → Metadata) → List ArrayMapping → Metadata → List B → List Metadata
listed described arrays codec outer = map mapping_metadata arrays ++ codec ∷ map described outer

-- those of a chain, by those of its array-to-bytes codec
abbrev pub facts_through : {B : Type 0} → List ArrayMapping → MetadataFacts B → List B → ChainFacts B
facts_through arrays inner outer = record {
  metadatas = λ described. listed described arrays (codec_metadata inner.name (inner.configuration described)) outer;
  Ranges = inner.Ranges;
  Outer = λ P. inner.Outer P × All P outer;
}

-- ---- codecs

-- those of `bytes`
abbrev pub bytes_metadata_facts : {B : Type 0} → Option Endianness → MetadataFacts B
bytes_metadata_facts order = record {
  name = bytes_name;
  configuration = λ described. write_bytes order;
  Ranges = Unit {0};
  Outer = λ P. Unit {0};
}

-- those of `packbits`
abbrev pub packbits_metadata_facts : {B : Type 0} → PackBitsSettings → MetadataFacts B
packbits_metadata_facts settings = record {
  name = packbits_name;
  configuration = λ described. write_settings settings;
  Ranges = is_reversed settings.first_bit settings.last_bit ≡ false;
  Outer = λ P. Unit {0};
}

-- those of `vlen`: its configuration has the place of the index
abbrev pub vlen_metadata_facts : {B : Type 0} → Bool → Bool → ChainFacts B → ChainFacts B → MetadataFacts B
vlen_metadata_facts wide at_end index content = record {
  name = vlen_name;
  configuration = λ described. write_vlen (record {
    index_codecs = index.metadatas described;
    data_codecs = content.metadatas described;
    index_data_type = offset_type_of wide;
    index_location = Some (index_place at_end);
  });
  Ranges = index.Ranges × content.Ranges;
  Outer = λ P. index.Outer P × content.Outer P;
}

-- those of `optional`
abbrev pub optional_metadata_facts : {B : Type 0} → ChainFacts B → ChainFacts B → MetadataFacts B
optional_metadata_facts mask content = record {
  name = optional_name;
  configuration = λ described. write_optional (record {
    mask_codecs = mask.metadatas described;
    data_codecs = content.metadatas described;
  });
  Ranges = mask.Ranges × content.Ranges;
  Outer = λ P. mask.Outer P × content.Outer P;
}

-- those of `sharding_indexed`: its configuration has the place of the index
abbrev pub sharding_metadata_facts : {B : Type 0} → List ℕ → Bool → ChainFacts B → ChainFacts B → MetadataFacts B
sharding_metadata_facts shape at_end inner index = record {
  name = sharding_name;
  configuration = λ described. write_sharding (record {
    chunk_shape = shape;
    codecs = inner.metadatas described;
    index_codecs = index.metadatas described;
    index_location = shard_index_place at_end;
  });
  Ranges = inner.Ranges × index.Ranges;
  Outer = λ P. inner.Outer P × index.Outer P;
}
