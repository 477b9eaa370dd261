-- One level of what is written of codecs with chains inside, as the code opens it.
use Rattle.std.proofs.Common.{◌≡◌, refl}
use Rattle.zarrs_metadata.specs.declared.codec.sharding.ShardingIndexLocation.{ShardingIndexLocation}
use Rattle.zarrs_metadata.specs.declared.codec.sharding.ShardingIndexLocation.TheVariants as sharding
use Rattle.zarrs_metadata.specs.declared.codec.vlen.VlenIndexDataType.{VlenIndexDataType}
use Rattle.zarrs_metadata.specs.declared.codec.vlen.VlenIndexDataType.TheVariants.{UInt32, UInt64}
use Rattle.zarrs_metadata.specs.declared.codec.vlen.VlenIndexLocation.{VlenIndexLocation}
use Rattle.zarrs_metadata.specs.declared.codec.vlen.VlenIndexLocation.TheVariants.{Start, End}
use Rattle.zarrs_chain_meaning.specs.sharding.ShardingSettings.{is_index_at_end, shard_index_place}
use Rattle.zarrs_chain_meaning.specs.vlen.VlenSettings.{is_wide, is_at_end, offset_type_of, index_place}

pub offset_type_again : (type : VlenIndexDataType) → offset_type_of (is_wide type) ≡ type
offset_type_again UInt32 = refl
offset_type_again UInt64 = refl

pub index_place_again : (location : VlenIndexLocation) → index_place (is_at_end location) ≡ location
index_place_again Start = refl
index_place_again End = refl

pub shard_index_place_again : (location : ShardingIndexLocation) → shard_index_place (is_index_at_end location) ≡ location
shard_index_place_again sharding.Start = refl
shard_index_place_again sharding.End = refl
