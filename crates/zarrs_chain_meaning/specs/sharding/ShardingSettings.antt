-- The settings of `sharding_indexed` as contracts see them.
use Rattle.std.specs.Prelude.{Bool, true, false}
use Rattle.zarrs_metadata.specs.declared.codec.sharding.ShardingIndexLocation.{ShardingIndexLocation}
use Rattle.zarrs_metadata.specs.declared.codec.sharding.ShardingIndexLocation.TheVariants.{Start, End}

-- the index stands at the end
abbrev pub is_index_at_end : ShardingIndexLocation → Bool
is_index_at_end Start = false
is_index_at_end End = true

-- where an index stands
abbrev pub shard_index_place : Bool → ShardingIndexLocation
shard_index_place false = Start
shard_index_place true = End
