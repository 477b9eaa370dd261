use Rattle.std.proofs.Common.{length}
use Rattle.zarrs_chain.proofs.sharding.shard_bands.+append_band_shape.Given as goal

abbrev pub decreases-append_band_shape : goal.decreases-append_band_shape
decreases-append_band_shape l = length l.parts.now
