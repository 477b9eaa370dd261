use Rattle.zarrs_codec.specs.ByteRanges.{range_indices}
use Rattle.zarrs_bytes.proofs.PlaceRanges.{begun}
use Rattle.zarrs_bytes.proofs.place_batches.begin_range.Goals as goal

pub returns-clause-bytes : goal.returns-clause-bytes
returns-clause-bytes c =
    begun (range_indices c.push_range.new.ranges.items) _ c.args.here c.in_ok-push_range.ensures.bytes
