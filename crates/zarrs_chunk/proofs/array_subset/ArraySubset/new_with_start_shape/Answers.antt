use Rattle.std.proofs.Common.{◌≡◌, true, length, arith}
use Rattle.zarrs_chunk.specs.ArraySubset.{ends_fit}
use Rattle.zarrs_chunk.proofs.Ends.{IsRegion-tested}
use Rattle.zarrs_chunk.proofs.array_subset.ArraySubset.new_with_start_shape.Goals as goal

pub invariant_of-result : goal.invariant_of-result
invariant_of-result c =
    let axes : length c.args.start.items ≡ length c.args.shape.items = omega arith in
    let tested : ends_fit c.args.start.items c.args.shape.items ≡ true = cc in
    IsRegion-tested c.args.start.items c.args.shape.items axes tested
