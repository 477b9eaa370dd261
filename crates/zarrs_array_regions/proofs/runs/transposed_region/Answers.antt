use Rattle.std.proofs.Common.{◌∷◌, []}
use Rattle.zarrs_array_to_array.specs.ArrayToArrayCodec.{transpose}
use Rattle.zarrs_array_regions.proofs.RegionRuns.{encoded_there, region_axes}
use Rattle.zarrs_array_regions.proofs.WindowCalls.{few_places}
use Rattle.zarrs_array_regions.proofs.runs.transposed_region.Goals as goal

pub transposed_part-requires-clause-axes : goal.transposed_part-requires-clause-axes
transposed_part-requires-clause-axes c = region_axes c.args.codec.now c.args.shape.now c.args.region.now c.requires.region

pub transposed_part-requires-clause-counted : goal.transposed_part-requires-clause-counted
transposed_part-requires-clause-counted c = few_places (transpose c.args.codec.now ∷ []) c.args.shape.now c.args.region.now c.requires.region

pub returns-clause-encoded : goal.returns-clause-encoded
returns-clause-encoded c =
    encoded_there c.args.codec.now c.args.shape.now c.args.region.now c.args.data_type.now c.args.held.now c.in_ok-held.held c.in_ok-runs.runs ((c.in_ok-runs.ensures {u = tt}).places) ((c.in_ok-held.ensures {u = tt}).encoded)
