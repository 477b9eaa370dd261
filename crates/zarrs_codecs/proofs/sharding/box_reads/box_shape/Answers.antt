use Rattle.std.proofs.Common.{◌∙◌}
use Rattle.zarrs_array_regions.proofs.WindowCalls.{shape_there}
use Rattle.zarrs_codecs.proofs.sharding.box_reads.box_shape.Goals as goal

pub unwrap-requires : goal.unwrap-requires
unwrap-requires c = shape_there c.args.region.now.lengths c.in_ok-lengths.lengths.items c.new.result c.requires.filled ((c.in_ok-lengths.ensures {u = tt}).items ∙ c.shape.ensures.value) c.new.ensures.answer
