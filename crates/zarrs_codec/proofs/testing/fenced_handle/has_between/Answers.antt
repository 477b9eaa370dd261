use Rattle.std.proofs.Common.{◌∙◌}
use Rattle.zarrs_codec.specs.FencedHandle.{is_fenced}
use Rattle.zarrs_codec.proofs.Fences.{from_fence}
use Rattle.zarrs_codec.proofs.testing.fenced_handle.has_between.Goals as goal

pub loop-at-preserved : goal.loop-at-preserved
loop-at-preserved c =
    c.loop-at.invariant
    ∙ from_fence (is_fenced c.args.ranges.now) c.loop-at.at c.in-Some.fence c.args.end c.in-Some.ensures.end.0 c.in-Some.ensures.end.1
