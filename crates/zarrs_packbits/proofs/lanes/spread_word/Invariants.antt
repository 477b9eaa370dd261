use Rattle.std.proofs.Common.{◌+◌, ◌*◌, ◌^◌}
use Rattle.zarrs_packbits.proofs.lanes.spread_word.Given as goal
use Rattle.zarrs_packbits.specs.Bits.{low_bits, field}
use Rattle.zarrs_packbits.specs.KeptBits.{full_component}
use Rattle.zarrs_packbits.proofs.LaneLemmas.{LaneIs}

abbrev pub invariant-loop-lane : goal.invariant-loop-lane
invariant-loop-lane l =
    LaneIs (λ part. full_component l.layout.first l.layout.above l.layout.sign (field (0 + part * l.layout.count) l.layout.count (low_bits (l.lanes * l.layout.count) l.kept))) l.lane l.width (l.word * 2 ^ l.layout.first)
