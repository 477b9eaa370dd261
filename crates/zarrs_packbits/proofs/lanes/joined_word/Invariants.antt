use Rattle.std.proofs.Common.{◌+◌, ◌*◌}
use Rattle.zarrs_packbits.proofs.lanes.joined_word.Given as goal
use Rattle.zarrs_packbits.specs.Bits.{low_bits, field}
use Rattle.zarrs_packbits.proofs.LaneLemmas.{LaneIs}

abbrev pub invariant-loop-lane : goal.invariant-loop-lane
invariant-loop-lane l = LaneIs (λ lane. field (lane * l.width + l.first) l.count (low_bits 64 l.word)) l.lane l.count l.joined
