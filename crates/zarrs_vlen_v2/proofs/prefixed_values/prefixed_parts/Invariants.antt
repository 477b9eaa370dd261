use Rattle.zarrs_vlen_v2.proofs.Reading.{SoFar}
use Rattle.zarrs_vlen_v2.proofs.prefixed_values.prefixed_parts.Given as goal

abbrev pub invariant-loop-done : goal.invariant-loop-done
invariant-loop-done l = SoFar l.value l.count l._done l.at l.bytes.items l.offsets.items
