use Rattle.std.proofs.Common.{◌≡◌, ◌≤◌, ◌-◌, ◌++◌}
use Rattle.zarrs_packbits.proofs.bit_writer.BitWriter.put_field.Given as goal
use Rattle.zarrs_packbits.specs.Bits.{bits_of, field}

abbrev pub invariant-loop-done : goal.invariant-loop-done
invariant-loop-done l = record {
  bits : l.self ≡ l.initial.self ++ field l.at l.done (bits_of l.bytes);
  within : l.done ≤ l.count;
}

abbrev pub decreases-loop-done : goal.decreases-loop-done
decreases-loop-done l = l.count - l.done
