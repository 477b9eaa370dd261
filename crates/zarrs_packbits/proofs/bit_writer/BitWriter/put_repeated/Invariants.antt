use Rattle.std.proofs.Common.{◌≡◌, ◌≤◌, ◌-◌, ◌++◌, replicate}
use Rattle.zarrs_packbits.proofs.bit_writer.BitWriter.put_repeated.Given as goal
use Rattle.zarrs_packbits.specs.Bits.{bit_of}

abbrev pub invariant-loop-done : goal.invariant-loop-done
invariant-loop-done l = record {
  bits : l.self ≡ l.initial.self ++ replicate l.done (bit_of l.bit);
  within : l.done ≤ l.count;
}

abbrev pub decreases-loop-done : goal.decreases-loop-done
decreases-loop-done l = l.count - l.done
