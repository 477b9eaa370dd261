use Rattle.std.proofs.Common.{◌≡◌, ◌≤◌, ◌-◌, ◌++◌, length}
use Rattle.zarrs_packbits.proofs.FlagLemmas.{flags_before}
use Rattle.zarrs_packbits.proofs.bit_writer.BitWriter.put_flags.Given as goal

abbrev pub invariant-loop-done : goal.invariant-loop-done
invariant-loop-done l = record {
  bits : l.self ≡ l.initial.self ++ flags_before l.bit l.bytes l.done;
  within : l.done ≤ length l.bytes;
}

abbrev pub decreases-loop-done : goal.decreases-loop-done
decreases-loop-done l = length l.bytes - l.done
