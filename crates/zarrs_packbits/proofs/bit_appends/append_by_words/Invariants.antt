use Rattle.std.proofs.Common.{◌≡◌, ℕ, List, ◌++◌}
use Rattle.zarrs_packbits.proofs.bit_appends.append_by_words.Given as goal
use Rattle.zarrs_packbits.specs.BlockBits.{stream_before}
use Rattle.zarrs_packbits.specs.WrittenBits.{written_bits, IsPartlyFilled}

abbrev pub invariant-loop-part : goal.invariant-loop-part
invariant-loop-part l = record {
  bits : (front : List ℕ) → written_bits l.initial.out.items l.word l.filled ≡ front ++ stream_before l.layout l.begin l.bytes → written_bits l.out.items l.last l.used ≡ front ++ stream_before l.layout l.part l.bytes;
  reached : IsPartlyFilled l.last l.used;
}
