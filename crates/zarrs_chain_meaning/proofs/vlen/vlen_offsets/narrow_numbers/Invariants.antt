use Rattle.std.proofs.Common.{◌≡◌, ◌<◌, ◌/◌, ℕ, false, get_or, length}
use Rattle.zarrs_array_bytes.specs.Elements.{piece}
use Rattle.zarrs_chain_meaning.specs.vlen.Vlen.{offset_of}
use Rattle.zarrs_chain_meaning.proofs.vlen.vlen_offsets.narrow_numbers.Given as goal

abbrev pub invariant-loop-index : goal.invariant-loop-index
invariant-loop-index l = record {
  long : length l.numbers.items ≡ length l.items / 4;
  read : (k : ℕ) → k < l.index → get_or l.numbers.items k 0 ≡ offset_of false (piece 4 l.items k);
}
