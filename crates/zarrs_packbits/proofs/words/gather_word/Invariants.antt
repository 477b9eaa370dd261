use Rattle.std.proofs.Common.{◌≡◌, ◌<◌, ◌*◌, ◌^◌}
use Rattle.zarrs_packbits.specs.Bits.{low_bits}
use Rattle.zarrs_packbits.proofs.FlagLemmas.{flags_before}
use Rattle.zarrs_packbits.proofs.words.gather_word.Given as goal

abbrev pub invariant-loop-index : goal.invariant-loop-index
invariant-loop-index l = record {
  bits : low_bits (8 * l.index) l.word ≡ flags_before l.bit l.bytes (8 * l.index);
  below : l.word < 2 ^ (8 * l.index);
}
