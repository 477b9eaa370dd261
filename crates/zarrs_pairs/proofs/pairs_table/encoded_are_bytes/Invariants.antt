use Rattle.std.proofs.Common.{take}
use Rattle.std.specs.Prelude.{All}
use Rattle.zarrs_codec.specs.BytesToBytesCodec.{AreBytes}
use Rattle.zarrs_pairs.proofs.pairs_table.encoded_are_bytes.Given as goal

abbrev pub invariant-loop-pair : goal.invariant-loop-pair
invariant-loop-pair l = All (λ pair. AreBytes pair.encoded.now) (take l.pair-index l.pairs)
