use Rattle.std.proofs.Common.{rules}
use Rattle.zarrs_packbits.proofs.words.read_word.Goals as goal
use Rattle.zarrs_packbits.proofs.LowBits.{bits_of-read}

pub returns : goal.returns
returns c = record { bits = bits_of-read c.args.bytes.now c.from_le_bytes.result (search rules) (search rules) c.from_le_bytes.ensures }
