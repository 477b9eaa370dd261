use Rattle.std.proofs.Common.{arith}
use Rattle.zarrs_array_to_array.proofs.Tiles.{lanes_interleaved}
use Rattle.zarrs_array_to_array.proofs.transpose.tiles.first_fours.Goals as goal

pub returns : goal.returns
returns c = record { value = lanes_interleaved 4 0 2 c.args.one c.args.other c.fits-one.0 c.fits-other.0 (omega arith) }
