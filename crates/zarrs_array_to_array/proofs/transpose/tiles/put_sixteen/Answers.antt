use Rattle.std.proofs.Common.{◌+◌, ◌-◌, arith}
use Rattle.zarrs_array_to_array.proofs.TileRows.{written_there}
use Rattle.zarrs_array_to_array.proofs.transpose.tiles.put_sixteen.Goals as goal

pub returns : goal.returns
returns c = record {
  written = written_there c.args.items.now c.args.sixteen c.args.at (c.args.at + 16 - c.args.at) (omega arith) c.fits-sixteen.0 c.requires.inside;
}
