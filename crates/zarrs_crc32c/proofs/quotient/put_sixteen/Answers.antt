use Rattle.std.proofs.Common.{◌+◌, ◌-◌, arith}
use Rattle.zarrs_crc32c.proofs.Sixteen.{lanes_written}
use Rattle.zarrs_crc32c.proofs.quotient.put_sixteen.Goals as goal

pub returns : goal.returns
returns c = record {
  written = lanes_written c.args.items.now c.args.sixteen c.args.at (c.args.at + 16 - c.args.at) (omega (arith, c.fits-sixteen.0)) (omega (arith, c.fits-sixteen.0, c.told-items, c.requires.inside));
}
