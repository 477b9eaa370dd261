use Rattle.std.proofs.Common.{length, ap, arith}
use Rattle.std.proofs.lemmas.List.{take_all}
use Rattle.zarrs_codec.proofs.byte_pieces.write_piece.Goals as goal

pub slice_bounds-overwrite-end-in-32 : goal.slice_bounds-overwrite-end-in-32
slice_bounds-overwrite-end-in-32 c = omega (arith, c.in-32.is, ap length (take_all 32 c.args.piece.now (omega (arith, c.in-32.is))))

pub overwrite-requires-in-32 : goal.overwrite-requires-in-32
overwrite-requires-in-32 c = record { inside = rw (take_all 32 c.args.piece.now (omega (arith, c.in-32.is))) (grind (arith, c.requires.inside, c.in-32.is)) }

pub returns-in-32 : goal.returns-in-32
returns-in-32 c = record { written = rw (← take_all 32 c.args.piece.now (omega (arith, c.in-32.is))) c.overwrite-in-32.ensures.written }
