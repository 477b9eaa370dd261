use Rattle.std.proofs.Common.{arith}
use Rattle.zarrs_chunk.proofs.Inside.{row_major-below}
use Rattle.zarrs_codecs.proofs.sharding.part_reads.place_at.Goals as goal

pub place_of-requires : goal.place_of-requires
place_of-requires c =
    let is = c.number_of.ensures.value in
    let below = row_major-below c.args.grid.now c.args.chunk.now c.requires.inside in
    let count = c.requires.count in
    let long = c.requires.numbers in
    record { there = omega (arith, is, below, count, long) }
