use Rattle.zarrs_codecs.proofs.GroupWalks.{span_at}
use Rattle.zarrs_codecs.proofs.sharding.box_reads.place_of.Goals as goal

pub returns : goal.returns
returns c =
    let at = span_at c.args.numbers.now c.args.number c.requires.there in
    record { value = rw at cc }
