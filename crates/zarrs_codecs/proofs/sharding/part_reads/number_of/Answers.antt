use Rattle.std.proofs.Common.{◌∙◌}
use Rattle.zarrs_codecs.proofs.PartWalks.{raveled, raveled_is}
use Rattle.zarrs_codecs.proofs.sharding.part_reads.number_of.Goals as goal

pub returns : goal.returns
returns c = record { value = raveled_is c.args.grid.now c.args.chunk.now c.ravel_indices.result c.in-Some.number c.requires.inside c.requires.grid c.ravel_indices.ensures.answer c.in-Some.is }

pub unreachable-requires : goal.unreachable-requires
unreachable-requires c =
    let found = c.ravel_indices.ensures.answer ∙ raveled c.args.grid.now c.args.chunk.now c.requires.inside c.requires.grid in
    cc (found, c.in-None.is)
