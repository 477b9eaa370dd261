use Rattle.zarrs_plain_vlen.proofs.ElementBytes.{none_there, some_there}
use Rattle.zarrs_plain_vlen.proofs.elements.run_is_there.Goals as goal

pub returns-then-to-from : goal.returns-then-to-from
returns-then-to-from c = record { value = none_there c.args.offsets.now c.requires.rising c.args.size c.args.first c.args.count c.at-from.result c.at-to.result c.requires.known c.at-from.ensures.value c.at-to.ensures.value c.if-to-from.true }

pub returns-else-to-from : goal.returns-else-to-from
returns-else-to-from c = record { value = some_there c.args.offsets.now c.requires.rising c.args.size c.args.first c.args.count c.at-from.result c.at-to.result c.requires.known c.at-from.ensures.value c.at-to.ensures.value c.if-to-from.false }
