use Rattle.zarrs_uses.proofs.ArrayAppends.{part_valid, part_appended, both_valid}
use Rattle.zarrs_uses.proofs.array_region.append_part.Goals as goal

pub append_elements-requires-clause-more_valid : goal.append_elements-requires-clause-more_valid
append_elements-requires-clause-more_valid g c =
    let reader = g.D.ArrayPartialDecoderTraits.reader c.args.decoder.now in
    part_valid reader c.args.part c.args.data_type.now c.in_ok-count.count c.in_ok-more.more c.requires.reads (g.met.D.ArrayPartialDecoderTraits.counts c.args.decoder.now)
    (c.in_ok-count.ensures {u = tt}).tuples (c.in_ok-more.ensures {u = tt}).answer

pub returns-clause-exact : goal.returns-clause-exact
returns-clause-exact g c =
    let reader = g.D.ArrayPartialDecoderTraits.reader c.args.decoder.now in
    part_appended reader c.args.part c.args.data_type.now c.in_ok-count.count c.in_ok-more.more c.requires.reads (g.met.D.ArrayPartialDecoderTraits.counts c.args.decoder.now)
    (c.in_ok-count.ensures {u = tt}).tuples (c.in_ok-more.ensures {u = tt}).answer c.fewer_are_excused.ensures.law c.args.done c.args.joined c.append_elements.result c.append_elements.ensures.answer.is

pub returns-clause-valid : goal.returns-clause-valid
returns-clause-valid g c =
    let reader = g.D.ArrayPartialDecoderTraits.reader c.args.decoder.now in
    both_valid reader c.args.part c.args.data_type.now c.in_ok-count.count c.in_ok-more.more c.requires.reads (g.met.D.ArrayPartialDecoderTraits.counts c.args.decoder.now)
    (c.in_ok-count.ensures {u = tt}).tuples (c.in_ok-more.ensures {u = tt}).answer (c.in_ok-count.ensures {u = tt}).product c.args.done c.args.joined c.append_elements.result c.append_elements.ensures.answer.is
