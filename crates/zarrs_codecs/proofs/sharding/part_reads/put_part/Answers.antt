use Rattle.std.proofs.Common.{ap, sym, ◌∙◌}
use Rattle.zarrs_chain_meaning.proofs.ArraySteps.{ok_is}
use Rattle.zarrs_chunk.specs.ChunkShape.{product}
use Rattle.zarrs_chunk.specs.Runs.{joined_runs}
use Rattle.zarrs_codecs.proofs.PartWalks.{counted_is, put_updated}
use Rattle.zarrs_codecs.proofs.sharding.part_reads.put_part.Goals as goal

pub returns-clause-answer : goal.returns-clause-answer
returns-clause-answer c =
    let lengths = c.args.lengths.now in
    let count = counted_is (product lengths) c.in_ok-count.count c.requires.counted c.in_ok-count.ensures.answer in
    let places = ap joined_runs c.deref.ensures.value ∙ sym (ok_is _ _ ((c.in_ok-runs.ensures {u = tt}).answer)) in
    put_updated c.args.data_type.now lengths c.args.part.now (joined_runs c.deref.result.now) c.in_ok-count.count c.args.elements c.args.content.now c.update_runs.result count places c.requires.inside c.requires.valid c.requires.content_valid c.update_runs.ensures.answer
