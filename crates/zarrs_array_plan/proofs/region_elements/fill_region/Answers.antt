use Rattle.std.proofs.Common.{sym}
use Rattle.zarrs_chunk.specs.ChunkShape.{product}
use Rattle.zarrs_array_bytes.proofs.AnswerLemmas.{checked_is}
use Rattle.zarrs_array_plan.proofs.RegionContainers.{filled_valid, region_begins}
use Rattle.zarrs_array_plan.proofs.region_elements.fill_region.Goals as goal

pub returns-clause-region_begun : goal.returns-clause-region_begun
returns-clause-region_begun c =
    let type = c.args.data_type.now in
    let total = product c.args.region.now.lengths in
    let count = checked_is total c.in_ok-count.count (sym (c.in_ok-count.ensures {u = tt}).product) in
    region_begins type c.args.region.now c.new_fill_value.result
    (filled_valid type c.in_ok-count.count total c.args.fill_value.now c.new_fill_value.result count c.new_fill_value.ensures.exact.is)
