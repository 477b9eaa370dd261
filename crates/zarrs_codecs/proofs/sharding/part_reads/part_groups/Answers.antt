use Rattle.std.proofs.Common.{◌≡◌, ◌<◌, true, length, ap, sym, subst, ◌∙◌, arith}
use Rattle.std.proofs.lemmas.Bool.Decides.{nat_tests}
use Rattle.zarrs_array_regions.specs.WindowLaws.{region_places}
use Rattle.zarrs_chain_meaning.proofs.ArraySteps.{ok_is}
use Rattle.zarrs_chunk.proofs.Inside.{row_major-below}
use Rattle.zarrs_chunk.specs.Runs.{joined_runs}
use Rattle.zarrs_chunk.specs.Tuples.{is_tuple_inside, row_major}
use Rattle.zarrs_codecs.proofs.PartSteps.{own_part}
use Rattle.zarrs_codecs.proofs.PartWalks.{groups_end, groups_inside, groups_more, groups_start, next_part}
use Rattle.zarrs_codecs.proofs.sharding.part_reads.part_groups.Goals as goal

pub loop-part-init : goal.loop-part-init
loop-part-init c = groups_start c.args.shape.now c.args.grid.now c.args.parts.now c.in_ok-groups.groups.items ((c.in_ok-groups.ensures {u = tt}).items)

pub number_of-number-requires-clause-inside : goal.number_of-number-requires-clause-inside
number_of-number-requires-clause-inside c =
    let under : c.loop-part.part-index < length c.args.parts.now = grind (arith, nat_tests) in
    let part = own_part c.loop-part.part-index c.part-item.result under c.part-item.is c.requires.parts in
    subst (λ xs. is_tuple_inside c.args.grid.now xs ≡ true) (sym c.as_slice.ensures.value) part.chunk

pub loop-part-preserved : goal.loop-part-preserved
loop-part-preserved c =
    let shape = c.args.shape.now in
    let grid = c.args.grid.now in
    let it = c.part-item.result in
    let under : c.loop-part.part-index < length c.args.parts.now = grind (arith, nat_tests) in
    let part = own_part c.loop-part.part-index it under c.part-item.is c.requires.parts in
    let next = next_part c.args.parts.now c.loop-part.part-index it under c.part-item.is in
    let number : c.number_of-number.result ≡ row_major grid it.chunk.items = c.number_of-number.ensures.value ∙ ap (row_major grid) c.as_slice.ensures.value in
    let below = row_major-below grid it.chunk.items part.chunk in
    let runs = c.in_ok-runs.ensures {u = tt} in
    let places : joined_runs c.in_ok-runs.runs.items ≡ region_places shape it.in_chunk = sym (ok_is _ _ runs.answer) in
    groups_more shape grid c.args.parts.now c.loop-part.part-index c.loop-part.groups.items c.push.new.self.items it (record { number = c.number_of-number.result; runs = c.in_ok-runs.runs }) c.loop-part.invariant next ((c.in_ok-push.ensures {u = tt}).items)
    (λ i. (number i, places i)) (omega (arith, number, below)) runs.filled runs.below

pub returns-clause-groups : goal.returns-clause-groups
returns-clause-groups c =
    let end : c.loop-part.part-index ≡ length c.args.parts.now = grind (arith, nat_tests) in
    groups_end c.args.shape.now c.args.grid.now c.args.parts.now c.loop-part.part-index c.loop-part.groups.items end c.loop-part.invariant

pub returns-clause-runs : goal.returns-clause-runs
returns-clause-runs c =
    let end : c.loop-part.part-index ≡ length c.args.parts.now = grind (arith, nat_tests) in
    groups_inside c.args.shape.now c.args.grid.now c.args.lengths.now c.args.parts.now c.loop-part.part-index c.loop-part.groups.items end c.requires.parts c.loop-part.invariant
