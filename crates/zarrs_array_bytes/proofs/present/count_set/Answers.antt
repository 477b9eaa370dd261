use Rattle.std.proofs.Common.{◌≡◌, ◌+◌, ◌*◌, ◌/◌, length, take, ap, ◌∙◌, arith}
use Rattle.std.proofs.lemmas.List.{take_rest}
use Rattle.zarrs_array_bytes.specs.Present.{present_places}
use Rattle.zarrs_array_bytes.proofs.PresentLemmas.{marked, count_is, length_marked, block_counted, front_counted, rest_counted}
use Rattle.zarrs_array_bytes.proofs.present.count_set.Goals as goal

pub overflow_add-count : goal.overflow_add-count
overflow_add-count c =
    let mask = c.args.mask.now in
    let at = c.loop-block.block * 128 in
    omega (arith, block_counted at 128 c.loop-block.count c.count_few-few.result mask c.loop-block.invariant c.count_few-few.ensures.count, front_counted (at + 128) mask)

pub loop-block-preserved : goal.loop-block-preserved
loop-block-preserved c =
    let mask = c.args.mask.now in
    let at = c.loop-block.block * 128 in
    let next : at + 128 ≡ (c.loop-block.block + 1) * 128 = omega arith in
    block_counted at 128 c.loop-block.count c.count_few-few.result mask c.loop-block.invariant c.count_few-few.ensures.count
    ∙ ap (λ n. length (marked (take n mask))) next

pub overflow_add-result : goal.overflow_add-result
overflow_add-result c =
    let mask = c.args.mask.now in
    let at = length mask / 128 * 128 in
    let end : c.loop-block.block ≡ length mask / 128 = omega arith in
    let before = c.loop-block.invariant ∙ ap (λ n. length (marked (take (n * 128) mask))) end in
    let behind = c.count_few-rest.ensures.count ∙ ap (λ bytes. length (present_places bytes)) (take_rest mask at) in
    omega (arith, rest_counted at c.loop-block.count c.count_few-rest.result mask before behind, count_is mask, length_marked mask)

pub returns : goal.returns
returns c =
    let mask = c.args.mask.now in
    let at = length mask / 128 * 128 in
    let end : c.loop-block.block ≡ length mask / 128 = omega arith in
    let before = c.loop-block.invariant ∙ ap (λ n. length (marked (take (n * 128) mask))) end in
    let behind = c.count_few-rest.ensures.count ∙ ap (λ bytes. length (present_places bytes)) (take_rest mask at) in
    record { count = rest_counted at c.loop-block.count c.count_few-rest.result mask before behind }
