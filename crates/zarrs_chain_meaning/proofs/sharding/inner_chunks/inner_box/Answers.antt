use Rattle.std.proofs.Common.{◌≡◌, ◌<◌, ◌^◌, Ok, arith, refl, ap₂, ◌∙◌}
use Rattle.std.specs.List.{All}
use Rattle.std.proofs.lemmas.List.{get_or_default}
use Rattle.zarrs_chunk.specs.ArraySubset.{subset_of_start_shape}
use Rattle.zarrs_chain_meaning.specs.sharding.ShardSteps.{inner_start, inner_region}
use Rattle.zarrs_chain_meaning.proofs.ShardGrid.{region_made}
use Rattle.zarrs_chain_meaning.proofs.sharding.inner_chunks.inner_box.Goals as goal

pub returns : goal.returns
returns c =
    let sizes = c.args.sizes.now in
    let parts = c.args.parts.now in
    let numbers = c.args.numbers.now in
    let fits : All (λ size. size < 2 ^ 64) sizes = λ k d l. rw (get_or_default sizes k d 0 l) (let f = c.type_inv.sizes k in omega (arith, f)) in
    let starts : c.in_ok-start.start.items ≡ inner_start parts numbers = (c.in_ok-start.ensures {u = tt}).value in
    let lengths : c.in_ok-lengths.lengths.items ≡ parts = (c.in_ok-lengths.ensures {u = tt}).items in
    let made : c.new_with_start_shape.result ≡ Ok (inner_region parts numbers) = c.new_with_start_shape.ensures.answer ∙ ap₂ (λ s n. subset_of_start_shape s n) starts lengths ∙ region_made parts sizes numbers c.requires.divided c.requires.inside fits in
    record { answer = rw made refl }
