use Rattle.std.proofs.Common.{rules, ◌≡◌, ◌∙◌, [], ◌∷◌, ◌++◌, true, arith, ap}
use Rattle.zarrs_chunk.specs.ChunkShape.{product}
use Rattle.zarrs_chunk.specs.Runs.{joined_runs}
use Rattle.zarrs_chunk.specs.Tuples.{row_major, is_tuple_inside}
use Rattle.zarrs_chunk.proofs.Inside.{row_major-below}
use Rattle.zarrs_chunk.proofs.index_lists.push_run.Goals as goal

pub append_place-requires : goal.append_place-requires
append_place-requires c =
    let inside : is_tuple_inside c.args.sizes.now c.args.tuple.now ≡ true = search rules in
    let place : c.in_ok-place.place ≡ row_major c.args.sizes.now c.args.tuple.now = search rules in
    let below = row_major-below c.args.sizes.now c.args.tuple.now inside in
    omega (arith, place, below, c.requires.fits)

pub returns-clause-pushed : goal.returns-clause-pushed
returns-clause-pushed c =
    let place : c.in_ok-place.place ≡ row_major c.args.sizes.now c.args.tuple.now = search rules in
    c.in_ok-append_place.ensures.places ∙ ap (λ n. joined_runs c.args.runs.now.items ++ n ∷ []) place

pub returns-clause-below : goal.returns-clause-below
returns-clause-below c =
    let inside : is_tuple_inside c.args.sizes.now c.args.tuple.now ≡ true = search rules in
    let place : c.in_ok-place.place ≡ row_major c.args.sizes.now c.args.tuple.now = search rules in
    let below = row_major-below c.args.sizes.now c.args.tuple.now inside in
    c.in_ok-append_place.ensures.below (product c.args.sizes.now) (omega (arith, place, below))
