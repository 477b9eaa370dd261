use Rattle.std.proofs.Common.{◌≡◌, ◌∙◌, ℕ, ap, arith, get_or, set}
use Rattle.zarrs_array_to_array.specs.Strides.{stepped_by}
use Rattle.zarrs_array_to_array.proofs.InPlace.{item_at, item_moved}
use Rattle.zarrs_array_to_array.proofs.transpose.transposed_places.step_places.Goals as goal

pub stepped_place-requires-clause-fits : goal.stepped_place-requires-clause-fits
stepped_place-requires-clause-fits c =
    let by : ℕ → ℕ = stepped_by c.args.strides.now c.args.steps.now in
    let same : get_or c.loop-index.places c.loop-index.index 0 ≡ get_or c.args.places.now c.loop-index.index 0 = item_at by c.args.places.now c.loop-index.places c.loop-index.index (omega arith) c.loop-index.invariant in
    let fits = c.requires.fits c.loop-index.index 0 (omega arith) in
    rw same fits

pub loop-index-preserved : goal.loop-index-preserved
loop-index-preserved c =
    let by : ℕ → ℕ = stepped_by c.args.strides.now c.args.steps.now in
    let old = c.args.places.now in
    let now = c.loop-index.places in
    let index = c.loop-index.index in
    let same : get_or now index 0 ≡ get_or old index 0 = item_at by old now index (omega arith) c.loop-index.invariant in
    ap (λ n. set now index n) (c.stepped_place.ensures.value ∙ ap by same)
    ∙ item_moved by old now index (omega arith) c.loop-index.invariant
