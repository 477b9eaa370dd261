use Rattle.std.proofs.Common.{◌≡◌, ◌≤◌, ◌+◌, ◌∷◌, [], ℕ, List, take, arith, sym, ◌∙◌, Vec, Global}
use Rattle.std.specs.List.{All}
use Rattle.std.proofs.lemmas.Result.{IfOk-weaker}
use Rattle.zarrs_chunk.specs.ChunkShape.{product}
use Rattle.zarrs_chunk.specs.Runs.{joined_runs}
use Rattle.zarrs_codec.specs.CoordinateMap.{origins}
use Rattle.zarrs_metadata.proofs.Orders.{order_parts}
use Rattle.zarrs_array_to_array.specs.declared.transpose.axis.Axis.{Axis}
use Rattle.zarrs_array_to_array.specs.Axes.{behind, reach}
use Rattle.zarrs_array_to_array.specs.Transpose.{transposition}
use Rattle.zarrs_array_to_array.proofs.Steps.{origins-stepped, permuted_room}
use Rattle.zarrs_array_to_array.proofs.transpose.transposed_runs.runs_in_order.Goals as goal

pub runs_over-requires-clause-fits : goal.runs_over-requires-clause-fits
runs_over-requires-clause-fits c =
    let room = permuted_room c.args.order.now c.args.sizes.now (order_parts c.args.order.now c.requires.order) c.requires.axes c.requires.positive in
    omega (arith, c.put_ordered_axes-count.ensures.reach, room, c.requires.fits)

pub returns-clause-places : goal.returns-clause-places
returns-clause-places c =
    let order = c.args.order.now in
    let sizes = c.args.sizes.now in
    let axes : List Axis = take c.put_ordered_axes-count.result c.put_ordered_axes-count.new.axes in
    let places : behind axes (0 ∷ []) ≡ origins (transposition order sizes) =
    c.put_ordered_axes-count.ensures.places ∙ sym (origins-stepped order sizes (order_parts order c.requires.order) c.requires.axes) in
    IfOk-weaker c.runs_over.result (λ (v : Vec (ℕ × ℕ) Global). joined_runs v.items ≡ behind axes (0 ∷ [])) (λ (v : Vec (ℕ × ℕ) Global). joined_runs v.items ≡ origins (transposition order sizes))
    (λ v h. h ∙ places) c.runs_over.ensures.places

pub returns-clause-below : goal.returns-clause-below
returns-clause-below c =
    let order = c.args.order.now in
    let sizes = c.args.sizes.now in
    let axes : List Axis = take c.put_ordered_axes-count.result c.put_ordered_axes-count.new.axes in
    let room = permuted_room order sizes (order_parts order c.requires.order) c.requires.axes c.requires.positive in
    let below : reach axes + 1 ≤ product sizes = omega (arith, c.put_ordered_axes-count.ensures.reach, room) in
    IfOk-weaker c.runs_over.result (λ (v : Vec (ℕ × ℕ) Global). All (λ (run : ℕ × ℕ). run.0 + run.1 ≤ reach axes + 1) v.items) (λ (v : Vec (ℕ × ℕ) Global). All (λ (run : ℕ × ℕ). run.0 + run.1 ≤ product sizes) v.items)
    (λ v h k d l. omega (arith, h k d l, below)) c.runs_over.ensures.below
