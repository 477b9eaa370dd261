use Rattle.std.proofs.Common.{◌≡◌, ◌<◌, ◌≤◌, ◌+◌, ◌*◌, ◌∷◌, [], List, ℕ, length, take, ap, sym, subst, ◌∙◌, arith}
use Rattle.std.specs.List.{flat_map}
use Rattle.zarrs_array_bytes.specs.Elements.{piece}
use Rattle.zarrs_array_bytes.specs.Turned.{turned_bytes}
use Rattle.zarrs_array_to_array.specs.WrittenElements.{PutsItems}
use Rattle.zarrs_chunk.specs.ChunkShape.{product}
use Rattle.zarrs_codec.specs.CoordinateMap.{origins}
use Rattle.zarrs_metadata.proofs.Orders.{order_parts}
use Rattle.zarrs_array_to_array.specs.declared.transpose.axis.Axis.{Axis}
use Rattle.zarrs_array_to_array.specs.Axes.{behind, reach, tuples}
use Rattle.zarrs_array_to_array.specs.Transpose.{transposition}
use Rattle.zarrs_array_to_array.proofs.CoordinateMaps.{length-origins}
use Rattle.zarrs_array_to_array.proofs.Orders.{permuted_product}
use Rattle.zarrs_array_to_array.proofs.Steps.{origins-stepped, permuted_room}
use Rattle.zarrs_array_to_array.proofs.PlaneRows.{bytes_below}
use Rattle.zarrs_array_to_array.proofs.WrittenParts.{counted_tuples}
use Rattle.zarrs_array_to_array.proofs.transpose.transposed_pieces.put_in_order.Goals as goal

pub put_moved-requires-clause-some : goal.put_moved-requires-clause-some
put_moved-requires-clause-some c =
    let order = c.args.order.now in
    let sizes = c.args.sizes.now in
    let axes : List Axis = take c.put_ordered_axes-count.result c.put_ordered_axes-count.new.axes in
    let places : behind axes (0 ∷ []) ≡ origins (transposition order sizes) =
    c.put_ordered_axes-count.ensures.places ∙ sym (origins-stepped order sizes (order_parts order c.requires.order) c.requires.axes) in
    let counted : tuples axes ≡ product sizes = counted_tuples axes (origins (transposition order sizes)) places ∙ length-origins (transposition order sizes) ∙ permuted_product order sizes (order_parts order c.requires.order) c.requires.axes in
    let room = permuted_room order sizes (order_parts order c.requires.order) c.requires.axes c.requires.positive in
    omega (arith, counted, room)

pub put_moved-requires-clause-len : goal.put_moved-requires-clause-len
put_moved-requires-clause-len c =
    let order = c.args.order.now in
    let sizes = c.args.sizes.now in
    let axes : List Axis = take c.put_ordered_axes-count.result c.put_ordered_axes-count.new.axes in
    let places : behind axes (0 ∷ []) ≡ origins (transposition order sizes) =
    c.put_ordered_axes-count.ensures.places ∙ sym (origins-stepped order sizes (order_parts order c.requires.order) c.requires.axes) in
    let counted : tuples axes ≡ product sizes = counted_tuples axes (origins (transposition order sizes)) places ∙ length-origins (transposition order sizes) ∙ permuted_product order sizes (order_parts order c.requires.order) c.requires.axes in
    c.requires.len ∙ ap (λ (n : ℕ). n * c.args.size) (sym counted)

pub put_moved-requires-clause-inside : goal.put_moved-requires-clause-inside
put_moved-requires-clause-inside c =
    let order = c.args.order.now in
    let sizes = c.args.sizes.now in
    let axes : List Axis = take c.put_ordered_axes-count.result c.put_ordered_axes-count.new.axes in
    let room = permuted_room order sizes (order_parts order c.requires.order) c.requires.axes c.requires.positive in
    let below : reach axes + 1 ≤ product sizes = omega (arith, c.put_ordered_axes-count.ensures.reach, room) in
    bytes_below (reach axes + 1) (product sizes) c.args.size _ below (omega (arith, c.requires.whole))

pub returns : goal.returns
returns c =
    let order = c.args.order.now in
    let sizes = c.args.sizes.now in
    let f : ℕ → List ℕ = piece c.args.size c.args.bytes.now in
    let axes : List Axis = take c.put_ordered_axes-count.result c.put_ordered_axes-count.new.axes in
    let places : behind axes (0 ∷ []) ≡ origins (transposition order sizes) =
    c.put_ordered_axes-count.ensures.places ∙ sym (origins-stepped order sizes (order_parts order c.requires.order) c.requires.axes) in
    record {
      written = subst (λ (xs : List ℕ). PutsItems c.args.items.now c.put_moved.new.items c.put_moved.result (turned_bytes c.args.turn (flat_map f xs))) places c.put_moved.ensures.written;
    }
