use Rattle.std.proofs.Common.{◌≡◌, ◌*◌, ◌∷◌, [], List, ℕ, ap, sym, refl, subst, ◌∙◌}
use Rattle.std.specs.List.{flat_map}
use Rattle.zarrs_array_bytes.specs.Elements.{piece}
use Rattle.zarrs_array_bytes.specs.Turned.{turned_bytes}
use Rattle.zarrs_array_to_array.specs.WrittenElements.{PutsItems}
use Rattle.zarrs_codec.specs.CoordinateMap.{origins}
use Rattle.zarrs_metadata.proofs.Orders.{order_parts}
use Rattle.zarrs_array_to_array.specs.Axes.{behind}
use Rattle.zarrs_array_to_array.specs.Transpose.{transposition}
use Rattle.zarrs_array_to_array.proofs.Steps.{origins-stepped}
use Rattle.zarrs_array_to_array.proofs.SwappedAxes.{swapped, swapped_count, swapped_places}
use Rattle.zarrs_array_to_array.proofs.transpose.transposed_pieces.put_swapped.Goals as goal

pub put_moved-requires-clause-len : goal.put_moved-requires-clause-len
put_moved-requires-clause-len c =
    c.requires.len ∙ ap (λ (n : ℕ). n * c.args.size) (swapped_count c.args.sizes.now c.requires.axes)

pub returns : goal.returns
returns c =
    let order : List ℕ = 1 ∷ 0 ∷ [] in
    let sizes = c.args.sizes.now in
    let f : ℕ → List ℕ = piece c.args.size c.args.bytes.now in
    let places : behind (swapped sizes) (0 ∷ []) ≡ origins (transposition order sizes) =
    swapped_places sizes c.requires.axes ∙ sym (origins-stepped order sizes (order_parts order refl) (sym c.requires.axes)) in
    record {
      written = subst (λ (xs : List ℕ). PutsItems c.args.items.now c.put_moved.new.items c.put_moved.result (turned_bytes c.args.turn (flat_map f xs))) places c.put_moved.ensures.written;
    }
