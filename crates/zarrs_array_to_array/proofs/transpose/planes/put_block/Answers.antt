use Rattle.std.proofs.Common.{◌≡◌, ◌<◌, ◌≤◌, ◌*◌, ◌/◌, ◌++◌, ◌∷◌, [], List, ℕ, length, ap, sym, ◌∙◌, arith}
use Rattle.std.specs.List.{flat_map}
use Rattle.zarrs_array_bytes.specs.Elements.{piece}
use Rattle.zarrs_array_bytes.specs.Turned.{turned_bytes}
use Rattle.zarrs_array_to_array.specs.Strides.{row, next_rows}
use Rattle.zarrs_array_to_array.specs.Axes.{behind, stretch, tuples}
use Rattle.zarrs_array_to_array.proofs.PlaneRows.{places_are_bytes}
use Rattle.zarrs_array_to_array.proofs.BlockRows.{block_turned, rows_within, pieces_counted}
use Rattle.zarrs_array_to_array.proofs.WrittenParts.{length-behind}
use Rattle.zarrs_array_to_array.proofs.transpose.planes.put_block.Goals as goal

pub put_columns-requires-clause-whole : goal.put_columns-requires-clause-whole
put_columns-requires-clause-whole c =
    let size = c.args.size in
    let width = c.args.width in
    let axes = c.args.axes.now in
    let bytes = c.put_stretches.new.items in
    let some : 0 < width * size = omega (arith, places_are_bytes width size c.requires.sized, c.requires.wide) in
    let counted : length bytes ≡ tuples axes * (width * size) = omega (arith, c.put_stretches.auto.items, c.requires.room) in
    let count : length bytes / (width * size) ≡ tuples axes = pieces_counted (length bytes) (tuples axes) (width * size) some counted in
    counted ∙ ap (λ (n : ℕ). n * (width * size)) (sym count)

pub put_columns-requires-clause-len : goal.put_columns-requires-clause-len
put_columns-requires-clause-len c =
    let size = c.args.size in
    let width = c.args.width in
    let axes = c.args.axes.now in
    let bytes = c.put_stretches.new.items in
    let some : 0 < width * size = omega (arith, places_are_bytes width size c.requires.sized, c.requires.wide) in
    let counted : length bytes ≡ tuples axes * (width * size) = omega (arith, c.put_stretches.auto.items, c.requires.room) in
    let count : length bytes / (width * size) ≡ tuples axes = pieces_counted (length bytes) (tuples axes) (width * size) some counted in
    c.requires.len ∙ ap (λ (n : ℕ). width * (n * size)) (sym count)

pub returns : goal.returns
returns c =
    let size = c.args.size in
    let width = c.args.width in
    let axes = c.args.axes.now in
    let bytes = c.put_stretches.new.items in
    let some : 0 < width * size = omega (arith, places_are_bytes width size c.requires.sized, c.requires.wide) in
    let counted : length bytes ≡ tuples axes * (width * size) = omega (arith, c.put_stretches.auto.items, c.requires.room) in
    let count : length bytes / (width * size) ≡ tuples axes = pieces_counted (length bytes) (tuples axes) (width * size) some counted in
    let items = c.args.bytes.now in
    let places : List ℕ = behind axes (c.args.front ∷ []) in
    let block : List ℕ = flat_map (stretch (width * size) size items) places in
    let within = rows_within size width c.args.front (length items) axes c.requires.inside in
    let one : 1 * tuples axes ≡ tuples axes = omega arith in
    let found : length bytes / (width * size) ≡ length places = count ∙ sym (length-behind axes (c.args.front ∷ []) ∙ one) in
    record {
      written =
          c.turn_in_place.ensures.written
          ∙ ap (turned_bytes c.args.turn)
          (c.put_columns.ensures.written
          ∙ ap (λ (xs : List ℕ). flat_map (piece size xs) (next_rows width (length bytes / (width * size)) (row 0 1 width))) c.put_stretches.ensures.written
          ∙ ap (λ (n : ℕ). flat_map (piece size block) (next_rows width n (row 0 1 width))) found
          ∙ block_turned size c.args.front width axes items within);
    }
