use Rattle.std.proofs.Common.{◌≡◌, ◌<◌, ◌≤◌, ◌+◌, ◌-◌, ◌*◌, ◌/◌, ◌++◌, ◌∷◌, [], List, ℕ, length, drop, ap, ap₂, sym, ◌∙◌, arith}
use Rattle.std.specs.List.{flat_map}
use Rattle.std.proofs.lemmas.List.{length-take-le}
use Rattle.std.proofs.Math.Nat.{add-mul, mul-le-mul_right}
use Rattle.zarrs_array_bytes.specs.Elements.{piece}
use Rattle.zarrs_array_bytes.specs.Turned.{turned_bytes}
use Rattle.zarrs_array_to_array.specs.Strides.{row}
use Rattle.zarrs_array_to_array.specs.Axes.{behind, reach, tuples}
use Rattle.zarrs_array_to_array.proofs.AxisRows.{behind-nil}
use Rattle.zarrs_array_to_array.proofs.PlaneRows.{bytes_below, places_are_bytes}
use Rattle.zarrs_array_to_array.proofs.WrittenParts.{all_parts, columns_more, length-fronts, length-part, length-stretches, part_of, turned_none}
use Rattle.zarrs_array_to_array.proofs.transpose.planes.put_blocks.Goals as goal

pub slice_bounds-put_block-end : goal.slice_bounds-put_block-end
slice_bounds-put_block-end c =
    let axes = c.args.axes.now in
    let items = c.args.items.now in
    let size = c.args.size in
    let count = c.args.count in
    let done = c.loop-done.done in
    let width = c.min-width.result in
    let whole : length items ≡ count * tuples axes * size = c.requires.len ∙ grind arith in
    let column : length items / count ≡ tuples axes * size = part_of (length items) count (tuples axes) size c.requires.counted whole in
    let columns : count * (length items / count) ≡ length items = ap (λ (n : ℕ). count * n) column ∙ sym c.requires.len in
    let here : done + width ≤ count = omega (arith, c.min-width.ensures, c.loop-done.invariant.within) in
    let ends : done * (length items / count) + width * (length items / count) ≤ length items = omega (arith, add-mul done width (length items / count), mul-le-mul_right {m = done + width} {n = count} (length items / count) here, columns) in
    omega (arith, ends, c.loop-done.auto.items)

pub overflow_add-front : goal.overflow_add-front
overflow_add-front c =
    omega (arith, places_are_bytes (c.args.front + reach c.args.axes.now + c.args.count) c.args.size c.requires.sized, c.requires.inside, c.loop-done-test.true)

pub put_block-requires-clause-room : goal.put_block-requires-clause-room
put_block-requires-clause-room c =
    let axes = c.args.axes.now in
    let items = c.args.items.now in
    let size = c.args.size in
    let count = c.args.count in
    let done = c.loop-done.done in
    let width = c.min-width.result in
    let whole : length items ≡ count * tuples axes * size = c.requires.len ∙ grind arith in
    let column : length items / count ≡ tuples axes * size = part_of (length items) count (tuples axes) size c.requires.counted whole in
    let columns : count * (length items / count) ≡ length items = ap (λ (n : ℕ). count * n) column ∙ sym c.requires.len in
    let here : done + width ≤ count = omega (arith, c.min-width.ensures, c.loop-done.invariant.within) in
    let ends : done * (length items / count) + width * (length items / count) ≤ length items = omega (arith, add-mul done width (length items / count), mul-le-mul_right {m = done + width} {n = count} (length items / count) here, columns) in
    let narrow : width ≤ c.args.wide = omega (arith, c.min-width.ensures) in
    let room : c.args.wide * (length items / count) ≡ c.args.wide * (tuples axes * size) = ap (λ (n : ℕ). c.args.wide * n) column in
    let fits : width * (length items / count) ≤ length c.loop-done.block = omega (arith, mul-le-mul_right {m = width} {n = c.args.wide} (length items / count) narrow, room, c.requires.room, c.loop-done.auto.block) in
    length-take-le (width * (length items / count)) c.loop-done.block fits ∙ ap (λ (n : ℕ). width * n) column ∙ grind arith

pub put_block-requires-clause-len : goal.put_block-requires-clause-len
put_block-requires-clause-len c =
    let axes = c.args.axes.now in
    let items = c.args.items.now in
    let size = c.args.size in
    let count = c.args.count in
    let done = c.loop-done.done in
    let width = c.min-width.result in
    let whole : length items ≡ count * tuples axes * size = c.requires.len ∙ grind arith in
    let column : length items / count ≡ tuples axes * size = part_of (length items) count (tuples axes) size c.requires.counted whole in
    let columns : count * (length items / count) ≡ length items = ap (λ (n : ℕ). count * n) column ∙ sym c.requires.len in
    let here : done + width ≤ count = omega (arith, c.min-width.ensures, c.loop-done.invariant.within) in
    let ends : done * (length items / count) + width * (length items / count) ≤ length items = omega (arith, add-mul done width (length items / count), mul-le-mul_right {m = done + width} {n = count} (length items / count) here, columns) in
    let at : ℕ = done * (length items / count) in
    length-part (at + width * (length items / count) - at) at c.loop-done.items (omega (arith, ends, c.loop-done.auto.items)) ∙ omega arith ∙ ap (λ (n : ℕ). width * n) column

pub put_block-requires-clause-inside : goal.put_block-requires-clause-inside
put_block-requires-clause-inside c =
    let at : ℕ = c.args.front + c.loop-done.done + reach c.args.axes.now in
    let width = c.min-width.result in
    let below : at + width ≤ c.args.front + reach c.args.axes.now + c.args.count = omega (arith, c.min-width.ensures, c.loop-done.invariant.within) in
    omega (arith, bytes_below (at + width) _ c.args.size _ below c.requires.inside, add-mul at width c.args.size)

pub loop-done-init : goal.loop-done-init
loop-done-init c =
    let f : ℕ → List ℕ = piece c.args.size c.args.bytes.now in
    let items = c.args.items.now in
    let none : 0 * (length items / c.args.count) ≡ 0 = omega arith in
    record {
      written = sym (ap₂ (λ (xs : List ℕ) (n : ℕ). turned_bytes c.args.turn (flat_map f xs) ++ drop n items) (behind-nil c.args.axes.now) none ∙ ap (λ (xs : List ℕ). xs ++ items) (turned_none c.args.turn c.args.size c.requires.turn));
      within = omega arith;
    }

pub loop-done-preserved : goal.loop-done-preserved
loop-done-preserved c =
    let axes = c.args.axes.now in
    let items = c.args.items.now in
    let size = c.args.size in
    let count = c.args.count in
    let done = c.loop-done.done in
    let whole : length items ≡ count * tuples axes * size = c.requires.len ∙ grind arith in
    let column : length items / count ≡ tuples axes * size = part_of (length items) count (tuples axes) size c.requires.counted whole in
    let columns : count * (length items / count) ≡ length items = ap (λ (n : ℕ). count * n) column ∙ sym c.requires.len in
    let f : ℕ → List ℕ = piece size c.args.bytes.now in
    let width = c.min-width.result in
    record {
      written =
          columns_more c.args.turn size (tuples axes) f axes c.args.front done width (length items / count) _ items c.loop-done.items c.put_block.new.items c.requires.turn column c.loop-done.invariant.written
          (length-fronts (length items / count) f axes c.args.front 1 done
          (λ k l.
          let at : ℕ = c.args.front + k * 1 + reach axes in
          let last : (at + 1) * size ≤ length c.args.bytes.now = bytes_below (at + 1) (c.args.front + reach axes + count) size _ (omega (arith, l, c.loop-done.invariant.within)) c.requires.inside in
          length-stretches size size c.args.bytes.now axes (c.args.front + k * 1) (omega (arith, last)) ∙ sym column))
          (omega arith) c.put_block.ensures.written;
      within = omega (arith, c.min-width.ensures);
    }

pub returns : goal.returns
returns c =
    let axes = c.args.axes.now in
    let items = c.args.items.now in
    let size = c.args.size in
    let count = c.args.count in
    let done = c.loop-done.done in
    let whole : length items ≡ count * tuples axes * size = c.requires.len ∙ grind arith in
    let column : length items / count ≡ tuples axes * size = part_of (length items) count (tuples axes) size c.requires.counted whole in
    let columns : count * (length items / count) ≡ length items = ap (λ (n : ℕ). count * n) column ∙ sym c.requires.len in
    let f : ℕ → List ℕ = piece size c.args.bytes.now in
    let all : done ≡ count = omega (arith, c.loop-done-test.false, c.loop-done.invariant.within) in
    record {
      written =
          all_parts (turned_bytes c.args.turn (flat_map f (behind axes (row c.args.front 1 done)))) c.loop-done.items items (done * (length items / count)) c.loop-done.invariant.written (omega (arith, ap (λ (n : ℕ). n * (length items / count)) all, columns))
          ∙ ap (λ (n : ℕ). turned_bytes c.args.turn (flat_map f (behind axes (row c.args.front 1 n)))) all;
    }
