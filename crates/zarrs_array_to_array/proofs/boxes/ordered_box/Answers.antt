use Rattle.std.proofs.Common.{rules, ◌≡◌, Ok, Some, map, refl, ap, sym, ◌∙◌}
use Rattle.zarrs_chunk.specs.ChunkShape.{shape_of}
use Rattle.zarrs_array_to_array.proofs.BoxNumbers.{box_empty, shape_of-filled}
use Rattle.zarrs_array_to_array.proofs.boxes.ordered_box.Goals as goal

pub returns-then-count-eq0 : goal.returns-then-count-eq0
returns-then-count-eq0 c =
    let none = box_empty c.args.order.now c.args.subset.now.starts c.args.subset.now.lengths c.shape-lengths.ensures.axes (c.requires.count ∙ c.if-count-eq0.true) in
    record { answer = record { is = ap (λ tuples. Ok tuples) (none ∙ sym (ap (map (λ tuple. tuple.items)) c.new.ensures.items)); no_fault = search rules } }

pub unwrap-lengths-requires : goal.unwrap-lengths-requires
unwrap-lengths-requires c =
    let lengths = c.args.subset.now.lengths in
    let made : c.new-2.result ≡ Some lengths = c.new-2.ensures.answer ∙ ap shape_of ((c.in_ok-from_slice.ensures {u = tt}).items ∙ c.shape-lengths.ensures.value) ∙ shape_of-filled lengths c.args.count c.requires.count c.if-count-eq0.false in
    rw made refl
