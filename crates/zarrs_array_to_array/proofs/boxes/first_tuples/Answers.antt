use Rattle.std.proofs.Common.{rules, ◌≡◌, ◌++◌, ◌∷◌, [], Ok, map, arith, ap, ap₂, sym, ◌∙◌}
use Rattle.std.specs.List.{range_with_len}
use Rattle.std.proofs.lemmas.List.{map-append}
use Rattle.std.proofs.lemmas.List.FromFn.{map-range_with_len_more}
use Rattle.zarrs_chunk.specs.Indices.{box_tuple}
use Rattle.zarrs_array_to_array.specs.Orders.{permuted}
use Rattle.zarrs_array_to_array.proofs.BoxNumbers.{box_ordered}
use Rattle.zarrs_array_to_array.proofs.boxes.first_tuples.Goals as goal

pub loop-number-preserved : goal.loop-number-preserved
loop-number-preserved c =
    let order = c.args.order.now in
    let starts = c.args.starts.now in
    let lengths = c.args.lengths.now in
    let number = c.loop-number.number in
    let made : c.in_ok-box_tuple.field-0.items ≡ permuted order (box_tuple starts lengths number) = cc ((c.in_ok-box_tuple.ensures {u = tt}).answer.is) in
    ap (map (λ tuple. tuple.items)) (c.in_ok-push.ensures {u = tt}).items
    ∙ map-append (λ tuple. tuple.items) c.loop-number.tuples.items (c.in_ok-box_tuple.field-0 ∷ [])
    ∙ ap₂ (λ xs x. xs ++ x ∷ []) c.loop-number.invariant made
    ∙ sym (map-range_with_len_more (λ n. permuted order (box_tuple starts lengths n)) 0 number number (omega arith))

pub returns : goal.returns
returns c =
    let order = c.args.order.now in
    let starts = c.args.starts.now in
    let lengths = c.args.lengths.now in
    let all : c.loop-number.number ≡ c.args.count = omega arith in
    record {
      answer = record {
        is = ap (λ tuples. Ok tuples)
            (box_ordered order starts lengths c.args.count (sym c.requires.axes) c.requires.count
            ∙ ap (λ n. map (λ number. permuted order (box_tuple starts lengths number)) (range_with_len 0 n)) (sym all)
            ∙ sym c.loop-number.invariant);
        no_fault = search rules;
      };
    }
