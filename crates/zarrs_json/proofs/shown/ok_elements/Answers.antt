use Rattle.std.proofs.Common.{◌≡◌, ap, map, Ok}
use Rattle.std.specs.List.{range_with_len}
use Rattle.serde_json.specs.View.{view}
use Rattle.zarrs_array_bytes.specs.Elements.{element_at}
use Rattle.zarrs_json.specs.Elements.{element_tree}
use Rattle.zarrs_json.proofs.ShownLemmas.{shown_floats, shown_line}
use Rattle.zarrs_json.proofs.shown.ok_elements.Goals as goal

pub ok_line-requires : goal.ok_line-requires
ok_line-requires c =
    let shown : map view c.in_ok-values.values.items ≡ map (λ place. element_tree (element_at c.args.data_type.now c.args.elements.now place)) (range_with_len 0 c.in_ok-count.count) = cc (c.in_ok-values.ensures.answer) in
    record { no_float = shown_floats c.args.data_type.now c.args.elements.now c.in_ok-count.count c.in_ok-values.values shown }

pub returns : goal.returns
returns c =
    let shown : map view c.in_ok-values.values.items ≡ map (λ place. element_tree (element_at c.args.data_type.now c.args.elements.now place)) (range_with_len 0 c.in_ok-count.count) = cc (c.in_ok-values.ensures.answer) in
    record { answer = λ chunk holds. ap Ok (shown_line c.args.data_type.now c.args.elements.now chunk c.count.result c.in_ok-count.count c.in_ok-values.values c.in_ok-line.line.items holds c.count.ensures.count c.in_ok-count.was shown c.in_ok-line.ensures.value) }
