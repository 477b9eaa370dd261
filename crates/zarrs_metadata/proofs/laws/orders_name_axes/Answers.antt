use Rattle.std.proofs.Common.{arith, ◌∙◌}
use Rattle.std.proofs.lemmas.List.{get_or_default}
use Rattle.zarrs_metadata.proofs.Orders.{order_parts, order_from, order_permutation, order_names}
use Rattle.zarrs_metadata.proofs.laws.orders_name_axes.Goals as goal

pub returns-clause-by_entry : goal.returns-clause-by_entry
returns-clause-by_entry c = λ order. (order_parts order, order_from order)

pub returns-clause-each : goal.returns-clause-each
returns-clause-each c = λ order axis h l.
    let found = order_names order (order_parts order h) axis (omega arith) (omega arith) in
    (found.0, found.1, get_or_default order found.0 axis 0 found.1 ∙ found.2)

pub returns-clause-permutation : goal.returns-clause-permutation
returns-clause-permutation c = λ order h. order_permutation order (order_parts order h)
