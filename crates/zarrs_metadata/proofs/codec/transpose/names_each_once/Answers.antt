use Rattle.std.proofs.Common.{◌≡◌, true, false, get_or, arith, sym, ◌∙◌}
use Rattle.std.proofs.lemmas.List.{get_or_default}
use Rattle.zarrs_metadata.proofs.Orders.{order_from, no_order_above, no_order_twice}
use Rattle.zarrs_metadata.proofs.codec.transpose.names_each_once.Goals as goal
use Rattle.zarrs_metadata.proofs.codec.transpose.names_each_once.Goals.{then-axis-axes-via-then-axis-axes, then-axis-axes-via-else-axis-axes+then-index}

pub returns-then-axis-axes : goal.returns-then-axis-axes
returns-then-axis-axes c =
    elim c.then-axis-axes.branch [
      | then-axis-axes-via-then-axis-axes w ↦ record { value = sym (no_order_above c.args.axes.now c.loop-axis.axis-index (omega arith) (omega arith)) }
      | then-axis-axes-via-else-axis-axes+then-index w ↦ (
          let axis = get_or c.args.axes.now c.loop-axis.axis-index 0 in
          let known : get_or c.loop-axis.named.items axis false ≡ true =
          get_or_default c.loop-axis.named.items axis false w.index.result.now (omega (arith, c.loop-axis.invariant.len, w.if-axis-axes.false)) ∙ sym w.index.ensures ∙ w.if-index.true in
          let before = c.loop-axis.invariant.from axis w.if-axis-axes.false known in
          record { value = sym (no_order_twice c.args.axes.now before.0 c.loop-axis.axis-index before.1 c.loop-axis-test.true before.2) })
    ]

pub returns : goal.returns
returns c =
    record { value = sym (order_from c.args.axes.now (record { below = λ i l. c.loop-axis.invariant.below i (omega arith); distinct = λ i j l m. c.loop-axis.invariant.distinct i j l (omega arith) })) }
