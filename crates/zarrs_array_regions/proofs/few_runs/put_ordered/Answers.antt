use Rattle.std.proofs.Common.{◌-◌, ◌+◌, ◌++◌, ◌∷◌, [], ◌∙◌, take, map, length, ap, refl, sym, subst, List, ℕ, get_or}
use Rattle.std.specs.Prelude.{nat_le}
use Rattle.std.specs.List.{range_with_len}
use Rattle.std.proofs.lemmas.List.FromFn.{length-range_with_len}
use Rattle.zarrs_chunk.specs.Rows.{row_at}
use Rattle.zarrs_chunk.specs.declared.rows.Row.{Row}
use Rattle.zarrs_array_to_array.specs.Orders.{permuted}
use Rattle.zarrs_array_regions.specs.OrderedRuns.{fronts_over, HasRoom}
use Rattle.zarrs_array_regions.proofs.OrderedRows.{whole_run, runs_there, before_axes, before_room}
use Rattle.zarrs_array_regions.proofs.FewRuns.{one_few, rows_few, one_front, one_room}
use Rattle.zarrs_array_regions.proofs.few_runs.put_ordered.Goals as goal

pub returns-then-axes-eq0 : goal.returns-then-axes-eq0
returns-then-axes-eq0 c =
    let S = permuted c.args.order.now c.args.sizes.now in
    let T = permuted c.args.order.now c.args.starts.now in
    let L = permuted c.args.order.now c.args.lengths.now in
    let are = whole_run c.args.order.now c.args.sizes.now c.args.starts.now c.args.lengths.now c.requires.axes c.outer_axes-axes.result c.push.new.self.items c.args.out.now.items c.count_elements.result c.if-axes-eq0.true c.outer_axes-axes.ensures.whole c.count_elements.ensures.value c.requires.empty c.push.ensures.items in
    record { places = λ _. are; count = one_few S T L c.args.out.now.items c.push.new.self.items (0, c.count_elements.result) c.requires.empty c.push.ensures.items are }

pub put_fronts-requires-clause-axes : goal.put_fronts-requires-clause-axes
put_fronts-requires-clause-axes c =
    let o = c.outer_axes-axes in
    before_axes c.args.order.now c.args.sizes.now c.args.starts.now c.args.lengths.now c.requires.axes c.requires.filled o.result c.if-axes-eq0.false o.ensures.axes o.ensures.whole o.ensures.partial

pub put_fronts-requires-clause-room : goal.put_fronts-requires-clause-room
put_fronts-requires-clause-room c =
    let o = c.outer_axes-axes in
    subst (HasRoom 0 (take (o.result - 1) c.args.order.now) c.args.sizes.now) (sym c.last_row-row.ensures.value)
    (before_room c.args.order.now c.args.sizes.now c.args.starts.now c.args.lengths.now c.requires.axes c.requires.filled o.result c.if-axes-eq0.false o.ensures.axes o.ensures.whole o.ensures.partial _ _ refl c.requires.fits)

pub returns : goal.returns
returns c =
    let o = c.outer_axes-axes in
    let order = c.args.order.now in
    let runs = c.args.out.now.items in
    let fronts = fronts_over (take (o.result - 1) order) c.args.sizes.now c.args.starts.now c.args.lengths.now (0 ∷ []) in
    let row = ap (λ (row : Row). runs ++ map (row_at row) fronts) c.last_row-row.ensures.value in
    record {
      places = λ done. runs_there order c.args.sizes.now c.args.starts.now c.args.lengths.now c.requires.axes c.requires.filled o.result c.if-axes-eq0.false o.ensures.axes o.ensures.whole o.ensures.partial _ runs c.put_fronts.new.out.items refl c.requires.empty
          (c.put_fronts.ensures.appended done ∙ row);
      count = rows_few (permuted order c.args.sizes.now) (permuted order c.args.starts.now) (permuted order c.args.lengths.now) c.last_row-row.result fronts runs c.put_fronts.result
          (runs_there order c.args.sizes.now c.args.starts.now c.args.lengths.now c.requires.axes c.requires.filled o.result c.if-axes-eq0.false o.ensures.axes o.ensures.whole o.ensures.partial _ runs (runs ++ map (row_at c.last_row-row.result) fronts) refl c.requires.empty row)
          c.put_fronts.ensures.count;
    }

pub put_rows-requires : goal.put_rows-requires
put_rows-requires c =
    let o = c.outer_axes-axes in
    let order = c.args.order.now in
    let axes = before_axes order c.args.sizes.now c.args.starts.now c.args.lengths.now c.requires.axes c.requires.filled o.result c.if-axes-eq0.false o.ensures.axes o.ensures.whole o.ensures.partial in
    let room = subst (HasRoom 0 (take (o.result - 1) order) c.args.sizes.now) (sym c.last_row-row.ensures.value)
    (before_room order c.args.sizes.now c.args.starts.now c.args.lengths.now c.requires.axes c.requires.filled o.result c.if-axes-eq0.false o.ensures.axes o.ensures.whole o.ensures.partial _ _ refl c.requires.fits) in
    record {
      room = one_room order c.args.sizes.now c.args.starts.now c.args.lengths.now c.last_row-row.result o.result (get_or order 0 0) c.if-axes-eq2.true o.ensures.axes refl axes room;
      start = room.start;
      step = room.step;
    }

pub returns-then-axes-eq2 : goal.returns-then-axes-eq2
returns-then-axes-eq2 c =
    let o = c.outer_axes-axes in
    let order = c.args.order.now in
    let runs = c.args.out.now.items in
    let axis = get_or order 0 0 in
    let one = range_with_len (get_or c.args.starts.now axis 0) (get_or c.args.lengths.now axis 0) in
    let row = ap (λ (fronts : List ℕ). runs ++ map (row_at c.last_row-row.result) fronts) (sym (one_front order c.args.sizes.now c.args.starts.now c.args.lengths.now o.result axis c.if-axes-eq2.true o.ensures.axes refl))
    ∙ ap (λ (row : Row). runs ++ map (row_at row) (fronts_over (take (o.result - 1) order) c.args.sizes.now c.args.starts.now c.args.lengths.now (0 ∷ []))) c.last_row-row.ensures.value in
    record {
      places = λ done. runs_there order c.args.sizes.now c.args.starts.now c.args.lengths.now c.requires.axes c.requires.filled o.result c.if-axes-eq0.false o.ensures.axes o.ensures.whole o.ensures.partial _ runs c.put_rows.new.out.items refl c.requires.empty
          (c.put_rows.ensures.appended done ∙ row);
      count = rows_few (permuted order c.args.sizes.now) (permuted order c.args.starts.now) (permuted order c.args.lengths.now) c.last_row-row.result one runs c.put_rows.result
          (runs_there order c.args.sizes.now c.args.starts.now c.args.lengths.now c.requires.axes c.requires.filled o.result c.if-axes-eq0.false o.ensures.axes o.ensures.whole o.ensures.partial _ runs (runs ++ map (row_at c.last_row-row.result) one) refl c.requires.empty row)
          (c.put_rows.ensures.count ∙ ap (λ (n : ℕ). nat_le (length runs + n) 15) (sym (length-range_with_len (get_or c.args.starts.now axis 0) (get_or c.args.lengths.now axis 0))));
    }
