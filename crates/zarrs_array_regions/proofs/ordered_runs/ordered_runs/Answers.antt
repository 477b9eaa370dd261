use Rattle.std.proofs.Common.{◌-◌, ◌++◌, ◌∷◌, [], ◌∙◌, take, map, ap, refl, sym, subst}
use Rattle.zarrs_chunk.specs.Rows.{row_at}
use Rattle.zarrs_chunk.specs.declared.rows.Row.{Row}
use Rattle.zarrs_array_regions.specs.OrderedRuns.{fronts_over, HasRoom}
use Rattle.zarrs_array_regions.proofs.OrderedRows.{whole_run, runs_there, before_axes, before_room}
use Rattle.zarrs_array_regions.proofs.ordered_runs.ordered_runs.Goals as goal

pub returns-then-axes-eq0 : goal.returns-then-axes-eq0
returns-then-axes-eq0 c =
    record { places = whole_run c.args.order.now c.args.sizes.now c.args.starts.now c.args.lengths.now c.requires.axes c.outer_axes-axes.result c.push.new.self.items c.new-runs.result.items c.count_elements.result c.if-axes-eq0.true c.outer_axes-axes.ensures.whole c.count_elements.ensures.value c.new-runs.ensures.items c.in_ok-push.ensures.items }

pub append_rows-requires-clause-axes : goal.append_rows-requires-clause-axes
append_rows-requires-clause-axes c =
    let o = c.outer_axes-axes in
    before_axes c.args.order.now c.args.sizes.now c.args.starts.now c.args.lengths.now c.requires.axes c.requires.filled o.result c.if-axes-eq0.false o.ensures.axes o.ensures.whole o.ensures.partial

pub append_rows-requires-clause-room : goal.append_rows-requires-clause-room
append_rows-requires-clause-room c =
    let o = c.outer_axes-axes in
    subst (HasRoom 0 (take (o.result - 1) c.args.order.now) c.args.sizes.now) (sym c.last_row-row.ensures.value)
    (before_room c.args.order.now c.args.sizes.now c.args.starts.now c.args.lengths.now c.requires.axes c.requires.filled o.result c.if-axes-eq0.false o.ensures.axes o.ensures.whole o.ensures.partial _ _ refl c.requires.fits)

pub returns : goal.returns
returns c =
    let o = c.outer_axes-axes in
    let order = c.args.order.now in
    record {
      places = runs_there order c.args.sizes.now c.args.starts.now c.args.lengths.now c.requires.axes c.requires.filled o.result c.if-axes-eq0.false o.ensures.axes o.ensures.whole o.ensures.partial _ c.in_ok-runs.runs.items c.append_rows.new.out.items refl c.in_ok-runs.ensures.items
          (c.in_ok-append_rows.ensures.made ∙ ap (λ (row : Row). c.in_ok-runs.runs.items ++ map (row_at row) (fronts_over (take (o.result - 1) order) c.args.sizes.now c.args.starts.now c.args.lengths.now (0 ∷ []))) c.last_row-row.ensures.value);
    }
