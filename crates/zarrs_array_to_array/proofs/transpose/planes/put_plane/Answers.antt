use Rattle.std.proofs.Common.{◌≡◌, ◌≤◌, ◌+◌, ◌-◌, ◌*◌, ◌++◌, List, ℕ, ap, sym, ◌∙◌, arith}
use Rattle.std.specs.List.{flat_map}
use Rattle.std.proofs.lemmas.Result.{on_ok_weaker}
use Rattle.zarrs_array_bytes.specs.Elements.{piece}
use Rattle.zarrs_array_to_array.specs.Strides.{row, next_rows}
use Rattle.std.proofs.Math.Nat.{add-mul}
use Rattle.zarrs_array_to_array.proofs.PlaneRows.{stretches_are_runs, steps_below, bytes_below, places_are_bytes}
use Rattle.zarrs_array_to_array.proofs.transpose.planes.put_plane.Goals as goal

pub put_row-requires-clause-inside : goal.put_row-requires-clause-inside
put_row-requires-clause-inside c = λ k l.
    let rows = c.args.rows in
    let columns = c.args.columns in
    let at : ℕ = c.args.front + k * rows.step in
    let end : ℕ = c.args.front + (rows.size - 1) * rows.step + (columns.size - 1) * columns.step + 1 in
    let one : (columns.size - 1) * columns.step ≡ columns.size - 1 = ap (λ (n : ℕ). (columns.size - 1) * n) c.if-columns-eq1.true ∙ omega arith in
    let below : at + columns.size ≤ end = omega (arith, steps_below k rows.size rows.step l, one) in
    omega (arith, bytes_below (at + columns.size) end c.args.size _ below c.requires.inside, add-mul at columns.size c.args.size)

pub returns-then-columns-eq1 : goal.returns-then-columns-eq1
returns-then-columns-eq1 c =
    let rows = c.args.rows in
    let columns = c.args.columns in
    let f : ℕ → List ℕ = piece c.args.size c.args.bytes.now in
    let fronts : List ℕ = row c.args.front rows.step rows.size in
    record {
      written =
          c.put_row.ensures.written
          ∙ stretches_are_runs c.args.size columns.size c.args.bytes.now fronts
          ∙ ap (λ (step : ℕ). flat_map f (next_rows step columns.size fronts)) (sym c.if-columns-eq1.true);
    }

pub put_rows-requires-clause-starts : goal.put_rows-requires-clause-starts
put_rows-requires-clause-starts c = λ r l.
    let rows = c.args.rows in
    let columns = c.args.columns in
    let end : ℕ = c.args.front + (rows.size - 1) * rows.step + (columns.size - 1) * columns.step + 1 in
    omega (arith, steps_below r rows.size rows.step l, places_are_bytes end c.args.size c.requires.sized, c.requires.inside)

pub put_rows-requires-clause-inside : goal.put_rows-requires-clause-inside
put_rows-requires-clause-inside c = λ r k l m.
    let rows = c.args.rows in
    let columns = c.args.columns in
    let at : ℕ = c.args.front + r * rows.step + k * columns.step in
    let end : ℕ = c.args.front + (rows.size - 1) * rows.step + (columns.size - 1) * columns.step + 1 in
    let below : at + 1 ≤ end = omega (arith, steps_below r rows.size rows.step l, steps_below k columns.size columns.step m) in
    omega (arith, bytes_below (at + 1) end c.args.size _ below c.requires.inside, add-mul at 1 c.args.size)
