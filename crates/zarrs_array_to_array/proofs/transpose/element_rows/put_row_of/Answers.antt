use Rattle.std.proofs.Common.{◌≡◌, ◌+◌, ◌*◌, ◌-◌, ◌++◌, drop, ℕ, List, arith, ap₂, sym, ◌∙◌}
use Rattle.std.specs.List.{flat_map}
use Rattle.zarrs_array_to_array.specs.Axes.{stretch}
use Rattle.zarrs_array_to_array.specs.Strides.{row}
use Rattle.zarrs_array_to_array.proofs.PlaneRows.{flat_map-row_more}
use Rattle.zarrs_array_to_array.proofs.RowGroups.{length-row, put_next}
use Rattle.zarrs_array_to_array.proofs.transpose.element_rows.put_row_of.Goals as goal

pub loop-index-preserved : goal.loop-index-preserved
loop-index-preserved c =
    let len = c.args.len in
    let step = c.args.axis.step in
    let f : ℕ → List ℕ = stretch len c.args.size c.args.bytes.now in
    let i = c.loop-index.index in
    let more : i * len + len ≡ (i + 1) * len = omega arith in
    put_next (flat_map f (row c.args.front step i)) c.args.items.now c.loop-index.items (f (c.args.front + i * step)) c.copy_from_slice.new.self (i * len) (i * len + len - i * len) len
    (length-row len c.args.size c.args.bytes.now c.args.front step i (λ k l. c.requires.inside k (omega arith))) c.loop-index.invariant (omega arith) c.copy_from_slice.ensures.after
    ∙ ap₂ (λ xs n. xs ++ drop n c.args.items.now) (sym (flat_map-row_more f c.args.front step i)) more
