use Rattle.std.proofs.Common.{◌≡◌, ◌<◌, ◌≤◌, ◌+◌, ◌-◌, ◌*◌, ◌++◌, [], List, ℕ, length, drop, ap, ap₂, ◌∙◌, arith}
use Rattle.std.specs.List.{flat_map}
use Rattle.std.proofs.Math.Nat.{mul-le-mul_right}
use Rattle.zarrs_array_bytes.specs.Elements.{piece}
use Rattle.zarrs_array_to_array.specs.Strides.{row, next_rows}
use Rattle.zarrs_array_to_array.proofs.PlaneRows.{more_of_plane}
use Rattle.zarrs_array_to_array.proofs.RowGroups.{put_next}
use Rattle.zarrs_array_to_array.proofs.WrittenParts.{length-plane}
use Rattle.zarrs_array_to_array.proofs.transpose.planes.put_rows_of.Goals as goal

pub overflow_mul-len : goal.overflow_mul-len
overflow_mul-len c =
    omega (arith, c.requires.len, mul-le-mul_right {m = 1} {n = c.args.rows.size} (c.args.columns.size * c.args.size) c.requires.some)

pub overflow_mul-index : goal.overflow_mul-index
overflow_mul-index c = omega (arith, c.requires.starts c.loop-index.index c.loop-index-test.true)

pub overflow_add-front : goal.overflow_add-front
overflow_add-front c = omega (arith, c.requires.starts c.loop-index.index c.loop-index-test.true)

pub put_row_of-requires-clause-inside : goal.put_row_of-requires-clause-inside
put_row_of-requires-clause-inside c = λ k l. c.requires.inside c.loop-index.index k c.loop-index-test.true l

pub loop-index-preserved : goal.loop-index-preserved
loop-index-preserved c =
    let size = c.args.size in
    let bytes = c.args.bytes.now in
    let columns = c.args.columns in
    let front = c.args.front in
    let step = c.args.rows.step in
    let i = c.loop-index.index in
    let len : ℕ = columns.size * size in
    let f : ℕ → List ℕ = piece size bytes in
    let next : List ℕ = flat_map f (row (front + i * step) columns.step columns.size) in
    let more : i * len + len ≡ (i + 1) * len = omega arith in
    put_next (flat_map f (next_rows columns.step columns.size (row front step i))) c.args.items.now c.loop-index.items next c.put_row_of.new.items (i * len) (i * len + len - i * len) len
    (length-plane size bytes columns.step columns.size front step i (λ r k l m. c.requires.inside r k (omega (arith, l, c.loop-index-test.true)) m)) c.loop-index.invariant (omega arith) c.put_row_of.ensures.written
    ∙ ap₂ (λ xs n. xs ++ drop n c.args.items.now) (more_of_plane [] f columns.step columns.size front step i) more
