use Rattle.std.proofs.Common.{◌≡◌, ◌<◌, ◌≤◌, ◌+◌, ◌-◌, ◌*◌, ◌/◌, ◌++◌, [], ℕ, List, length, drop, arith, ap, ap₂, sym, subst, ◌∙◌}
use Rattle.std.specs.List.{flat_map}
use Rattle.std.proofs.Math.Nat.{add-mul, mul-le-mul_right}
use Rattle.zarrs_array_bytes.specs.Elements.{piece}
use Rattle.zarrs_array_to_array.specs.Strides.{row, next_rows}
use Rattle.zarrs_array_to_array.proofs.RowGroups.{put_next}
use Rattle.zarrs_array_to_array.proofs.TileRows.{rows_more, tile_has_rows, tile_is_square, vectors_inside}
use Rattle.zarrs_array_to_array.proofs.WrittenParts.{all_parts, length-part, length-plane}
use Rattle.zarrs_array_to_array.proofs.transpose.near_rows.put_near_rows.Goals as goal

pub put_group-requires-clause-inside : goal.put_group-requires-clause-inside
put_group-requires-clause-inside c = λ k l.
    let size = c.args.size in
    let group : ℕ = 16 / size in
    let done = c.loop-done.done in
    let square : group * size ≡ 16 = tile_is_square size c.requires.tiles in
    let last : done + (group - 1) < c.args.rows.size = omega (arith, c.loop-done-test.true, tile_has_rows size group square) in
    vectors_inside size group c.args.front done c.args.rows.step c.args.columns.step k (length c.args.bytes.now) square c.requires.near (c.requires.inside (done + (group - 1)) k last l)

pub overflow_mul-len : goal.overflow_mul-len
overflow_mul-len c =
    omega (arith, c.requires.len, mul-le-mul_right {m = 1} {n = c.args.rows.size} (c.args.columns.size * c.args.size) c.requires.some)

pub slice_bounds-put_group-end : goal.slice_bounds-put_group-end
slice_bounds-put_group-end c =
    let len : ℕ = c.args.columns.size * c.args.size in
    let done = c.loop-done.done in
    let group : ℕ = 16 / c.args.size in
    omega (arith, c.requires.len, c.loop-done.auto.items, add-mul done group len, mul-le-mul_right {m = done + group} {n = c.args.rows.size} len (omega (arith, c.loop-done-test.true, c.loop-done.invariant.within)))

pub overflow_add-front : goal.overflow_add-front
overflow_add-front c =
    let size = c.args.size in
    let group : ℕ = 16 / size in
    omega (arith, c.requires.starts c.loop-done.done (omega (arith, c.loop-done-test.true, tile_has_rows size group (tile_is_square size c.requires.tiles))))

pub loop-done-preserved : goal.loop-done-preserved
loop-done-preserved c =
    let size = c.args.size in
    let bytes = c.args.bytes.now in
    let f : ℕ → List ℕ = piece size bytes in
    let group : ℕ = 16 / size in
    let columns = c.args.columns in
    let front = c.args.front in
    let done = c.loop-done.done in
    let len : ℕ = columns.size * size in
    let more : done * len + group * len ≡ (done + group) * len = sym (add-mul done group len) in
    record {
      written =
          put_next (flat_map f (next_rows columns.step columns.size (row front 1 done))) c.args.items.now c.loop-done.items (flat_map f (next_rows columns.step columns.size (row (front + done) 1 group))) c.put_group.new.items (done * len) (done * len + group * len - done * len) (group * len)
          (length-plane size bytes columns.step columns.size front 1 done (λ r k l m. subst (λ (n : ℕ). (front + n + k * columns.step) * size + size ≤ length bytes) (ap (λ (n : ℕ). r * n) c.requires.near) (c.requires.inside r k (omega (arith, l, c.loop-done.invariant.within)) m))) c.loop-done.invariant.written (omega arith) c.put_group.ensures.written
          ∙ ap₂ (λ xs n. xs ++ drop n c.args.items.now) (rows_more [] f columns.step columns.size front (front + done) done group (done + group) (omega arith) (omega arith)) more;
      within = omega (arith, c.loop-done-test.true);
    }

pub overflow_add-front-2 : goal.overflow_add-front-2
overflow_add-front-2 c =
    omega (arith, c.requires.starts c.loop-done.done (omega (arith, c.if-done-rows.false, c.loop-done.invariant.within)))

pub put_rows_of-requires-clause-len : goal.put_rows_of-requires-clause-len
put_rows_of-requires-clause-len c =
    let len : ℕ = c.args.columns.size * c.args.size in
    let done = c.loop-done.done in
    let rest : ℕ = c.args.rows.size - done in
    let whole : done * len + rest * len ≡ c.args.rows.size * len = sym (add-mul done rest len) ∙ ap (λ n. n * len) (omega (arith, c.loop-done.invariant.within)) in
    length-part (length c.loop-done.items - done * len) (done * len) c.loop-done.items (omega (arith, whole, c.requires.len, c.loop-done.auto.items))
    ∙ omega (arith, whole, c.requires.len, c.loop-done.auto.items)

pub put_rows_of-requires-clause-starts : goal.put_rows_of-requires-clause-starts
put_rows_of-requires-clause-starts c = λ r l. omega (arith, c.requires.starts (c.loop-done.done + r) (omega (arith, l)))

pub put_rows_of-requires-clause-inside : goal.put_rows_of-requires-clause-inside
put_rows_of-requires-clause-inside c = λ r k l m.
    let at : ℕ = c.loop-done.done + r in
    let near : at * c.args.rows.step ≡ at * 1 = ap (λ step. at * step) c.requires.near in
    let place : c.args.front + at * c.args.rows.step + k * c.args.columns.step ≡ c.args.front + c.loop-done.done + r * 1 + k * c.args.columns.step = omega (arith, near) in
    subst (λ n. n * c.args.size + c.args.size ≤ length c.args.bytes.now) place (c.requires.inside at k (omega arith) m)

pub returns : goal.returns
returns c =
    let size = c.args.size in
    let bytes = c.args.bytes.now in
    let f : ℕ → List ℕ = piece size bytes in
    let columns = c.args.columns in
    let rows = c.args.rows in
    let front = c.args.front in
    let done = c.loop-done.done in
    let rest : ℕ = rows.size - done in
    let len : ℕ = columns.size * size in
    let before : List ℕ = flat_map f (next_rows columns.step columns.size (row front 1 done)) in
    let behind : List ℕ = flat_map f (next_rows columns.step columns.size (row (front + done) 1 rest)) in
    let whole : done * len + rest * len ≡ rows.size * len = sym (add-mul done rest len) ∙ ap (λ n. n * len) (omega (arith, c.loop-done.invariant.within)) in
    record {
      written =
          all_parts (before ++ behind) _ c.args.items.now (done * len + rest * len)
          (put_next before c.args.items.now c.loop-done.items behind c.put_rows_of.new.items (done * len) (length c.loop-done.items - done * len) (rest * len)
          (length-plane size bytes columns.step columns.size front 1 done (λ r k l m. subst (λ (n : ℕ). (front + n + k * columns.step) * size + size ≤ length bytes) (ap (λ (n : ℕ). r * n) c.requires.near) (c.requires.inside r k (omega (arith, l, c.loop-done.invariant.within)) m))) c.loop-done.invariant.written (omega (arith, whole, c.requires.len, c.loop-done.auto.items)) c.put_rows_of.ensures.written)
          (omega (arith, whole, c.requires.len))
          ∙ rows_more [] f columns.step columns.size front (front + done) done rest rows.size (omega arith) (omega (arith, c.loop-done.invariant.within))
          ∙ ap (λ step. flat_map f (next_rows columns.step columns.size (row front step rows.size))) (sym c.requires.near);
    }
