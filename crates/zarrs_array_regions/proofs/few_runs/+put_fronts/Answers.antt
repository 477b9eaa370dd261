use Rattle.std.proofs.Common.{◌≡◌, ◌++◌, ◌∷◌, ◌∙◌, [], true, false, List, ℕ, ◌+◌, ◌*◌, map, drop, length, get_or, ap, sym, arith, refl, subst}
use Rattle.std.specs.Prelude.{nat_le}
use Rattle.std.proofs.lemmas.List.{take_rest}
use Rattle.std.proofs.lemmas.List.FromFn.{length-range_with_len}
use Rattle.std.specs.List.{range_with_len}
use Rattle.zarrs_chunk.specs.Rows.{row_at}
use Rattle.zarrs_array_regions.specs.OrderedRuns.{fronts_over}
use Rattle.zarrs_array_regions.proofs.OrderedRows.{fronts_last, fronts_next, fronts_more, fronts_lack, rows_put, rows_room, first_room, last_room, last_axis, rest_axes, rest_room}
use Rattle.zarrs_array_regions.proofs.few_runs.+put_fronts.Goals as goal

pub overflow_mul-first : goal.overflow_mul-first
overflow_mul-first t c =
    let axis = get_or c.args.order.now 0 0 in
    let room = first_room c.args.order.now c.args.sizes.now c.args.starts.now c.args.lengths.now c.args.front c.args.row axis c.in-len1-up.len_at_least refl c.requires.axes c.requires.room in
    omega (arith, room)

pub overflow_add-first : goal.overflow_add-first
overflow_add-first t c =
    let axis = get_or c.args.order.now 0 0 in
    let room = first_room c.args.order.now c.args.sizes.now c.args.starts.now c.args.lengths.now c.args.front c.args.row axis c.in-len1-up.len_at_least refl c.requires.axes c.requires.room in
    omega (arith, room)

pub put_rows-requires-then-is_empty-clause-room : goal.put_rows-requires-then-is_empty-clause-room
put_rows-requires-then-is_empty-clause-room t c =
    let axis = get_or c.args.order.now 0 0 in
    last_room c.args.order.now c.args.sizes.now c.args.starts.now c.args.lengths.now c.args.front c.args.row axis c.in-len1-up.len_at_least refl c.requires.axes c.requires.room (last_axis c.args.order.now _ c.is_empty.result (take_rest c.args.order.now 1) c.is_empty.ensures c.if-is_empty.true)

pub returns-then-is_empty : goal.returns-then-is_empty
returns-then-is_empty t c =
    let runs = c.args.out.now.items in
    let axis = get_or c.args.order.now 0 0 in
    let last = sym (fronts_last c.args.order.now c.args.sizes.now c.args.starts.now c.args.lengths.now axis c.args.front c.in-len1-up.len_at_least (last_axis c.args.order.now _ c.is_empty.result (take_rest c.args.order.now 1) c.is_empty.ensures c.if-is_empty.true) refl) in
    record {
      appended = subst (λ (xs : List ℕ). c.put_rows-then-is_empty.result ≡ true → c.put_rows-then-is_empty.new.out.items ≡ runs ++ map (row_at c.args.row) xs) last c.put_rows-then-is_empty.ensures.appended;
      count = subst (λ (xs : List ℕ). c.put_rows-then-is_empty.result ≡ nat_le (length runs + length xs) 15) last
          (c.put_rows-then-is_empty.ensures.count ∙ ap (λ (n : ℕ). nat_le (length runs + n) 15) (sym (length-range_with_len (c.args.front * get_or c.args.sizes.now axis 0 + get_or c.args.starts.now axis 0) (get_or c.args.lengths.now axis 0))));
    }

pub overflow_add-first-in-loop-index : goal.overflow_add-first-in-loop-index
overflow_add-first-in-loop-index t c =
    let axis = get_or c.args.order.now 0 0 in
    let room = first_room c.args.order.now c.args.sizes.now c.args.starts.now c.args.lengths.now c.args.front c.args.row axis c.in-len1-up.len_at_least refl c.requires.axes c.requires.room in
    omega (arith, room)

pub put_fronts-requires : goal.put_fronts-requires
put_fronts-requires t c =
    let axis = get_or c.args.order.now 0 0 in
    let rest = take_rest c.args.order.now 1 in (
      omega arith,
      (
        rest_axes c.args.order.now c.args.sizes.now c.args.starts.now c.args.lengths.now c.args.front c.args.row axis c.in-len1-up.len_at_least refl c.requires.axes c.requires.room _ rest,
        (
          rest_room c.args.order.now c.args.sizes.now c.args.starts.now c.args.lengths.now c.args.front c.args.row axis c.in-len1-up.len_at_least refl c.requires.axes c.requires.room _ c.loop-index.index rest (omega arith),
          c.loop-index.invariant.len,
        ),
      ),
    )

pub loop-index-preserved : goal.loop-index-preserved
loop-index-preserved t c =
    let axis = get_or c.args.order.now 0 0 in
    let rest = drop 1 c.args.order.now in
    let first = c.args.front * get_or c.args.sizes.now axis 0 + get_or c.args.starts.now axis 0 in
    record {
      rows = c.put_fronts.ensures.appended c.if-not-put_fronts.false
          ∙ ap (λ (xs : List ℕ). c.loop-index.out.items ++ map (row_at c.args.row) (fronts_over xs c.args.sizes.now c.args.starts.now c.args.lengths.now ((first + c.loop-index.index) ∷ []))) (take_rest c.args.order.now 1)
          ∙ ap (λ (xs : List (ℕ × ℕ)). xs ++ map (row_at c.args.row) (fronts_over rest c.args.sizes.now c.args.starts.now c.args.lengths.now ((first + c.loop-index.index) ∷ []))) c.loop-index.invariant.rows
          ∙ fronts_more c.args.row c.args.out.now.items rest c.args.sizes.now c.args.starts.now c.args.lengths.now first c.loop-index.index;
      len = rows_put c.args.row c.loop-index.out.items c.put_fronts.new.out.items _ 15 (c.put_fronts.ensures.appended c.if-not-put_fronts.false) (sym c.put_fronts.ensures.count ∙ c.if-not-put_fronts.false);
    }

pub returns-then-not-put_fronts-clause-count : goal.returns-then-not-put_fronts-clause-count
returns-then-not-put_fronts-clause-count t c =
    let runs = c.args.out.now.items in
    let axis = get_or c.args.order.now 0 0 in
    let rest = drop 1 c.args.order.now in
    let first = c.args.front * get_or c.args.sizes.now axis 0 + get_or c.args.starts.now axis 0 in
    let full : nat_le (length c.loop-index.out.items + length (fronts_over rest c.args.sizes.now c.args.starts.now c.args.lengths.now ((first + c.loop-index.index) ∷ []))) 15 ≡ false
    = ap (λ (xs : List ℕ). nat_le (length c.loop-index.out.items + length (fronts_over xs c.args.sizes.now c.args.starts.now c.args.lengths.now ((first + c.loop-index.index) ∷ []))) 15) (sym (take_rest c.args.order.now 1)) ∙ sym c.put_fronts.ensures.count ∙ c.if-not-put_fronts.true in
    sym (
    ap (λ (xs : List ℕ). nat_le (length runs + length xs) 15) (fronts_next c.args.order.now c.args.sizes.now c.args.starts.now c.args.lengths.now axis c.args.front c.in-len1-up.len_at_least refl)
    ∙ fronts_lack c.args.row runs c.loop-index.out.items rest c.args.sizes.now c.args.starts.now c.args.lengths.now first c.loop-index.index (get_or c.args.lengths.now axis 0) 15 c.loop-index.invariant.rows (omega arith) full)

pub returns-after-loop-index : goal.returns-after-loop-index
returns-after-loop-index t c =
    let runs = c.args.out.now.items in
    let axis = get_or c.args.order.now 0 0 in
    let rest = drop 1 c.args.order.now in
    let first = c.args.front * get_or c.args.sizes.now axis 0 + get_or c.args.starts.now axis 0 in
    let all : c.loop-index.index ≡ get_or c.args.lengths.now axis 0 = omega arith in
    let rows = c.loop-index.invariant.rows
    ∙ ap (λ (n : ℕ). runs ++ map (row_at c.args.row) (fronts_over rest c.args.sizes.now c.args.starts.now c.args.lengths.now (range_with_len first n))) all
    ∙ ap (λ (xs : List ℕ). runs ++ map (row_at c.args.row) xs) (sym (fronts_next c.args.order.now c.args.sizes.now c.args.starts.now c.args.lengths.now axis c.args.front c.in-len1-up.len_at_least refl)) in
    record { appended = λ _. rows; count = rows_room c.args.row runs c.loop-index.out.items _ 15 rows c.loop-index.invariant.len }
