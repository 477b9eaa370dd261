use Rattle.std.proofs.Common.{rules, ◌≡◌, ◌-◌, take, sym, subst, length-drop, ◌<◌, ◌+◌, ◌*◌, ◌/◌, ◌%◌, ◌++◌, ℕ, List, arith, drop, get_or, length, map, ap, ◌∙◌}
use Rattle.std.proofs.lemmas.Result.{on_ok_weaker}
use Rattle.zarrs_array_bytes.specs.Held.{items_of}
use Rattle.zarrs_shard_bytes.specs.Rows.{IsPart, part_bytes}
use Rattle.zarrs_shard_bytes.proofs.Rows.{row_appended, row_inside, some_axis, along_some, next_part, all_parts, more_rows, behind_first}
use Rattle.zarrs_shard_bytes.proofs.joined_rows.+append_rows.Goals as goal

pub append_between-requires-clause-inside : goal.append_between-requires-clause-inside
append_between-requires-clause-inside t c = row_inside items_of c.args.size c.args.contents.now c.args.number c.args.count c.args.first c.args.each c.args.shape.now c.args.sizes.now c.requires.part

pub returns-then-is_row : goal.returns-then-is_row
returns-then-is_row t c =
    let all = row_appended items_of c.args.size c.args.contents.now c.args.number c.args.count c.args.first c.args.each c.args.shape.now c.args.sizes.now c.requires.part (cc) in
    record { appended = on_ok_weaker c.append_between.result (λ e. e ∙ ap (λ (xs : List ℕ). c.args.out.now.items ++ xs) all) c.append_between.ensures.appended }

pub nonzero_div-count-2 : goal.nonzero_div-count-2
nonzero_div-count-2 t c =
    let some = some_axis c.args.shape.now c.args.sizes.now c.requires.axes (cc) in
    along_some c.args.size (map items_of c.args.contents.now) c.args.number c.args.count c.args.first c.args.each c.args.shape.now c.args.sizes.now c.requires.part c.requires.axes some

pub append_rows-requires : goal.append_rows-requires
append_rows-requires t c =
    let shape = c.args.shape.now in
    let sizes = c.args.sizes.now in
    let some = some_axis shape sizes c.requires.axes (cc) in
    let part = next_part c.args.size (map items_of c.args.contents.now) c.args.number c.args.count c.args.first c.args.each shape sizes c.loop-index.index c.requires.part c.requires.axes some c.loop-index-test.true in
    let n = c.args.count / (get_or sizes 0 0 / get_or shape 0 0) in
    let m = c.args.each / get_or shape 0 0 in
    let short : length (take (length shape - 1) (drop 1 shape)) < length shape = omega (arith, some, ap (λ (xs : List ℕ). length xs) (behind_first shape), length-drop 1 shape) in
    let same : length (take (length shape - 1) (drop 1 shape)) ≡ length (take (length sizes - 1) (drop 1 sizes)) = omega (arith, c.requires.axes, ap (λ (xs : List ℕ). length xs) (behind_first shape), length-drop 1 shape, ap (λ (xs : List ℕ). length xs) (behind_first sizes), length-drop 1 sizes) in
    let there : IsPart c.args.size (map items_of c.args.contents.now) (c.args.number + c.loop-index.index / get_or shape 0 0 * n) n (c.args.first + c.loop-index.index % get_or shape 0 0 * m) m (take (length shape - 1) (drop 1 shape)) (take (length sizes - 1) (drop 1 sizes)) =
    subst (λ (xs : List ℕ). IsPart c.args.size (map items_of c.args.contents.now) (c.args.number + c.loop-index.index / get_or shape 0 0 * n) n (c.args.first + c.loop-index.index % get_or shape 0 0 * m) m xs (take (length sizes - 1) (drop 1 sizes))) (sym (behind_first shape))
    (subst (λ (xs : List ℕ). IsPart c.args.size (map items_of c.args.contents.now) (c.args.number + c.loop-index.index / get_or shape 0 0 * n) n (c.args.first + c.loop-index.index % get_or shape 0 0 * m) m (drop 1 shape) xs) (sym (behind_first sizes)) part) in
    (search rules, (there, same))

pub loop-index-preserved : goal.loop-index-preserved
loop-index-preserved t c =
    let shape = c.args.shape.now in
    let sizes = c.args.sizes.now in
    let n = c.args.count / (get_or sizes 0 0 / get_or shape 0 0) in
    let m = c.args.each / get_or shape 0 0 in
    let index = c.loop-index.index in
    let bytes : List ℕ → List ℕ → List ℕ = part_bytes c.args.size (map items_of c.args.contents.now) (c.args.number + index / get_or shape 0 0 * n) (c.args.first + index % get_or shape 0 0 * m) in
    more_rows _ c.args.out.now.items c.loop-index.out.items c.append_rows.new.out.items index c.loop-index.invariant
    (c.in_ok-append_rows.ensures.appended ∙ (λ i. c.loop-index.out.items ++ bytes (behind_first shape i) (behind_first sizes i)))

pub returns : goal.returns
returns t c =
    let some = some_axis c.args.shape.now c.args.sizes.now c.requires.axes (cc) in
    record { appended = all_parts c.args.size (map items_of c.args.contents.now) c.args.number c.args.count c.args.first c.args.each c.args.shape.now c.args.sizes.now c.loop-index.index c.args.out.now.items c.loop-index.out.items c.requires.part c.requires.axes some (omega arith) c.loop-index.invariant }
