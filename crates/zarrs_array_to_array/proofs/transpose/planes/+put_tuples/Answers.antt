use Rattle.std.proofs.Common.{◌≡◌, ◌<◌, ◌≤◌, ◌+◌, ◌-◌, ◌*◌, ◌/◌, ◌++◌, ◌∷◌, [], List, ℕ, length, take, drop, get_or, ap, ap₂, sym, subst, ◌∙◌, arith}
use Rattle.std.specs.List.{flat_map}
use Rattle.std.proofs.lemmas.List.{length-drop, take_rest}
use Rattle.zarrs_chunk.proofs.NumberedTuples.{factor_positive}
use Rattle.zarrs_array_to_array.specs.declared.transpose.axis.Axis.{Axis}
use Rattle.std.proofs.Math.Nat.{div-mul-le_self, mul-le-mul_right}
use Rattle.zarrs_array_bytes.specs.Elements.{piece}
use Rattle.zarrs_array_bytes.specs.Turned.{turned_bytes}
use Rattle.zarrs_array_to_array.specs.Axes.{behind, reach, tuples}
use Rattle.zarrs_array_to_array.specs.Strides.{row}
use Rattle.zarrs_array_to_array.proofs.AxisRows.{behind-nil, reach_split}
use Rattle.zarrs_array_to_array.proofs.BlockRows.{fits_in_row}
use Rattle.zarrs_array_to_array.proofs.PlaneRows.{bytes_below, steps_below}
use Rattle.zarrs_array_to_array.proofs.WrittenParts.{all_parts, behind_first, index_more, length-fronts, length-part, length-stretches, part_of, tuples_of_two, tuples_split, turned_none}
use Rattle.zarrs_array_to_array.proofs.transpose.planes.+put_tuples.Goals as goal

pub nonzero_div-part : goal.nonzero_div-part
nonzero_div-part t c =
    let axes = c.args.axes.now in
    let none : Axis = record { size = 0; step = 0 } in
    let first : Axis = get_or axes 0 none in
    factor_positive 0 (tuples (drop 1 axes)) first.size (omega (arith, tuples_split axes none (omega (arith, c.requires.plane)), c.requires.some))

pub put_blocks-requires-clause-room : goal.put_blocks-requires-clause-room
put_blocks-requires-clause-room t c =
    let axes = c.args.axes.now in
    let none : Axis = record { size = 0; step = 0 } in
    let first : Axis = get_or axes 0 none in
    let rest : List Axis = drop 1 axes in
    let items = c.args.items.now in
    let size = c.args.size in
    let one : 1 ≤ length axes = omega (arith, c.requires.plane) in
    let split : tuples axes ≡ first.size * tuples rest = tuples_split axes none one in
    let some : 0 < first.size * tuples rest = omega (arith, split, c.requires.some) in
    let whole : length items ≡ first.size * tuples rest * size = c.requires.len ∙ ap (λ (n : ℕ). n * size) split in
    let part : length items / first.size ≡ tuples rest * size = part_of (length items) first.size (tuples rest) size (factor_positive 0 (tuples rest) first.size (omega (arith, some))) whole in
    let parts : first.size * (length items / first.size) ≡ length items = ap (λ (n : ℕ). first.size * n) part ∙ grind arith ∙ sym whole in
    let wide = c.block_width-wide.result in
    let block = length c.args.block.now in
    let turned : wide * (tuples rest * size) ≡ length items / first.size * wide = ap (λ (n : ℕ). wide * n) (sym part) ∙ omega arith in
    let below : length items / first.size * wide ≤ block / wide * wide = mul-le-mul_right {m = length items / first.size} {n = block / wide} wide (omega arith) in
    subst (λ (xs : List Axis). wide * (tuples xs * size) ≤ block) (sym (take_rest axes 1)) (omega (arith, turned, below, div-mul-le_self block wide))

pub put_blocks-requires-clause-len : goal.put_blocks-requires-clause-len
put_blocks-requires-clause-len t c =
    let axes = c.args.axes.now in
    let none : Axis = record { size = 0; step = 0 } in
    let first : Axis = get_or axes 0 none in
    let rest : List Axis = drop 1 axes in
    let items = c.args.items.now in
    let size = c.args.size in
    let one : 1 ≤ length axes = omega (arith, c.requires.plane) in
    let split : tuples axes ≡ first.size * tuples rest = tuples_split axes none one in
    let some : 0 < first.size * tuples rest = omega (arith, split, c.requires.some) in
    let whole : length items ≡ first.size * tuples rest * size = c.requires.len ∙ ap (λ (n : ℕ). n * size) split in
    let part : length items / first.size ≡ tuples rest * size = part_of (length items) first.size (tuples rest) size (factor_positive 0 (tuples rest) first.size (omega (arith, some))) whole in
    let parts : first.size * (length items / first.size) ≡ length items = ap (λ (n : ℕ). first.size * n) part ∙ grind arith ∙ sym whole in
    let spread : first.size * tuples rest * size ≡ first.size * (tuples rest * size) = grind arith in
    subst (λ (xs : List Axis). length items ≡ first.size * (tuples xs * size)) (sym (take_rest axes 1)) (whole ∙ spread)

pub put_plane-requires-clause-len : goal.put_plane-requires-clause-len
put_plane-requires-clause-len t c =
    let axes = c.args.axes.now in
    let none : Axis = record { size = 0; step = 0 } in
    let spread : (get_or axes 0 none).size * (get_or axes 1 none).size * c.args.size ≡ (get_or axes 0 none).size * ((get_or axes 1 none).size * c.args.size) = grind arith in
    c.requires.len ∙ ap (λ (n : ℕ). n * c.args.size) (tuples_of_two axes none (omega (arith, c.if-axes-eq2.true))) ∙ spread

pub loop-index-init : goal.loop-index-init
loop-index-init t c =
    let f : ℕ → List ℕ = piece c.args.size c.args.bytes.now in
    let items = c.args.items.now in
    let first : Axis = get_or c.args.axes.now 0 (record { size = 0; step = 0 }) in
    let none : 0 * (length items / first.size) ≡ 0 = omega arith in
    sym (ap₂ (λ (xs : List ℕ) (n : ℕ). turned_bytes c.args.turn (flat_map f xs) ++ drop n items) (behind-nil (drop 1 c.args.axes.now)) none ∙ ap (λ (xs : List ℕ). xs ++ items) (turned_none c.args.turn c.args.size c.requires.turn))

pub loop-index-preserved : goal.loop-index-preserved
loop-index-preserved t c =
    let axes = c.args.axes.now in
    let none : Axis = record { size = 0; step = 0 } in
    let first : Axis = get_or axes 0 none in
    let rest : List Axis = drop 1 axes in
    let items = c.args.items.now in
    let size = c.args.size in
    let one : 1 ≤ length axes = omega (arith, c.requires.plane) in
    let split : tuples axes ≡ first.size * tuples rest = tuples_split axes none one in
    let some : 0 < first.size * tuples rest = omega (arith, split, c.requires.some) in
    let whole : length items ≡ first.size * tuples rest * size = c.requires.len ∙ ap (λ (n : ℕ). n * size) split in
    let part : length items / first.size ≡ tuples rest * size = part_of (length items) first.size (tuples rest) size (factor_positive 0 (tuples rest) first.size (omega (arith, some))) whole in
    let parts : first.size * (length items / first.size) ≡ length items = ap (λ (n : ℕ). first.size * n) part ∙ grind arith ∙ sym whole in
    let inside = λ (k : ℕ) (l : k < first.size).
    let at : ℕ = c.args.front + k * first.step + reach rest in
    let below : at ≤ c.args.front + reach axes = omega (arith, steps_below k first.size first.step l, reach_split axes none one) in
    let last : (at + 1) * size ≤ length c.args.bytes.now = bytes_below (at + 1) (c.args.front + reach axes + 1) size _ (omega (arith, below)) c.requires.inside in
    last in
    let i = c.loop-index.index in
    let f : ℕ → List ℕ = piece size c.args.bytes.now in
    index_more c.args.turn size (tuples rest) f rest c.args.front first.step i (length items / first.size) _ items c.loop-index.items c.put_tuples.new.items c.requires.turn part c.loop-index.invariant
    (length-fronts (length items / first.size) f rest c.args.front first.step i
    (λ k l.
    let there : (c.args.front + k * first.step + reach rest) * size + size ≤ length c.args.bytes.now = omega (arith, inside k (omega (arith, l, c.loop-index-test.true))) in
    length-stretches size size c.args.bytes.now rest (c.args.front + k * first.step) there ∙ sym part))
    (omega arith)
    (c.put_tuples.ensures.written ∙ ap (λ (xs : List Axis). turned_bytes c.args.turn (flat_map f (behind xs ((c.args.front + i * first.step) ∷ [])))) (take_rest axes 1))

pub put_tuples-requires : goal.put_tuples-requires
put_tuples-requires t c =
    let axes = c.args.axes.now in
    let none : Axis = record { size = 0; step = 0 } in
    let first : Axis = get_or axes 0 none in
    let rest : List Axis = drop 1 axes in
    let items = c.args.items.now in
    let size = c.args.size in
    let one : 1 ≤ length axes = omega (arith, c.requires.plane) in
    let split : tuples axes ≡ first.size * tuples rest = tuples_split axes none one in
    let some : 0 < first.size * tuples rest = omega (arith, split, c.requires.some) in
    let whole : length items ≡ first.size * tuples rest * size = c.requires.len ∙ ap (λ (n : ℕ). n * size) split in
    let part : length items / first.size ≡ tuples rest * size = part_of (length items) first.size (tuples rest) size (factor_positive 0 (tuples rest) first.size (omega (arith, some))) whole in
    let parts : first.size * (length items / first.size) ≡ length items = ap (λ (n : ℕ). first.size * n) part ∙ grind arith ∙ sym whole in
    let inside = λ (k : ℕ) (l : k < first.size).
    let at : ℕ = c.args.front + k * first.step + reach rest in
    let below : at ≤ c.args.front + reach axes = omega (arith, steps_below k first.size first.step l, reach_split axes none one) in
    let last : (at + 1) * size ≤ length c.args.bytes.now = bytes_below (at + 1) (c.args.front + reach axes + 1) size _ (omega (arith, below)) c.requires.inside in
    last in
    let i = c.loop-index.index in
    let is : take (length axes - 1) (drop 1 axes) ≡ rest = take_rest axes 1 in
    let short : length rest ≡ length axes - 1 = length-drop 1 axes in
    let same : length (take (length axes - 1) (drop 1 axes)) ≡ length rest = ap (λ (xs : List Axis). length xs) is in
    let ends = fits_in_row i first.size (length items / first.size) c.loop-index-test.true in (
      omega (arith, same, short, c.requires.plane),
      (
        c.requires.sized,
        (
          c.requires.turn,
          (
            omega (arith, same, short, c.requires.plane, c.if-axes-eq2.false),
            (
              subst (λ (xs : List Axis). 0 < tuples xs) (sym is) (factor_positive 0 first.size (tuples rest) some),
              (
                length-part (i * (length items / first.size) + length items / first.size - i * (length items / first.size)) (i * (length items / first.size)) c.loop-index.items (omega (arith, ends, parts, c.loop-index.auto.items))
                    ∙ omega (arith, part) ∙ ap (λ (xs : List Axis). tuples xs * size) (sym is),
                subst (λ (xs : List Axis). (c.args.front + i * first.step + reach xs + 1) * size ≤ length c.args.bytes.now) (sym is) (inside i c.loop-index-test.true),
              ),
            ),
          ),
        ),
      ),
    )

pub returns : goal.returns
returns t c =
    let axes = c.args.axes.now in
    let none : Axis = record { size = 0; step = 0 } in
    let first : Axis = get_or axes 0 none in
    let rest : List Axis = drop 1 axes in
    let items = c.args.items.now in
    let size = c.args.size in
    let one : 1 ≤ length axes = omega (arith, c.requires.plane) in
    let split : tuples axes ≡ first.size * tuples rest = tuples_split axes none one in
    let some : 0 < first.size * tuples rest = omega (arith, split, c.requires.some) in
    let whole : length items ≡ first.size * tuples rest * size = c.requires.len ∙ ap (λ (n : ℕ). n * size) split in
    let part : length items / first.size ≡ tuples rest * size = part_of (length items) first.size (tuples rest) size (factor_positive 0 (tuples rest) first.size (omega (arith, some))) whole in
    let parts : first.size * (length items / first.size) ≡ length items = ap (λ (n : ℕ). first.size * n) part ∙ grind arith ∙ sym whole in
    let i = c.loop-index.index in
    let f : ℕ → List ℕ = piece size c.args.bytes.now in
    let all : i ≡ first.size = omega (arith, c.loop-index-test.false, c.loop-index.auto.index-end) in
    record {
      written =
          all_parts (turned_bytes c.args.turn (flat_map f (behind rest (row c.args.front first.step i)))) c.loop-index.items items (i * (length items / first.size)) c.loop-index.invariant (omega (arith, ap (λ (n : ℕ). n * (length items / first.size)) all, parts))
          ∙ ap (λ (n : ℕ). turned_bytes c.args.turn (flat_map f (behind rest (row c.args.front first.step n)))) all
          ∙ ap (λ (xs : List ℕ). turned_bytes c.args.turn (flat_map f xs)) (sym (behind_first axes none c.args.front one));
    }
