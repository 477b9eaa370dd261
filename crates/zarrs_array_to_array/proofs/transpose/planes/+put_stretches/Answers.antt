use Rattle.std.proofs.Common.{◌≡◌, ◌<◌, ◌≤◌, ◌+◌, ◌-◌, ◌*◌, ◌/◌, ◌++◌, ◌∷◌, [], List, ℕ, None, length, take, drop, get_or, ap, ap₂, sym, subst, ◌∙◌, arith}
use Rattle.std.specs.List.{flat_map}
use Rattle.std.proofs.lemmas.List.{length-drop, take_rest}
use Rattle.zarrs_chunk.proofs.NumberedTuples.{factor_positive}
use Rattle.zarrs_array_to_array.specs.declared.transpose.axis.Axis.{Axis}
use Rattle.std.proofs.Math.Nat.{mul-le-mul_right}
use Rattle.zarrs_array_to_array.specs.Axes.{behind, reach, stretch, tuples}
use Rattle.zarrs_array_to_array.specs.Strides.{row}
use Rattle.zarrs_array_to_array.proofs.AxisRows.{behind-nil, reach_split}
use Rattle.zarrs_array_to_array.proofs.BlockRows.{fits_in_row}
use Rattle.zarrs_array_to_array.proofs.PlaneRows.{steps_below}
use Rattle.zarrs_array_to_array.proofs.WrittenParts.{all_parts, behind_first, index_more, length-fronts, length-part, length-stretches, part_of, tuples_split}
use Rattle.zarrs_array_to_array.proofs.transpose.planes.+put_stretches.Goals as goal

pub put_row-requires-clause-inside : goal.put_row-requires-clause-inside
put_row-requires-clause-inside t c = λ k l.
    let axes = c.args.axes.now in
    let none : Axis = record { size = 0; step = 0 } in
    let first : Axis = get_or axes 0 none in
    let at : ℕ = c.args.front + k * first.step in
    let below : at ≤ c.args.front + reach axes = omega (arith, steps_below k first.size first.step l, reach_split axes none c.requires.axes) in
    omega (arith, mul-le-mul_right {m = at} {n = c.args.front + reach axes} c.args.size below, c.requires.inside)

pub loop-index-init : goal.loop-index-init
loop-index-init t c =
    let f : ℕ → List ℕ = stretch c.args.len c.args.size c.args.bytes.now in
    let items = c.args.items.now in
    let first : Axis = get_or c.args.axes.now 0 (record { size = 0; step = 0 }) in
    let none : 0 * (length items / first.size) ≡ 0 = omega arith in
    sym (ap₂ (λ (xs : List ℕ) (n : ℕ). flat_map f xs ++ drop n items) (behind-nil (drop 1 c.args.axes.now)) none)

pub put_stretches-requires : goal.put_stretches-requires
put_stretches-requires t c =
    let axes = c.args.axes.now in
    let none : Axis = record { size = 0; step = 0 } in
    let first : Axis = get_or axes 0 none in
    let rest : List Axis = drop 1 axes in
    let i = c.loop-index.index in
    let items = c.args.items.now in
    let split : tuples axes ≡ first.size * tuples rest = tuples_split axes none (c.requires.axes) in
    let some : 0 < first.size * tuples rest = omega (arith, split, c.requires.some) in
    let whole : length items ≡ first.size * tuples rest * c.args.len = c.requires.len ∙ ap (λ (n : ℕ). n * c.args.len) split in
    let part : length items / first.size ≡ tuples rest * c.args.len = part_of (length items) first.size (tuples rest) c.args.len (factor_positive 0 (tuples rest) first.size (omega (arith, some))) whole in
    let parts : first.size * (length items / first.size) ≡ length items = ap (λ (n : ℕ). first.size * n) part ∙ grind arith ∙ sym whole in
    let is : take (length axes - 1) (drop 1 axes) ≡ rest = take_rest axes 1 in
    let short : length rest ≡ length axes - 1 = length-drop 1 axes in
    let same : length (take (length axes - 1) (drop 1 axes)) ≡ length rest = ap (λ (xs : List Axis). length xs) is in
    let ends = fits_in_row i first.size (length items / first.size) c.loop-index-test.true in
    let at : ℕ = c.args.front + i * first.step + reach rest in
    let below : at ≤ c.args.front + reach axes = omega (arith, steps_below i first.size first.step c.loop-index-test.true, reach_split axes none c.requires.axes) in (
      omega (arith, same, short, c.requires.axes),
      (
        c.requires.sized,
        (
          omega (arith, same, short, c.requires.axes, c.if-axes-eq1.false),
          (
            subst (λ (xs : List Axis). 0 < tuples xs) (sym is) (factor_positive 0 first.size (tuples rest) some),
            (
              length-part (i * (length items / first.size) + length items / first.size - i * (length items / first.size)) (i * (length items / first.size)) c.loop-index.items (omega (arith, ends, parts, c.loop-index.auto.items))
                  ∙ omega (arith, part) ∙ ap (λ (xs : List Axis). tuples xs * c.args.len) (sym is),
              subst (λ (xs : List Axis). (c.args.front + i * first.step + reach xs) * c.args.size + c.args.len ≤ length c.args.bytes.now) (sym is) (omega (arith, mul-le-mul_right {m = at} {n = c.args.front + reach axes} c.args.size below, c.requires.inside)),
            ),
          ),
        ),
      ),
    )

pub loop-index-preserved : goal.loop-index-preserved
loop-index-preserved t c =
    let axes = c.args.axes.now in
    let none : Axis = record { size = 0; step = 0 } in
    let first : Axis = get_or axes 0 none in
    let rest : List Axis = drop 1 axes in
    let i = c.loop-index.index in
    let items = c.args.items.now in
    let split : tuples axes ≡ first.size * tuples rest = tuples_split axes none (c.requires.axes) in
    let some : 0 < first.size * tuples rest = omega (arith, split, c.requires.some) in
    let whole : length items ≡ first.size * tuples rest * c.args.len = c.requires.len ∙ ap (λ (n : ℕ). n * c.args.len) split in
    let part : length items / first.size ≡ tuples rest * c.args.len = part_of (length items) first.size (tuples rest) c.args.len (factor_positive 0 (tuples rest) first.size (omega (arith, some))) whole in
    let parts : first.size * (length items / first.size) ≡ length items = ap (λ (n : ℕ). first.size * n) part ∙ grind arith ∙ sym whole in
    let f : ℕ → List ℕ = stretch c.args.len c.args.size c.args.bytes.now in
    let single : tuples rest * c.args.len ≡ tuples rest * c.args.len * 1 = omega arith in
    let inside = λ (k : ℕ) (l : k < first.size).
    let at : ℕ = c.args.front + k * first.step + reach rest in
    let below : at ≤ c.args.front + reach axes = omega (arith, steps_below k first.size first.step l, reach_split axes none c.requires.axes) in
    let bounded : at * c.args.size + c.args.len ≤ length c.args.bytes.now = omega (arith, mul-le-mul_right {m = at} {n = c.args.front + reach axes} c.args.size below, c.requires.inside) in
    length-stretches c.args.len c.args.size c.args.bytes.now rest (c.args.front + k * first.step) bounded ∙ sym part in
    index_more None 1 (tuples rest * c.args.len) f rest c.args.front first.step i (length items / first.size) _ items c.loop-index.items c.put_stretches.new.items tt (part ∙ single) c.loop-index.invariant
    (length-fronts (length items / first.size) f rest c.args.front first.step i (λ k l. inside k (omega (arith, l, c.loop-index-test.true))))
    (omega arith)
    (c.put_stretches.ensures.written ∙ ap (λ (xs : List Axis). flat_map f (behind xs ((c.args.front + i * first.step) ∷ []))) (take_rest axes 1))

pub returns : goal.returns
returns t c =
    let axes = c.args.axes.now in
    let none : Axis = record { size = 0; step = 0 } in
    let first : Axis = get_or axes 0 none in
    let rest : List Axis = drop 1 axes in
    let i = c.loop-index.index in
    let items = c.args.items.now in
    let split : tuples axes ≡ first.size * tuples rest = tuples_split axes none (c.requires.axes) in
    let some : 0 < first.size * tuples rest = omega (arith, split, c.requires.some) in
    let whole : length items ≡ first.size * tuples rest * c.args.len = c.requires.len ∙ ap (λ (n : ℕ). n * c.args.len) split in
    let part : length items / first.size ≡ tuples rest * c.args.len = part_of (length items) first.size (tuples rest) c.args.len (factor_positive 0 (tuples rest) first.size (omega (arith, some))) whole in
    let parts : first.size * (length items / first.size) ≡ length items = ap (λ (n : ℕ). first.size * n) part ∙ grind arith ∙ sym whole in
    let f : ℕ → List ℕ = stretch c.args.len c.args.size c.args.bytes.now in
    let all : i ≡ first.size = omega (arith, c.loop-index-test.false, c.loop-index.auto.index-end) in
    record {
      written =
          all_parts (flat_map f (behind rest (row c.args.front first.step i))) c.loop-index.items items (i * (length items / first.size)) c.loop-index.invariant (omega (arith, ap (λ (n : ℕ). n * (length items / first.size)) all, parts))
          ∙ ap (λ (n : ℕ). flat_map f (behind rest (row c.args.front first.step n))) all
          ∙ ap (flat_map f) (sym (behind_first axes none c.args.front c.requires.axes));
    }
