use Rattle.std.proofs.Common.{◌≤◌, ◌-◌, ◌∷◌, [], ℕ, List, take, get_or, length, ap, sym, ◌∙◌, arith}
use Rattle.std.proofs.lemmas.List.{take_more_set}
use Rattle.zarrs_array_to_array.specs.declared.transpose.axis.Axis.{Axis}
use Rattle.zarrs_array_to_array.specs.Strides.{next_rows}
use Rattle.zarrs_array_to_array.specs.Axes.{behind, reach}
use Rattle.zarrs_array_to_array.proofs.AxisRows.{single_index, behind-more, reach-more, behind-joined, reach-joined, last_taken, last_written}
use Rattle.zarrs_array_to_array.proofs.transpose.axis.put_axis.Goals as goal

pub returns-then-axis-eq1-clause-places : goal.returns-then-axis-eq1-clause-places
returns-then-axis-eq1-clause-places c =
    let places : List ℕ = behind (take c.args.count c.args.axes.now) (0 ∷ []) in
    sym (ap (λ (n : ℕ). next_rows c.args.axis.step n places) c.if-axis-eq1.true ∙ single_index c.args.axis.step places)

pub returns-in-Some-clause-places : goal.returns-in-Some-clause-places
returns-in-Some-clause-places c =
    let axes : List Axis = c.args.axes.now in
    let count = c.args.count in
    let second = c.args.axis in
    let both = c.in-Some.both in
    let fits : count ≤ length axes = omega (arith, c.requires.room) in
    let none : Axis = record { size = 0; step = 0 } in
    let last : Axis = get_or axes (count - 1) none in
    ap (λ (xs : List Axis). behind xs (0 ∷ [])) (last_written axes count both c.requires.some fits)
    ∙ behind-joined (take (count - 1) axes) last second both c.in-Some.ensures.adjoining c.in-Some.ensures.size c.in-Some.ensures.step
    ∙ ap (λ (xs : List Axis). next_rows second.step second.size (behind xs (0 ∷ []))) (sym (last_taken axes count none c.requires.some fits))

pub returns-in-Some-clause-reach : goal.returns-in-Some-clause-reach
returns-in-Some-clause-reach c =
    let axes : List Axis = c.args.axes.now in
    let count = c.args.count in
    let both = c.in-Some.both in
    let fits : count ≤ length axes = omega (arith, c.requires.room) in
    let none : Axis = record { size = 0; step = 0 } in
    let last : Axis = get_or axes (count - 1) none in
    let joined = reach-joined (take (count - 1) axes) last c.args.axis both c.in-Some.ensures.adjoining c.in-Some.ensures.size c.in-Some.ensures.step in
    omega (arith, joined, ap reach (last_written axes count both c.requires.some fits), ap reach (last_taken axes count none c.requires.some fits))

pub returns-clause-places : goal.returns-clause-places
returns-clause-places c =
    let axes : List Axis = c.args.axes.now in
    ap (λ (xs : List Axis). behind xs (0 ∷ [])) (take_more_set axes c.args.count c.args.axis c.requires.room)
    ∙ behind-more (take c.args.count axes) c.args.axis (0 ∷ [])

pub returns-clause-reach : goal.returns-clause-reach
returns-clause-reach c =
    let axes : List Axis = c.args.axes.now in
    let is = ap reach (take_more_set axes c.args.count c.args.axis c.requires.room) ∙ reach-more (take c.args.count axes) c.args.axis in
    omega (arith, is)
