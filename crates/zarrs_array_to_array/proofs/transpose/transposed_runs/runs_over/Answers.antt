use Rattle.std.proofs.Common.{◌≡◌, ◌≤◌, ◌+◌, ◌-◌, ◌∷◌, [], ℕ, List, length, get_or, take, arith, ap, ◌∙◌, Vec, Global}
use Rattle.std.specs.List.{All}
use Rattle.std.proofs.lemmas.Result.{IfOk-weaker}
use Rattle.zarrs_chunk.specs.Runs.{joined_runs}
use Rattle.zarrs_array_to_array.specs.declared.transpose.axis.Axis.{Axis}
use Rattle.zarrs_array_to_array.specs.Axes.{behind, reach}
use Rattle.zarrs_array_to_array.specs.Strides.{wide_runs}
use Rattle.zarrs_array_to_array.proofs.TransposedRuns.{one_each, runs_of_last, reach_of_last, wide_below, last_below}
use Rattle.zarrs_array_to_array.proofs.transpose.transposed_runs.runs_over.Goals as goal

pub returns-then-last-ne1-clause-places : goal.returns-then-last-ne1-clause-places
returns-then-last-ne1-clause-places c =
    let axes : List Axis = c.args.axes.now in
    let places : c.as_slice.result.now ≡ behind axes (0 ∷ []) = c.as_slice.ensures.value ∙ (c.in_ok-places.ensures {u = tt}).places in
    IfOk-weaker c.runs_from.result (λ (v : Vec (ℕ × ℕ) Global). v.items ≡ wide_runs 1 c.as_slice.result.now) (λ (v : Vec (ℕ × ℕ) Global). joined_runs v.items ≡ behind axes (0 ∷ []))
    (λ v h. ap joined_runs (h ∙ ap (wide_runs 1) places) ∙ one_each (behind axes (0 ∷ []))) c.runs_from.ensures.value

pub returns-then-last-ne1-clause-below : goal.returns-then-last-ne1-clause-below
returns-then-last-ne1-clause-below c =
    let axes : List Axis = c.args.axes.now in
    let places : c.as_slice.result.now ≡ behind axes (0 ∷ []) = c.as_slice.ensures.value ∙ (c.in_ok-places.ensures {u = tt}).places in
    IfOk-weaker c.runs_from.result (λ (v : Vec (ℕ × ℕ) Global). v.items ≡ wide_runs 1 c.as_slice.result.now) (λ (v : Vec (ℕ × ℕ) Global). All (λ (run : ℕ × ℕ). run.0 + run.1 ≤ reach axes + 1) v.items)
    (λ v h. rw (h ∙ ap (wide_runs 1) places) (wide_below axes 1 (reach axes + 1) (omega arith))) c.runs_from.ensures.value

pub places_over-requires-2 : goal.places_over-requires-2
places_over-requires-2 c =
    let axes : List Axis = c.args.axes.now in
    let none : Axis = record { size = 0; step = 0 } in
    record { fits = omega (arith, c.requires.fits, reach_of_last axes (length axes - 1) none (omega (arith, c.requires.axes))) }

pub returns-clause-places : goal.returns-clause-places
returns-clause-places c =
    let axes : List Axis = c.args.axes.now in
    let lead = length axes - 1 in
    let none : Axis = record { size = 0; step = 0 } in
    let last : Axis = get_or axes lead none in
    let fronts : c.as_slice-2.result.now ≡ behind (take lead axes) (0 ∷ []) = c.as_slice-2.ensures.value ∙ (c.in_ok-fronts.ensures {u = tt}).places in
    IfOk-weaker c.runs_from-2.result (λ (v : Vec (ℕ × ℕ) Global). v.items ≡ wide_runs last.size c.as_slice-2.result.now) (λ (v : Vec (ℕ × ℕ) Global). joined_runs v.items ≡ behind axes (0 ∷ []))
    (λ v h. ap joined_runs (h ∙ ap (wide_runs last.size) fronts) ∙ runs_of_last axes lead none (omega (arith, c.requires.axes)) (omega (arith, c.if-last-ne1.false))) c.runs_from-2.ensures.value

pub returns-clause-below : goal.returns-clause-below
returns-clause-below c =
    let axes : List Axis = c.args.axes.now in
    let lead = length axes - 1 in
    let none : Axis = record { size = 0; step = 0 } in
    let last : Axis = get_or axes lead none in
    let fronts : c.as_slice-2.result.now ≡ behind (take lead axes) (0 ∷ []) = c.as_slice-2.ensures.value ∙ (c.in_ok-fronts.ensures {u = tt}).places in
    IfOk-weaker c.runs_from-2.result (λ (v : Vec (ℕ × ℕ) Global). v.items ≡ wide_runs last.size c.as_slice-2.result.now) (λ (v : Vec (ℕ × ℕ) Global). All (λ (run : ℕ × ℕ). run.0 + run.1 ≤ reach axes + 1) v.items)
    (λ v h. rw (h ∙ ap (wide_runs last.size) fronts) (wide_below (take lead axes) last.size (reach axes + 1) (last_below axes lead none (omega (arith, c.requires.axes)) (omega (arith, c.if-last-ne1.false))))) c.runs_from-2.ensures.value
