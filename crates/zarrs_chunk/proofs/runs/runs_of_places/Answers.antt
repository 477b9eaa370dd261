use Rattle.std.proofs.Common.{ℕ, ◌≡◌, ◌+◌, ◌-◌, ◌<◌, ◌≤◌, List, [], ◌∷◌, get_or, take, drop, length, arith, ap, sym, ◌∙◌}
use Rattle.std.specs.List.{range_with_len}
use Rattle.std.proofs.lemmas.List.{take_rest, get_or-drop, length-drop, length-append}
use Rattle.std.proofs.lemmas.List.Elements.{All-push}
use Rattle.zarrs_chunk.proofs.Consecutive.{joined_runs-more, run_below, run_ends}
use Rattle.zarrs_chunk.proofs.Apart.{AreApart-push, EndsElsewhere-push}
use Rattle.zarrs_chunk.proofs.runs.runs_of_places.Goals as goal

pub loop-at-preserved : goal.loop-at-preserved
loop-at-preserved c =
    let places = c.args.places.now in
    let at = c.loop-at.at in
    let start = get_or places at 0 in
    let len = c.run_length-len.result in
    let runs = c.loop-at.runs.items in
    let rest = take (length places - at) (drop at places) in
    let same : rest ≡ drop at places = take_rest places at in
    let here : get_or rest 0 0 ≡ start = ap (λ ys. get_or ys 0 0) same ∙ get_or-drop at places 0 0 ∙ ap (λ n. get_or places n 0) (let e : at + 0 ≡ at = omega arith in e) in
    let run : take len rest ≡ range_with_len start len = c.run_length-len.ensures.run ∙ ap (λ s. range_with_len s len) here in
    let room : at + len ≤ length places = omega (arith, c.run_length-len.ensures.within, ap (λ (ys : List ℕ). length ys) same, length-drop at places) in
    rw c.in_ok-push.ensures.items (record {
      within = room;
      places = joined_runs-more runs places rest at start len c.loop-at.invariant.places same run;
      filled = All-push (λ (run : ℕ × ℕ). 0 < run.1) runs (start, len) c.loop-at.invariant.filled c.run_length-len.ensures.some;
      below = λ limit h. All-push (λ (run : ℕ × ℕ). run.0 + run.1 ≤ limit) runs (start, len) (c.loop-at.invariant.below limit h) (run_below places rest at start len limit same c.run_length-len.ensures.some room (sym here) run h);
      apart = AreApart-push runs (start, len) c.loop-at.invariant.apart (c.loop-at.invariant.ends (omega arith));
      ends = λ more. EndsElsewhere-push runs (start, len) (get_or places (at + len) 0) (run_ends places rest at start len same c.run_length-len.ensures.some (sym here) run (λ l. c.run_length-len.ensures.longest l) more);
      count = omega (arith, length-append runs ((start, len) ∷ []), c.run_length-len.ensures.some, c.loop-at.invariant.count);
    })
