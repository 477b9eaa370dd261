use Rattle.std.proofs.Common.{◌++◌, ℕ, List, [], ◌∷◌, ap, sym, ◌∙◌, arith}
use Rattle.zarrs_chunk.specs.Runs.{joined_runs}
use Rattle.zarrs_array_bytes.proofs.PresentLemmas.{marked_more, unmarked_more, open_more, none_open}
use Rattle.zarrs_array_bytes.proofs.present.runs_of_mask.Goals.{then-mask-place-eq0+in_ok-push_run, else-mask-place-eq0}
use Rattle.zarrs_array_bytes.proofs.present.runs_of_mask.Goals as goal

pub loop-place-preserved : goal.loop-place-preserved
loop-place-preserved c =
    let mask = c.args.mask.now in
    let i = c.loop-place.place in
    let start = c.loop-place.start in
    elim c.if-mask-place-eq0.branch [
      | then-mask-place-eq0+in_ok-push_run w ↦
          rw (w.runs-is, w.start-is) (record {
            order = omega arith;
            places = none_open (joined_runs w.push_run.new.runs.items) i ∙ w.in_ok-push_run.ensures.places ∙ c.loop-place.invariant.places ∙ sym (unmarked_more mask i (omega arith));
            inside = λ k d l. omega (arith, w.in_ok-push_run.ensures.inside c.loop-place.invariant.inside k d l);
          })
      | else-mask-place-eq0 w ↦
          rw (w.runs-is, w.start-is) (record {
            order = omega (arith, c.loop-place.invariant.order);
            places = open_more (joined_runs c.loop-place.runs.items) start i c.loop-place.invariant.order ∙ ap (λ (ps : List ℕ). ps ++ i ∷ []) c.loop-place.invariant.places ∙ sym (marked_more mask i (omega arith));
            inside = λ k d l. omega (arith, c.loop-place.invariant.inside k d l);
          })
    ]
