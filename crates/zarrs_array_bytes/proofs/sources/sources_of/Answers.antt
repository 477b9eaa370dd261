use Rattle.std.proofs.Common.{◌≡◌, ◌-◌, length, map, ap, ap₂, sym, ◌∙◌, arith}
use Rattle.std.specs.List.{range_with_len}
use Rattle.std.proofs.lemmas.Grind.{common_steps}
use Rattle.std.proofs.lemmas.List.{length-set}
use Rattle.std.proofs.lemmas.List.FromFn.{length-map-range_with_len}
use Rattle.zarrs_array_bytes.specs.Update.{update}
use Rattle.zarrs_array_bytes.specs.declared.sources.Source.TheVariants.{Old, New}
use Rattle.zarrs_array_bytes.proofs.UpdateSteps.{map-range_next, update_step}
use Rattle.zarrs_array_bytes.proofs.sources.sources_of.Goals as goal

pub loop-place-preserved : goal.loop-place-preserved
loop-place-preserved c =
    let e = map-range_next Old c.loop-place.place in
    grind (arith, common_steps)

pub loop-place-2-init : goal.loop-place-2-init
loop-place-2-init c =
    let all : c.loop-place.place ≡ c.args.count = omega arith in
    let from = c.loop-place.invariant ∙ ap (λ n. map Old (range_with_len 0 n)) all in
    let none : length c.args.places.now - 0 ≡ length c.args.places.now = omega arith in
    record {
      count = omega arith;
      long = ap length from ∙ length-map-range_with_len Old 0 c.args.count;
      told = ap₂ (λ xs n. update xs c.args.places.now (map New (range_with_len 0 n))) from none;
    }

pub loop-place-2-preserved : goal.loop-place-2-preserved
loop-place-2-preserved c =
    record {
      count = omega arith;
      long = length-set c.loop-place-2.from.items _ (New c.loop-place-2.next) ∙ c.loop-place-2.invariant.long;
      told = sym (update_step New c.loop-place-2.from.items c.args.places.now c.loop-place-2.place-index c.loop-place-2.next (omega arith)) ∙ c.loop-place-2.invariant.told;
    }
