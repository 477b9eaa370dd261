use Rattle.std.proofs.Common.{ℕ, List, [], ◌∷◌, length, nat_lt, slice_index, ap, arith, length-append}
use Rattle.std.specs.List.{filter, range_with_len}
use Rattle.zarrs_array_bytes.proofs.PresentLemmas.{marked_more, unmarked_more}
use Rattle.zarrs_array_bytes.proofs.present.count_few.Goals.{then-mask-place-ne0, else-mask-place-ne0}
use Rattle.zarrs_array_bytes.proofs.present.count_few.Goals as goal

pub loop-place-preserved : goal.loop-place-preserved
loop-place-preserved c =
    let mask = c.args.mask.now in
    let i = c.loop-place.place in
    let before : List ℕ = filter (λ place. nat_lt 0 (slice_index mask place)) (range_with_len 0 i) in
    elim c.if-mask-place-ne0.branch [
      | then-mask-place-ne0 w ↦
          let more = ap (λ (ps : List ℕ). length ps) (marked_more mask i (omega arith)) in
          record {
            within = omega (arith, c.loop-place.invariant.within, w.count-is);
            are = omega (arith, more, length-append before (i ∷ []), c.loop-place.invariant.are, w.count-is);
          }
      | else-mask-place-ne0 w ↦
          let more = ap (λ (ps : List ℕ). length ps) (unmarked_more mask i (omega arith)) in
          record {
            within = omega (arith, c.loop-place.invariant.within, w.count-is);
            are = omega (arith, more, c.loop-place.invariant.are, w.count-is);
          }
    ]
