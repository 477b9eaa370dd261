use Rattle.std.proofs.Common.{◌≡◌, ◌+◌, ◌*◌, ◌<◌, ◌≤◌, ◌++◌, length, take, drop, refl, sym, ap, ap₂, ◌∙◌, arith}
use Rattle.std.proofs.lemmas.Nat.{row_fits}
use Rattle.zarrs_array_bytes.specs.Elements.{piece}
use Rattle.zarrs_array_bytes.specs.Present.{present_places}
use Rattle.zarrs_array_bytes.specs.Update.{with_items_at}
use Rattle.zarrs_array_bytes.proofs.PresentLemmas.{count_is}
use Rattle.zarrs_array_bytes.proofs.MaskedBytes.{spread, spread-places, left-present, left-absent, put_more, put_old, zeros_at, zeros_long}
use Rattle.zarrs_array_bytes.proofs.masked_bytes.put_each.Goals.{then-mask-place-ne0, else-mask-place-ne0}
use Rattle.zarrs_array_bytes.proofs.masked_bytes.put_each.Goals as goal

pub loop-place-init : goal.loop-place-init
loop-place-init c =
    let size = c.args.size in
    let mask = c.args.mask.now in
    let out = c.args.out.now in
    let z : 0 * size ≡ 0 = omega arith in
    record {
      len = refl;
      within = omega arith;
      left = omega (arith, count_is mask);
      told = ap₂ (λ m n. take m out ++ spread size mask (drop m out) (drop n c.args.bytes.now)) z z ∙ spread-places size mask out c.args.bytes.now;
    }

pub element_or_blank-requires-clause-inside : goal.element_or_blank-requires-clause-inside
element_or_blank-requires-clause-inside c = λ some.
    let size = c.args.size in
    let mask = c.args.mask.now in
    let done = c.loop-place.done in
    let count = length (present_places mask) in
    let below : done < count = omega (arith, left-present mask c.loop-place.place c.loop-place-test.true some, c.loop-place.invariant.left) in
    omega (arith, row_fits done size count size below (omega arith), c.requires.enough)

pub put_element-requires : goal.put_element-requires
put_element-requires c =
    let size = c.args.size in
    let n = length c.args.mask.now in
    record {
      inside = omega (arith, row_fits c.loop-place.place size n size c.loop-place-test.true (omega arith), c.element_or_blank.ensures.len, c.loop-place.invariant.len, zeros_long c.args.out.now (n * size) c.requires.blank);
    }

pub loop-place-preserved : goal.loop-place-preserved
loop-place-preserved c =
    let size = c.args.size in
    let mask = c.args.mask.now in
    let bytes = c.args.bytes.now in
    let old = c.args.out.now in
    let out = c.loop-place.out in
    let done = c.loop-place.done in
    let place = c.loop-place.place in
    let n = length mask in
    let count = length (present_places mask) in
    let inside : place < n = c.loop-place-test.true in
    let room : place * size ≤ length out = omega (arith, row_fits place size n size inside (omega arith), c.loop-place.invariant.len, zeros_long old (n * size) c.requires.blank) in
    elim c.if-mask-place-ne0.branch [
      | then-mask-place-ne0 w ↦
          let left = left-present mask place inside (omega arith) in
          let below : done < count = omega (arith, left, c.loop-place.invariant.left) in
          let whole : done * size + size ≤ length bytes = omega (arith, row_fits done size count size below (omega arith), c.requires.enough) in
          rw w.done-is (record {
            len = omega (arith, c.loop-place.invariant.len);
            within = omega (arith, c.loop-place.invariant.within);
            left = omega (arith, left, c.loop-place.invariant.left);
            told = ap (λ xs. take ((place + 1) * size) xs ++ spread size (drop (place + 1) mask) (drop ((place + 1) * size) old) (drop ((done + 1) * size) bytes))
                (c.put_element.ensures.written ∙ ap (with_items_at out (place * size)) (c.element_or_blank.ensures.present (omega arith)))
                ∙ put_more size done place out mask old bytes inside (omega arith) room whole ∙ c.loop-place.invariant.told;
          })
      | else-mask-place-ne0 w ↦
          let part = c.element_or_blank.result.now in
          let same : part ≡ piece size old place = c.element_or_blank.ensures.absent (omega arith) ∙ zeros_at size n place inside c.requires.short ∙ ap (λ xs. piece size xs place) (sym c.requires.blank) in
          rw w.done-is (record {
            len = omega (arith, c.loop-place.invariant.len);
            within = omega (arith, c.loop-place.invariant.within);
            left = omega (arith, left-absent mask place inside (omega arith), c.loop-place.invariant.left);
            told = ap (λ xs. take ((place + 1) * size) xs ++ spread size (drop (place + 1) mask) (drop ((place + 1) * size) old) (drop (done * size) bytes)) c.put_element.ensures.written
                ∙ put_old size done place out mask old bytes part inside (omega arith) room c.element_or_blank.ensures.len same ∙ c.loop-place.invariant.told;
          })
    ]
