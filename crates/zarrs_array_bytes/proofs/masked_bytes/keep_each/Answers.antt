use Rattle.std.proofs.Common.{◌≡◌, ◌+◌, ◌*◌, ◌<◌, ◌≤◌, ◌++◌, length, take, drop, refl, ap, ap₂, ◌∙◌, arith}
use Rattle.std.proofs.lemmas.Nat.{row_fits}
use Rattle.zarrs_array_bytes.specs.Elements.{piece}
use Rattle.zarrs_array_bytes.specs.Present.{present_places}
use Rattle.zarrs_array_bytes.proofs.PresentLemmas.{count_is}
use Rattle.zarrs_array_bytes.proofs.MaskedBytes.{keeps, keeps-places, left-present, left-absent, kept_more, kept_same}
use Rattle.zarrs_array_bytes.proofs.masked_bytes.keep_each.Goals.{then-mask-place-ne0, else-mask-place-ne0}
use Rattle.zarrs_array_bytes.proofs.masked_bytes.keep_each.Goals as goal

pub loop-place-init : goal.loop-place-init
loop-place-init c =
    let size = c.args.size in
    let mask = c.args.mask.now in
    let z : 0 * size ≡ 0 = omega arith in
    record {
      len = refl;
      within = omega arith;
      left = omega (arith, count_is mask);
      told = ap₂ (λ m n. take m c.args.out.now ++ keeps size mask (drop n c.args.bytes.now)) z z ∙ keeps-places size mask c.args.bytes.now;
    }

pub loop-place-preserved : goal.loop-place-preserved
loop-place-preserved c =
    let size = c.args.size in
    let mask = c.args.mask.now in
    let bytes = c.args.bytes.now in
    let out = c.loop-place.out in
    let kept = c.loop-place.kept in
    let place = c.loop-place.place in
    let count = length (present_places mask) in
    let inside : place < length mask = c.loop-place-test.true in
    let below : kept < count + 1 = omega (arith, c.loop-place.invariant.left) in
    let room : kept * size ≤ length out = omega (arith, row_fits kept size (count + 1) size below (omega arith), c.loop-place.invariant.len, c.requires.room) in
    let whole : place * size + size ≤ length bytes = omega (arith, row_fits place size (length mask) size inside (omega arith), c.requires.whole) in
    let rest = keeps size (drop (place + 1) mask) (drop ((place + 1) * size) bytes) in
    elim c.if-mask-place-ne0.branch [
      | then-mask-place-ne0 w ↦
          rw w.kept-is (record {
            len = omega (arith, c.loop-place.invariant.len);
            within = omega (arith, c.loop-place.invariant.within);
            left = omega (arith, left-present mask place inside (omega arith), c.loop-place.invariant.left);
            told = ap (λ xs. take ((kept + 1) * size) xs ++ rest) c.put_element.ensures.written ∙ kept_more size kept place out mask bytes inside (omega arith) room whole ∙ c.loop-place.invariant.told;
          })
      | else-mask-place-ne0 w ↦
          rw w.kept-is (record {
            len = omega (arith, c.loop-place.invariant.len);
            within = omega (arith, c.loop-place.invariant.within);
            left = omega (arith, left-absent mask place inside (omega arith), c.loop-place.invariant.left);
            told = ap (λ xs. take (kept * size) xs ++ rest) c.put_element.ensures.written ∙ kept_same size kept place out mask bytes (piece size bytes place) inside (omega arith) room ∙ c.loop-place.invariant.told;
          })
    ]
