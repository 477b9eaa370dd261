use Rattle.std.proofs.Common.{◌≡◌, ◌+◌, length, ap, ◌∙◌, arith, length-append}
use Rattle.zarrs_c_calls.specs.Buffers.{crossed, masked_buffers}
use Rattle.zarrs_c_calls.proofs.CrossedLemmas.{crossed_masked}
use Rattle.zarrs_c_calls.proofs.tell.+mask_count.Goals as goal

pub returns-in-Ok : goal.returns-in-Ok
returns-in-Ok t c =
    let held = c.args.elements.now in
    let inside = c.in-Ok.inner.now in
    let mask = c.in-Ok.mask.now in
    let is : crossed held ≡ masked_buffers mask (crossed inside) = crossed_masked held (inside, mask) c.in-Ok.ensures.answer in
    let count : length (crossed held).masks ≡ length mask + length (crossed inside).masks = ap (λ b. length b.masks) is ∙ length-append mask (crossed inside).masks in
    record { value = omega (arith, count) }
