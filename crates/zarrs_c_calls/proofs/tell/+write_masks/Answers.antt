use Rattle.std.proofs.Common.{◌≡◌, ◌+◌, ◌≤◌, ◌++◌, length, ap, sym, ◌∙◌, arith}
use Rattle.zarrs_array_bytes.specs.Update.{with_items_at}
use Rattle.zarrs_c_calls.specs.Buffers.{crossed, masked_buffers}
use Rattle.zarrs_c_calls.proofs.CrossedLemmas.{crossed_masked}
use Rattle.zarrs_c_calls.proofs.ListLemmas.{items_twice}
use Rattle.zarrs_c_calls.proofs.tell.+write_masks.Goals as goal

pub returns-in-Ok : goal.returns-in-Ok
returns-in-Ok t c =
    let held = c.args.elements.now in
    let old = c.args.out.now in
    let inside = c.in-Ok.inner.now in
    let mask = c.in-Ok.mask.now in
    let more = (crossed inside).masks in
    let is : crossed held ≡ masked_buffers mask (crossed inside) = crossed_masked held (inside, mask) c.in-Ok.ensures.answer in
    let all : (crossed held).masks ≡ mask ++ more = ap (λ b. b.masks) is in
    let room : c.args.at + length (mask ++ more) ≤ length old = omega (arith, ap length all, c.requires.inside) in
    record {
      written = c.write_masks.ensures.written
          ∙ ap (λ xs. with_items_at xs (c.args.at + length mask) more) c.write.ensures.written
          ∙ items_twice old mask more c.args.at room
          ∙ ap (with_items_at old c.args.at) (sym all);
    }
