use Rattle.std.proofs.Common.{◌≡◌, [], drop, length, ap, arith}
use Rattle.std.proofs.lemmas.List.{drop_all}
use Rattle.zarrs_c_calls.specs.JoinedParts.{joined_parts, joined_sizes}
use Rattle.zarrs_c_calls.proofs.JoinedLemmas.{same_sizes}
use Rattle.zarrs_c_calls.proofs.tell_many.sizes_of.Goals as goal

pub returns : goal.returns
returns c =
    let parts = c.args.parts.now in
    let i = c.loop-part.part-index in
    let none : drop i parts ≡ [] = drop_all i parts (omega (arith, c.loop-part-test.false)) in
    record {
      value = same_sizes c.loop-part.sizes (joined_sizes (joined_parts parts))
          (omega (arith, c.loop-part.invariant.masks, c.loop-part.invariant.masks_fit, ap (λ ps. length (joined_parts ps).masks) none))
          (omega (arith, c.loop-part.invariant.offsets, c.loop-part.invariant.offsets_fit, ap (λ ps. length (joined_parts ps).offsets) none))
          (omega (arith, c.loop-part.invariant.bytes, c.loop-part.invariant.bytes_fit, ap (λ ps. length (joined_parts ps).bytes) none));
    }
