use Rattle.std.proofs.Common.{◌≡◌, ◌<◌, length, slice_index, true, sym, subst, arith}
use Rattle.zarrs_array_bytes.specs.Offsets.{is_offsets}
use Rattle.zarrs_array_bytes.specs.Tight.{from_first}
use Rattle.zarrs_array_bytes.proofs.FlushLemmas.{above_first, all_moved, offsets_moved}
use Rattle.zarrs_array_bytes.proofs.array_bytes_offsets.move_to_zero.Goals as goal

pub overflow_sub-offset : goal.overflow_sub-offset
overflow_sub-offset c =
    let at = c.loop-offset.offset-index in
    let inside : at < length c.args.offsets.now = omega (arith, c.loop-offset.invariant.0, c.loop-offset-test.true) in
    let here : slice_index c.loop-offset.offsets at ≡ slice_index c.args.offsets.now at = c.loop-offset.invariant.2 at (omega arith) in
    omega (arith, here, above_first c.args.offsets.now c.requires.rising at inside)

pub returns : goal.returns
returns c =
    let moved : c.loop-offset.offsets ≡ from_first c.args.offsets.now =
    all_moved c.args.offsets.now c.loop-offset.offsets c.loop-offset.invariant.0 (λ k l. c.loop-offset.invariant.1 k (omega (arith, l, c.loop-offset.invariant.0, c.loop-offset-test.false))) in
    record { moved = moved; rising = subst (λ os. is_offsets os ≡ true) (sym moved) (offsets_moved c.args.offsets.now c.requires.rising) }
