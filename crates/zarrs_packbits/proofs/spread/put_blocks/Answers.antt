use Rattle.std.proofs.Common.{◌≡◌, ◌≤◌, ◌+◌, ◌-◌, ◌*◌, ◌/◌, ◌∙◌, length, take, drop, ap, arith}
use Rattle.std.proofs.Math.Nat.{mul-le-mul_right}
use Rattle.zarrs_packbits.specs.Bits.{bits_of}
use Rattle.zarrs_packbits.specs.BitStream.{components_from}
use Rattle.zarrs_packbits.proofs.spread.put_blocks.Goals as goal
use Rattle.zarrs_packbits.proofs.BlockLemmas.{final_step, place_of_block}
use Rattle.zarrs_packbits.proofs.SpreadLemmas.{length-part, written_behind, written_to_end}

pub loop-block-preserved : goal.loop-block-preserved
loop-block-preserved c =
    let l = c.args.layout in
    let bytes = c.args.bytes.now in
    let room = c.args.room in
    let b = c.loop-block.block in
    let out = c.loop-block.out in
    let piece = c.put_block.new.out in
    let at = room * b in
    let used = c.args.len * b in
    let next = room * (b + 1) in
    let k = at + room - at in
    let more : b + 1 ≤ length c.args.out.now / room = omega arith in
    let row : (b + 1) * room ≤ length c.args.out.now / room * room = mul-le-mul_right room more in
    let sum : next ≡ at + room = omega arith in
    let within : at + k ≤ length out = omega (arith, row, sum, c.loop-block.auto.out) in
    let long : length (take k (drop at out)) ≡ room = length-part out at k within ∙ omega arith in
    let rest = drop k (drop at out) in
    final_step l 0 at room used next (take at out) piece _ bytes sum (place_of_block l c.args.count room c.args.len b c.requires.count c.requires.room)
    (written_behind out piece rest at next (omega (arith, within)) (omega (arith, sum, long, c.put_block.auto.out)))
    c.loop-block.invariant
    (c.put_block.ensures.written ∙ ap (λ n. components_from l 0 n (bits_of (take (length bytes - used) (drop used bytes)))) long)

pub returns-then-done-out : goal.returns-then-done-out
returns-then-done-out c =
    let l = c.args.layout in
    let bytes = c.args.bytes.now in
    let room = c.args.room in
    let parts = length c.args.out.now in
    let w = parts / room in
    let out = c.loop-block.out in
    let piece = c.put_block-then-done-out.new.out in
    let at = room * w in
    let used = c.args.len * w in
    let k = length out - at in
    let end : c.loop-block.block ≡ w = omega arith in
    let same : k ≡ parts - at = ap (λ n. n - at) c.loop-block.auto.out in
    let sum : parts ≡ at + (parts - at) = omega (arith, c.if-done-out.true) in
    let long : length (take k (drop at out)) ≡ parts - at = length-part out at k (omega (arith, sum, c.loop-block.auto.out)) ∙ same in
    record {
      written =
          final_step l 0 at (parts - at) used parts (take at out) piece _ bytes sum (place_of_block l c.args.count room c.args.len w c.requires.count c.requires.room)
          (written_to_end out piece at k (omega arith))
          (rw end at c.loop-block.invariant)
          (c.put_block-then-done-out.ensures.written ∙ ap (λ n. components_from l 0 n (bits_of (take (length bytes - used) (drop used bytes)))) long);
    }
