use Rattle.std.proofs.Common.{◌≡◌, ◌<◌, ◌≤◌, ◌+◌, ◌-◌, ◌*◌, ◌/◌, ◌%◌, ◌^◌, ◌∙◌, get_or, length, take, ap, arith}
use Rattle.std.specs.Prelude.{bit_and}
use Rattle.std.proofs.Math.Nat.{mul-le-mul_right}
use Rattle.std.proofs.lemmas.List.{take_more_set}
use Rattle.std.proofs.lemmas.Nat.{and_mask, one_shl}
use Rattle.zarrs_packbits.specs.BlockBits.{lifted_byte}
use Rattle.zarrs_packbits.specs.KeptBits.{sign_weight}
use Rattle.zarrs_packbits.proofs.spread.put_head.Goals as goal
use Rattle.zarrs_packbits.proofs.BlockLemmas.{cut_byte, head_step}
use Rattle.zarrs_packbits.proofs.SpreadLemmas.{small_count}

pub loop-part-preserved : goal.loop-part-preserved
loop-part-preserved c =
    let l = c.args.layout in
    let bytes = c.args.bytes.now in
    let count = c.args.count in
    let skip = c.args.skip in
    let p = c.loop-part.part in
    let small = small_count count c.requires.kept in
    let some : 0 < l.count = omega (arith, small.some, c.requires.count) in
    let more : skip + (p + 1) ≤ skip + length c.args.out.now = omega arith in
    let row : (skip + (p + 1)) * count ≤ (skip + length c.args.out.now) * count = mul-le-mul_right count more in
    let next : (skip + (p + 1)) * count ≡ (skip + p) * count + count = omega arith in
    let byte = get_or bytes 0 0 / 2 ^ ((skip + p) * count) in
    let x = bit_and byte (1 * 2 ^ count % 2 ^ 8 - 1) in
    let isx : x ≡ cut_byte ((skip + p) * count) count (get_or bytes 0 0) = ap (λ n. bit_and byte (n - 1)) (one_shl count 8 small.below) ∙ and_mask byte count in
    let isy : c.lift_byte.result ≡ lifted_byte l.first (sign_weight l.sign count) x = c.lift_byte.ensures.value ∙ ap (λ w. lifted_byte l.first w x) c.weight_of_sign-weight.ensures.value in
    head_step l count skip p x c.lift_byte.result (take p c.loop-part.out) _ bytes c.requires.count some c.requires.size c.requires.some (omega (arith, row, next, c.requires.inside)) isx isy c.loop-part.invariant (take_more_set c.loop-part.out p c.lift_byte.result (omega (arith, c.loop-part.auto.out)))
