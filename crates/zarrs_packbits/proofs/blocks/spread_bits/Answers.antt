use Rattle.std.proofs.Common.{◌/◌, ◌%◌, ◌^◌, get_or, arith, rules, ◌∙◌, length, ◌≡◌}
use Rattle.std.specs.Prelude.{bit_and}
use Rattle.std.proofs.lemmas.Nat.Bits.{shr_and_one}
use Rattle.std.proofs.lemmas.List.{length-set}
use Rattle.zarrs_packbits.proofs.blocks.spread_bits.Goals as goal
use Rattle.zarrs_packbits.proofs.BlockLemmas.{spread_done, spread_more}

pub loop-place-preserved : goal.loop-place-preserved
loop-place-preserved c =
    let from = c.args.from.now in
    let p = c.loop-place.place in
    let to = c.loop-place.to in
    let long : length from ≡ 8 = search rules in
    let a = bit_and (get_or from (p / 8) 0 / 2 ^ (p % 8)) 1 in
    record {
      made = spread_more to from p a c.loop-place.invariant.long long (omega arith) c.loop-place.invariant.made (shr_and_one (get_or from (p / 8) 0) (p % 8));
      long = length-set to p a ∙ c.loop-place.invariant.long;
    }

pub returns : goal.returns
returns c =
    let long : length c.args.from.now ≡ 8 = search rules in
    let end : c.loop-place.place ≡ 64 = omega arith in
    record { value = spread_done c.loop-place.to c.args.from.now c.loop-place.invariant.long long (rw end at c.loop-place.invariant.made) }
