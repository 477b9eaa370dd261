use Rattle.std.proofs.Common.{◌+◌, ◌-◌, ◌*◌, ◌/◌, ◌%◌, ◌^◌, get_or, set, take, arith, rules, ap, sym, ◌∙◌, length, ◌≡◌, map}
use Rattle.std.specs.Prelude.{bit_and}
use Rattle.std.proofs.lemmas.Nat.{and_mask, one_shl}
use Rattle.std.proofs.lemmas.List.{length-set, take_all}
use Rattle.zarrs_packbits.proofs.blocks.cut.Goals as goal
use Rattle.zarrs_packbits.proofs.BlockLemmas.{cut_byte, map_more}

pub loop-place-preserved : goal.loop-place-preserved
loop-place-preserved c =
    let from = c.args.from.now in
    let first = c.args.first in
    let count = c.args.count in
    let p = c.loop-place.place in
    let to = c.loop-place.to in
    let mask = 1 * 2 ^ count % 2 ^ 8 - 1 in
    let x = bit_and (get_or from p 0 / 2 ^ first) mask in
    let f = cut_byte first count in
    let long : length from ≡ 64 = search rules in
    let is : x ≡ f (get_or from p 0) = ap (λ n. bit_and (get_or from p 0 / 2 ^ first) (n - 1)) (one_shl count 8 c.requires.count) ∙ and_mask (get_or from p 0 / 2 ^ first) count in
    record {
      made = ap (λ y. take (p + 1) (set to p y)) is ∙ map_more f to from p (omega (arith, c.loop-place.invariant.long)) (omega arith) c.loop-place.invariant.made;
      long = length-set to p x ∙ c.loop-place.invariant.long;
    }

pub returns : goal.returns
returns c =
    let from = c.args.from.now in
    let to = c.loop-place.to in
    let long : length from ≡ 64 = search rules in
    let end : c.loop-place.place ≡ 64 = omega arith in
    record {
      value =
          sym (take_all 64 to (omega (arith, c.loop-place.invariant.long)))
          ∙ (rw end at c.loop-place.invariant.made)
          ∙ ap (map (cut_byte c.args.first c.args.count)) (take_all 64 from (omega arith));
    }
