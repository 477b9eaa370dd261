use Rattle.std.proofs.Common.{◌+◌, ◌*◌, ◌/◌, ◌^◌, ◌<◌, get_or, arith, rules, ap, sym, ◌∙◌, length, ◌≡◌, set}
use Rattle.std.specs.List.{flat_map}
use Rattle.std.specs.Prelude.{bit_and}
use Rattle.std.proofs.lemmas.Nat.{and_mask}
use Rattle.std.proofs.lemmas.List.{length-set, take_all}
use Rattle.zarrs_packbits.specs.BlockBits.{fields_of}
use Rattle.zarrs_packbits.proofs.blocks.spread_quarters.Goals as goal
use Rattle.zarrs_packbits.proofs.BlockLemmas.{quarters_more}

pub loop-place-preserved : goal.loop-place-preserved
loop-place-preserved c =
    let from = c.args.from.now in
    let p = c.loop-place.place in
    let to = c.loop-place.to in
    let byte = get_or from p 0 in
    let long : length from ≡ 16 = search rules in
    let small : byte < 256 = search rules in
    let a = bit_and byte 3 in
    let b = bit_and (byte / 2 ^ 2) 3 in
    let d = bit_and (byte / 2 ^ 4) 3 in
    let e = byte / 2 ^ 6 in
    let one = set to (4 * p) a in
    let two = set one (4 * p + 1) b in
    let three = set two (4 * p + 2) d in
    record {
      made = quarters_more to from p a b d e c.loop-place.invariant.long long (omega arith) c.loop-place.invariant.made (and_mask byte 2) (and_mask (byte / 2 ^ 2) 2) (and_mask (byte / 2 ^ 4) 2 ∙ omega arith) (omega arith);
      long = length-set three (4 * p + 3) e ∙ length-set two (4 * p + 2) d ∙ length-set one (4 * p + 1) b ∙ length-set to (4 * p) a ∙ c.loop-place.invariant.long;
    }

pub returns : goal.returns
returns c =
    let from = c.args.from.now in
    let to = c.loop-place.to in
    let long : length from ≡ 16 = search rules in
    let end : c.loop-place.place ≡ 16 = omega arith in
    record {
      value =
          sym (take_all 64 to (omega (arith, c.loop-place.invariant.long)))
          ∙ (rw end at c.loop-place.invariant.made)
          ∙ ap (flat_map (fields_of 2 4)) (take_all 16 from (omega arith));
    }
