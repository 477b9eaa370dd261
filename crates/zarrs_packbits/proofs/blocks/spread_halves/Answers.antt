use Rattle.std.proofs.Common.{◌+◌, ◌*◌, ◌/◌, ◌^◌, ◌<◌, get_or, arith, rules, ap, sym, ◌∙◌, length, ◌≡◌, set}
use Rattle.std.specs.List.{flat_map}
use Rattle.std.specs.Prelude.{bit_and}
use Rattle.std.proofs.lemmas.Nat.{and_mask}
use Rattle.std.proofs.lemmas.List.{length-set, take_all}
use Rattle.zarrs_packbits.specs.BlockBits.{fields_of}
use Rattle.zarrs_packbits.proofs.blocks.spread_halves.Goals as goal
use Rattle.zarrs_packbits.proofs.BlockLemmas.{halves_more}

pub loop-place-preserved : goal.loop-place-preserved
loop-place-preserved c =
    let from = c.args.from.now in
    let p = c.loop-place.place in
    let to = c.loop-place.to in
    let byte = get_or from p 0 in
    let long : length from ≡ 64 = search rules in
    let small : byte < 256 = search rules in
    let a = bit_and byte 15 in
    let b = byte / 2 ^ 4 in
    record {
      made = halves_more to from p a b c.loop-place.invariant.long long (omega arith) c.loop-place.invariant.made (and_mask byte 4) (omega arith);
      long = length-set (set to (2 * p) a) (2 * p + 1) b ∙ length-set to (2 * p) a ∙ c.loop-place.invariant.long;
    }

pub returns : goal.returns
returns c =
    let from = c.args.from.now in
    let to = c.loop-place.to in
    let long : length from ≡ 64 = search rules in
    let end : c.loop-place.place ≡ 64 = omega arith in
    record {
      value =
          sym (take_all 128 to (omega (arith, c.loop-place.invariant.long)))
          ∙ (rw end at c.loop-place.invariant.made)
          ∙ ap (flat_map (fields_of 4 2)) (take_all 64 from (omega arith));
    }
