use Rattle.std.proofs.Common.{◌+◌, ◌*◌, ◌%◌, ◌^◌, get_or, arith, rules, ap, sym, ◌∙◌, length, ◌≡◌, refl}
use Rattle.std.specs.List.{flat_map}
use Rattle.std.specs.Prelude.{bit_or}
use Rattle.std.proofs.lemmas.List.{length-set, take_all}
use Rattle.zarrs_packbits.specs.Bits.{bits_of, low_bits}
use Rattle.zarrs_packbits.proofs.blocks.join_quarters.Goals as goal
use Rattle.zarrs_packbits.proofs.BlockLemmas.{quarters_joined}

pub loop-place-preserved : goal.loop-place-preserved
loop-place-preserved c =
    let from = c.args.from.now in
    let p = c.loop-place.place in
    let to = c.loop-place.to in
    let a = get_or from (4 * p) 0 in
    let b = get_or from (4 * p + 1) 0 in
    let d = get_or from (4 * p + 2) 0 in
    let e = get_or from (4 * p + 3) 0 in
    let byte = bit_or (bit_or (bit_or a (b * 2 ^ 2 % 2 ^ 8)) (d * 2 ^ 4 % 2 ^ 8)) (e * 2 ^ 6 % 2 ^ 8) in
    let long : length from ≡ 64 = search rules in
    record {
      made = quarters_joined to from p byte c.loop-place.invariant.long long (omega arith) c.loop-place.invariant.made (c.requires.bits_fit (4 * p) 0 (omega arith)) (c.requires.bits_fit (4 * p + 1) 0 (omega arith)) (c.requires.bits_fit (4 * p + 2) 0 (omega arith)) (c.requires.bits_fit (4 * p + 3) 0 (omega arith)) refl;
      long = length-set to p byte ∙ c.loop-place.invariant.long;
    }

pub returns : goal.returns
returns c =
    let from = c.args.from.now in
    let to = c.loop-place.to in
    let long : length from ≡ 64 = search rules in
    let end : c.loop-place.place ≡ 16 = omega arith in
    record {
      bits =
          ap bits_of (sym (take_all 16 to (omega (arith, c.loop-place.invariant.long))))
          ∙ (rw end at c.loop-place.invariant.made)
          ∙ ap (flat_map (low_bits 2)) (take_all 64 from (omega arith));
    }
