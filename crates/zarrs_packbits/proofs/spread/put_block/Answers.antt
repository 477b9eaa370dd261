use Rattle.std.proofs.Common.{◌≡◌, ◌≤◌, ◌+◌, ◌*◌, ◌/◌, ◌∙◌, ap, sym, map, length, arith, rules}
use Rattle.std.specs.List.{flat_map}
use Rattle.zarrs_packbits.specs.BlockBits.{fields_of, lifted_byte}
use Rattle.zarrs_packbits.specs.KeptBits.{sign_weight}
use Rattle.zarrs_packbits.proofs.spread.put_block.Goals as goal
use Rattle.zarrs_packbits.proofs.BlockLemmas.{last_step}

pub returns-in-1 : goal.returns-in-1
returns-in-1 c =
    let l = c.args.layout in
    let parts = length c.args.out.now in
    let count = c.args.count in
    let used = (parts * count + 7) / 8 in
    let from = c.take_block.result in
    let is : count ≡ 1 = c.in-1.is in
    let kept : l.count ≡ 1 = c.requires.count ∙ is in
    let weight : c.args.weight ≡ sign_weight l.sign l.count = c.requires.weight ∙ ap (sign_weight l.sign) (sym c.requires.count) in
    let long : length from ≡ 8 = search rules in
    let made = c.bit_block-block.ensures.value ∙ ap (λ w. map (lifted_byte l.first w) (flat_map (fields_of 1 8) from)) weight in
    let bits : parts * count ≡ parts * 1 = ap (λ n. parts * n) is in
    let few : parts * 1 ≤ 8 * 8 = rw is at c.requires.few in
    record { written = last_step l 1 8 used parts c.put_front.new.out c.bit_block-block.result from c.args.bytes.now kept (omega arith) (omega arith) c.requires.size made c.take_block.ensures.front (omega (arith, c.requires.inside)) (omega (arith, bits)) (omega (arith, bits, few, long)) c.put_front.ensures.front }

pub returns-in-2 : goal.returns-in-2
returns-in-2 c =
    let l = c.args.layout in
    let parts = length c.args.out.now in
    let count = c.args.count in
    let used = (parts * count + 7) / 8 in
    let from = c.take_block-in-2.result in
    let is : count ≡ 2 = c.in-2.is in
    let kept : l.count ≡ 2 = c.requires.count ∙ is in
    let weight : c.args.weight ≡ sign_weight l.sign l.count = c.requires.weight ∙ ap (sign_weight l.sign) (sym c.requires.count) in
    let long : length from ≡ 16 = search rules in
    let made = c.quarter_block-block.ensures.value ∙ ap (λ w. map (lifted_byte l.first w) (flat_map (fields_of 2 4) from)) weight in
    let bits : parts * count ≡ parts * 2 = ap (λ n. parts * n) is in
    let few : parts * 2 ≤ 8 * 16 = rw is at c.requires.few in
    record { written = last_step l 2 4 used parts c.put_front-in-2.new.out c.quarter_block-block.result from c.args.bytes.now kept (omega arith) (omega arith) c.requires.size made c.take_block-in-2.ensures.front (omega (arith, c.requires.inside)) (omega (arith, bits)) (omega (arith, bits, few, long)) c.put_front-in-2.ensures.front }

pub returns-in_default : goal.returns-in_default
returns-in_default c =
    let l = c.args.layout in
    let parts = length c.args.out.now in
    let count = c.args.count in
    let used = (parts * count + 7) / 8 in
    let from = c.take_block-in_default.result in
    let is : count ≡ 4 = grind (arith, c.requires.kept) in
    let kept : l.count ≡ 4 = c.requires.count ∙ is in
    let weight : c.args.weight ≡ sign_weight l.sign l.count = c.requires.weight ∙ ap (sign_weight l.sign) (sym c.requires.count) in
    let long : length from ≡ 64 = search rules in
    let made = c.half_block-block.ensures.value ∙ ap (λ w. map (lifted_byte l.first w) (flat_map (fields_of 4 2) from)) weight in
    let bits : parts * count ≡ parts * 4 = ap (λ n. parts * n) is in
    let few : parts * 4 ≤ 8 * 64 = rw is at c.requires.few in
    record { written = last_step l 4 2 used parts c.put_front-in_default.new.out c.half_block-block.result from c.args.bytes.now kept (omega arith) (omega arith) c.requires.size made c.take_block-in_default.ensures.front (omega (arith, c.requires.inside)) (omega (arith, bits)) (omega (arith, bits, few, long)) c.put_front-in_default.ensures.front }
