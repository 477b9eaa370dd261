use Rattle.std.proofs.Common.{◌≡◌, ℕ, List, ◌+◌, ◌*◌, ◌/◌, ◌-◌, ◌++◌, arith, ap, sym, ◌∙◌}
use Rattle.std.proofs.lemmas.List.{append_assoc}
use Rattle.zarrs_packbits.proofs.bit_appends.append_by_lanes.Goals as goal
use Rattle.zarrs_packbits.specs.Bits.{bits_of}
use Rattle.zarrs_packbits.specs.BitStream.{components_from}
use Rattle.zarrs_packbits.specs.WrittenBits.{written_bits}
use Rattle.zarrs_packbits.proofs.BlockLemmas.{components_more}
use Rattle.std.proofs.Math.Nat.{div-mul-le_self}
use Rattle.zarrs_packbits.proofs.LaneLemmas.{parts_inside}

pub append_spread_lanes-requires-clause-inside : goal.append_spread_lanes-requires-clause-inside
append_spread_lanes-requires-clause-inside c =
    let held = parts_inside c.args.at c.args.parts c.args.lanes c.args.layout.now.count in
    omega (arith, held.0, c.requires.inside)

pub append_spread_lanes-requires-clause-at : goal.append_spread_lanes-requires-clause-at
append_spread_lanes-requires-clause-at c =
    let held = parts_inside c.args.at c.args.parts c.args.lanes c.args.layout.now.count in
    omega (arith, held.0, c.requires.at)

pub append_components-requires-clause-inside : goal.append_components-requires-clause-inside
append_components-requires-clause-inside c =
    let held = parts_inside c.args.at c.args.parts c.args.lanes c.args.layout.now.count in
    omega (arith, held.1, c.requires.inside)

pub append_components-requires-clause-at : goal.append_components-requires-clause-at
append_components-requires-clause-at c =
    let held = parts_inside c.args.at c.args.parts c.args.lanes c.args.layout.now.count in
    omega (arith, held.1, c.requires.at)

pub returns-clause-bits : goal.returns-clause-bits
returns-clause-bits c =
    let l = c.args.layout.now in
    let at = c.args.at in
    let bits = bits_of c.args.bytes.now in
    let done = c.args.parts / c.args.lanes * c.args.lanes in
    let rest = c.args.parts - done in
    let next = at + done * l.count in
    let begun = written_bits c.args.out.now.items c.args.word c.args.filled in
    let less = div-mul-le_self c.args.parts c.args.lanes in
    let sum : done + rest ≡ c.args.parts = omega arith in
    c.in_ok-left.ensures.bits
    ∙ ap (λ (xs : List ℕ). xs ++ components_from l next rest bits) c.in_ok-last.ensures.bits
    ∙ append_assoc begun (components_from l at done bits) (components_from l next rest bits)
    ∙ ap (λ (xs : List ℕ). begun ++ xs) (sym (components_more l at done rest bits))
    ∙ ap (λ n. begun ++ components_from l at n bits) sum
