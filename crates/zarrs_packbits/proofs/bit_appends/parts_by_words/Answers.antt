use Rattle.std.proofs.Common.{◌≡◌, ℕ, ◌+◌, ◌-◌, ◌*◌, ◌/◌, ◌≤◌, arith}
use Rattle.std.proofs.Math.Nat.{mul-le-mul_right}
use Rattle.std.proofs.lemmas.Nat.{div-add-mod'}
use Rattle.zarrs_packbits.proofs.bit_appends.parts_by_words.Goals as goal

reached : (size len skip m : ℕ) → skip + 8 ≤ len → m ≤ (len - skip - 8) / size + 1 → m * size + skip + 8 ≤ len + size
reached size len skip m h le =
    let room = len - skip - 8 in
    let q = room / size in
    let whole = div-add-mod' room size in
    let row : m * size ≤ (q + 1) * size = mul-le-mul_right size le in
    let next : (q + 1) * size ≡ q * size + size = omega arith in
    omega arith

pub returns-clause-reach : goal.returns-clause-reach
returns-clause-reach c = λ some.
    let l = c.args.layout.now in
    reached l.size c.args.len (l.first / 8) c.max.result (omega arith) (omega (arith, some, c.min.ensures, c.max.ensures))
