use Rattle.std.proofs.Common.{◌≡◌, ◌≤◌, ◌+◌, ◌*◌, ℕ, length, arith}
use Rattle.std.proofs.lemmas.Nat.{mul-add-lt}
use Rattle.std.proofs.Math.Nat.{add-mul}
use Rattle.zarrs_array_to_array.proofs.PlaneRows.{bytes_below}
use Rattle.zarrs_array_to_array.proofs.transpose.planes.put_columns.Goals as goal

pub put_rows-requires-clause-starts : goal.put_rows-requires-clause-starts
put_rows-requires-clause-starts c = λ r l. omega (arith, l)

pub put_rows-requires-clause-inside : goal.put_rows-requires-clause-inside
put_rows-requires-clause-inside c = λ r k l m.
    let width = c.args.width in
    let count = c.args.count in
    let at : ℕ = 0 + r * 1 + k * width in
    let below : at + 1 ≤ width * count = omega (arith, mul-add-lt k width r count m l) in
    let whole : width * count * c.args.size ≡ count * (width * c.args.size) = grind arith in
    omega (arith, bytes_below (at + 1) (width * count) c.args.size (length c.args.block.now) below (omega (arith, c.requires.whole, whole)), add-mul at 1 c.args.size)
