use Rattle.std.proofs.Common.{◌+◌, ◌-◌, ◌*◌, ◌/◌, ◌≤◌, length, arith}
use Rattle.std.proofs.Math.Nat.{mul-le-mul_right, div-mul-le_self}
use Rattle.zarrs_array_bytes.proofs.Turned.{turned_step}
use Rattle.zarrs_array_bytes.proofs.byte_order.reverse_pieces.Goals as goal

pub loop-index-preserved : goal.loop-index-preserved
loop-index-preserved c =
    let size = c.args.size in
    let index = c.loop-index.index in
    let more : index + 1 ≤ length c.args.bytes.now / size = omega arith in
    let fits : (index + 1) * size ≤ length c.args.bytes.now = omega (arith, mul-le-mul_right size more, div-mul-le_self (length c.args.bytes.now) size) in
    turned_step size index (index * size + size - index * size) c.args.bytes.now c.loop-index.bytes c.reverse_piece.new.piece fits (omega arith) c.loop-index.invariant c.reverse_piece.ensures.written
