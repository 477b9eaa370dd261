use Rattle.std.proofs.Common.{◌≡◌, ◌∙◌, ◌++◌, ◌+◌, ◌-◌, ◌*◌, ◌/◌, Some, ap, take, drop, length, arith}
use Rattle.std.proofs.Math.Nat.{div-mul-le_self}
use Rattle.zarrs_array_bytes.specs.Turned.{turned_bytes}
use Rattle.zarrs_array_bytes.proofs.TurnedParts.{turned_more, turned_bytes-all, groups_whole}
use Rattle.zarrs_array_bytes.proofs.byte_order.reverse_groups.Goals as goal

pub loop-index-preserved : goal.loop-index-preserved
loop-index-preserved c =
    let size = c.args.size in
    let index = c.loop-index.index in
    turned_more size (index * (16 / size)) (index * 16) (index * 16 + 16 - index * 16) ((index + 1) * 16) c.args.bytes.now c.loop-index.bytes c.reverse_group.new.group c.requires.sized (groups_whole size 16 index c.requires.divides) (omega (arith, div-mul-le_self (length c.args.bytes.now) 16)) (omega arith) c.loop-index.invariant c.reverse_group.ensures.written

pub returns : goal.returns
returns c =
    let size = c.args.size in
    let bytes = c.args.bytes.now in
    let groups = length bytes / 16 in
    let a = groups * 16 in
    let e : c.loop-index.index ≡ groups = omega arith in
    let is : c.loop-index.bytes ≡ turned_bytes (Some size) (take a bytes) ++ drop a bytes = c.loop-index.invariant ∙ ap (λ n. turned_bytes (Some size) (take (n * 16) bytes) ++ drop (n * 16) bytes) e in
    let below = div-mul-le_self (length bytes) 16 in
    let q : a + (length c.loop-index.bytes - a) ≡ length bytes = omega (arith, below, c.loop-index.auto.bytes) in
    record {
      written =
          turned_more size (groups * (16 / size)) a (length c.loop-index.bytes - a) (length bytes) bytes c.loop-index.bytes c.reverse_pieces.new.bytes c.requires.sized (groups_whole size 16 groups c.requires.divides) (omega (arith, below)) q is c.reverse_pieces.ensures.written
          ∙ turned_bytes-all size (length bytes) bytes (omega arith);
    }
