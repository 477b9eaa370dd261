use Rattle.std.proofs.Common.{◌≡◌, ◌∙◌, ◌+◌, ◌-◌, ◌*◌, ◌/◌, ◌≤◌, Some, ap, take, length, arith}
use Rattle.std.proofs.Math.Nat.{div-mul-le_self, mul-le-mul_right}
use Rattle.std.proofs.lemmas.List.{take_all}
use Rattle.zarrs_array_bytes.specs.Turned.{turned_bytes}
use Rattle.zarrs_array_bytes.proofs.TurnedParts.{appended_more, groups_whole}
use Rattle.zarrs_array_bytes.proofs.byte_order.turned_copy.Goals as goal

pub loop-index-preserved : goal.loop-index-preserved
loop-index-preserved c =
    let size = c.args.size in
    let block = c.block_of-block.result in
    let index = c.loop-index.index in
    let more : index + 1 ≤ length c.args.bytes.now / block = omega arith in
    let fits : (index + 1) * block ≤ length c.args.bytes.now = omega (arith, mul-le-mul_right block more, div-mul-le_self (length c.args.bytes.now) block) in
    appended_more size (index * (block / size)) (index * block) (index * block + block - index * block) ((index + 1) * block) c.args.bytes.now c.loop-index.copy.items c.append_turned.new.copy.items c.requires.sized (groups_whole size block index c.block_of-block.ensures.whole) (omega (arith, fits)) (omega arith) c.loop-index.invariant c.in_ok-append_turned.ensures.appended

pub returns : goal.returns
returns c =
    let size = c.args.size in
    let block = c.block_of-block.result in
    let bytes = c.args.bytes.now in
    let blocks = length bytes / block in
    let a = blocks * block in
    let e : c.loop-index.index ≡ blocks = omega arith in
    let is : c.loop-index.copy.items ≡ turned_bytes (Some size) (take a bytes) = c.loop-index.invariant ∙ ap (λ n. turned_bytes (Some size) (take (n * block) bytes)) e in
    let below = div-mul-le_self (length bytes) block in
    record {
      value =
          appended_more size (blocks * (block / size)) a (length bytes - a) (length bytes) bytes c.loop-index.copy.items c.append_turned-2.new.copy.items c.requires.sized (groups_whole size block blocks c.block_of-block.ensures.whole) (omega (arith, below)) (omega (arith, below)) is c.in_ok-append_turned-2.ensures.appended
          ∙ ap (turned_bytes (Some size)) (take_all (length bytes) bytes (omega arith));
    }
