use Rattle.std.proofs.Common.{◌≡◌, ◌+◌, ◌-◌, ◌*◌, ◌/◌, true, length, arith}
use Rattle.std.proofs.Math.Nat.{div-mul-le_self}
use Rattle.zarrs_chain_meaning.proofs.VlenOffsets.{more_from, whole_from}
use Rattle.zarrs_chain_meaning.proofs.vlen.vlen_offsets.wide_items.Goals as goal

pub loop-index-preserved : goal.loop-index-preserved
loop-index-preserved c =
    let at = c.loop-index.index * 32 in
    more_from true c.args.first at (at + 32 - at) ((c.loop-index.index + 1) * 32) c.args.offsets.now c.loop-index.items.items c.append_wide.new.out.items c.loop-index.invariant c.in_ok-append_wide.ensures.appended (omega arith)

pub returns : goal.returns
returns c =
    let at = length c.args.offsets.now / 32 * 32 in
    let is : c.loop-index.index ≡ length c.args.offsets.now / 32 = omega arith in
    record { value = whole_from true c.args.first c.loop-index.index (length c.args.offsets.now / 32) (length c.args.offsets.now - at) c.args.offsets.now c.loop-index.items.items c.append_wide-2.new.out.items is c.loop-index.invariant c.in_ok-append_wide-2.ensures.appended (omega (arith, div-mul-le_self (length c.args.offsets.now) 32)) }
