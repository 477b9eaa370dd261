use Rattle.std.proofs.Common.{◌≡◌, ◌-◌, nat_eq, rules, arith, length, true, false, sym}
use Rattle.std.specs.Cmp.Lexicographic.{pointwise}
use Rattle.zarrs_array_bytes.specs.Elements.{cut}
use Rattle.zarrs_shard_bytes.proofs.FillTests.{cuts_more, cut_differs}
use Rattle.zarrs_shard_bytes.proofs.fill_elements.cuts_repeat.Goals as goal

pub returns-then-ne : goal.returns-then-ne
returns-then-ne c =
    let differs : pointwise nat_eq (cut c.args.offsets.now c.args.bytes.now c.loop-place.place) c.args.item.now ≡ false = search rules in
    record { value = sym (cut_differs c.args.item.now c.args.offsets.now c.args.bytes.now (length c.args.offsets.now - 1) c.loop-place.place (omega arith) differs) }

pub loop-place-preserved : goal.loop-place-preserved
loop-place-preserved c =
    let same : pointwise nat_eq (cut c.args.offsets.now c.args.bytes.now c.loop-place.place) c.args.item.now ≡ true = search rules in
    cuts_more c.args.item.now c.args.offsets.now c.args.bytes.now c.loop-place.place c.loop-place.invariant same
