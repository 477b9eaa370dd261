use Rattle.std.proofs.Common.{◌≡◌, ◌+◌, ◌-◌, ◌*◌, ◌≤◌, true, false, nat_eq, drop, length, rules, arith, refl, sym, ◌∙◌}
use Rattle.std.specs.Cmp.Lexicographic.{pointwise}
use Rattle.zarrs_shard_bytes.proofs.SameBytes.{behind_block, block_differs, last_block}
use Rattle.zarrs_shard_bytes.proofs.same_bytes.is_same.Goals as goal

pub returns-then-not-is_same_block : goal.returns-then-not-is_same_block
returns-then-not-is_same_block c =
    let other : c.is_same_block.result ≡ false = search rules in
    record { value = sym (block_differs 64 (c.loop-index.index * 64) c.args.one.now c.args.other.now (sym c.is_same_block.ensures.value ∙ other)) }

pub loop-index-preserved : goal.loop-index-preserved
loop-index-preserved c =
    let one = c.args.one.now in
    let other = c.args.other.now in
    let at = c.loop-index.index * 64 in
    let same : c.is_same_block.result ≡ true = search rules in
    let next : at + 64 ≡ (c.loop-index.index + 1) * 64 = omega arith in
    c.loop-index.invariant
    ∙ behind_block 64 at one other c.requires.len (sym c.is_same_block.ensures.value ∙ same)
    ∙ (λ i. pointwise nat_eq (drop (next i) one) (drop (next i) other))

pub returns : goal.returns
returns c =
    let len = length c.args.one.now in
    let fits : 64 ≤ len = search rules in
    let end : len - 64 ≤ c.loop-index.index * 64 = search (arith, rules) in
    record { value = c.is_same_block-2.ensures.value ∙ last_block 64 (c.loop-index.index * 64) len c.args.one.now c.args.other.now refl (sym c.requires.len) fits end c.loop-index.invariant }
