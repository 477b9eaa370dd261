use Rattle.std.proofs.Common.{◌≡◌, ℕ, List, get_or, sym, subst, ◌+◌, ◌-◌, ◌*◌, ◌/◌, ◌<◌, ◌^◌, take, drop, arith, ap, ◌∙◌}
use Rattle.std.specs.List.{All}
use Rattle.std.proofs.lemmas.Nat.{pow_pos, mod_below}
use Rattle.std.proofs.lemmas.List.Elements.{All-map}
use Rattle.zarrs_packbits.proofs.blocks.append_cut.Goals as goal
use Rattle.zarrs_packbits.proofs.BlockLemmas.{cut_byte, joined_step}

pub append_numbers-requires-clause-bits_fit : goal.append_numbers-requires-clause-bits_fit
append_numbers-requires-clause-bits_fit c =
    let from = c.copy_from_slice.new.self in
    let count = c.args.count in
    subst (λ (xs : List ℕ). All (λ (number : ℕ). number < 2 ^ count) xs) (sym c.cut.ensures.value)
    (All-map (λ (number : ℕ). number < 2 ^ count) (cut_byte c.args.first count) from (λ k d lt. mod_below (get_or from k d / 2 ^ c.args.first) (2 ^ count) (pow_pos count)))

pub loop-block-preserved : goal.loop-block-preserved
loop-block-preserved c =
    let b = c.loop-block.block in
    let bytes = c.args.bytes.now in
    let size : 64 * b + 64 - 64 * b ≡ 64 = omega arith in
    joined_step c.args.count c.args.first b c.args.out.now.items c.loop-block.out.items c.append_numbers.new.out.items c.copy_from_slice.new.self c.cut.result bytes c.requires.within (omega arith) (c.copy_from_slice.ensures.after ∙ ap (λ n. take n (drop (64 * b) bytes)) size) c.cut.ensures.value c.loop-block.invariant c.in_ok-append_numbers.ensures.appended
