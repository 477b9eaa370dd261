use Rattle.std.proofs.Common.{◌≡◌, ◌+◌, ◌&&◌, nat_lt, get_or, drop, Bool, List, ℕ, ap, sym, ◌∙◌, arith}
use Rattle.std.specs.List.{list_all}
use Rattle.std.proofs.lemmas.List.{drop_more}
use Rattle.zarrs_array_bytes.proofs.MaskedBytes.{flag_larger, flag_smaller}
use Rattle.zarrs_array_bytes.proofs.array_bytes.is_mask.Goals.{then-largest-byte, else-largest-byte}
use Rattle.zarrs_array_bytes.proofs.array_bytes.is_mask.Goals as goal

pub loop-byte-preserved : goal.loop-byte-preserved
loop-byte-preserved c =
    let mask = c.args.mask.now in
    let i = c.loop-byte.byte-index in
    let largest = c.loop-byte.largest in
    let byte = get_or mask i 0 in
    let flags : List ℕ → Bool = list_all (λ b. nat_lt b 2) in
    let rest = flags (drop (i + 1) mask) in
    let told : nat_lt largest 2 && (nat_lt byte 2 && rest) ≡ flags mask = ap (λ bs. nat_lt largest 2 && flags bs) (sym (drop_more mask i 0 c.loop-byte-test.true)) ∙ c.loop-byte.invariant in
    elim c.if-largest-byte.branch [
      | then-largest-byte w ↦ rw w.largest-is (flag_larger largest byte rest (omega arith) ∙ told)
      | else-largest-byte w ↦ rw w.largest-is (flag_smaller largest byte rest (omega arith) ∙ told)
    ]
