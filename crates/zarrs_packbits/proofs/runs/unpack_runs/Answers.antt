use Rattle.std.proofs.Common.{◌≡◌, ℕ, ◌<◌, List, get_or, length, take, drop, ◌++◌, arith, ap, subst, sym, ◌∙◌}
use Rattle.std.proofs.lemmas.List.{take_at}
use Rattle.zarrs_packbits.specs.Packing.{packing}
use Rattle.zarrs_packbits.proofs.FieldLemmas.{packed_bytes}
use Rattle.zarrs_packbits.proofs.runs.unpack_runs.Goals as goal

pub returns-then-is_spread : goal.returns-then-is_spread
returns-then-is_spread c =
    let made = c.put_spread_runs.new.out in
    let old = c.in_ok-out.out in
    let all : take old.len (made ++ drop (length made) old.items) ≡ made
    = take_at made (drop (length made) old.items) old.len (omega (arith, c.put_spread_runs.auto.out, c.deref_mut.ensures.len)) in
    let small : (i : ℕ) → get_or made i 0 < 256 = subst (λ (b : List ℕ). (i : ℕ) → get_or b i 0 < 256) (c.deref.ensures.value ∙ all) c.bytes_are.ensures.small in
    record { value = all ∙ sym (packed_bytes made small) ∙ ap packing c.put_spread_runs.ensures.written }
