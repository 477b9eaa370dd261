use Rattle.std.proofs.Common.{◌≡◌, ℕ, List, ◌+◌, ◌*◌, ◌/◌, ◌%◌, ◌^◌, ◌<◌, ◌++◌, take, arith, ap, sym, ◌∙◌}
use Rattle.std.proofs.lemmas.Nat.{shr_below}
use Rattle.zarrs_packbits.proofs.bit_appends.flush_whole_bytes.Goals as goal
use Rattle.zarrs_packbits.specs.Bits.{bits_of, low_bits}
use Rattle.zarrs_packbits.proofs.LowBits.{level}

pub returns-clause-bits : goal.returns-clause-bits
returns-clause-bits c =
    let front = c.args.out.now.items in
    let word = c.args.word in
    let filled = c.args.filled in
    let whole = filled / 8 in
    let rest = filled % 8 in
    ap (λ (xs : List ℕ). bits_of xs ++ low_bits rest (word / 2 ^ (8 * whole))) (c.in_ok-extend_from_slice.ensures.items ∙ ap (λ (xs : List ℕ). front ++ take whole xs) c.to_le_bytes.ensures)
    ∙ level front filled word whole rest (omega (arith, c.requires.begun.room)) (omega arith)

pub returns-clause-begun : goal.returns-clause-begun
returns-clause-begun c =
    let filled = c.args.filled in
    let parts : filled ≡ filled % 8 + 8 * (filled / 8) = omega arith in
    let fits : c.args.word < 2 ^ (filled % 8 + 8 * (filled / 8)) = rw (sym parts) c.requires.begun.fits in
    record { room = omega arith; fits = shr_below c.args.word (filled % 8) (8 * (filled / 8)) fits }
