use Rattle.std.proofs.Common.{◌∷◌, [], ◌++◌, length, drop, ap, ◌∙◌, arith}
use Rattle.zarrs_packbits.specs.Bits.{bits_of}
use Rattle.zarrs_packbits.proofs.words.last_word.Goals as goal
use Rattle.zarrs_packbits.proofs.WordLemmas.{last_bits}

pub returns : goal.returns
returns c =
    let bytes = c.args.bytes.now in
    let zeros = drop (length bytes) (0 ∷ 0 ∷ 0 ∷ 0 ∷ 0 ∷ 0 ∷ 0 ∷ 0 ∷ []) in
    record { bits = last_bits bytes zeros c.read_word.result (omega (arith, c.requires.len)) (c.read_word.ensures.bits ∙ ap (λ bs. bits_of (bs ++ zeros)) c.copy_from_slice.ensures.after) }
