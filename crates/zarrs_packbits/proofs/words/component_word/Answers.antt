use Rattle.std.proofs.Common.{◌+◌, ◌-◌, ◌*◌, ◌%◌, ◌^◌, ap, ◌∙◌}
use Rattle.std.specs.Prelude.{bit_xor}
use Rattle.zarrs_packbits.specs.Bits.{low_bits}
use Rattle.zarrs_packbits.proofs.LowBits.{low_bits-mod}
use Rattle.zarrs_packbits.proofs.WordLemmas.{component_is}
use Rattle.zarrs_packbits.proofs.words.component_word.Goals as goal

pub returns-clause-bits : goal.returns-clause-bits
returns-clause-bits c =
    let first = c.args.first in
    let n = first + c.args.count + c.args.above in
    let x = c.args.kept in
    let by = c.weight_of_sign-weight.ensures.value in
    ap (low_bits n) c.lowest.ensures.value
    ∙ low_bits-mod n ((bit_xor x c.weight_of_sign-weight.result + (2 ^ 64 - c.weight_of_sign-weight.result)) % 2 ^ 64 * 2 ^ first % 2 ^ 64)
    ∙ ap (λ w. low_bits n ((bit_xor x w + (2 ^ 64 - w)) % 2 ^ 64 * 2 ^ first % 2 ^ 64)) by
    ∙ component_is 64 first c.args.count c.args.above x c.args.sign c.requires.some c.requires.fits c.requires.kept_fits
