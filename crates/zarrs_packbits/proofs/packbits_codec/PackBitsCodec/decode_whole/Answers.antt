use Rattle.std.proofs.Common.{ℕ, ◌<◌, List, get_or, refl, subst, ◌∙◌}
use Rattle.zarrs_array_bytes.specs.Held.{raw_of}
use Rattle.zarrs_array_bytes.proofs.ValidLemmas.{raw_items}
use Rattle.zarrs_packbits.proofs.WholeChunk.{whole_answer}
use Rattle.zarrs_packbits.proofs.packbits_codec.PackBitsCodec.decode_whole.Goals as goal

pub returns-clause-exact : goal.returns-clause-exact
returns-clause-exact c =
    let value = c.args.value in
    let type = c.args.data_type.now in
    let is = (rw c.little.ensures.made at c.decode.ensures.in_place) refl in
    let kept = (rw c.little.ensures.made at c.decode.ensures.kept) refl in
    let small : (i : ℕ) → get_or (raw_of value).items i 0 < 256 = subst (λ (b : List ℕ). (i : ℕ) → get_or b i 0 < 256) (c.deref.ensures.value ∙ raw_items value) c.bytes_are.ensures.small in
    whole_answer c.args.self.now c.args.shape.now type c.args.fill.now (raw_of value).items (raw_of value) c.decode.result c.requires.whole is kept refl small
