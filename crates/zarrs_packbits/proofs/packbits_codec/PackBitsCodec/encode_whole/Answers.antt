use Rattle.std.proofs.Common.{ℕ, ◌<◌, List, get_or, subst, sym, ◌∙◌}
use Rattle.std.proofs.lemmas.Result.{err_from_is_err_and}
use Rattle.zarrs_array_bytes.specs.Held.{raw_of}
use Rattle.zarrs_array_bytes.proofs.ValidLemmas.{raw_items}
use Rattle.zarrs_packbits.proofs.WholeChunk.{little_stays, whole_value, whole_refused}
use Rattle.zarrs_packbits.proofs.packbits_codec.PackBitsCodec.encode_whole.Goals as goal

pub returns-in_err-value-clause-exact : goal.returns-in_err-value-clause-exact
returns-in_err-value-clause-exact c =
    let p = err_from_is_err_and c.from_residual.result c.from_residual.ensures.1 in
    let is = (rw c.little.ensures.made at c.in_err-value.ensures.in_place) (little_stays c.args.data_type.now c.args.elements) in
    rw (p.1, p.2) (sym (whole_refused c.args.self.now c.args.shape.now c.args.data_type.now c.args.fill.now c.args.elements c.in_err-value.field-0.0 c.requires.whole (sym is)))

pub returns-clause-exact : goal.returns-clause-exact
returns-clause-exact c =
    let value = c.in_ok-value.value in
    let is = (rw c.little.ensures.made at c.in_ok-value.ensures.in_place) (little_stays c.args.data_type.now c.args.elements) in
    let small : (i : ℕ) → get_or (raw_of value).items i 0 < 256 = subst (λ (b : List ℕ). (i : ℕ) → get_or b i 0 < 256) (c.deref.ensures.value ∙ raw_items value) c.bytes_are.ensures.small in
    sym (whole_value c.args.self.now c.args.shape.now c.args.data_type.now c.args.fill.now (raw_of value).items c.args.elements c.requires.whole (sym is) small)
