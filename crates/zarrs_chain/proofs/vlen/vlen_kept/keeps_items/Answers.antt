use Rattle.std.proofs.Common.{Ok, Err, sym, subst}
use Rattle.std.proofs.lemmas.Result.{err_from_is_err_and}
use Rattle.zarrs_array_bytes.specs.Held.{Held, raw_of}
use Rattle.zarrs_array_bytes.specs.Validity.{Holds}
use Rattle.zarrs_packbits.specs.NormalForm.{normal_chunk}
use Rattle.zarrs_chain_meaning.specs.vlen.Vlen.{is_same_bytes}
use Rattle.zarrs_chain.proofs.VlenKept.{kept_of, kept_answer, no_error}
use Rattle.zarrs_chain.proofs.vlen.vlen_kept.keeps_items.Goals as goal

pub returns-in_err-kept-clause-answer : goal.returns-in_err-kept-clause-answer
returns-in_err-kept-clause-answer c = λ chunk holds long.
    let type = c.args.form.data_type.now in
    let normal = normal_chunk c.args.codec.now type chunk in
    let inside = subst (λ (held : Held). Holds type held chunk) (sym c.new_flen-elements.ensures.made) holds in
    let h = kept_of c.args.codec.now c.args.form.shape.now type c.args.form.fill_value.now c.new_flen-elements.result (raw_of c.in_ok-value.value).items (Err c.in_err-kept.field-0.0) chunk inside long c.in_ok-value.ensures.encodes.found c.in_err-kept.ensures.decodes.only in
    let p = err_from_is_err_and c.from_residual-in_err-kept.result c.from_residual-in_err-kept.ensures.1 in
    rw (p.1, p.2) (λ m. no_error normal (is_same_bytes normal chunk) c.in_err-kept.field-0.0 (h m))

pub returns-clause-answer : goal.returns-clause-answer
returns-clause-answer c = λ chunk holds long.
    let type = c.args.form.data_type.now in
    let inside = subst (λ (held : Held). Holds type held chunk) (sym c.new_flen-elements.ensures.made) holds in
    let h = kept_of c.args.codec.now c.args.form.shape.now type c.args.form.fill_value.now c.new_flen-elements.result (raw_of c.in_ok-value.value).items (Ok c.in_ok-kept.kept) chunk inside long c.in_ok-value.ensures.encodes.found c.in_ok-kept.ensures.decodes.only in
    kept_answer c.args.codec.now type c.in_ok-kept.kept c.args.items.now c.holds_items.result chunk c.holds_items.ensures.answer holds h
