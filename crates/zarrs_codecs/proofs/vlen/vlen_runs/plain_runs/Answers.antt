use Rattle.std.proofs.Common.{◌≡◌, ℕ, Err, subst}
use Rattle.std.proofs.lemmas.Result.{err_from_is_err_and}
use Rattle.zarrs_chunk.specs.ChunkShape.{product}
use Rattle.zarrs_chunk.specs.Runs.{joined_runs}
use Rattle.zarrs_chain_meaning.specs.vlen.PlainVlen.{plain_form}
use Rattle.zarrs_plain_vlen.proofs.StoredReads.{refused_stored}
use Rattle.zarrs_plain_vlen.specs.PlainRead.{plain_read}
use Rattle.zarrs_codecs.proofs.VlenReads.{count_is}
use Rattle.zarrs_codecs.proofs.vlen.vlen_runs.plain_runs.Goals as goal

pub returns-in_err-elements-clause-answer : goal.returns-in_err-elements-clause-answer
returns-in_err-elements-clause-answer g c =
    let p = err_from_is_err_and c.from_residual-in_err-elements.result c.from_residual-in_err-elements.ensures.1 in
    let e = c.in_err-elements.field-0.0 in
    let stored = (g.H.BytesPartialDecoderTraits.state c.args.handle.now).value in
    let form = c.args.form in
    let places = joined_runs c.args.runs.now in
    let same = count_is (product form.shape.now) c.in_ok-count.count c.in_ok-count.ensures.answer in
    rw (p.1, p.2) (λ ne. subst (λ (n : ℕ). plain_read (plain_form c.args.codec) n form.data_type.now form.fill_value.now stored places ≡ Err e) same (refused_stored (plain_form c.args.codec) c.in_ok-count.count form.data_type.now form.fill_value.now stored places e (c.in_err-elements.ensures.answer ne)))
