use Rattle.std.proofs.Common.{◌≡◌, true, false, IfOk, ap, sym, ◌∙◌, subst}
use Rattle.std.specs.Prelude.{option_map}
use Rattle.zarrs_chunk.specs.Answer.{AnswersBy, is_fault, memory_or_fault}
use Rattle.zarrs_chunk.specs.Runs.{joined_runs}
use Rattle.zarrs_array_bytes.specs.Validity.{Holds}
use Rattle.zarrs_codec.specs.StorageState.{are_sure}
use Rattle.zarrs_chain_meaning.specs.vlen.PlainVlen.{plain_form}
use Rattle.zarrs_chain.specs.ChainView.{plain_vlen}
use Rattle.zarrs_codecs.proofs.VlenReads.{read_wholly, reads_no_part, vlen_taken}
use Rattle.zarrs_codecs.proofs.LawfulPart.{part_laws}
use Rattle.zarrs_codecs.proofs.vlen.vlen_runs.vlen_runs.Goals as goal

pub plain_runs-requires : goal.plain_runs-requires
plain_runs-requires g c =
    let t = vlen_taken g.B.BytesToBytesCodecTraits.functions c.args.codec.now c.args.form.shape.now c.args.form.data_type.now c.args.form.fill_value.now c.requires.taken in
    record { variable = t.variable; filling = t.filled; counted = t.counted; inside = c.requires.inside; count = c.requires.count }

pub whole_runs-requires : goal.whole_runs-requires
whole_runs-requires g c =
    let t = vlen_taken g.B.BytesToBytesCodecTraits.functions c.args.codec.now c.args.form.shape.now c.args.form.data_type.now c.args.form.fill_value.now c.requires.taken in
    record { taken = c.requires.taken; filling = t.filled; counted = t.counted; inside = c.requires.inside; count = c.requires.count }

pub returns-in-Some-clause-answer : goal.returns-in-Some-clause-answer
returns-in-Some-clause-answer g c =
    let codec = plain_vlen c.args.codec.now in
    let type = c.args.form.data_type.now in
    let form = sym c.plain_form.ensures.form ∙ ap (option_map plain_form) c.in-Some.is in
    let stored = (g.H.BytesPartialDecoderTraits.state c.args.handle.now).value in
    subst (λ expected. AnswersBy memory_or_fault (Holds type) c.plain_runs.result expected)
    (sym ((part_laws codec).plainly g.B.BytesToBytesCodecTraits.functions (plain_form c.in-Some.plain) c.args.form.shape.now type c.args.form.fill_value.now stored (joined_runs c.args.runs.now) form))
    c.plain_runs.ensures.answer

pub returns-in-Some-clause-sure : goal.returns-in-Some-clause-sure
returns-in-Some-clause-sure g c reads =
    let codec = plain_vlen c.args.codec.now in
    let form = sym c.plain_form.ensures.form ∙ ap (option_map plain_form) c.in-Some.is in
    let state = g.H.BytesPartialDecoderTraits.state c.args.handle.now in
    subst (λ rests. IfOk rests (λ numbers. are_sure state.sure numbers ≡ true → is_fault c.plain_runs.result ≡ false))
    (sym ((part_laws codec).rests_plainly g.B.BytesToBytesCodecTraits.functions (plain_form c.in-Some.plain) c.args.form.shape.now c.args.form.data_type.now c.args.form.fill_value.now state.value (joined_runs c.args.runs.now) form))
    c.plain_runs.ensures.sure

pub returns-in-None-clause-answer : goal.returns-in-None-clause-answer
returns-in-None-clause-answer g c =
    let type = c.args.form.data_type.now in
    let form = sym c.plain_form.ensures.form ∙ ap (option_map plain_form) c.in-None.is in
    let stored = (g.H.BytesPartialDecoderTraits.state c.args.handle.now).value in
    subst (λ expected. AnswersBy memory_or_fault (Holds type) c.whole_runs.result expected)
    (sym (read_wholly g.B.BytesToBytesCodecTraits.functions c.args.codec.now c.args.form.shape.now type c.args.form.fill_value.now stored (joined_runs c.args.runs.now) form))
    c.whole_runs.ensures.answer

pub returns-in-None-clause-sure : goal.returns-in-None-clause-sure
returns-in-None-clause-sure g c reads =
    let form = sym c.plain_form.ensures.form ∙ ap (option_map plain_form) c.in-None.is in
    absurd (reads_no_part c.args.codec.now form reads)
