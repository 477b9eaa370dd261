use Rattle.std.proofs.Common.{◌≡◌, ℕ, List, Ok, true, sym, subst, ap, ◌∙◌}
use Rattle.std.proofs.lemmas.Result.{err_from_is_err_and}
use Rattle.zarrs_chunk.specs.Answer.{AnswersBy, memory_or_fault}
use Rattle.zarrs_chunk.specs.Runs.{joined_runs}
use Rattle.zarrs_array_bytes.specs.Validity.{Holds}
use Rattle.zarrs_codec.specs.StorageState.{StorageState, are_sure, value_or_empty}
use Rattle.zarrs_plain_vlen.specs.Layout.{vlen_layout}
use Rattle.zarrs_chain_meaning.specs.vlen.PlainVlen.{plain_form}
use Rattle.zarrs_chain_meaning.specs.vlen.VlenLayout.{span_bytes, span_numbers}
use Rattle.zarrs_plain_vlen.specs.VlenRead.{elements_read, offsets_read}
use Rattle.zarrs_plain_vlen.proofs.StoredReads.{read_unindexed, read_indexed, sure_index, runs_known}
use Rattle.zarrs_plain_vlen.proofs.CallCounts.{value_counted}
use Rattle.zarrs_plain_vlen.proofs.runs.read_stored.Goals as goal

pub returns-in_err-offsets-clause-answer : goal.returns-in_err-offsets-clause-answer
returns-in_err-offsets-clause-answer g c =
    let p = err_from_is_err_and c.from_residual-in_err-offsets.result c.from_residual-in_err-offsets.ensures.1 in
    let e = c.in_err-offsets.field-0.0 in
    let D = g.H.BytesPartialDecoderTraits in
    let form = plain_form c.args.codec in
    let value = value_or_empty (D.state c.args.handle.now).value in
    let layout = c.in_ok-layout.layout in
    let same = ap (λ (s : StorageState). value_or_empty s.value) c.in_ok-layout.ensures.left in
    rw (p.1, p.2) (λ ne. read_unindexed form c.args.count value (joined_runs c.args.runs.now) (vlen_layout layout) e c.in_ok-layout.ensures.answer
    (ap (λ (v : List ℕ). offsets_read form c.args.count (span_bytes v layout.index)) (sym same) ∙ c.in_err-offsets.ensures.answer ne))

pub returns-in_err-offsets-clause-sure : goal.returns-in_err-offsets-clause-sure
returns-in_err-offsets-clause-sure g c = λ h.
    let p = err_from_is_err_and c.from_residual-in_err-offsets.result c.from_residual-in_err-offsets.ensures.1 in
    let D = g.H.BytesPartialDecoderTraits in
    let form = plain_form c.args.codec in
    let value = value_or_empty (D.state c.args.handle.now).value in
    let layout = c.in_ok-layout.layout in
    let sure = sure_index form c.args.count value (joined_runs c.args.runs.now) (D.state c.args.handle.now).sure h (vlen_layout layout) c.in_ok-layout.ensures.answer in
    rw (p.1, p.2) (c.in_err-offsets.ensures.sure (subst (λ (s : StorageState). are_sure s.sure (span_numbers layout.index) ≡ true) (sym c.in_ok-layout.ensures.left) sure))

pub read_elements-requires-clause-known : goal.read_elements-requires-clause-known
read_elements-requires-clause-known g c =
    let D = g.H.BytesPartialDecoderTraits in
    let form = plain_form c.args.codec in
    let layout = c.in_ok-layout.layout in
    let value = value_or_empty (D.state c.read_layout.new.handle).value in
    runs_known form c.args.count (span_bytes value layout.index) c.in_ok-offsets.offsets c.args.runs.now c.in_ok-offsets.ensures.answer c.requires.inside

pub returns-clause-answer : goal.returns-clause-answer
returns-clause-answer g c =
    let D = g.H.BytesPartialDecoderTraits in
    let form = plain_form c.args.codec in
    let places = joined_runs c.args.runs.now in
    let value = value_or_empty (D.state c.args.handle.now).value in
    let layout = c.in_ok-layout.layout in
    let offsets = c.in_ok-offsets.offsets in
    let same = ap (λ (s : StorageState). value_or_empty s.value) c.in_ok-layout.ensures.left in
    let later = ap (λ (s : StorageState). value_or_empty s.value) c.in_ok-offsets.ensures.left ∙ same in
    let read : offsets_read form c.args.count (span_bytes value layout.index) ≡ Ok offsets = ap (λ (v : List ℕ). offsets_read form c.args.count (span_bytes v layout.index)) (sym same) ∙ c.in_ok-offsets.ensures.answer in
    subst (AnswersBy memory_or_fault (Holds c.args.data_type.now) c.read_elements.result)
    (ap (λ (v : List ℕ). elements_read offsets (span_bytes v layout.content) places) later
    ∙ sym (read_indexed form c.args.count value places (vlen_layout layout) offsets c.in_ok-layout.ensures.answer read))
    c.read_elements.ensures.answer

pub returns-clause-counted : goal.returns-clause-counted
returns-clause-counted g c =
    let D = g.H.BytesPartialDecoderTraits in
    let form = plain_form c.args.codec in
    let value = value_or_empty (D.state c.args.handle.now).value in
    let layout = c.in_ok-layout.layout in
    let same = ap (λ (s : StorageState). value_or_empty s.value) c.in_ok-layout.ensures.left in
    let read = ap (λ (v : List ℕ). offsets_read form c.args.count (span_bytes v layout.index)) (sym same) ∙ c.in_ok-offsets.ensures.answer in
    value_counted form c.args.count value (joined_runs c.args.runs.now) c.read_elements.result (vlen_layout layout) c.in_ok-offsets.offsets (D.calls c.args.handle.now) (D.calls c.read_layout.new.handle) (D.calls c.read_index.new.handle) (D.calls c.read_elements.new.handle) c.in_ok-layout.ensures.answer read c.in_ok-layout.ensures.counted c.in_ok-offsets.ensures.counted c.read_elements.ensures.counted
