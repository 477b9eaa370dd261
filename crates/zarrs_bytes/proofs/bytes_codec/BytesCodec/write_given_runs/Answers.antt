use Rattle.std.proofs.Common.{◌∙◌, ap}
use Rattle.zarrs_chunk.specs.Runs.{joined_runs}
use Rattle.zarrs_data_type.specs.Form.{form_of}
use Rattle.zarrs_codec.specs.StorageState.{StorageState}
use Rattle.zarrs_array_bytes.proofs.ValidLemmas.{raw_items}
use Rattle.zarrs_bytes.proofs.Exact.{bytes_are}
use Rattle.zarrs_bytes.proofs.CallCounts.{over_counted, new_counted}
use Rattle.zarrs_bytes.proofs.PartWrites.{there_is, there_is_none, stored_left, new_left}
use Rattle.zarrs_bytes.proofs.bytes_codec.BytesCodec.write_given_runs.Goals as goal

pub returns-then-branch-clause-answer : goal.returns-then-branch-clause-answer
returns-then-branch-clause-answer g c =
    let stored = (g.H.BytesPartialDecoderTraits.state c.args.handle.now).value in
    stored_left c.args.self.now c.args.shape.now c.args.data_type.now c.args.fill_value.now stored _ _ c.element_size-size.result (joined_runs c.args.runs.now) c.args.elements c.write_over.result c.requires.taken c.requires.fit (there_is stored c.in_ok-exists.field-0 c.in_ok-exists.ensures.answer c.if-branch.true) (ap (λ (s : StorageState). s.value) c.in_ok-exists.ensures.left) c.element_size-size.ensures.size c.write_over.ensures.answer c.write_over.ensures.written

pub returns-then-branch-clause-counted : goal.returns-then-branch-clause-counted
returns-then-branch-clause-counted g c =
    let D = g.H.BytesPartialDecoderTraits in
    let stored = (D.state c.args.handle.now).value in
    let form = form_of c.args.shape.now c.args.data_type.now c.args.fill_value.now in
    over_counted c.write_over.result c.args.self.now form stored c.element_size-size.result (joined_runs c.args.runs.now) c.args.elements (D.calls c.args.handle.now) (D.calls c.exists.new.self) (D.calls c.write_over.new.handle) (there_is stored c.in_ok-exists.field-0 c.in_ok-exists.ensures.answer c.if-branch.true) c.element_size-size.ensures.size c.in_ok-exists.ensures.counted c.write_over.ensures.counted

pub returns-in_ok-value-clause-answer : goal.returns-in_ok-value-clause-answer
returns-in_ok-value-clause-answer g c =
    let stored = (g.H.BytesPartialDecoderTraits.state c.args.handle.now).value in
    let made = c.as_slice.ensures.value ∙ raw_items c.in_ok-value.value ∙ bytes_are _ _ c.in_ok-value.ensures.answer.is in
    new_left c.args.self.now c.args.shape.now c.args.data_type.now c.args.fill_value.now stored _ (joined_runs c.args.runs.now) c.args.elements c.as_slice.result.now c.replace.result (there_is_none stored c.in_ok-exists.field-0 c.in_ok-exists.ensures.answer c.if-branch.false) made c.replace.ensures.answer c.replace.ensures.written

pub returns-in_ok-value-clause-counted : goal.returns-in_ok-value-clause-counted
returns-in_ok-value-clause-counted g c =
    let D = g.H.BytesPartialDecoderTraits in
    let stored = (D.state c.args.handle.now).value in
    let form = form_of c.args.shape.now c.args.data_type.now c.args.fill_value.now in
    let made = c.as_slice.ensures.value ∙ raw_items c.in_ok-value.value ∙ bytes_are _ _ c.in_ok-value.ensures.answer.is in
    new_counted c.replace.result c.args.self.now form stored (joined_runs c.args.runs.now) c.args.elements c.as_slice.result.now (D.calls c.args.handle.now) (D.calls c.exists.new.self) (D.calls c.replace.new.self) (there_is_none stored c.in_ok-exists.field-0 c.in_ok-exists.ensures.answer c.if-branch.false) made c.in_ok-exists.ensures.counted c.replace.ensures.counted
