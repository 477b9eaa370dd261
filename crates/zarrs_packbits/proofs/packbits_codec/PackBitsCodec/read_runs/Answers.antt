use Rattle.zarrs_data_type.specs.Form.{form_of}
use Rattle.std.proofs.Common.{◌≡◌, ◌<◌, ◌^◌, List, length, arith, ap, subst, sym, ◌∙◌}
use Rattle.std.proofs.lemmas.Result.{err_from_is_err_and}
use Rattle.zarrs_chunk.specs.Answer.{memory_or_fault}
use Rattle.zarrs_chunk.specs.Runs.{joined_runs}
use Rattle.zarrs_bytes.proofs.Reading.{Excused-weaker}
use Rattle.zarrs_packbits.specs.PackBitsSettings.{keeps_all_bytes, packed_layout}
use Rattle.zarrs_packbits.specs.PartialRead.{read_packed_places}
use Rattle.zarrs_packbits.proofs.CodecLaws.{read_at}
use Rattle.zarrs_packbits.proofs.DecoderReads.{asked_in_part, asked_whole, one_call, taken_fill}
use Rattle.zarrs_packbits.proofs.PartReads.{places_refused, places_found}
use Rattle.std.specs.Prelude.{OnOk}
use Rattle.zarrs_codec.specs.ByteSpan.{ByteSpan}
use Rattle.zarrs_codec.specs.Calls.{after_asking}
use Rattle.zarrs_packbits.proofs.packbits_codec.PackBitsCodec.read_runs.Goals as goal

pub read_runs-requires-clause-fill_some : goal.read_runs-requires-clause-fill_some
read_runs-requires-clause-fill_some g c =
    let some = taken_fill c.args.self.now c.args.shape.now c.args.data_type.now c.args.fill_value.now c.taken_layout-layout.result c.taken_layout-layout.ensures.is in
    omega (arith, some, ap length c.as_ne_bytes-fill.ensures.value)

pub read_runs-requires-clause-below : goal.read_runs-requires-clause-below
read_runs-requires-clause-below g c =
    rw c.taken_layout-layout.ensures.elements c.requires.below

pub returns-in_err-bytes-clause-answer : goal.returns-in_err-bytes-clause-answer
returns-in_err-bytes-clause-answer g c =
    let l = c.taken_layout-layout.result in
    let type = c.args.data_type.now in
    let fill = c.args.fill_value.now in
    let stored = (g.H.BytesPartialDecoderTraits.state c.args.handle.now).value in
    let places = joined_runs c.args.runs.now in
    let e = c.in_err-bytes.field-0.0 in
    let p = err_from_is_err_and c.from_residual.result c.from_residual.ensures.1 in
    rw (p.1, p.2) (Excused-weaker (memory_or_fault e) (λ h. read_at (packed_layout c.args.self.now (form_of c.args.shape.now c.args.data_type.now c.args.fill_value.now)) l (λ k. read_packed_places k type fill stored places) c.taken_layout-layout.ensures.is ∙ places_refused l type fill places stored e (rw c.as_ne_bytes-fill.ensures.value at h)) c.in_err-bytes.ensures.answer)

pub returns-in_err-bytes-clause-sure : goal.returns-in_err-bytes-clause-sure
returns-in_err-bytes-clause-sure g c =
    let p = err_from_is_err_and c.from_residual.result c.from_residual.ensures.1 in
    rw (p.1, p.2) (rw c.taken_layout-layout.ensures.is c.in_err-bytes.ensures.sure)

pub returns-clause-answer : goal.returns-clause-answer
returns-clause-answer g c =
    let l = c.taken_layout-layout.result in
    let type = c.args.data_type.now in
    let fill = c.args.fill_value.now in
    let stored = (g.H.BytesPartialDecoderTraits.state c.args.handle.now).value in
    let places = joined_runs c.args.runs.now in
    let bytes = c.in_ok-bytes.bytes in
    let small : length bytes.items < 2 ^ 64 = omega (arith, bytes.ok, bytes.small) in
    let read = rw c.as_ne_bytes-fill.ensures.value at c.in_ok-bytes.ensures.answer in
    let found = places_found c.args.self.now c.args.shape.now c.args.data_type.now c.args.fill_value.now places bytes.items stored l c.taken_layout-layout.ensures.is read small in
    rw c.new_flen.ensures.made (rw (read_at (packed_layout c.args.self.now (form_of c.args.shape.now c.args.data_type.now c.args.fill_value.now)) l (λ k. read_packed_places k type fill stored places) c.taken_layout-layout.ensures.is) found)

pub read_whole_runs-requires-clause-whole : goal.read_whole_runs-requires-clause-whole
read_whole_runs-requires-clause-whole g c = ap keeps_all_bytes c.taken_layout-layout.ensures.is ∙ sym c.if-is_whole.ensures.value

pub returns-clause-counted : goal.returns-clause-counted
returns-clause-counted g c =
    let form = form_of c.args.shape.now c.args.data_type.now c.args.fill_value.now in
    let stored = (g.H.BytesPartialDecoderTraits.state c.args.handle.now).value in
    rw (one_call c.args.self.now form stored c.args.runs.now c.taken_layout-layout.result c.taken_layout-layout.ensures.is (sym c.if-is_whole.ensures.value)) c.in_ok-bytes.ensures.counted

pub returns-then-is_whole-clause-asked : goal.returns-then-is_whole-clause-asked
returns-then-is_whole-clause-asked g c =
    let D = g.H.BytesPartialDecoderTraits in
    let form = form_of c.args.shape.now c.args.data_type.now c.args.fill_value.now in
    let stored = (D.state c.args.handle.now).value in
    let is = asked_whole c.args.self.now form stored c.args.runs.now c.taken_layout-layout.result c.taken_layout-layout.ensures.is (sym c.if-is_whole.ensures.value) in
    subst (λ (rs : List ByteSpan). OnOk c.read_whole_runs.result (D.asked c.read_whole_runs.new.handle ≡ after_asking rs (D.asked c.args.handle.now))) is c.read_whole_runs.ensures.asked

pub returns-clause-asked : goal.returns-clause-asked
returns-clause-asked g c =
    let D = g.H.BytesPartialDecoderTraits in
    let form = form_of c.args.shape.now c.args.data_type.now c.args.fill_value.now in
    let stored = (D.state c.args.handle.now).value in
    let is = asked_in_part c.args.self.now form stored c.args.runs.now c.taken_layout-layout.result c.taken_layout-layout.ensures.is (sym c.if-is_whole.ensures.value) in
    c.in_ok-bytes.ensures.asked ∙ ap (λ (rs : List ByteSpan). after_asking rs (D.asked c.args.handle.now)) is
