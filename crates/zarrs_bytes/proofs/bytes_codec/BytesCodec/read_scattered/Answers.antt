use Rattle.std.proofs.Common.{◌≡◌, ◌<◌, ◌^◌, ℕ, List, length, arith, ap, sym, ◌∙◌}
use Rattle.std.specs.List.{flat_map}
use Rattle.std.proofs.lemmas.Result.{err_from_is_err_and}
use Rattle.zarrs_chunk.specs.Answer.{memory_or_fault}
use Rattle.zarrs_array_bytes.specs.Held.{owned_bytes}
use Rattle.zarrs_array_bytes.specs.Turned.{turned_bytes}
use Rattle.zarrs_bytes.specs.BytesCodec.{turn_size}
use Rattle.zarrs_bytes.specs.PartialRead.{bytes_at}
use Rattle.zarrs_array_bytes.proofs.TightLemmas.{flen_tight}
use Rattle.zarrs_bytes.proofs.Reading.{at_some, at_err, at_none, Excused-weaker}
use Rattle.zarrs_codec.specs.Calls.{after_asking}
use Rattle.zarrs_bytes.specs.AskedRanges.{asked_by_batches}
use Rattle.zarrs_bytes.proofs.bytes_codec.BytesCodec.read_scattered.Goals as goal

pub returns-in_err-read_place_bytes-clause-answer : goal.returns-in_err-read_place_bytes-clause-answer
returns-in_err-read_place_bytes-clause-answer g c =
    let p = err_from_is_err_and c.from_residual.result c.from_residual.ensures.1 in
    let e = c.in_err-read_place_bytes.field-0.0 in
    let stored = (g.H.BytesPartialDecoderTraits.state c.args.handle.now).value in
    let places = c.args.places.now in
    rw (p.1, p.2) (Excused-weaker (memory_or_fault e)
    (λ h. at_err c.args.self.now c.args.data_type.now c.args.fill_value.now places stored e c.element_size-size.ensures.fill_is_element (ap (λ n. bytes_at n stored places) (sym c.element_size-size.ensures.size) ∙ h))
    c.in_err-read_place_bytes.ensures.answer)

pub returns-in_ok-bytes-in-None-clause-answer : goal.returns-in_ok-bytes-in-None-clause-answer
returns-in_ok-bytes-in-None-clause-answer g c =
    let stored = (g.H.BytesPartialDecoderTraits.state c.args.handle.now).value in
    let places = c.args.places.now in
    let read = rw c.in-None.is at c.in_ok-read_place_bytes.ensures.answer in
    let bytes = c.in_ok-bytes-in-None.bytes in
    let small : length bytes.items < 2 ^ 64 = omega (arith, bytes.ok, bytes.small) in
    let fills = c.in_ok-bytes-in-None.ensures.value ∙ ap (λ (fill : List ℕ). flat_map (λ _. fill) places) c.as_ne_bytes.ensures.value in
    rw c.new_flen.ensures.made (at_none c.args.self.now c.args.data_type.now c.args.fill_value.now places stored (owned_bytes bytes.items) c.element_size-size.ensures.fill_is_element (ap (λ n. bytes_at n stored places) (sym c.element_size-size.ensures.size) ∙ read) fills small)

pub returns-in-Some-clause-answer : goal.returns-in-Some-clause-answer
returns-in-Some-clause-answer g c =
    let stored = (g.H.BytesPartialDecoderTraits.state c.args.handle.now).value in
    let places = c.args.places.now in
    let read = rw c.in-Some.is at c.in_ok-read_place_bytes.ensures.answer in
    let bytes = c.in-Some.bytes in
    let raw = owned_bytes (turned_bytes c.turn_size.result bytes.items) in
    let is : raw.items ≡ turned_bytes (turn_size c.args.self.now c.args.data_type.now) bytes.items = ap (λ size. turned_bytes size bytes.items) c.turn_size.ensures.size in
    let small : length bytes.items < 2 ^ 64 = omega (arith, bytes.ok, bytes.small) in
    rw c.hold_turned.ensures.held (at_some c.args.self.now c.args.data_type.now c.args.fill_value.now places bytes.items stored raw c.element_size-size.ensures.fill_is_element (ap (λ n. bytes_at n stored places) (sym c.element_size-size.ensures.size) ∙ read) is small)

pub returns-in_ok-bytes-in-None-clause-tight : goal.returns-in_ok-bytes-in-None-clause-tight
returns-in_ok-bytes-in-None-clause-tight g c =
    let raw = owned_bytes c.in_ok-bytes-in-None.bytes.items in
    rw c.new_flen.ensures.made (flen_tight c.args.data_type.now raw)

pub returns-in-Some-clause-tight : goal.returns-in-Some-clause-tight
returns-in-Some-clause-tight g c =
    rw c.hold_turned.ensures.held (flen_tight c.args.data_type.now (owned_bytes (turned_bytes c.turn_size.result c.in-Some.bytes.items)))

pub returns-in_ok-bytes-in-None-clause-asked : goal.returns-in_ok-bytes-in-None-clause-asked
returns-in_ok-bytes-in-None-clause-asked g c =
    let D = g.H.BytesPartialDecoderTraits in
    let stored = (D.state c.args.handle.now).value in
    c.in_ok-read_place_bytes.ensures.asked ∙ ap (λ (n : ℕ). after_asking (asked_by_batches n stored c.args.places.now) (D.asked c.args.handle.now)) c.element_size-size.ensures.size

pub returns-in-Some-clause-asked : goal.returns-in-Some-clause-asked
returns-in-Some-clause-asked g c =
    let D = g.H.BytesPartialDecoderTraits in
    let stored = (D.state c.args.handle.now).value in
    c.in_ok-read_place_bytes.ensures.asked ∙ ap (λ (n : ℕ). after_asking (asked_by_batches n stored c.args.places.now) (D.asked c.args.handle.now)) c.element_size-size.ensures.size
