use Rattle.std.proofs.Common.{◌≡◌, ◌∙◌, ℕ, ◌<◌, ◌+◌, ◌-◌, ◌*◌, ◌^◌, length, arith, ap, sym}
use Rattle.std.proofs.lemmas.List.Elements.{All-take, All-drop}
use Rattle.std.proofs.lemmas.Result.{err_from_is_err_and}
use Rattle.zarrs_chunk.specs.Answer.{memory_or_fault}
use Rattle.zarrs_codec.specs.StorageState.{StorageState}
use Rattle.zarrs_bytes.proofs.CallCounts.{none_by_batches, some_by_batches, stored_where_found}
use Rattle.zarrs_bytes.proofs.PlaceBatches.{first_refused, first_then_rest}
use Rattle.zarrs_bytes.proofs.Reading.{Excused-weaker}
use Rattle.zarrs_bytes.proofs.AskedCalls.{none_by_batches_asked, some_by_batches_asked}
use Rattle.zarrs_bytes.proofs.place_batches.read_place_bytes.Goals as goal

pub read_batch-requires-clause-ends : goal.read_batch-requires-clause-ends
read_batch-requires-clause-ends g c =
    rw c.split_at.ensures.front (All-take (λ (place : ℕ). (place + 1) * c.args.size < 2 ^ 64) c.min.result c.args.places.now c.requires.ends)

pub returns-in_err-read_batch-clause-answer : goal.returns-in_err-read_batch-clause-answer
returns-in_err-read_batch-clause-answer g c =
    let p = err_from_is_err_and c.from_residual.result c.from_residual.ensures.1 in
    let e = c.in_err-read_batch.field-0.0 in
    let stored = (g.H.BytesPartialDecoderTraits.state c.args.handle.now).value in
    rw (p.1, p.2) (Excused-weaker (memory_or_fault e)
    (first_refused c.args.size stored c.args.places.now c.split_at.result.0.now c.split_at.result.1.now e c.split_at.ensures.by_index.0)
    c.in_err-read_batch.ensures.answer)

pub append_places-requires-clause-ends : goal.append_places-requires-clause-ends
append_places-requires-clause-ends g c = rw c.split_at.ensures.back (All-drop (λ (place : ℕ). (place + 1) * c.args.size < 2 ^ 64) c.min.result c.args.places.now c.requires.ends)

pub returns-in_ok-append_places-in-Some-clause-answer : goal.returns-in_ok-append_places-in-Some-clause-answer
returns-in_ok-append_places-in-Some-clause-answer g c =
    let D = g.H.BytesPartialDecoderTraits in
    let read = rw c.in-Some.is at c.in_ok-read_batch.ensures.answer in
    let all = first_then_rest c.args.size (D.state c.args.handle.now).value (D.state c.read_batch.new.handle).value c.in-Some.bytes.items c.reserve_exact.new.self.items c.args.places.now c.split_at.result.0.now c.split_at.result.1.now c.split_at.ensures.by_index.0 read c.in_ok-reserve_exact-in-Some.ensures.items (ap (λ (s : StorageState). s.value) c.in_ok-read_batch.ensures.left) in
    sym all ∙ c.in_ok-append_places-in-Some.ensures.answer

pub returns-in_err-append_places-in-Some-clause-answer : goal.returns-in_err-append_places-in-Some-clause-answer
returns-in_err-append_places-in-Some-clause-answer g c =
    let p = err_from_is_err_and c.from_residual-in_err-append_places-in-Some.result c.from_residual-in_err-append_places-in-Some.ensures.1 in
    let e = c.in_err-append_places-in-Some.field-0.0 in
    let D = g.H.BytesPartialDecoderTraits in
    let read = rw c.in-Some.is at c.in_ok-read_batch.ensures.answer in
    let all = first_then_rest c.args.size (D.state c.args.handle.now).value (D.state c.read_batch.new.handle).value c.in-Some.bytes.items c.reserve_exact.new.self.items c.args.places.now c.split_at.result.0.now c.split_at.result.1.now c.split_at.ensures.by_index.0 read c.in_ok-reserve_exact-in-Some.ensures.items (ap (λ (s : StorageState). s.value) c.in_ok-read_batch.ensures.left) in
    rw (p.1, p.2) (Excused-weaker (memory_or_fault e) (λ h. sym all ∙ h) c.in_err-append_places-in-Some.ensures.answer)

pub returns-in-None-clause-counted : goal.returns-in-None-clause-counted
returns-in-None-clause-counted g c =
    let D = g.H.BytesPartialDecoderTraits in
    let stored = (D.state c.args.handle.now).value in
    let read = rw c.in-None.is at c.in_ok-read_batch.ensures.answer in
    none_by_batches c.args.size stored c.split_at.result.0.now c.args.places.now (D.calls c.args.handle.now) (D.calls c.read_batch.new.handle) read c.in_ok-read_batch.ensures.counted

pub returns-in_ok-append_places-in-Some-clause-counted : goal.returns-in_ok-append_places-in-Some-clause-counted
returns-in_ok-append_places-in-Some-clause-counted g c =
    let D = g.H.BytesPartialDecoderTraits in
    let stored = (D.state c.args.handle.now).value in
    let read = rw c.in-Some.is at c.in_ok-read_batch.ensures.answer in
    let rest : length c.split_at.result.1.now ≡ length c.args.places.now - 1024 = omega (arith, c.split_at.ensures.back_len, c.min.ensures) in
    some_by_batches stored c.args.places.now c.split_at.result.1.now (D.calls c.args.handle.now) (D.calls c.read_batch.new.handle) (D.calls c.append_places.new.handle) (stored_where_found c.args.size stored c.split_at.result.0.now c.in-Some.bytes.items read) rest c.in_ok-read_batch.ensures.counted c.in_ok-append_places-in-Some.ensures.counted

pub returns-in-None-clause-asked : goal.returns-in-None-clause-asked
returns-in-None-clause-asked g c =
    let D = g.H.BytesPartialDecoderTraits in
    let stored = (D.state c.args.handle.now).value in
    let read = rw c.in-None.is at c.in_ok-read_batch.ensures.answer in
    none_by_batches_asked c.args.size stored c.args.places.now c.split_at.result.0.now c.min.result (D.asked c.args.handle.now) (D.asked c.read_batch.new.handle) read c.min.ensures c.split_at.ensures.front c.in_ok-read_batch.ensures.asked

pub returns-in_ok-append_places-in-Some-clause-asked : goal.returns-in_ok-append_places-in-Some-clause-asked
returns-in_ok-append_places-in-Some-clause-asked g c =
    let D = g.H.BytesPartialDecoderTraits in
    let stored = (D.state c.args.handle.now).value in
    let read = rw c.in-Some.is at c.in_ok-read_batch.ensures.answer in
    some_by_batches_asked c.args.size stored c.args.places.now c.split_at.result.0.now c.split_at.result.1.now c.min.result (D.asked c.args.handle.now) (D.asked c.read_batch.new.handle) (D.asked c.append_places.new.handle) (stored_where_found c.args.size stored c.split_at.result.0.now c.in-Some.bytes.items read) c.min.ensures c.split_at.ensures.front c.split_at.ensures.back c.in_ok-read_batch.ensures.asked c.in_ok-append_places-in-Some.ensures.asked
