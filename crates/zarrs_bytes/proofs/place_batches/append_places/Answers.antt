use Rattle.std.proofs.Common.{◌≡◌, ◌∙◌, ℕ, ◌<◌, ◌+◌, ◌*◌, ◌^◌, ◌-◌, min, Err, arith, refl, ap, length}
use Rattle.std.proofs.lemmas.Bool.Decides.{nat_tests}
use Rattle.std.proofs.lemmas.List.Elements.{All-take, All-drop}
use Rattle.std.proofs.lemmas.Result.{err_from_is_err_and}
use Rattle.zarrs_chunk.specs.Answer.{memory_or_fault}
use Rattle.zarrs_codec.specs.StorageState.{StorageState, after_reading}
use Rattle.zarrs_bytes.proofs.PlaceBatches.{places_read, places_refused, places_end, sure_places}
use Rattle.zarrs_bytes.proofs.CallCounts.{batch_counted, batches_done}
use Rattle.zarrs_bytes.proofs.Reading.{Excused-weaker}
use Rattle.zarrs_bytes.proofs.AskedCalls.{batch_asked, batches_asked}
use Rattle.zarrs_bytes.proofs.place_batches.append_places.Goals as goal

pub loop-rest-init : goal.loop-rest-init
loop-rest-init g c = record {
  ends = c.requires.ends;
  read = refl;
  sure = λ h. h;
  state = refl;
  lent = refl;
  calls = refl;
  asked = refl;
}

pub append_batch-requires-clause-ends : goal.append_batch-requires-clause-ends
append_batch-requires-clause-ends g c =
    rw c.split_at.ensures.front (All-take (λ (place : ℕ). (place + 1) * c.args.size < 2 ^ 64) c.min.result c.loop-rest.rest.now c.loop-rest.invariant.ends)

pub append_batch-requires-clause-stored : goal.append_batch-requires-clause-stored
append_batch-requires-clause-stored g c = rw c.loop-rest.invariant.state c.requires.stored

pub returns-in_err-append_batch-clause-answer : goal.returns-in_err-append_batch-clause-answer
returns-in_err-append_batch-clause-answer g c =
    let p = err_from_is_err_and c.from_residual.result c.from_residual.ensures.1 in
    let e = c.in_err-append_batch.field-0.0 in
    let D = g.H.BytesPartialDecoderTraits in
    let inv = c.loop-rest.invariant in
    rw (p.1, p.2) (Excused-weaker (memory_or_fault e)
    (places_refused c.args.size (D.state c.args.handle.now).value c.args.elements.now.items c.args.places.now (D.state c.loop-rest.handle).value c.loop-rest.elements.items c.loop-rest.rest.now c.split_at.result.0.now c.split_at.result.1.now e (ap (λ (s : StorageState). s.value) inv.state) c.split_at.ensures.by_index.0 inv.read)
    c.in_err-append_batch.ensures.answer)

pub returns-in_err-append_batch-clause-sure : goal.returns-in_err-append_batch-clause-sure
returns-in_err-append_batch-clause-sure g c = λ h.
    let p = err_from_is_err_and c.from_residual.result c.from_residual.ensures.1 in
    let D = g.H.BytesPartialDecoderTraits in
    let inv = c.loop-rest.invariant in
    let here = (sure_places c.args.size (D.state c.args.handle.now).sure c.loop-rest.rest.now c.split_at.result.0.now c.split_at.result.1.now c.split_at.ensures.by_index.0 (inv.sure h)).0 in
    rw (p.1, p.2) (c.in_err-append_batch.ensures.sure (rw inv.state here))

pub returns-in_err-append_batch-clause-left : goal.returns-in_err-append_batch-clause-left
returns-in_err-append_batch-clause-left g c =
    let p = err_from_is_err_and c.from_residual.result c.from_residual.ensures.1 in
    let e = c.in_err-append_batch.field-0.0 in
    rw (p.1, p.2) (c.in_err-append_batch.ensures.left ∙ ap (λ (s : StorageState). after_reading {T = Unit {0}} (Err e) s) c.loop-rest.invariant.state)

pub returns-in_err-append_batch-clause-same_reference : goal.returns-in_err-append_batch-clause-same_reference
returns-in_err-append_batch-clause-same_reference g c = c.in_err-append_batch.ensures.same_reference ∙ c.loop-rest.invariant.lent

pub loop-rest-smaller : goal.loop-rest-smaller
loop-rest-smaller g c =
    let some : 0 < length c.loop-rest.rest.now = grind (arith, nat_tests) in
    omega (arith, some, c.split_at.ensures.back_len, c.min.ensures)

pub loop-rest-preserved : goal.loop-rest-preserved
loop-rest-preserved g c =
    let D = g.H.BytesPartialDecoderTraits in
    let inv = c.loop-rest.invariant in
    let parts = c.split_at.ensures.by_index.0 in
    record {
      ends = rw c.split_at.ensures.back (All-drop (λ (place : ℕ). (place + 1) * c.args.size < 2 ^ 64) c.min.result c.loop-rest.rest.now inv.ends);
      read = places_read c.args.size (D.state c.args.handle.now).value c.args.elements.now.items c.args.places.now (D.state c.loop-rest.handle).value c.loop-rest.elements.items c.append_batch.new.elements.items c.loop-rest.rest.now c.split_at.result.0.now c.split_at.result.1.now (ap (λ (s : StorageState). s.value) inv.state) parts inv.read c.in_ok-append_batch.ensures.answer;
      sure = λ h. (sure_places c.args.size (D.state c.args.handle.now).sure c.loop-rest.rest.now c.split_at.result.0.now c.split_at.result.1.now parts (inv.sure h)).1;
      state = c.in_ok-append_batch.ensures.left ∙ inv.state;
      lent = c.in_ok-append_batch.ensures.same_reference ∙ inv.lent;
      calls = batch_counted (length c.loop-rest.rest.now) (length c.split_at.result.1.now) (D.calls c.loop-rest.handle) (D.calls c.append_batch.new.handle) _ c.in_ok-append_batch.ensures.counted (let some : 0 < length c.loop-rest.rest.now = grind (arith, nat_tests) in some) (let left : length c.split_at.result.1.now ≡ length c.loop-rest.rest.now - min 1024 (length c.loop-rest.rest.now) = omega (arith, c.split_at.ensures.back_len, c.min.ensures) in left) inv.calls;
      asked = batch_asked c.args.size c.loop-rest.rest.now c.split_at.result.0.now c.split_at.result.1.now c.min.result (D.asked c.loop-rest.handle) (D.asked c.append_batch.new.handle) _ c.min.ensures c.split_at.ensures.front c.split_at.ensures.back c.in_ok-append_batch.ensures.asked inv.asked;
    }

pub returns-clause-answer : goal.returns-clause-answer
returns-clause-answer g c =
    let D = g.H.BytesPartialDecoderTraits in
    let empty : length c.loop-rest.rest.now ≡ 0 = grind (arith, nat_tests) in
    places_end c.args.size (D.state c.args.handle.now).value c.args.elements.now.items c.args.places.now c.loop-rest.elements.items c.loop-rest.rest.now c.requires.stored empty c.loop-rest.invariant.read

pub returns-clause-left : goal.returns-clause-left
returns-clause-left g c = c.loop-rest.invariant.state

pub returns-clause-same_reference : goal.returns-clause-same_reference
returns-clause-same_reference g c = c.loop-rest.invariant.lent

pub returns-clause-counted : goal.returns-clause-counted
returns-clause-counted g c =
    let D = g.H.BytesPartialDecoderTraits in
    let empty : length c.loop-rest.rest.now ≡ 0 = grind (arith, nat_tests) in
    batches_done (length c.loop-rest.rest.now) (D.calls c.loop-rest.handle) _ empty c.loop-rest.invariant.calls

pub returns-clause-asked : goal.returns-clause-asked
returns-clause-asked g c =
    let D = g.H.BytesPartialDecoderTraits in
    let empty : length c.loop-rest.rest.now ≡ 0 = grind (arith, nat_tests) in
    batches_asked c.args.size c.loop-rest.rest.now (D.asked c.loop-rest.handle) _ empty c.loop-rest.invariant.asked
