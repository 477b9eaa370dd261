use Rattle.std.proofs.Common.{◌≡◌, ◌∙◌, ◌||◌, ℕ, Bool, List, length, nat_le, ap, sym, subst}
use Rattle.std.specs.Prelude.{OnOk}
use Rattle.zarrs_chunk.specs.Runs.{joined_runs, AreApart, AreFilled}
use Rattle.zarrs_codec.specs.ByteSpan.{ByteSpan}
use Rattle.zarrs_codec.specs.Calls.{after_asking, after_reads}
use Rattle.zarrs_bytes.specs.AskedRanges.{asked_by_batches}
use Rattle.zarrs_bytes.specs.PartialRead.{place_size}
use Rattle.zarrs_bytes.specs.ReadingCalls.{are_scattered, calls_by_batches}
use Rattle.zarrs_bytes.proofs.CallCounts.{batches_counted, not_scattered, runs_counted}
use Rattle.zarrs_bytes.proofs.ConsecutiveRuns.{runs_of_places}
use Rattle.zarrs_bytes.proofs.Exact.{bytes_are}
use Rattle.zarrs_bytes.proofs.PlaceBatches.{limit_of, runs_end}
use Rattle.zarrs_bytes.proofs.AskedCalls.{by_batches_asked, by_runs_asked}
use Rattle.zarrs_bytes.proofs.bytes_codec.BytesCodec.read_places.Goals as goal

abbrev by_batches : List ℕ → Bool
by_batches places = nat_le (length places) 1024 || are_scattered places

pub read_runs-requires-clause-ends : goal.read_runs-requires-clause-ends
read_runs-requires-clause-ends g c =
    let size = place_size c.args.data_type.now in
    let limit = limit_of size c.args.places.items c.requires.ends in
    rw c.as_slice.ensures.value (runs_end size limit.limit c.in_ok-runs.runs.items limit.small (c.in_ok-runs.ensures.below limit.limit limit.above))

pub returns-then-are_read_by_batches-clause-counted : goal.returns-then-are_read_by_batches-clause-counted
returns-then-are_read_by_batches-clause-counted g c =
    let D = g.H.BytesPartialDecoderTraits in
    let size = place_size c.args.data_type.now in
    let stored = (D.state c.args.handle.now).value in
    let places = c.args.places.items in
    let test = sym (ap by_batches c.deref.ensures.value) ∙ sym ((c.if-are_read_by_batches.ensures {u = tt}).value) in
    let calls = ap (calls_by_batches stored) c.deref-then-are_read_by_batches.ensures.value ∙ batches_counted size stored places test in
    subst (λ (n : ℕ). OnOk c.read_scattered.result (D.calls c.read_scattered.new.handle ≡ after_reads n (D.calls c.args.handle.now))) calls c.read_scattered.ensures.counted

pub returns-clause-counted : goal.returns-clause-counted
returns-clause-counted g c =
    let D = g.H.BytesPartialDecoderTraits in
    let size = place_size c.args.data_type.now in
    let stored = (D.state c.args.handle.now).value in
    let places = c.args.places.items in
    let runs = c.as_slice.result.now in
    let filled : AreFilled runs = rw c.as_slice.ensures.value c.in_ok-runs.ensures.filled in
    let apart : AreApart runs = rw c.as_slice.ensures.value c.in_ok-runs.ensures.apart in
    let joined : joined_runs runs ≡ places = ap joined_runs c.as_slice.ensures.value ∙ bytes_are _ _ c.in_ok-runs.ensures.places.is in
    let is = runs_of_places places runs filled apart joined in
    let test = not_scattered places (sym (ap by_batches c.deref.ensures.value) ∙ sym ((c.if-are_read_by_batches.ensures {u = tt}).value)) in
    subst (λ (n : ℕ). OnOk c.read_runs.result (D.calls c.read_runs.new.handle ≡ after_reads n (D.calls c.args.handle.now))) (runs_counted size stored places runs test is) c.read_runs.ensures.counted

pub returns-then-are_read_by_batches-clause-asked : goal.returns-then-are_read_by_batches-clause-asked
returns-then-are_read_by_batches-clause-asked g c =
    let D = g.H.BytesPartialDecoderTraits in
    let size = place_size c.args.data_type.now in
    let stored = (D.state c.args.handle.now).value in
    let places = c.args.places.items in
    let test = sym (ap by_batches c.deref.ensures.value) ∙ sym ((c.if-are_read_by_batches.ensures {u = tt}).value) in
    let is = ap (asked_by_batches size stored) c.deref-then-are_read_by_batches.ensures.value ∙ by_batches_asked size stored places test in
    subst (λ (rs : List ByteSpan). OnOk c.read_scattered.result (D.asked c.read_scattered.new.handle ≡ after_asking rs (D.asked c.args.handle.now))) is c.read_scattered.ensures.asked

pub returns-clause-asked : goal.returns-clause-asked
returns-clause-asked g c =
    let D = g.H.BytesPartialDecoderTraits in
    let size = place_size c.args.data_type.now in
    let stored = (D.state c.args.handle.now).value in
    let places = c.args.places.items in
    let runs = c.as_slice.result.now in
    let filled : AreFilled runs = rw c.as_slice.ensures.value c.in_ok-runs.ensures.filled in
    let apart : AreApart runs = rw c.as_slice.ensures.value c.in_ok-runs.ensures.apart in
    let joined : joined_runs runs ≡ places = ap joined_runs c.as_slice.ensures.value ∙ bytes_are _ _ c.in_ok-runs.ensures.places.is in
    let is = runs_of_places places runs filled apart joined in
    let test = not_scattered places (sym (ap by_batches c.deref.ensures.value) ∙ sym ((c.if-are_read_by_batches.ensures {u = tt}).value)) in
    subst (λ (rs : List ByteSpan). OnOk c.read_runs.result (D.asked c.read_runs.new.handle ≡ after_asking rs (D.asked c.args.handle.now))) (by_runs_asked size stored places runs test is) c.read_runs.ensures.asked
