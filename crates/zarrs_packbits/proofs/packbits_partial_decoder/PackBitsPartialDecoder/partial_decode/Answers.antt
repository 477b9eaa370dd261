use Rattle.zarrs_data_type.specs.Form.{form_of}
use Rattle.std.proofs.Common.{◌≡◌, Ok, subst, rules}
use Rattle.zarrs_chunk.specs.Answer.{AnswersBy, memory_or_fault}
use Rattle.zarrs_chunk.specs.Indexer.{selection_of}
use Rattle.zarrs_chunk.specs.Runs.{joined_runs, AreApart, AreFilled}
use Rattle.zarrs_chunk.specs.Selection.{places_of}
use Rattle.zarrs_array_bytes.specs.Validity.{Holds}
use Rattle.zarrs_packbits.specs.PackBitsPartialDecoder.{packbits_handle_of}
use Rattle.zarrs_packbits.proofs.DecoderReads.{asked_at, counted_at, runs_select, runs_filled}
use Rattle.zarrs_packbits.proofs.packbits_partial_decoder.PackBitsPartialDecoder.partial_decode.Goals as goal

pub returns-clause-reads : goal.returns-clause-reads
returns-clause-reads g c =
    let form = c.args.self.now in
    let stored = (g.H.BytesPartialDecoderTraits.state (packbits_handle_of form)).value in
    let places = places_of (selection_of c.args.indexer.now) form.shape in
    record {
      selected = λ value chunk here stands.
          subst (λ expected. AnswersBy memory_or_fault (Holds form.data_type) c.read_runs.result expected)
          (runs_select form.codec form.shape form.data_type form.fill_value stored c.in_ok-runs.runs.items c.as_slice.result.now places c.as_slice.ensures.value c.in_ok-runs.ensures.below c.in_ok-runs.ensures.places.is value chunk here stands)
          c.read_runs.ensures.answer;
      unstored = λ here.
          subst (λ expected. AnswersBy memory_or_fault (Holds form.data_type) c.read_runs.result expected)
          (runs_filled form.codec form.shape form.data_type form.fill_value stored c.in_ok-runs.runs.items c.as_slice.result.now places form.taken c.as_slice.ensures.value c.in_ok-runs.ensures.places.is here)
          c.read_runs.ensures.answer;
      exact = search rules;
      no_fault_if_refused = search rules;
      sure = search rules;
    }

pub returns-clause-counted : goal.returns-clause-counted
returns-clause-counted g c =
    let form = c.args.self.now in
    let runs = c.as_slice.result.now in
    let stored = (g.H.BytesPartialDecoderTraits.state (packbits_handle_of form)).value in
    let filled : AreFilled runs = rw c.as_slice.ensures.value c.in_ok-runs.ensures.filled in
    let apart : AreApart runs = rw c.as_slice.ensures.value c.in_ok-runs.ensures.apart in
    let places : places_of (selection_of c.args.indexer.now) form.shape ≡ Ok (joined_runs runs) = rw c.as_slice.ensures.value c.in_ok-runs.ensures.places.is in
    counted_at g.H.BytesPartialDecoderTraits.calls form.codec (form_of form.shape form.data_type form.fill_value) stored (places_of (selection_of c.args.indexer.now) form.shape) runs _ _ c.read_runs.result places filled apart c.read_runs.ensures.counted

pub returns-clause-asked : goal.returns-clause-asked
returns-clause-asked g c =
    let form = c.args.self.now in
    let runs = c.as_slice.result.now in
    let stored = (g.H.BytesPartialDecoderTraits.state (packbits_handle_of form)).value in
    let filled : AreFilled runs = rw c.as_slice.ensures.value c.in_ok-runs.ensures.filled in
    let apart : AreApart runs = rw c.as_slice.ensures.value c.in_ok-runs.ensures.apart in
    let places : places_of (selection_of c.args.indexer.now) form.shape ≡ Ok (joined_runs runs) = rw c.as_slice.ensures.value c.in_ok-runs.ensures.places.is in
    asked_at g.H.BytesPartialDecoderTraits.asked form.codec (form_of form.shape form.data_type form.fill_value) stored (places_of (selection_of c.args.indexer.now) form.shape) runs _ _ c.read_runs.result places filled apart c.read_runs.ensures.asked
