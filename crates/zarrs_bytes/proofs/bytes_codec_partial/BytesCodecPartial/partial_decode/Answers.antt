use Rattle.std.proofs.Common.{◌≡◌, ◌∙◌, ℕ, List, Result, subst, sym, refl, rules}
use Rattle.std.specs.Prelude.{IfOk, OnOk}
use Rattle.zarrs_chunk.specs.Answer.{AnswersBy, memory_or_fault}
use Rattle.zarrs_chunk.specs.declared.codec_error.CodecError.{CodecError}
use Rattle.zarrs_chunk.specs.ChunkShape.{product}
use Rattle.zarrs_chunk.specs.Indexer.{selection_of}
use Rattle.zarrs_chunk.specs.Runs.{joined_runs}
use Rattle.zarrs_chunk.specs.Selection.{places_of}
use Rattle.zarrs_array_bytes.specs.Validity.{Holds}
use Rattle.zarrs_codec.specs.Calls.{after_asking, after_reads}
use Rattle.zarrs_bytes.specs.AskedRanges.{asked_for_runs}
use Rattle.zarrs_bytes.specs.BytesCodecPartial.{bytes_handle_of}
use Rattle.zarrs_bytes.specs.PartialRead.{place_size}
use Rattle.zarrs_bytes.specs.ReadingCalls.{calls_for_runs, consecutive_runs}
use Rattle.zarrs_bytes.proofs.ConsecutiveRuns.{runs_of_places}
use Rattle.zarrs_bytes.proofs.Ranges.{runs_fit}
use Rattle.zarrs_bytes.proofs.Taken.{taken_small}
use Rattle.zarrs_bytes.proofs.PartReads.{runs_select, runs_filled}
use Rattle.zarrs_bytes.proofs.bytes_codec_partial.BytesCodecPartial.partial_decode.Goals as goal

pub read_runs-requires-clause-ends : goal.read_runs-requires-clause-ends
read_runs-requires-clause-ends g c =
    let form = c.args.self.now in
    let small = taken_small form.codec form.shape form.data_type form.fill_value form.taken in
    rw c.as_slice.ensures.value (runs_fit c.in_ok-runs.runs.items (product form.shape) (place_size form.data_type) c.in_ok-runs.ensures.below small)

pub returns-clause-reads : goal.returns-clause-reads
returns-clause-reads g c =
    let form = c.args.self.now in
    let stored = (g.H.BytesPartialDecoderTraits.state (bytes_handle_of form)).value in
    let places = places_of (selection_of c.args.indexer.now) form.shape in
    record {
      selected = λ value chunk here stands.
          subst (λ expected. AnswersBy memory_or_fault (Holds form.data_type) c.read_runs.result expected)
          (runs_select form.codec form.shape form.data_type form.fill_value form.fill_value stored c.in_ok-runs.runs.items c.as_slice.result.now places refl c.as_slice.ensures.value c.in_ok-runs.ensures.below c.in_ok-runs.ensures.places.is value chunk here stands)
          c.read_runs.ensures.answer;
      unstored = λ here.
          subst (λ expected. AnswersBy memory_or_fault (Holds form.data_type) c.read_runs.result expected)
          (runs_filled form.codec form.data_type form.fill_value form.fill_value stored c.in_ok-runs.runs.items c.as_slice.result.now places refl c.as_slice.ensures.value c.in_ok-runs.ensures.places.is here)
          c.read_runs.ensures.answer;
      exact = search rules;
      no_fault_if_refused = search rules;
      sure = search rules;
    }

pub returns-clause-counted : goal.returns-clause-counted
returns-clause-counted g c =
    let D = g.H.BytesPartialDecoderTraits in
    let form = c.args.self.now in
    let size = place_size form.data_type in
    let stored = (D.state (bytes_handle_of form)).value in
    let runs = c.in_ok-runs.runs.items in
    let places = joined_runs runs in
    let is = c.as_slice.ensures.value ∙ runs_of_places places runs c.in_ok-runs.ensures.filled c.in_ok-runs.ensures.apart refl in
    let counted = subst (λ (rs : List (ℕ × ℕ)). OnOk c.read_runs.result (D.calls c.read_runs.new.handle ≡ after_reads (calls_for_runs size stored rs) (D.calls (bytes_handle_of form)))) is c.read_runs.ensures.counted in
    subst (λ (r : Result (List ℕ) CodecError). IfOk r (λ (ps : List ℕ). OnOk c.read_runs.result (D.calls c.read_runs.new.handle ≡ after_reads (calls_for_runs size stored (consecutive_runs ps)) (D.calls (bytes_handle_of form))))) (sym c.in_ok-runs.ensures.places.is) counted

pub returns-clause-asked : goal.returns-clause-asked
returns-clause-asked g c =
    let D = g.H.BytesPartialDecoderTraits in
    let form = c.args.self.now in
    let size = place_size form.data_type in
    let stored = (D.state (bytes_handle_of form)).value in
    let runs = c.in_ok-runs.runs.items in
    let places = joined_runs runs in
    let is = c.as_slice.ensures.value ∙ runs_of_places places runs c.in_ok-runs.ensures.filled c.in_ok-runs.ensures.apart refl in
    let asked = subst (λ (rs : List (ℕ × ℕ)). OnOk c.read_runs.result (D.asked c.read_runs.new.handle ≡ after_asking (asked_for_runs size stored rs) (D.asked (bytes_handle_of form)))) is c.read_runs.ensures.asked in
    subst (λ (r : Result (List ℕ) CodecError). IfOk r (λ (ps : List ℕ). OnOk c.read_runs.result (D.asked c.read_runs.new.handle ≡ after_asking (asked_for_runs size stored (consecutive_runs ps)) (D.asked (bytes_handle_of form))))) (sym c.in_ok-runs.ensures.places.is) asked
