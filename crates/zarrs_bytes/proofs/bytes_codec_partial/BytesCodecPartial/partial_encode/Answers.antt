use Rattle.std.proofs.Common.{◌≡◌, ℕ, List, Result, subst, sym, rules}
use Rattle.std.specs.Prelude.{IfOk, OnOk}
use Rattle.zarrs_chunk.specs.declared.codec_error.CodecError.{CodecError}
use Rattle.zarrs_data_type.specs.Form.{form_of}
use Rattle.zarrs_codec.specs.Calls.{after_reads, after_replacing}
use Rattle.zarrs_chunk.specs.Indexer.{selection_of}
use Rattle.zarrs_chunk.specs.Runs.{joined_runs}
use Rattle.zarrs_bytes.specs.BytesCodecPartial.{bytes_handle_of}
use Rattle.zarrs_array_bytes.proofs.RunLemmas.{places_below}
use Rattle.zarrs_chunk.specs.ChunkShape.{product}
use Rattle.zarrs_bytes.specs.PartialWrite.{bytes_replaced, CountsWriteOfRuns, WritesRuns}
use Rattle.zarrs_bytes.proofs.PartWrites.{data_places_are, edit_answer, only_excused}
use Rattle.zarrs_bytes.proofs.bytes_codec_partial.BytesCodecPartial.partial_encode.Goals as goal

pub returns-clause-edits : goal.returns-clause-edits
returns-clause-edits g c =
    let coder = c.args.self.now in
    let form = form_of coder.shape coder.data_type coder.fill_value in
    let runs = c.in_ok-runs.runs.items in
    let state = g.H.BytesPartialDecoderTraits.state in
    let written = subst (λ (rs : List (ℕ × ℕ)). WritesRuns coder.codec form rs c.args.elements.now state (bytes_handle_of coder) c.write_runs.new.handle c.write_runs.result) c.deref_mut.ensures.value c.write_runs.ensures.answer in
    record {
      edited = λ chunk starts. edit_answer coder.codec coder.shape coder.data_type coder.fill_value (g.H.BytesPartialDecoderTraits.state (bytes_handle_of coder)).value _ chunk (selection_of c.args.indexer.now) c.args.elements.now (joined_runs runs) c.write_runs.result coder.taken starts (places_below (product coder.shape) runs c.in_ok-runs.ensures.below) c.in_ok-runs.ensures.answer.is c.in_ok-runs.ensures.fit written;
      exact = search rules;
      indexer_first = search rules;
      checked_first = search rules;
      untouched = search rules;
    }

pub returns-clause-counted : goal.returns-clause-counted
returns-clause-counted g c =
    let D = g.H.BytesPartialDecoderTraits in
    let coder = c.args.self.now in
    let form = form_of coder.shape coder.data_type coder.fill_value in
    let stored = (D.state (bytes_handle_of coder)).value in
    let runs = c.in_ok-runs.runs.items in
    let counted = subst (λ (rs : List (ℕ × ℕ)). CountsWriteOfRuns coder.codec form rs c.args.elements.now D.calls D.state (bytes_handle_of coder) c.write_runs.new.handle c.write_runs.result) c.deref_mut.ensures.value c.write_runs.ensures.counted in
    let is = data_places_are coder.shape coder.data_type (selection_of c.args.indexer.now) c.args.elements.now (joined_runs runs) c.in_ok-runs.ensures.answer.is in
    subst (λ (r : Result (List ℕ) CodecError). IfOk r (λ (ps : List ℕ). OnOk c.write_runs.result (D.calls c.write_runs.new.handle ≡ after_replacing (bytes_replaced coder.codec form stored ps c.args.elements.now) (after_reads 1 (D.calls (bytes_handle_of coder)))))) (sym is) counted

pub returns-clause-left : goal.returns-clause-left
returns-clause-left g c = record {
  one_write = search rules;
  refused = search rules;
  unharmed = only_excused c.write_runs.result _ _ _ c.write_runs.ensures.answer;
  kept_if_atomic = search rules;
  same_reference = search rules;
  form_kept = search rules;
}
