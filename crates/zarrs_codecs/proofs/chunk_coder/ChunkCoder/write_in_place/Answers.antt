use Rattle.std.proofs.Common.{◌∙◌, ℕ, List, Option, None, ap, refl, sym, subst, rules}
use Rattle.std.specs.Prelude.{Some}
use Rattle.std.proofs.lemmas.Result.{err_from_is_err_and}
use Rattle.zarrs_chunk.specs.Answer.{seen}
use Rattle.zarrs_chunk.specs.Indexer.{selection_of}
use Rattle.zarrs_chunk.specs.Runs.{joined_runs}
use Rattle.zarrs_data_type.specs.Form.{form_of}
use Rattle.zarrs_bytes.specs.PartialWrite.{WritesRuns}
use Rattle.zarrs_data_type.specs.declared.endianness.Endianness.{Endianness}
use Rattle.zarrs_codecs.specs.ChunkCalls.{ReplacesPlaces}
use Rattle.zarrs_codecs.specs.ChunkCoder.{coder_form}
use Rattle.zarrs_codecs.specs.ChunkRead.{form_in_place, planned_order, standing_places}
use Rattle.zarrs_codecs.specs.ChunkWrite.{WritesChunk}
use Rattle.zarrs_codecs.proofs.Counting.{CountsByOrder, counted_at, in_place_region, refused_edit, replaced_so}
use Rattle.zarrs_codecs.proofs.PartialReads.{is_readable}
use Rattle.zarrs_codecs.proofs.PlaceWrites.{answer_by, in_place_taken, left_unchecked, memory_too, selection_in_place}
use Rattle.zarrs_codecs.proofs.PlannedPlaces.{others_are}
use Rattle.zarrs_codecs.proofs.Unharmed.{accepted_unharmed}
use Rattle.zarrs_codecs.proofs.chunk_coder.ChunkCoder.write_in_place.Goals as goal

pub write_region-requires : goal.write_region-requires
write_region-requires g c =
    let kept = (c.in-Some.ensures {u = tt}).region.kept in
    record {
      writes_in_place = c.requires.writes_in_place;
      inside = kept.inside;
      filled = kept.filled;
      region_kept = kept.kept;
    }

pub returns-in-Some-clause-writes : goal.returns-in-Some-clause-writes
returns-in-Some-clause-writes g c =
    let kept = (c.in-Some.ensures {u = tt}).region.kept in
    subst (λ s. WritesChunk g.B.BytesToBytesCodecTraits.functions (coder_form c.args.self.now) (Some c.args.codec.now) (g.H.BytesPartialDecoderTraits.state c.args.handle.now) (g.H.BytesPartialDecoderTraits.state c.write_region.new.handle) s c.args.elements.now c.write_region.result) (sym kept.selection_is) c.write_region.ensures.writes

pub returns-in_err-runs-clause-writes : goal.returns-in_err-runs-clause-writes
returns-in_err-runs-clause-writes g c =
    let k = c.args.self.now in
    let e = c.in_err-runs.field-0.0 in
    let p = err_from_is_err_and c.from_residual.result c.from_residual.ensures.1 in
    record {
      answer = rw (p.1, p.2) (λ m. left_unchecked g.B.BytesToBytesCodecTraits.functions (coder_form k) (Some c.args.codec.now) (g.H.BytesPartialDecoderTraits.state c.args.handle.now).value (selection_of c.args.indexer.now) c.args.elements.now e (c.in_err-runs.ensures.checked.is (memory_too e m)));
      indexer_first = search rules;
      checked_first = search rules;
      untouched = search rules;
    }

pub write_runs-requires-clause-taken : goal.write_runs-requires-clause-taken
write_runs-requires-clause-taken g c =
    let k = c.args.self.now in
    let form = coder_form k in
    in_place_taken g.B.BytesToBytesCodecTraits.functions form.chain.bytes_to_bytes form.chain.array_to_bytes c.args.codec.now k.encoded k.data_type k.fill_value c.requires.writes_in_place k.measured

pub returns-clause-writes : goal.returns-clause-writes
returns-clause-writes g c =
    let f = g.B.BytesToBytesCodecTraits.functions in
    let k = c.args.self.now in
    let form = coder_form k in
    let stored = (g.H.BytesPartialDecoderTraits.state c.args.handle.now).value in
    let h = is_readable f form.chain form.sizes form.type form.fill k.encoded k.representation c.is_sound.ensures.mappings.mappings c.is_sound.ensures.positive k.taken in
    record {
      answer = answer_by _ _ c.write_runs.result _ _ (ap (seen (λ value. Some value)) (selection_in_place f form k.encoded k.representation h c.args.codec.now c.requires.writes_in_place stored (selection_of c.args.indexer.now) c.args.elements.now (joined_runs c.in_ok-runs.runs.items) k.filling c.in_ok-runs.ensures.answer.is))
          (subst (λ (runs : List (ℕ × ℕ)). WritesRuns c.args.codec.now (form_of k.encoded k.data_type k.fill_value) runs c.args.elements.now g.H.BytesPartialDecoderTraits.state c.args.handle.now c.write_runs.new.handle c.write_runs.result) c.deref_mut.ensures.value c.write_runs.ensures.answer);
      indexer_first = search rules;
      checked_first = search rules;
      untouched = search rules;
    }

pub returns-clause-left : goal.returns-clause-left
returns-clause-left g c = record {
  one_write = c.write_runs.ensures.one_write;
  refused = c.write_runs.ensures.refused;
  kept_if_atomic = c.write_runs.ensures.kept_if_atomic;
  unharmed = accepted_unharmed _ c.write_runs.result _ _ c.write_runs.ensures.answer;
  same_reference = c.write_runs.ensures.same_reference;
  form_kept = refl;
}

pub returns-in-Some-clause-counted : goal.returns-in-Some-clause-counted
returns-in-Some-clause-counted g c =
    let D = g.H.BytesPartialDecoderTraits in
    let form = coder_form c.args.self.now in
    let selection = selection_of c.args.indexer.now in
    let region = c.in-Some.region.now in
    let planned = (c.in-Some.ensures {u = tt}).region.places c.args.codec.now c.requires.writes_in_place in
    subst (λ (order : Option (Option Endianness)). CountsByOrder D.calls D.state (coder_form c.args.self.now) order (selection_of c.args.indexer.now) c.args.handle.now c.write_region.new.handle c.write_region.result) (sym c.requires.writes_in_place)
    (counted_at (planned_order form selection) (standing_places form.chain.array_to_array form.sizes region) (λ places. ReplacesPlaces D.calls D.state form.type places c.args.handle.now c.write_region.new.handle c.write_region.result)
    planned c.write_region.ensures.counted)

pub returns-in_err-runs-clause-counted : goal.returns-in_err-runs-clause-counted
returns-in_err-runs-clause-counted g c =
    let p = err_from_is_err_and c.from_residual.result c.from_residual.ensures.1 in
    rw p.1 (refused_edit (form_in_place (coder_form c.args.self.now)) (planned_order (coder_form c.args.self.now) (selection_of c.args.indexer.now)))

pub returns-clause-counted : goal.returns-clause-counted
returns-clause-counted g c =
    let D = g.H.BytesPartialDecoderTraits in
    let k = c.args.self.now in
    let form = coder_form k in
    let selection = selection_of c.args.indexer.now in
    let none = in_place_region form selection None c.args.codec.now c.requires.writes_in_place (c.in_default.ensures {u = tt}).others in
    let runs = joined_runs c.in_ok-runs.runs.items in
    subst (λ (order : Option (Option Endianness)). CountsByOrder D.calls D.state (coder_form c.args.self.now) order (selection_of c.args.indexer.now) c.args.handle.now c.write_runs.new.handle c.write_runs.result) (sym c.requires.writes_in_place)
    (counted_at (planned_order form selection) runs (λ places. ReplacesPlaces D.calls D.state form.type places c.args.handle.now c.write_runs.new.handle c.write_runs.result)
    (others_are form selection none ∙ c.in_ok-runs.ensures.places)
    (replaced_so c.write_runs.result c.args.codec.now (form_of k.encoded k.data_type k.fill_value) (D.state c.args.handle.now).value (D.state c.write_runs.new.handle).value (joined_runs c.deref_mut.result.now) runs c.args.elements.now _ _ c.write_runs.ensures.answer (ap joined_runs c.deref_mut.ensures.value) c.write_runs.ensures.counted))
