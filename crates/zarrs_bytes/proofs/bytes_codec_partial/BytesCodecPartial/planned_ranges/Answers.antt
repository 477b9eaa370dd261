use Rattle.std.proofs.Common.{◌≡◌, ℕ, List, Result, map, refl, sym, ◌∙◌, subst}
use Rattle.std.specs.Prelude.{IsOkAnd}
use Rattle.zarrs_chunk.specs.ChunkShape.{product}
use Rattle.zarrs_chunk.specs.Runs.{joined_runs}
use Rattle.zarrs_chunk.specs.declared.codec_error.CodecError.{CodecError}
use Rattle.zarrs_codec.specs.ByteRanges.{range_indices}
use Rattle.zarrs_bytes.specs.PartialRead.{place_bytes, place_size}
use Rattle.zarrs_bytes.specs.PlannedRanges.{element_span, spans, IsPlan}
use Rattle.zarrs_bytes.proofs.Ranges.{plan_of_runs, runs_fit}
use Rattle.zarrs_bytes.proofs.Taken.{taken_small}
use Rattle.zarrs_bytes.proofs.bytes_codec_partial.BytesCodecPartial.planned_ranges.Goals as goal

pub run_ranges-requires-clause-ends : goal.run_ranges-requires-clause-ends
run_ranges-requires-clause-ends g c =
    let form = c.args.self.now in
    let small = taken_small form.codec form.shape form.data_type form.fill_value form.taken in
    rw (c.as_slice.ensures.value, c.element_size-size.ensures.size) (runs_fit c.in_ok-asked.asked.items (product form.shape) (place_size form.data_type) c.in_ok-asked.ensures.below small)

pub returns-clause-plan : goal.returns-clause-plan
returns-clause-plan g c =
    let size = place_size c.args.self.now.data_type in
    let runs = c.in_ok-asked.asked.items in
    let ranges = c.in_ok-ranges.ranges.items in
    let bytes : range_indices ranges ≡ place_bytes size (joined_runs runs)
    = c.in_ok-ranges.ensures.bytes ∙ (λ i. place_bytes (c.element_size-size.ensures.size i) (joined_runs (c.as_slice.ensures.value i))) in
    let each : spans ranges ≡ map (element_span size) runs
    = c.in_ok-ranges.ensures.each ∙ (λ i. map (element_span (c.element_size-size.ensures.size i)) (c.as_slice.ensures.value i)) in
    let plan = plan_of_runs size runs ranges c.in_ok-asked.ensures.filled c.in_ok-asked.ensures.apart each bytes in
    record {
      is = subst (λ (r : Result (List ℕ) CodecError). IsOkAnd r (λ places. IsPlan size places ranges)) (sym c.in_ok-asked.ensures.places.is) plan;
      no_fault = refl;
    }
