use Rattle.std.proofs.Common.{Err, List, Result, ℕ, refl, subst, sym}
use Rattle.std.proofs.lemmas.Result.{err_from_is_err_and}
use Rattle.zarrs_array_bytes.specs.Held.{Held}
use Rattle.zarrs_array_bytes.specs.Validity.{Holds}
use Rattle.zarrs_chunk.specs.Answer.{AnswersBy, memory_or_fault}
use Rattle.zarrs_chunk.specs.declared.codec_error.CodecError.{CodecError}
use Rattle.zarrs_array_plan.specs.Joined.{region_fill}
use Rattle.zarrs_array_plan.specs.Planned.{IsRegionPlan, checked_plan}
use Rattle.zarrs_region_reads.specs.RegionRead.{AsksAmong, region_checked}
use Rattle.zarrs_region_reads.proofs.RegionJoined.{as_read, ends_first, fill_first, first_refused, keys_are, none_first, passed, plan_first, read_as, region_joined}
use Rattle.zarrs_region_reads.proofs.RegionSteps.{quiet}
use Rattle.zarrs_region_reads.proofs.region_reads.read_region.Goals as goal

pub returns : goal.returns
returns g c =
    let reads = g.R.ChunkPartReader.reads c.args.reader.now in
    let counted = g.met.R.ChunkPartReader.counts c.args.reader.now in
    let values = (g.S.ReadableStore.state c.args.store.now).values in
    let type = c.args.data_type.now in
    let form = c.args.grid.now in
    let region = c.args.region.now in
    let fill = c.args.fill_value.now in
    let begun = c.in_ok-begun.begun in
    let parts = c.as_slice-parts.result.now in
    let result = c.join_chunks.result in
    let lies = (c.in_ok-planned.ensures {u = tt}).inside in
    let plan = passed (checked_plan form region) _ (c.in_ok-planned.ensures {u = tt}).answer.is in
    let filled = passed (region_fill type region fill) (Holds type begun) (c.in_ok-begun.ensures {u = tt}).exact.is in
    let planned = subst (IsRegionPlan form region) (sym c.as_slice-parts.ensures.value) plan.holds in
    let exact = region_joined reads values form region counted lies parts planned c.plans_cut_the_region.ensures.law type fill begun result plan.value filled.value plan.is filled.is
    c.parts_make_the_region.ensures.law ((c.in_ok-begun.ensures {u = tt}).region_begun (as_read reads values form region counted lies) form.chunk_shape) c.join_chunks.ensures.joined in
    record {
      found = λ element each. subst (AnswersBy memory_or_fault (Holds type) result) (read_as reads values form region counted lies type fill element each) exact;
      exact = exact;
      checked_first = none_first type form region fill _ plan.value filled.value plan.is filled.is;
      left = c.join_chunks.ensures.left;
      asked = subst (λ (keys : List (List ℕ)). AsksAmong keys (g.S.ReadableStore.asked c.args.store.now) (g.S.ReadableStore.asked c.join_chunks.new.store))
          (keys_are reads values form region counted lies parts planned c.plans_cut_the_region.ensures.law) c.join_chunks.ensures.asked;
    }

pub returns-in_err-planned : goal.returns-in_err-planned
returns-in_err-planned g c =
    let type = c.args.data_type.now in
    let form = c.args.grid.now in
    let region = c.args.region.now in
    let fill = c.args.fill_value.now in
    let p = err_from_is_err_and c.from_residual.result c.from_residual.ensures.1 in
    let e = c.in_err-planned.field-0.0 in
    let first = plan_first type form region fill e c.in_err-planned.ensures.answer.is in
    let refused : Result Held CodecError = Err e in
    rw (p.1, p.2) (record {
      found = λ element each. ends_first (region_checked type form region fill) _ e first;
      exact = ends_first (region_checked type form region fill) _ e first;
      checked_first = first_refused (Holds type) (region_checked type form region fill) e first;
      left = sym (quiet refused (g.S.ReadableStore.state c.args.store.now) c.in_err-planned.ensures.answer.no_fault);
      asked = λ other no. refl;
    })

pub returns-in_err-begun : goal.returns-in_err-begun
returns-in_err-begun g c =
    let type = c.args.data_type.now in
    let form = c.args.grid.now in
    let region = c.args.region.now in
    let fill = c.args.fill_value.now in
    let p = err_from_is_err_and c.from_residual-in_err-begun.result c.from_residual-in_err-begun.ensures.1 in
    let e = c.in_err-begun.field-0.0 in
    let plan = passed (checked_plan form region) _ (c.in_ok-planned.ensures {u = tt}).answer.is in
    let first = fill_first type form region fill plan.value e plan.is c.in_err-begun.ensures.exact.is in
    let refused : Result Held CodecError = Err e in
    rw (p.1, p.2) (record {
      found = λ element each. ends_first (region_checked type form region fill) _ e first;
      exact = ends_first (region_checked type form region fill) _ e first;
      checked_first = first_refused (Holds type) (region_checked type form region fill) e first;
      left = sym (quiet refused (g.S.ReadableStore.state c.args.store.now) c.in_err-begun.ensures.exact.no_fault);
      asked = λ other no. refl;
    })
