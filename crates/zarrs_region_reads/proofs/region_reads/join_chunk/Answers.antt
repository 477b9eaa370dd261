use Rattle.std.proofs.Common.{◌≡◌, ◌∙◌, Err, List, Result, ℕ, subst, sym}
use Rattle.std.specs.Prelude.{IsOkAnd}
use Rattle.std.proofs.lemmas.Result.{err_from_is_err_and}
use Rattle.zarrs_array_bytes.specs.Validity.{Holds}
use Rattle.zarrs_chunk.specs.Answer.{Excused, memory_or_fault}
use Rattle.zarrs_chunk.specs.declared.codec_error.CodecError.{CodecError}
use Rattle.zarrs_data_type.specs.Element.{Chunk}
use Rattle.zarrs_data_type.specs.ElementType.{ElementType}
use Rattle.zarrs_stores.specs.StoreState.{AsksOnly}
use Rattle.zarrs_region_reads.specs.JoinedRead.{planned_read}
use Rattle.zarrs_region_reads.proofs.RegionSteps.{quiet, read_joined, read_refused}
use Rattle.zarrs_region_reads.proofs.region_reads.join_chunk.Goals as goal

pub returns : goal.returns
returns g c =
    let state = g.S.ReadableStore.state in
    let asked = g.S.ReadableStore.asked in
    let planned = c.args.planned.now in
    let reads = g.R.ChunkPartReader.reads c.args.reader.now in
    let values = (state c.args.store.now).values in
    let read = planned_read reads values planned in
    let held = c.in_ok-elements.elements in
    let own = subst (λ (key : List ℕ). IsOkAnd (reads (values key) planned.part.in_chunk) (Holds (g.R.ChunkPartReader.element_type c.args.reader.now) held)) c.as_str.ensures.value
    (c.in_ok-elements.ensures {u = tt}).answer in
    let holds = subst (λ (type : ElementType). IsOkAnd read (Holds type held)) c.requires.alike own in
    record {
      joined = read_joined read c.args.data_type.now c.args.region.now planned.part c.args.answer held c.join_part.result holds c.join_part.ensures.chunk_joined;
      left = (c.in_ok-elements.ensures {u = tt}).left ∙ sym (quiet c.join_part.result (state c.args.store.now) c.join_part.ensures.exact.no_fault);
      asked = subst (λ (key : List ℕ). AsksOnly key (asked c.args.store.now) (asked c.read_part.new.store)) c.as_str.ensures.value c.read_part.ensures.asked;
    }

pub returns-in_err-elements-clause-joined : goal.returns-in_err-elements-clause-joined
returns-in_err-elements-clause-joined g c =
    let planned = c.args.planned.now in
    let reads = g.R.ChunkPartReader.reads c.args.reader.now in
    let values = (g.S.ReadableStore.state c.args.store.now).values in
    let e = c.in_err-elements.field-0.0 in
    let own = subst (λ (key : List ℕ). Excused (memory_or_fault e) (◌≡◌ {A = Result Chunk CodecError} (reads (values key) planned.part.in_chunk) (Err e))) c.as_str.ensures.value
    c.in_err-elements.ensures.answer in
    let p = err_from_is_err_and c.from_residual.result c.from_residual.ensures.1 in
    rw (p.1, p.2) (read_refused (planned_read reads values planned) c.args.data_type.now c.args.region.now planned.part c.args.answer e own)
