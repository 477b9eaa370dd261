use Rattle.std.proofs.Common.{◌∙◌, Ok, Err, Result, ap, arith, refl, subst}
use Rattle.std.specs.Prelude.{string_bytes}
use Rattle.std.proofs.lemmas.Result.{err_from_is_err_and}
use Rattle.zarrs_array_bytes.specs.Held.{Held}
use Rattle.zarrs_chunk.specs.declared.codec_error.CodecError.{CodecError}
use Rattle.zarrs_data_type.specs.Element.{Chunk}
use Rattle.zarrs_stores.specs.StoreState.{StoreState, after_get}
use Rattle.zarrs_array_plan.specs.Joined.{HoldsChunks}
use Rattle.zarrs_array_plan.specs.declared.planned_chunk.PlannedChunk.{PlannedChunk}
use Rattle.zarrs_region_reads.specs.JoinedRead.{JoinsRead, planned_chunks, planned_read}
use Rattle.zarrs_region_reads.proofs.RegionSteps.{all_joined, asks_more, none_joined, one_joined, one_refused}
use Rattle.zarrs_region_reads.proofs.region_reads.join_chunks.Goals as goal

pub loop-it-init : goal.loop-it-init
loop-it-init g c =
    let read = planned_read (g.R.ChunkPartReader.reads c.args.reader.now) (g.S.ReadableStore.state c.args.store.now).values in
    record {
      state = refl;
      asked = λ other no. refl;
      joined = λ element chunk_shape own begun as_it.
          none_joined read c.args.data_type.now element chunk_shape c.args.region.now c.args.planned.now own as_it c.args.begun begun;
    }

pub loop-it-preserved : goal.loop-it-preserved
loop-it-preserved g c =
    let state = g.S.ReadableStore.state in
    let asked = g.S.ReadableStore.asked in
    let reads = g.R.ChunkPartReader.reads c.args.reader.now in
    let read = planned_read reads (state c.args.store.now).values in
    let planned = c.args.planned.now in
    let it = c.it-item.result in
    let type = c.args.data_type.now in
    let region = c.args.region.now in
    let more = c.in_ok-answer.answer in
    let joins = subst (λ (r : Result Chunk CodecError). JoinsRead r type region it.part c.loop-it.answer (Ok more))
    (ap (λ (s : StoreState). planned_read reads s.values it) c.loop-it.invariant.state) (c.in_ok-answer.ensures {u = tt}).joined in
    record {
      state = (c.in_ok-answer.ensures {u = tt}).left ∙ c.loop-it.invariant.state;
      asked = asks_more (λ (x : PlannedChunk). string_bytes x.key) planned it c.loop-it.it-index (asked c.args.store.now) (asked c.loop-it.store) (asked c.join_chunk.new.store)
          (omega arith) c.it-item.is c.loop-it.invariant.asked c.join_chunk.ensures.asked;
      joined = λ element chunk_shape own begun as_it.
          one_joined read type element chunk_shape region planned own as_it c.loop-it.it-index it c.loop-it.answer (omega arith) c.it-item.is
          (c.loop-it.invariant.joined element chunk_shape own begun as_it) more joins;
    }

pub returns-in_err-answer : goal.returns-in_err-answer
returns-in_err-answer g c =
    let state = g.S.ReadableStore.state in
    let asked = g.S.ReadableStore.asked in
    let reads = g.R.ChunkPartReader.reads c.args.reader.now in
    let read = planned_read reads (state c.args.store.now).values in
    let planned = c.args.planned.now in
    let it = c.it-item.result in
    let type = c.args.data_type.now in
    let region = c.args.region.now in
    let p = err_from_is_err_and c.from_residual.result c.from_residual.ensures.1 in
    let e = c.in_err-answer.field-0.0 in
    let refused : Result Held CodecError = Err e in
    let joins = subst (λ (r : Result Chunk CodecError). JoinsRead r type region it.part c.loop-it.answer refused)
    (ap (λ (s : StoreState). planned_read reads s.values it) c.loop-it.invariant.state) c.in_err-answer.ensures.joined in
    rw (p.1, p.2) (record {
      joined = λ element chunk_shape own begun as_it.
          one_refused read type element chunk_shape region planned own as_it c.loop-it.it-index it c.loop-it.answer (omega arith) c.it-item.is
          (c.loop-it.invariant.joined element chunk_shape own begun as_it) e
          (λ joined _. HoldsChunks type element chunk_shape region (planned_chunks planned) joined) joins;
      left = c.in_err-answer.ensures.left ∙ ap (after_get refused) c.loop-it.invariant.state;
      asked = asks_more (λ (x : PlannedChunk). string_bytes x.key) planned it c.loop-it.it-index (asked c.args.store.now) (asked c.loop-it.store) (asked c.join_chunk.new.store)
          (omega arith) c.it-item.is c.loop-it.invariant.asked c.join_chunk.ensures.asked;
    })

pub returns : goal.returns
returns g c =
    let read = planned_read (g.R.ChunkPartReader.reads c.args.reader.now) (g.S.ReadableStore.state c.args.store.now).values in
    record {
      joined = λ element chunk_shape own begun as_it.
          all_joined read c.args.data_type.now element chunk_shape c.args.region.now c.args.planned.now own as_it c.loop-it.it-index c.loop-it.answer (omega arith)
          (c.loop-it.invariant.joined element chunk_shape own begun as_it);
      left = c.loop-it.invariant.state;
      asked = c.loop-it.invariant.asked;
    }
