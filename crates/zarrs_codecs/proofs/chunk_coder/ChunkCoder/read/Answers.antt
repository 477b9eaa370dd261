use Rattle.std.proofs.Common.{ap, sym, ◌∙◌}
use Rattle.std.proofs.lemmas.Result.{err_from_is_err_and}
use Rattle.zarrs_chunk.specs.Indexer.{selection_of}
use Rattle.zarrs_chunk.specs.Runs.{joined_runs}
use Rattle.zarrs_codecs.specs.ChunkCoder.{coder_form, coder_knows_index}
use Rattle.zarrs_bytes.proofs.Coding.{ok}
use Rattle.zarrs_codecs.proofs.RegionReads.{kept_bounds}
use Rattle.zarrs_codecs.proofs.SureReads.{in_bounds, out_of_bounds, sure_anyway, where_sure}
use Rattle.zarrs_codecs.proofs.chunk_coder.ChunkCoder.read.Goals as goal

pub returns-in-Some-clause-indexer_first : goal.returns-in-Some-clause-indexer_first
returns-in-Some-clause-indexer_first g c =
    let form = coder_form c.args.self.now in
    kept_bounds form.chain.array_to_array form.sizes (selection_of c.args.indexer.now) c.in-Some.region.now ((c.in-Some.ensures {u = tt}).region_kept) _

pub returns-in_err-runs-clause-indexer_first : goal.returns-in_err-runs-clause-indexer_first
returns-in_err-runs-clause-indexer_first g c =
    let form = coder_form c.args.self.now in
    let p = err_from_is_err_and c.from_residual.result c.from_residual.ensures.1 in
    rw (p.1, p.2) (out_of_bounds _ form.type form.chain.array_to_array form.sizes (selection_of c.args.indexer.now) c.in_err-runs.field-0.0 c.in_err-runs.ensures.answer.is)

pub returns-in_err-runs-clause-sure : goal.returns-in_err-runs-clause-sure
returns-in_err-runs-clause-sure g c =
    let form = coder_form c.args.self.now in
    let p = err_from_is_err_and c.from_residual.result c.from_residual.ensures.1 in
    rw (p.1, p.2) (sure_anyway (coder_knows_index c.args.self.now) g.B.BytesToBytesCodecTraits.functions form (g.H.BytesPartialDecoderTraits.state c.args.handle.now) (selection_of c.args.indexer.now) _ c.in_err-runs.ensures.answer.no_fault)

pub returns-clause-indexer_first : goal.returns-clause-indexer_first
returns-clause-indexer_first g c =
    let form = coder_form c.args.self.now in
    in_bounds form.type form.chain.array_to_array form.sizes (selection_of c.args.indexer.now) (joined_runs c.in_ok-runs.runs.items) _ c.in_ok-runs.ensures.answer.is

pub returns-clause-sure : goal.returns-clause-sure
returns-clause-sure g c =
    let k = c.args.self.now in
    let places = c.in_ok-runs.ensures.answer.is ∙ ap (λ rs. ok (joined_runs rs)) (sym c.deref.ensures.value) in
    where_sure (coder_knows_index c.args.self.now) g.B.BytesToBytesCodecTraits.functions (coder_form k) (g.H.BytesPartialDecoderTraits.state c.args.handle.now) (selection_of c.args.indexer.now) _ k.encoded k.representation (joined_runs c.deref.result.now) places k.taken c.read_runs.ensures.sure
