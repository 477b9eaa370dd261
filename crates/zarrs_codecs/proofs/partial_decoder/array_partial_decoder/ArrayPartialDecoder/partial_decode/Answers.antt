use Rattle.std.proofs.Common.{◌≡◌, true, false, subst, ◌∙◌}
use Rattle.zarrs_chain_meaning.specs.ChunkForm.{ChunkForm}
use Rattle.zarrs_chunk.specs.Answer.{is_fault}
use Rattle.zarrs_chunk.specs.Indexer.{selection_of}
use Rattle.zarrs_codec.specs.Calls.{MakesReads}
use Rattle.zarrs_codec.specs.StorageState.{StorageState}
use Rattle.zarrs_codecs.specs.ChunkCalls.{WholeOnce}
use Rattle.zarrs_codecs.specs.ChunkRead.{ReadsStoredChunk, WhereSureBy}
use Rattle.zarrs_codecs.specs.KeptIndex.{asks_index, keeps_nothing}
use Rattle.zarrs_codecs.specs.PartialDecoder.{decoder_form, handle_of}
use Rattle.zarrs_codecs.proofs.IndexReads.{cached_unwanted, unasked_unwanted}
use Rattle.zarrs_codecs.proofs.partial_decoder.array_partial_decoder.ArrayPartialDecoder.partial_decode.Goals as goal

pub returns-clause-reads : goal.returns-clause-reads
returns-clause-reads g c =
    let f = g.B.BytesToBytesCodecTraits.functions in
    let state = g.H.BytesPartialDecoderTraits.state in
    let d = c.args.self.now in
    let kept = c.keep_index.new.self in
    let left = (c.in_ok-keep_index.ensures {u = tt}).left in
    let selection = selection_of c.args.indexer.now in
    subst (λ (form : ChunkForm _). ReadsStoredChunk f form (state (handle_of d)) selection c.read_chunk.result) left.form_kept
    (subst (λ (s : StorageState). ReadsStoredChunk f (decoder_form kept) s selection c.read_chunk.result) left.left c.read_chunk.ensures.reads)

pub returns-clause-alone : goal.returns-clause-alone
returns-clause-alone g c cached =
    let d = c.args.self.now in
    let k = d.coder in
    let form = decoder_form d in
    let came = c.in_ok-keep_index.ensures {u = tt} in
    c.read_chunk.ensures.alone (came.cache_kept ∙ cached) ∙ came.alone (cached_unwanted k.cache (asks_index form.chain.bytes_to_bytes form.chain.array_to_bytes) cached)

pub returns-clause-counted : goal.returns-clause-counted
returns-clause-counted g c uncached whole =
    let calls = g.H.BytesPartialDecoderTraits.calls in
    let d = c.args.self.now in
    let form = decoder_form d in
    let kept = c.keep_index.new.self in
    let came = c.in_ok-keep_index.ensures {u = tt} in
    let once = subst (λ (form : ChunkForm _). WholeOnce calls form.chain (handle_of kept) c.read_chunk.new.handle c.read_chunk.result) came.left.form_kept (c.read_chunk.ensures.counted (came.cache_kept ∙ uncached)) in
    subst (λ handle. MakesReads calls 1 handle c.read_chunk.new.handle c.read_chunk.result) (came.alone (unasked_unwanted (keeps_nothing d.coder.cache) form.chain.bytes_to_bytes form.chain.array_to_bytes whole)) (once whole)

pub returns-clause-sure_by_index : goal.returns-clause-sure_by_index
returns-clause-sure_by_index g c known =
    let f = g.B.BytesToBytesCodecTraits.functions in
    let state = g.H.BytesPartialDecoderTraits.state in
    let d = c.args.self.now in
    let kept = c.keep_index.new.self in
    let came = c.in_ok-keep_index.ensures {u = tt} in
    let selection = selection_of c.args.indexer.now in
    subst (λ (form : ChunkForm _). WhereSureBy true f form (state (handle_of d)) selection (is_fault c.read_chunk.result ≡ false)) came.left.form_kept
    (subst (λ (s : StorageState). WhereSureBy true f (decoder_form kept) s selection (is_fault c.read_chunk.result ≡ false)) came.left.left (c.read_chunk.ensures.sure_by_index (came.index.stays known)))
