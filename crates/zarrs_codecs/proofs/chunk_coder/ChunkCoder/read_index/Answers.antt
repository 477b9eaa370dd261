use Rattle.std.proofs.Common.{◌≡◌, true, false, option_map, sym, subst}
use Rattle.std.proofs.lemmas.Result.{err_from_is_err_and}
use Rattle.zarrs_chain_meaning.specs.CodecMeaning.{PlainCodec}
use Rattle.zarrs_chunk.specs.Answer.{Answers, is_fault, memory_or_fault}
use Rattle.zarrs_chunk.specs.Indexer.{selection_of}
use Rattle.zarrs_codecs.specs.ChunkCoder.{coder_form}
use Rattle.zarrs_codecs.specs.ChunkRead.{are_given_sure}
use Rattle.zarrs_codecs.specs.KeptIndex.{codec_index, index_rests_on, index_seen}
use Rattle.zarrs_codecs.proofs.IndexReads.{index_refused_by, out_of_bounds_read}
use Rattle.zarrs_codecs.proofs.chunk_coder.ChunkCoder.read_index.Goals as goal

pub returns-in_err-check-clause-reads : goal.returns-in_err-check-clause-reads
returns-in_err-check-clause-reads g c =
    let k = c.args.self.now in
    let p = err_from_is_err_and c.from_residual.result c.from_residual.ensures.1 in
    rw (p.1, p.2) (out_of_bounds_read g.B.BytesToBytesCodecTraits.functions (coder_form k) k.encoded k.representation c.is_sound.ensures.mappings c.is_sound.ensures.positive k.taken (g.H.BytesPartialDecoderTraits.state c.args.handle.now) (selection_of c.args.indexer.now) c.in_err-check.field-0.0 c.in_err-check.ensures.answer)

pub returns-clause-reads : goal.returns-clause-reads
returns-clause-reads g c =
    let f = g.B.BytesToBytesCodecTraits.functions in
    let k = c.args.self.now in
    let before = g.H.BytesPartialDecoderTraits.state c.args.handle.now in
    let same = sym c.requires.shard in
    index_refused_by f (coder_form k) k.encoded k.representation c.is_sound.ensures.mappings c.is_sound.ensures.positive k.taken before (selection_of c.args.indexer.now) c.requires.index k.counted_whole c.in_ok-check.ensures.answer c.stored_index.result
    (subst (λ (codec : PlainCodec _). Answers memory_or_fault (option_map index_seen) c.stored_index.result (codec_index f codec k.encoded before.value)) same c.stored_index.ensures.answer)
    (subst (λ (codec : PlainCodec _). are_given_sure before.sure (index_rests_on f codec k.encoded before.value) ≡ true → is_fault c.stored_index.result ≡ false) same c.stored_index.ensures.sure)
