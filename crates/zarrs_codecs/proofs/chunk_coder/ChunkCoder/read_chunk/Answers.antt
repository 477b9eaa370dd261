use Rattle.std.proofs.Common.{◌≡◌, Bool, false, subst}
use Rattle.zarrs_chunk.specs.Answer.{AnswersBy, is_fault, memory_or_fault}
use Rattle.zarrs_chunk.specs.Indexer.{selection_of}
use Rattle.zarrs_array_bytes.specs.Validity.{Holds}
use Rattle.zarrs_codecs.specs.ChunkRead.{WhereSureBy}
use Rattle.zarrs_codecs.specs.ChunkCoder.{coder_form, coder_knows_index, reader_source}
use Rattle.zarrs_codecs.specs.ChunkSource.{kept_stage}
use Rattle.zarrs_codecs.proofs.IndexReads.{reads_stored, sure_by_all}
use Rattle.zarrs_codecs.proofs.PartialReads.{source_is_stored}
use Rattle.zarrs_codecs.proofs.chunk_coder.ChunkCoder.read_chunk.Goals as goal

pub returns-clause-reads : goal.returns-clause-reads
returns-clause-reads g c =
    let f = g.B.BytesToBytesCodecTraits.functions in
    let k = c.args.self.now in
    let form = coder_form k in
    let before = g.H.BytesPartialDecoderTraits.state c.args.handle.now in
    let selection = selection_of c.args.indexer.now in
    let mappings = c.is_sound.ensures.mappings in
    let positive = c.is_sound.ensures.positive in
    let same = source_is_stored f (kept_stage k.cache) form k.encoded k.representation before.value (reader_source k before.value) selection mappings positive k.taken c.requires.cache_filled in
    reads_stored f form k.encoded k.representation mappings positive k.taken before selection c.read.result
    (subst (λ e. AnswersBy memory_or_fault (Holds k.data_type) c.read.result e) same c.read.ensures.answer) c.read.ensures.indexer_first
    (sure_by_all f (coder_knows_index k) form before selection _ c.read.ensures.sure)

pub returns-clause-sure_by_index : goal.returns-clause-sure_by_index
returns-clause-sure_by_index g c known =
    let k = c.args.self.now in
    subst (λ (b : Bool). WhereSureBy b g.B.BytesToBytesCodecTraits.functions (coder_form k) (g.H.BytesPartialDecoderTraits.state c.args.handle.now) (selection_of c.args.indexer.now) (is_fault c.read.result ≡ false)) known c.read.ensures.sure
