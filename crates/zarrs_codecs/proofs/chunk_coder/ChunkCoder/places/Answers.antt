use Rattle.std.proofs.Common.{rules, map}
use Rattle.zarrs_chunk.specs.Indexer.{selection_of}
use Rattle.zarrs_array_to_array.specs.Mapping.{mapping_of}
use Rattle.zarrs_chain.specs.ChainView.{plain_chain}
use Rattle.zarrs_codecs.proofs.PartialCalls.{runs_answer}
use Rattle.zarrs_codecs.proofs.PartialReads.{is_readable}
use Rattle.zarrs_codecs.proofs.chunk_coder.ChunkCoder.places.Goals as goal

pub returns-clause-answer : goal.returns-clause-answer
returns-clause-answer g c =
    let k = c.args.self.now in
    let chain = plain_chain k.chain.now in
    let h = is_readable g.B.BytesToBytesCodecTraits.functions chain k.shape k.data_type k.fill_value k.encoded k.representation c.is_sound.ensures.mappings.mappings c.is_sound.ensures.positive k.taken in
    record { is = runs_answer (λ places. places.items) c.encoded_places.result k.data_type chain.array_to_array (map mapping_of c.array_to_array_codecs.result.now) k.shape (selection_of c.args.indexer.now) h.map_is c.array_to_array_codecs.ensures.value h.mapped c.encoded_places.ensures.answer.is; no_fault = search rules }

pub returns-clause-below : goal.returns-clause-below
returns-clause-below g c =
    let k = c.args.self.now in
    let chain = plain_chain k.chain.now in
    let h = is_readable g.B.BytesToBytesCodecTraits.functions chain k.shape k.data_type k.fill_value k.encoded k.representation c.is_sound.ensures.mappings.mappings c.is_sound.ensures.positive k.taken in
    rw h.count c.encoded_places.ensures.below
