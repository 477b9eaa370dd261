use Rattle.std.proofs.Common.{length, sym, subst, ◌∙◌}
use Rattle.zarrs_chunk.specs.ChunkShape.{product}
use Rattle.zarrs_chain_meaning.specs.Chain.{codec_reads}
use Rattle.zarrs_chain.specs.ChainView.{plain_chain}
use Rattle.zarrs_codecs.specs.ChunkCoder.{reader_source}
use Rattle.zarrs_codecs.specs.ChunkSource.{IsSizeOf}
use Rattle.zarrs_codecs.proofs.CachePlaces.{answered, handle_kept, size_kept}
use Rattle.zarrs_codecs.proofs.partial_decoder.array_partial_decoder.ArrayPartialDecoder.size_held.Goals as goal

pub returns-clause-cache : goal.returns-clause-cache
returns-clause-cache g c e =
    let d = c.args.self.now in
    let k = d.coder in
    let chain = plain_chain k.chain.now in
    let stored = (g.H.BytesPartialDecoderTraits.state d.handle).value in
    let size = size_kept (codec_reads chain.array_to_bytes) k.data_type (product k.encoded) (length chain.bytes_to_bytes) (g.H.BytesPartialDecoderTraits.held d.handle) stored k.cache k.fits k.tight e in
    answered _ (reader_source k stored) (λ source. IsSizeOf k.data_type source c.size_held.result) (d.wanted e)
    (subst (IsSizeOf k.data_type (reader_source k stored)) (sym c.size_held.ensures.value) size)

pub returns-clause-shardless : goal.returns-clause-shardless
returns-clause-shardless g c bare none =
    let d = c.args.self.now in
    let k = d.coder in
    c.size_held.ensures.value
    ∙ handle_kept g.B.BytesToBytesCodecTraits.functions (plain_chain k.chain.now) k.encoded (g.H.BytesPartialDecoderTraits.state d.handle).value k.cache (g.H.BytesPartialDecoderTraits.held d.handle) d.index bare none
