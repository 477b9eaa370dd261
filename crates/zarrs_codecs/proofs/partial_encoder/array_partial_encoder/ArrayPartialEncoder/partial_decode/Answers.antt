use Rattle.zarrs_codecs.specs.ChunkCoder.{coder_form}
use Rattle.zarrs_chain.specs.ChainView.{plain_chain}
use Rattle.zarrs_codecs.proofs.IndexReads.{bare_uncached, bare_unread, unread_index}
use Rattle.zarrs_codecs.proofs.WholeReads.{uncached_filled}
use Rattle.zarrs_codecs.proofs.partial_encoder.array_partial_encoder.ArrayPartialEncoder.partial_decode.Goals as goal

pub read_chunk-requires : goal.read_chunk-requires
read_chunk-requires g c =
    let d = c.args.self.now in
    let k = d.coder in
    record {
      cache_filled = uncached_filled g.B.BytesToBytesCodecTraits.functions (coder_form k) k.encoded k.representation k.cache (g.H.BytesPartialDecoderTraits.state d.handle).value k.taken (bare_uncached k.cache d.uncached);
      index = unread_index g.B.BytesToBytesCodecTraits.functions (plain_chain k.chain.now) k.encoded (g.H.BytesPartialDecoderTraits.state d.handle).value k.cache (bare_unread k.cache d.uncached);
    }
