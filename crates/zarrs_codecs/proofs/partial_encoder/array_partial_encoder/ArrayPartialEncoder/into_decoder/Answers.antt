use Rattle.zarrs_codecs.specs.ChunkCoder.{coder_form}
use Rattle.zarrs_chain.specs.ChainView.{plain_chain}
use Rattle.zarrs_codecs.proofs.IndexReads.{bare_uncached, bare_unread, unread_index}
use Rattle.zarrs_codecs.proofs.WholeReads.{uncached_filled}
use Rattle.zarrs_codecs.proofs.partial_encoder.array_partial_encoder.ArrayPartialEncoder.into_decoder.Goals as goal

pub invariant_of-result-clause-kept : goal.invariant_of-result-clause-kept
invariant_of-result-clause-kept g c =
    let d = c.args.self in
    let k = d.coder in
    uncached_filled g.B.BytesToBytesCodecTraits.functions (coder_form k) k.encoded k.representation k.cache (g.H.BytesPartialDecoderTraits.state d.handle).value k.taken (bare_uncached k.cache d.uncached)

pub invariant_of-result-clause-index : goal.invariant_of-result-clause-index
invariant_of-result-clause-index g c =
    let d = c.args.self in
    let k = d.coder in
    unread_index g.B.BytesToBytesCodecTraits.functions (plain_chain k.chain.now) k.encoded (g.H.BytesPartialDecoderTraits.state d.handle).value k.cache (bare_unread k.cache d.uncached)

pub returns-clause-uncached : goal.returns-clause-uncached
returns-clause-uncached g c = bare_uncached c.args.self.coder.cache c.args.self.uncached
