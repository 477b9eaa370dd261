use Rattle.std.proofs.Common.{◌<◌, subst}
use Rattle.std.specs.List.{All}
use Rattle.zarrs_array_bytes.specs.Held.{raw_of}
use Rattle.zarrs_chain.specs.ChainView.{plain_chain}
use Rattle.zarrs_chain_meaning.proofs.ChainRelations.{chunk_found, chunk_only}
use Rattle.zarrs_chain.proofs.codec_chain.CodecChain.decode.Goals as goal

pub returns : goal.returns
returns g c = record {
  decodes = record {
    found =
        chunk_found c.chain_decode.result g.B.BytesToBytesCodecTraits.functions (plain_chain c.args.self.now) c.args.shape.now c.args.data_type.now c.args.fill_value.now (raw_of c.args.value).items c.chain_is_sound.ensures.mappings (subst (All (λ size. 0 < size)) c.as_slice.ensures.value c.as_slice.ensures.positive) c.chain_decode.ensures.exact.is;
    only =
        chunk_only c.chain_decode.result g.B.BytesToBytesCodecTraits.functions (plain_chain c.args.self.now) c.args.shape.now c.args.data_type.now c.args.fill_value.now (raw_of c.args.value).items c.chain_is_sound.ensures.mappings (subst (All (λ size. 0 < size)) c.as_slice.ensures.value c.as_slice.ensures.positive) c.chain_decode.ensures.exact.is;
    exact = c.chain_decode.ensures.exact.is;
    no_fault = c.chain_decode.ensures.exact.no_fault;
  };
  tight = c.chain_decode.ensures.tight;
  kept = c.chain_decode.ensures.kept;
}
