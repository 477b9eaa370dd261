use Rattle.std.proofs.Common.{◌<◌, subst}
use Rattle.std.specs.List.{All}
use Rattle.zarrs_array_bytes.specs.Held.{raw_of}
use Rattle.zarrs_data_type.specs.Form.{form_of}
use Rattle.zarrs_chain.specs.ChainView.{plain_chain}
use Rattle.zarrs_chain_meaning.proofs.ChainRelations.{value_found, value_only}
use Rattle.zarrs_chain.proofs.EncodedAgain.{encoded_stands}
use Rattle.zarrs_chain.proofs.codec_chain.CodecChain.encode.Goals as goal

pub returns : goal.returns
returns g c =
    let f = g.B.BytesToBytesCodecTraits.functions in
    let chain = plain_chain c.args.self.now in
    let positive = subst (All (λ size. 0 < size)) c.as_slice.ensures.value c.as_slice.ensures.positive in
    let found =
    value_found (λ value. (raw_of value).items) c.chain_encode.result f chain c.args.shape.now c.args.data_type.now c.args.fill_value.now c.args.elements c.chain_is_sound.ensures.mappings positive c.chain_encode.ensures.exact.is in
    record {
      encodes = record {
        found = found;
        only = value_only (λ value. (raw_of value).items) c.chain_encode.result f chain c.args.shape.now c.args.data_type.now c.args.fill_value.now c.args.elements c.chain_encode.ensures.exact.is;
        exact = c.chain_encode.ensures.exact.is;
        no_fault = c.chain_encode.ensures.exact.no_fault;
      };
      decoded_again = encoded_stands f chain (form_of c.args.shape.now c.args.data_type.now c.args.fill_value.now) c.args.elements c.chain_encode.result g.met.B.BytesToBytesCodecTraits.lawful c.chain_is_sound.ensures.mappings positive c.elements_are_bytes.ensures.bytes found;
      kept = c.chain_encode.ensures.kept;
    }
