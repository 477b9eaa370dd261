use Rattle.zarrs_codecs.specs.ChainView.{plain_chain}
use Rattle.zarrs_codecs.specs.Form.{form_of}
use Rattle.zarrs_uses.proofs.BackAgain.{comes_back}
use Rattle.zarrs_uses.proofs.own_codec.encode_and_decode.Goals as goal

pub returns : goal.returns
returns g c =
    let form = form_of c.args.shape.now c.args.data_type.now c.args.fill_value.now in
    record {
      back = comes_back g.B.BytesToBytesCodecTraits.functions (plain_chain c.args.chain.now) form c.args.elements c.in_ok-value.value c.decode.result
          c.in_ok-value.ensures.encodes c.in_ok-value.ensures.decoded_again c.decode.ensures.decodes;
    }
