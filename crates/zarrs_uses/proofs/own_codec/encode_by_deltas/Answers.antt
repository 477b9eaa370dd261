use Rattle.std.proofs.Common.{ap}
use Rattle.zarrs_codecs.specs.ChainView.{plain_chain}
use Rattle.zarrs_codecs.specs.Form.{form_of}
use Rattle.zarrs_codecs.specs.CodecMeaning.{PlainChain}
use Rattle.zarrs_uses.specs.ByteDelta.{byte_delta_codecs}
use Rattle.zarrs_uses.specs.declared.own_codec.ByteDeltaCodec.{ByteDeltaCodec}
use Rattle.zarrs_uses.proofs.BackAgain.{chunk_back}
use Rattle.zarrs_uses.proofs.own_codec.encode_by_deltas.Goals as goal

pub returns : goal.returns
returns c =
    record {
      same = chunk_back byte_delta_codecs (plain_chain c.in_ok-chain.chain) c.args.order (form_of c.args.shape.now c.args.data_type.now c.args.fill_value.now) c.args.elements c.encode_and_decode.result
          (ap (λ (p : PlainChain ByteDeltaCodec). p.array_to_bytes) (c.in_ok-chain.ensures {u = tt}).made) c.encode_and_decode.ensures.back;
    }
