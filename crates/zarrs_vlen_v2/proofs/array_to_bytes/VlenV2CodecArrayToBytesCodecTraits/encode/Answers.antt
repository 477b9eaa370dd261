use Rattle.zarrs_data_type.specs.Form.{form_of}
use Rattle.zarrs_vlen_v2.proofs.Counted.{found_decodes}
use Rattle.zarrs_vlen_v2.proofs.array_to_bytes.VlenV2CodecArrayToBytesCodecTraits.encode.Goals as goal

pub returns-clause-decoded_again : goal.returns-clause-decoded_again
returns-clause-decoded_again c =
    found_decodes c.args.self.now (form_of c.args.shape.now c.args.data_type.now c.args.fill.now) c.args.given c.encode.result c.encode.ensures.encodes.found
