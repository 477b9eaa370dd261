use Rattle.std.proofs.Common.{rules}
use Rattle.zarrs_array_to_array.specs.ArrayToArrayCodec.{transpose}
use Rattle.zarrs_array_to_array.proofs.StageFaults.{making_no_fault}
use Rattle.zarrs_array_to_array.proofs.transpose.transpose_codec.TransposeCodec.partial_decoder.Goals as goal

pub returns-clause-answer : goal.returns-clause-answer
returns-clause-answer g c =
    record {
      is = search rules;
      no_fault = making_no_fault (λ parts. parts) (transpose c.args.self.now) c.args.shape.now c.args.data_type.now c.args.fill_value.now (λ _. (c.args.self.now, c.args.shape.now)) c.parts_of_decoder.result _ c.parts_of_decoder.ensures.answer c.partial_decoder_of.ensures.answer;
    }
