use Rattle.zarrs_data_type.specs.Form.{form_of}
use Rattle.zarrs_array_to_array.specs.CodecAnswers.{moved_form}
use Rattle.zarrs_array_to_array.specs.Mapping.{mapping_of}
use Rattle.zarrs_array_to_array.proofs.StageFaults.{made_of_parts, making_no_fault}
use Rattle.zarrs_array_to_array.proofs.array_to_array_codec.ArrayToArrayCodec.partial_decoder.Goals as goal

pub returns-clause-answer : goal.returns-clause-answer
returns-clause-answer g c =
    let mapping = mapping_of c.args.self.now in
    let form = form_of c.args.shape.now c.args.data_type.now c.args.fill_value.now in
    record {
      is = made_of_parts (λ parts. (mapping_of parts.0, parts.1)) (λ _. (mapping, c.args.shape.now)) c.parts_of_decoder.result (moved_form mapping form) _ c.parts_of_decoder.ensures.answer c.partial_decoder_of.ensures.answer;
      no_fault = making_no_fault (λ parts. (mapping_of parts.0, parts.1)) mapping c.args.shape.now c.args.data_type.now c.args.fill_value.now (λ _. (mapping, c.args.shape.now)) c.parts_of_decoder.result _ c.parts_of_decoder.ensures.answer c.partial_decoder_of.ensures.answer;
    }
