use Rattle.std.proofs.Common.{ap, Err, rules}
use Rattle.zarrs_chunk.specs.Answer.{Answers, memory}
use Rattle.zarrs_chunk.specs.Indexer.{selection_of}
use Rattle.zarrs_codec.specs.ArrayWriter.{mapped_writer}
use Rattle.zarrs_codec.specs.MappedSelection.{image_of}
use Rattle.zarrs_array_to_array.proofs.Stages.{passed_first, refused_first}
use Rattle.zarrs_array_to_array.proofs.WritingStages.{passed_write, refused_write, passed_check, refused_check, alone}
use Rattle.zarrs_array_to_array.proofs.array_to_array_codec_partial.ArrayToArrayCodecPartialArrayPartialEncoderTraits.partial_encode.Goals as goal

pub returns-in-Ok-clause-answer : goal.returns-in-Ok-clause-answer
returns-in-Ok-clause-answer g c =
    let stage = c.args.self.now in
    let coordinates = g.C.ArrayToArrayCodecTraits.coordinates stage.codec stage.shape in
    let asked = g.C.ArrayToArrayCodecTraits.asked stage.codec stage.shape in
    let writer = g.I.ArrayPartialDecoderTraits.writer stage.input in
    let state = g.I.ArrayPartialDecoderTraits.state stage.input in
    let selection = selection_of c.args.indexer.now in
    let new = c.args.elements.now in
    let image = image_of coordinates asked stage.shape selection in
    passed_write _ c.partial_encode.result image (selection_of c.in-Ok.encoded) (λ encoded. writer.written state.value encoded new) c.in-Ok.ensures.answer.is c.partial_encode.ensures.answer

pub returns-in-Err-clause-answer : goal.returns-in-Err-clause-answer
returns-in-Err-clause-answer g c =
    let stage = c.args.self.now in
    let coordinates = g.C.ArrayToArrayCodecTraits.coordinates stage.codec stage.shape in
    let asked = g.C.ArrayToArrayCodecTraits.asked stage.codec stage.shape in
    let writer = g.I.ArrayPartialDecoderTraits.writer stage.input in
    let state = g.I.ArrayPartialDecoderTraits.state stage.input in
    let selection = selection_of c.args.indexer.now in
    let new = c.args.elements.now in
    let image = image_of coordinates asked stage.shape selection in
    refused_write c.in-Err.refusal image (λ encoded. writer.written state.value encoded new) c.in-Err.ensures.answer.is

pub returns-in-Ok-clause-indexer_first : goal.returns-in-Ok-clause-indexer_first
returns-in-Ok-clause-indexer_first g c =
    let stage = c.args.self.now in
    let coordinates = g.C.ArrayToArrayCodecTraits.coordinates stage.codec stage.shape in
    let asked = g.C.ArrayToArrayCodecTraits.asked stage.codec stage.shape in
    let writer = g.I.ArrayPartialDecoderTraits.writer stage.input in
    let state = g.I.ArrayPartialDecoderTraits.state stage.input in
    let selection = selection_of c.args.indexer.now in
    let new = c.args.elements.now in
    let image = image_of coordinates asked stage.shape selection in
    passed_first coordinates asked stage.shape selection (selection_of c.in-Ok.encoded) (λ cause. Answers memory (λ done. done) c.partial_encode.result (Err cause)) c.in-Ok.ensures.answer.is

pub returns-in-Err-clause-indexer_first : goal.returns-in-Err-clause-indexer_first
returns-in-Err-clause-indexer_first g c =
    let stage = c.args.self.now in
    let coordinates = g.C.ArrayToArrayCodecTraits.coordinates stage.codec stage.shape in
    let asked = g.C.ArrayToArrayCodecTraits.asked stage.codec stage.shape in
    let writer = g.I.ArrayPartialDecoderTraits.writer stage.input in
    let state = g.I.ArrayPartialDecoderTraits.state stage.input in
    let selection = selection_of c.args.indexer.now in
    let new = c.args.elements.now in
    let image = image_of coordinates asked stage.shape selection in
    refused_first coordinates asked stage.shape selection (λ (done : Unit {0}) (due : Unit {0}). Unit {0}) c.in-Err.refusal c.in-Err.ensures.answer.is

pub returns-in-Ok-clause-checked_first : goal.returns-in-Ok-clause-checked_first
returns-in-Ok-clause-checked_first g c =
    let stage = c.args.self.now in
    let coordinates = g.C.ArrayToArrayCodecTraits.coordinates stage.codec stage.shape in
    let asked = g.C.ArrayToArrayCodecTraits.asked stage.codec stage.shape in
    let writer = g.I.ArrayPartialDecoderTraits.writer stage.input in
    let state = g.I.ArrayPartialDecoderTraits.state stage.input in
    let selection = selection_of c.args.indexer.now in
    let new = c.args.elements.now in
    let image = image_of coordinates asked stage.shape selection in
    passed_check image (selection_of c.in-Ok.encoded) (λ encoded. writer.checks encoded new) (λ cause. Answers memory (λ done. done) c.partial_encode.result (Err cause)) c.in-Ok.ensures.answer.is c.partial_encode.ensures.checked_first

pub returns-in-Err-clause-checked_first : goal.returns-in-Err-clause-checked_first
returns-in-Err-clause-checked_first g c =
    let stage = c.args.self.now in
    let coordinates = g.C.ArrayToArrayCodecTraits.coordinates stage.codec stage.shape in
    let asked = g.C.ArrayToArrayCodecTraits.asked stage.codec stage.shape in
    let writer = g.I.ArrayPartialDecoderTraits.writer stage.input in
    let state = g.I.ArrayPartialDecoderTraits.state stage.input in
    let selection = selection_of c.args.indexer.now in
    let new = c.args.elements.now in
    let image = image_of coordinates asked stage.shape selection in
    refused_check c.in-Err.refusal image (λ encoded. writer.checks encoded new) c.in-Err.ensures.answer.is

pub returns-in-Ok-clause-untouched : goal.returns-in-Ok-clause-untouched
returns-in-Ok-clause-untouched g c =
    let stage = c.args.self.now in
    let coordinates = g.C.ArrayToArrayCodecTraits.coordinates stage.codec stage.shape in
    let asked = g.C.ArrayToArrayCodecTraits.asked stage.codec stage.shape in
    let writer = g.I.ArrayPartialDecoderTraits.writer stage.input in
    let state = g.I.ArrayPartialDecoderTraits.state stage.input in
    let selection = selection_of c.args.indexer.now in
    let new = c.args.elements.now in
    let image = image_of coordinates asked stage.shape selection in
    passed_check image (selection_of c.in-Ok.encoded) (λ encoded. writer.checks encoded new) _ c.in-Ok.ensures.answer.is c.partial_encode.ensures.untouched

pub returns-in-Err-clause-left : goal.returns-in-Err-clause-left
returns-in-Err-clause-left g c =
    let stage = c.args.self.now in
    let coordinates = g.C.ArrayToArrayCodecTraits.coordinates stage.codec stage.shape in
    let asked = g.C.ArrayToArrayCodecTraits.asked stage.codec stage.shape in
    let writer = g.I.ArrayPartialDecoderTraits.writer stage.input in
    let state = g.I.ArrayPartialDecoderTraits.state stage.input in
    let selection = selection_of c.args.indexer.now in
    let new = c.args.elements.now in
    let image = image_of coordinates asked stage.shape selection in
    record {
      one_write = search rules;
      refused = alone c.in-Err.refusal state c.in-Err.ensures.answer.no_fault;
      kept_if_atomic = search rules;
      unharmed = search rules;
      same_reference = search rules;
      form_kept = search rules;
    }

pub returns-in-Ok-clause-left : goal.returns-in-Ok-clause-left
returns-in-Ok-clause-left g c =
    let stage = c.args.self.now in
    let coordinates = g.C.ArrayToArrayCodecTraits.coordinates stage.codec stage.shape in
    let asked = g.C.ArrayToArrayCodecTraits.asked stage.codec stage.shape in
    let writer = g.I.ArrayPartialDecoderTraits.writer stage.input in
    let state = g.I.ArrayPartialDecoderTraits.state stage.input in
    let selection = selection_of c.args.indexer.now in
    let new = c.args.elements.now in
    let image = image_of coordinates asked stage.shape selection in
    record {
      one_write = c.partial_encode.ensures.left.one_write;
      refused = c.partial_encode.ensures.left.refused;
      kept_if_atomic = c.partial_encode.ensures.left.kept_if_atomic;
      unharmed = c.partial_encode.ensures.left.unharmed;
      same_reference = c.partial_encode.ensures.left.same_reference;
      form_kept = ap (mapped_writer coordinates asked (g.C.CodecTraits.reads_in_part stage.codec).partial_decode stage.shape) c.partial_encode.ensures.left.form_kept;
    }
