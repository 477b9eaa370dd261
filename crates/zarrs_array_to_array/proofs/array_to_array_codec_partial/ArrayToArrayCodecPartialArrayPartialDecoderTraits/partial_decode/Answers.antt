use Rattle.std.proofs.Common.{ap, Err, rules}
use Rattle.zarrs_chunk.specs.Indexer.{selection_of}
use Rattle.zarrs_array_bytes.specs.Held.{Held}
use Rattle.zarrs_array_bytes.specs.Validity.{Holds}
use Rattle.zarrs_chunk.specs.Answer.{AnswersBy, memory}
use Rattle.zarrs_codec.specs.ArrayReader.{image_calls, mapped_reader}
use Rattle.zarrs_codec.specs.ArrayWriter.{mapped_writer}
use Rattle.zarrs_codec.specs.MappedSelection.{image_of}
use Rattle.zarrs_codec.proofs.CallLemmas.{failed_calls}
use Rattle.zarrs_array_to_array.proofs.Stages.{refused_answer, passed_answer, refused_first, passed_calls, passed_first, passed_sure, left_alone}
use Rattle.zarrs_array_to_array.proofs.array_to_array_codec_partial.ArrayToArrayCodecPartialArrayPartialDecoderTraits.partial_decode.Goals as goal

pub returns-in-Ok-clause-answer : goal.returns-in-Ok-clause-answer
returns-in-Ok-clause-answer g c =
    let stage = c.args.self.now in
    let coordinates = g.C.ArrayToArrayCodecTraits.coordinates stage.codec stage.shape in
    let asked = g.C.ArrayToArrayCodecTraits.asked stage.codec stage.shape in
    let reader = g.I.ArrayPartialDecoderTraits.reader stage.input in
    let selection = selection_of c.args.indexer.now in
    passed_answer (Holds reader.type) c.partial_decode.result (image_of coordinates asked stage.shape selection) (selection_of c.in-Ok.encoded) reader.answer c.in-Ok.ensures.answer.is c.partial_decode.ensures.answer

pub returns-in-Err-clause-answer : goal.returns-in-Err-clause-answer
returns-in-Err-clause-answer g c =
    let stage = c.args.self.now in
    let coordinates = g.C.ArrayToArrayCodecTraits.coordinates stage.codec stage.shape in
    let asked = g.C.ArrayToArrayCodecTraits.asked stage.codec stage.shape in
    let reader = g.I.ArrayPartialDecoderTraits.reader stage.input in
    let selection = selection_of c.args.indexer.now in
    refused_answer (Holds reader.type) c.in-Err.error (image_of coordinates asked stage.shape selection) reader.answer c.in-Err.ensures.answer.is

pub returns-in-Ok-clause-indexer_first : goal.returns-in-Ok-clause-indexer_first
returns-in-Ok-clause-indexer_first g c =
    let stage = c.args.self.now in
    let coordinates = g.C.ArrayToArrayCodecTraits.coordinates stage.codec stage.shape in
    let asked = g.C.ArrayToArrayCodecTraits.asked stage.codec stage.shape in
    let reader = g.I.ArrayPartialDecoderTraits.reader stage.input in
    let selection = selection_of c.args.indexer.now in
    passed_first coordinates asked stage.shape selection (selection_of c.in-Ok.encoded) (λ cause. AnswersBy memory (Holds reader.type) c.partial_decode.result (Err cause)) c.in-Ok.ensures.answer.is

pub returns-in-Err-clause-indexer_first : goal.returns-in-Err-clause-indexer_first
returns-in-Err-clause-indexer_first g c =
    let stage = c.args.self.now in
    let coordinates = g.C.ArrayToArrayCodecTraits.coordinates stage.codec stage.shape in
    let asked = g.C.ArrayToArrayCodecTraits.asked stage.codec stage.shape in
    let reader = g.I.ArrayPartialDecoderTraits.reader stage.input in
    let selection = selection_of c.args.indexer.now in
    refused_first coordinates asked stage.shape selection (Holds reader.type) c.in-Err.error c.in-Err.ensures.answer.is

pub returns-in-Err-clause-left : goal.returns-in-Err-clause-left
returns-in-Err-clause-left g c =
    record {
      left = left_alone Held c.in-Err.error (g.I.ArrayPartialDecoderTraits.state c.args.self.now.input) c.in-Err.ensures.answer.no_fault;
      same_reference = search rules;
      form_kept = search rules;
    }

pub returns-in-Ok-clause-left : goal.returns-in-Ok-clause-left
returns-in-Ok-clause-left g c =
    let stage = c.args.self.now in
    let coordinates = g.C.ArrayToArrayCodecTraits.coordinates stage.codec stage.shape in
    let asked = g.C.ArrayToArrayCodecTraits.asked stage.codec stage.shape in
    record {
      left = c.partial_decode.ensures.left.left;
      same_reference = c.partial_decode.ensures.left.same_reference;
      form_kept = ap (mapped_reader coordinates asked (g.C.CodecTraits.reads_in_part stage.codec).partial_decode stage.shape) c.partial_decode.ensures.left.form_kept;
    }

pub returns-in-Ok-clause-writer_kept : goal.returns-in-Ok-clause-writer_kept
returns-in-Ok-clause-writer_kept g c =
    let stage = c.args.self.now in
    let coordinates = g.C.ArrayToArrayCodecTraits.coordinates stage.codec stage.shape in
    let asked = g.C.ArrayToArrayCodecTraits.asked stage.codec stage.shape in
    ap (mapped_writer coordinates asked (g.C.CodecTraits.reads_in_part stage.codec).partial_decode stage.shape) c.partial_decode.ensures.writer_kept

pub returns-in-Ok-clause-sure : goal.returns-in-Ok-clause-sure
returns-in-Ok-clause-sure g c =
    let stage = c.args.self.now in
    let coordinates = g.C.ArrayToArrayCodecTraits.coordinates stage.codec stage.shape in
    let asked = g.C.ArrayToArrayCodecTraits.asked stage.codec stage.shape in
    let reader = g.I.ArrayPartialDecoderTraits.reader stage.input in
    let selection = selection_of c.args.indexer.now in
    passed_sure reader.sure c.partial_decode.result (image_of coordinates asked stage.shape selection) (selection_of c.in-Ok.encoded) c.in-Ok.ensures.answer.is c.partial_decode.ensures.sure

pub returns-in-Err-clause-sure : goal.returns-in-Err-clause-sure
returns-in-Err-clause-sure g c = λ _. c.in-Err.ensures.answer.no_fault

pub returns-in-Ok-clause-counted : goal.returns-in-Ok-clause-counted
returns-in-Ok-clause-counted g c =
    let stage = c.args.self.now in
    let coordinates = g.C.ArrayToArrayCodecTraits.coordinates stage.codec stage.shape in
    let asked = g.C.ArrayToArrayCodecTraits.asked stage.codec stage.shape in
    let counted = g.I.ArrayPartialDecoderTraits.read_calls stage.input in
    let selection = selection_of c.args.indexer.now in
    passed_calls g.I.ArrayPartialDecoderTraits.calls counted (image_of coordinates asked stage.shape selection) (selection_of c.in-Ok.encoded) stage.input c.partial_decode.new.self c.partial_decode.result c.in-Ok.ensures.answer.is c.partial_decode.ensures.counted

pub returns-in-Err-clause-counted : goal.returns-in-Err-clause-counted
returns-in-Err-clause-counted g c =
    let stage = c.args.self.now in
    let coordinates = g.C.ArrayToArrayCodecTraits.coordinates stage.codec stage.shape in
    let asked = g.C.ArrayToArrayCodecTraits.asked stage.codec stage.shape in
    let counted = g.I.ArrayPartialDecoderTraits.read_calls stage.input in
    let image = image_of coordinates asked stage.shape (selection_of c.args.indexer.now) in
    failed_calls Held g.I.ArrayPartialDecoderTraits.calls (image_calls counted image) stage.input stage.input c.in-Err.error
