use Rattle.zarrs_chunk.specs.Runs.{joined_runs}
use Rattle.zarrs_array_bytes.specs.Elements.{elements}
use Rattle.zarrs_chunk.specs.ChunkShape.{product}
use Rattle.zarrs_array_bytes.specs.Held.{raw_of}
use Rattle.zarrs_codecs.specs.ChunkCoder.{coder_form}
use Rattle.zarrs_codecs.proofs.ChunkWrites.{left_answer, started_held}
use Rattle.zarrs_codecs.proofs.chunk_coder.ChunkCoder.new_value.Goals as goal

pub value_with-requires-clause-valid : goal.value_with-requires-clause-valid
value_with-requires-clause-valid g c =
    let k = c.args.self.now in
    (started_held g.B.BytesToBytesCodecTraits.functions (coder_form k) (g.H.BytesPartialDecoderTraits.state c.args.handle.now).value c.in_ok-chunk.chunk c.is_sound.ensures.mappings c.is_sound.ensures.positive c.in_ok-chunk.ensures.answer).1

pub returns-clause-answer : goal.returns-clause-answer
returns-clause-answer g c =
    let f = g.B.BytesToBytesCodecTraits.functions in
    let k = c.args.self.now in
    let form = coder_form k in
    let stored = (g.H.BytesPartialDecoderTraits.state c.args.handle.now).value in
    let started = started_held f form stored c.in_ok-chunk.chunk c.is_sound.ensures.mappings c.is_sound.ensures.positive c.in_ok-chunk.ensures.answer in
    left_answer (λ value. (raw_of value).items) c.value_with.result f form stored (elements form.type (product form.sizes) c.in_ok-chunk.chunk) (joined_runs c.args.runs.now) c.args.elements.now started.0 c.value_with.ensures.answer.is
