use Rattle.zarrs_chunk.specs.Indexer.{selection_of}
use Rattle.zarrs_chunk.specs.Selection.{places_of}
use Rattle.zarrs_codec.proofs.CallLemmas.{found_calls}
use Rattle.zarrs_bytes.specs.BytesCodecPartial.{coder_calls, read_count}
use Rattle.zarrs_bytes.proofs.bytes_codec_coders.BytesCodecPartialArrayPartialDecoderTraits.partial_decode.Goals as goal

pub returns-clause-counted : goal.returns-clause-counted
returns-clause-counted g c =
    let decoder = c.args.self.now in
    let calls = coder_calls g.H.BytesPartialDecoderTraits.calls in
    let count = read_count g.H.BytesPartialDecoderTraits.state decoder in
    found_calls calls count (places_of (selection_of c.args.indexer.now) decoder.shape) decoder c.partial_decode.new.self c.partial_decode.result c.partial_decode.ensures.counted
