use Rattle.zarrs_chunk.specs.Indexer.{selection_of}
use Rattle.zarrs_chunk.specs.Selection.{places_of}
use Rattle.zarrs_codec.proofs.CallLemmas.{found_calls}
use Rattle.zarrs_packbits.specs.PackBitsPartialDecoder.{decoder_calls, decoder_state, packbits_read_count}
use Rattle.zarrs_packbits.proofs.DecoderReads.{sure_by_plan}
use Rattle.zarrs_packbits.proofs.packbits_partial_decoder.PackBitsPartialDecoderArrayPartialDecoderTraits.partial_decode.Goals as goal

pub returns-clause-sure : goal.returns-clause-sure
returns-clause-sure g c =
    let form = c.args.self.now in
    let before = decoder_state g.H.BytesPartialDecoderTraits.state form in
    sure_by_plan form.codec form.shape form.data_type form.fill_value (selection_of c.args.indexer.now) before.sure c.partial_decode.result form.taken c.partial_decode.ensures.reads.no_fault_if_refused c.partial_decode.ensures.reads.sure

pub returns-clause-counted : goal.returns-clause-counted
returns-clause-counted g c =
    let decoder = c.args.self.now in
    let calls = decoder_calls g.H.BytesPartialDecoderTraits.calls in
    let count = packbits_read_count g.H.BytesPartialDecoderTraits.state decoder in
    found_calls calls count (places_of (selection_of c.args.indexer.now) decoder.shape) decoder c.partial_decode.new.self c.partial_decode.result c.partial_decode.ensures.counted
