use Rattle.std.proofs.Common.{false, sym, subst, refl}
use Rattle.std.proofs.lemmas.Result.{err_from_is_err_and}
use Rattle.zarrs_chunk.specs.Answer.{AnswersBy, memory_or_fault}
use Rattle.zarrs_chunk.specs.ChunkShape.{product}
use Rattle.zarrs_chunk.specs.Indexer.{selection_of}
use Rattle.zarrs_array_bytes.specs.Validity.{Holds}
use Rattle.zarrs_bytes.specs.PartialRead.{place_size}
use Rattle.zarrs_bytes.proofs.Taken.{taken_fixed, taken_small}
use Rattle.zarrs_codecs.specs.ChunkCoder.{coder_form, coder_knows_index, reader_source}
use Rattle.zarrs_codecs.proofs.Counting.{asked_in_part}
use Rattle.zarrs_codecs.proofs.ListedReads.{listed_is, places_end, sure_alone}
use Rattle.zarrs_codecs.proofs.PlaceWrites.{in_place_taken}
use Rattle.zarrs_codecs.proofs.SureReads.{in_bounds, out_of_bounds, sure_anyway, where_sure}
use Rattle.zarrs_codecs.proofs.chunk_coder.ChunkCoder.read_listed.Goals as goal

pub returns-in_err-places-clause-indexer_first : goal.returns-in_err-places-clause-indexer_first
returns-in_err-places-clause-indexer_first g c =
    let form = coder_form c.args.self.now in
    let p = err_from_is_err_and c.from_residual.result c.from_residual.ensures.1 in
    rw (p.1, p.2) (out_of_bounds _ form.type form.chain.array_to_array form.sizes (selection_of c.args.indexer.now) c.in_err-places.field-0.0 c.in_err-places.ensures.answer.is)

pub returns-in_err-places-clause-sure : goal.returns-in_err-places-clause-sure
returns-in_err-places-clause-sure g c =
    let form = coder_form c.args.self.now in
    let p = err_from_is_err_and c.from_residual.result c.from_residual.ensures.1 in
    rw (p.1, p.2) (sure_anyway (coder_knows_index c.args.self.now) g.B.BytesToBytesCodecTraits.functions form (g.H.BytesPartialDecoderTraits.state c.args.handle.now) (selection_of c.args.indexer.now) _ c.in_err-places.ensures.answer.no_fault)

pub read_places-requires-clause-fixed : goal.read_places-requires-clause-fixed
read_places-requires-clause-fixed g c =
    let k = c.args.self.now in
    let form = coder_form k in
    taken_fixed c.args.codec.now k.encoded k.data_type k.fill_value (in_place_taken g.B.BytesToBytesCodecTraits.functions form.chain.bytes_to_bytes form.chain.array_to_bytes c.args.codec.now k.encoded k.data_type k.fill_value c.requires.writes_in_place k.measured)

pub read_places-requires-clause-ends : goal.read_places-requires-clause-ends
read_places-requires-clause-ends g c =
    let k = c.args.self.now in
    let form = coder_form k in
    let small = taken_small c.args.codec.now k.encoded k.data_type k.fill_value (in_place_taken g.B.BytesToBytesCodecTraits.functions form.chain.bytes_to_bytes form.chain.array_to_bytes c.args.codec.now k.encoded k.data_type k.fill_value c.requires.writes_in_place k.measured) in
    places_end (product k.encoded) (place_size k.data_type) c.in_ok-places.places.items small ((c.in_ok-places.ensures {u = tt}).below)

pub returns-clause-answer : goal.returns-clause-answer
returns-clause-answer g c =
    let k = c.args.self.now in
    let form = coder_form k in
    let stored = (g.H.BytesPartialDecoderTraits.state c.args.handle.now).value in
    let at = (c.in_ok-places.ensures {u = tt}).answer.is in
    let is = listed_is g.B.BytesToBytesCodecTraits.functions form k.encoded k.representation c.args.codec.now c.requires.writes_in_place (reader_source k stored) stored (selection_of c.args.indexer.now) c.in_ok-places.places.items (rw c.requires.uncached refl) at in
    subst (λ r. AnswersBy memory_or_fault (Holds k.data_type) c.read_places.result r) (sym is) c.read_places.ensures.answer

pub returns-clause-indexer_first : goal.returns-clause-indexer_first
returns-clause-indexer_first g c =
    let form = coder_form c.args.self.now in
    in_bounds form.type form.chain.array_to_array form.sizes (selection_of c.args.indexer.now) c.in_ok-places.places.items _ (c.in_ok-places.ensures {u = tt}).answer.is

pub returns-clause-sure : goal.returns-clause-sure
returns-clause-sure g c =
    let k = c.args.self.now in
    let form = coder_form k in
    let before = g.H.BytesPartialDecoderTraits.state c.args.handle.now in
    let at = (c.in_ok-places.ensures {u = tt}).answer.is in
    rw c.requires.uncached
    (where_sure false g.B.BytesToBytesCodecTraits.functions form before (selection_of c.args.indexer.now) _ k.encoded k.representation c.in_ok-places.places.items at k.taken
    (λ asks. sure_alone g.B.BytesToBytesCodecTraits.functions form k.encoded k.representation c.args.codec.now c.requires.writes_in_place before c.in_ok-places.places.items _ c.read_places.ensures.sure))

pub returns-clause-counted : goal.returns-clause-counted
returns-clause-counted g c = λ uncached whole.
    let form = coder_form c.args.self.now in
    absurd (asked_in_part form.chain.bytes_to_bytes form.chain.array_to_bytes c.args.codec.now c.requires.writes_in_place whole)
