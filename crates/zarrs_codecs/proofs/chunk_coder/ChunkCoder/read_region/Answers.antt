use Rattle.std.proofs.Common.{refl, sym, subst}
use Rattle.std.proofs.lemmas.Result.{err_from_is_err_and}
use Rattle.zarrs_chunk.specs.Answer.{AnswersBy, memory}
use Rattle.zarrs_array_bytes.specs.Validity.{Holds}
use Rattle.zarrs_array_regions.specs.Windows.{TakesRegion, TakeType, window_of, decoded_of}
use Rattle.zarrs_bytes.proofs.Coding.{ok}
use Rattle.zarrs_codecs.specs.ChunkCoder.{coder_form, coder_knows_index, coder_standing, reader_source}
use Rattle.zarrs_codecs.proofs.PartialReads.{is_readable}
use Rattle.zarrs_codecs.proofs.RegionReads.{takes_region, takes_type, region_refused, region_valid, region_answered, region_sure_where}
use Rattle.zarrs_codecs.proofs.chunk_coder.ChunkCoder.read_region.Goals as goal

pub returns-in_err-held-clause-answer : goal.returns-in_err-held-clause-answer
returns-in_err-held-clause-answer g c =
    let f = g.B.BytesToBytesCodecTraits.functions in
    let k = c.args.self.now in
    let form = coder_form k in
    let are = c.is_sound.ensures.mappings.mappings in
    let positive = c.is_sound.ensures.positive in
    let h = is_readable f form.chain form.sizes form.type form.fill k.encoded k.representation are positive k.taken in
    let source = reader_source k (g.H.BytesPartialDecoderTraits.state c.args.handle.now).value in
    let p = err_from_is_err_and c.from_residual.result c.from_residual.ensures.1 in
    rw (p.1, p.2) (region_refused f form k.encoded k.representation h are positive k.counted_whole c.args.region.now c.requires.inside c.requires.region_kept source (coder_standing k c.args.region.now) c.in_err-held.field-0.0 refl c.in_err-held.ensures.answer)

pub returns-in_err-held-clause-sure : goal.returns-in_err-held-clause-sure
returns-in_err-held-clause-sure g c =
    let f = g.B.BytesToBytesCodecTraits.functions in
    let k = c.args.self.now in
    let form = coder_form k in
    let are = c.is_sound.ensures.mappings.mappings in
    let positive = c.is_sound.ensures.positive in
    let h = is_readable f form.chain form.sizes form.type form.fill k.encoded k.representation are positive k.taken in
    let p = err_from_is_err_and c.from_residual.result c.from_residual.ensures.1 in
    rw (p.1, p.2) (region_sure_where f form k.encoded k.representation h are positive k.counted_whole c.args.region.now c.requires.inside c.requires.region_kept (coder_knows_index k) (g.H.BytesPartialDecoderTraits.state c.args.handle.now) (coder_standing k c.args.region.now) _ refl k.taken c.in_err-held.ensures.sure)

pub decoded_window-requires-clause-region : goal.decoded_window-requires-clause-region
decoded_window-requires-clause-region g c =
    let f = g.B.BytesToBytesCodecTraits.functions in
    let k = c.args.self.now in
    let form = coder_form k in
    let are = c.is_sound.ensures.mappings.mappings in
    let positive = c.is_sound.ensures.positive in
    let h = is_readable f form.chain form.sizes form.type form.fill k.encoded k.representation are positive k.taken in
    subst (λ cs. TakesRegion cs form.sizes c.args.region.now) (sym c.array_to_array_codecs.ensures.value) (takes_region f form k.encoded k.representation h are positive k.counted_whole c.args.region.now c.requires.inside c.requires.region_kept)

pub decoded_window-requires-clause-takes : goal.decoded_window-requires-clause-takes
decoded_window-requires-clause-takes g c =
    let f = g.B.BytesToBytesCodecTraits.functions in
    let k = c.args.self.now in
    let form = coder_form k in
    let are = c.is_sound.ensures.mappings.mappings in
    let positive = c.is_sound.ensures.positive in
    let h = is_readable f form.chain form.sizes form.type form.fill k.encoded k.representation are positive k.taken in
    subst (λ cs. TakeType cs form.type) (sym c.array_to_array_codecs.ensures.value) (takes_type f form k.encoded k.representation h are positive k.counted_whole c.args.region.now c.requires.inside c.requires.region_kept)

pub decoded_window-requires-clause-valid : goal.decoded_window-requires-clause-valid
decoded_window-requires-clause-valid g c =
    let f = g.B.BytesToBytesCodecTraits.functions in
    let k = c.args.self.now in
    let form = coder_form k in
    let are = c.is_sound.ensures.mappings.mappings in
    let positive = c.is_sound.ensures.positive in
    let h = is_readable f form.chain form.sizes form.type form.fill k.encoded k.representation are positive k.taken in
    let source = reader_source k (g.H.BytesPartialDecoderTraits.state c.args.handle.now).value in
    region_valid f form k.encoded k.representation h are positive k.counted_whole c.args.region.now c.requires.inside c.requires.region_kept source (coder_standing k c.args.region.now) c.in_ok-held.held refl ((c.in_ok-held.ensures {u = tt}).answer)

pub returns-clause-answer : goal.returns-clause-answer
returns-clause-answer g c =
    let f = g.B.BytesToBytesCodecTraits.functions in
    let k = c.args.self.now in
    let form = coder_form k in
    let are = c.is_sound.ensures.mappings.mappings in
    let positive = c.is_sound.ensures.positive in
    let h = is_readable f form.chain form.sizes form.type form.fill k.encoded k.representation are positive k.taken in
    let source = reader_source k (g.H.BytesPartialDecoderTraits.state c.args.handle.now).value in
    region_answered f form k.encoded k.representation h are positive k.counted_whole c.args.region.now c.requires.inside c.requires.region_kept source (coder_standing k c.args.region.now) c.in_ok-held.held c.decoded_window.result refl ((c.in_ok-held.ensures {u = tt}).answer)
    (subst (λ cs. AnswersBy memory (Holds form.type) c.decoded_window.result (ok (decoded_of cs form.type (window_of form.sizes c.args.region.now) c.in_ok-held.held))) c.array_to_array_codecs.ensures.value c.decoded_window.ensures.decoded.is)
