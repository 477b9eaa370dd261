use Rattle.std.proofs.Common.{◌≡◌, ◌∙◌, ◌<◌, ◌^◌, Ok, ap, sym, subst, arith}
use Rattle.std.proofs.lemmas.Result.{err_from_is_err_and}
use Rattle.zarrs_chunk.specs.ChunkShape.{product}
use Rattle.zarrs_array_bytes.specs.Validity.{data_fit}
use Rattle.zarrs_array_regions.proofs.HeldElements.{no_count, count_is}
use Rattle.zarrs_codecs.specs.ChunkCoder.{coder_form}
use Rattle.zarrs_codecs.specs.ChunkWrite.{LendsData}
use Rattle.zarrs_codecs.proofs.PartialReads.{is_readable}
use Rattle.zarrs_codecs.proofs.RegionWrites.{few, region_checked, region_lends, fixed_of, no_fixed}
use Rattle.zarrs_codecs.proofs.chunk_coder.ChunkCoder.region_data.Goals as goal

pub returns-in_err-count-clause-checked : goal.returns-in_err-count-clause-checked
returns-in_err-count-clause-checked g c =
    let f = g.B.BytesToBytesCodecTraits.functions in
    let k = c.args.self.now in
    let form = coder_form k in
    let region = c.args.region.now in
    let are = c.is_sound.ensures.mappings.mappings in
    let positive = c.is_sound.ensures.positive in
    let h = is_readable f form.chain form.sizes form.type form.fill k.encoded k.representation are positive k.taken in
    let small : product region.lengths < 2 ^ 64 = omega (arith, few f form k.encoded k.representation h are positive k.counted_whole region c.requires.inside c.args.codec.now c.requires.writes_in_place, k.counted_whole) in
    absurd (no_count (product region.lengths) c.in_err-count.field-0.0 small c.in_err-count.ensures.product)

pub returns-in_err-validate_data-clause-checked : goal.returns-in_err-validate_data-clause-checked
returns-in_err-validate_data-clause-checked g c =
    let f = g.B.BytesToBytesCodecTraits.functions in
    let k = c.args.self.now in
    let form = coder_form k in
    let region = c.args.region.now in
    let new = c.args.elements.now in
    let are = c.is_sound.ensures.mappings.mappings in
    let positive = c.is_sound.ensures.positive in
    let h = is_readable f form.chain form.sizes form.type form.fill k.encoded k.representation are positive k.taken in
    let small : product region.lengths < 2 ^ 64 = omega (arith, few f form k.encoded k.representation h are positive k.counted_whole region c.requires.inside c.args.codec.now c.requires.writes_in_place, k.counted_whole) in
    let count = count_is (product region.lengths) c.in_ok-count.count small ((c.in_ok-count.ensures {u = tt}).product) in
    let p = err_from_is_err_and c.from_residual-in_err-validate_data.result c.from_residual-in_err-validate_data.ensures.1 in
    rw (p.1, p.2) (c.in_err-validate_data.ensures.exact ∙ ap (λ n. data_fit form.type n new) count ∙ sym (region_checked f form k.encoded k.representation h are positive k.counted_whole region c.requires.inside c.args.codec.now c.requires.writes_in_place new))

pub returns-in_err-bytes-clause-checked : goal.returns-in_err-bytes-clause-checked
returns-in_err-bytes-clause-checked g c =
    let f = g.B.BytesToBytesCodecTraits.functions in
    let k = c.args.self.now in
    let form = coder_form k in
    let region = c.args.region.now in
    let new = c.args.elements.now in
    let are = c.is_sound.ensures.mappings.mappings in
    let positive = c.is_sound.ensures.positive in
    let h = is_readable f form.chain form.sizes form.type form.fill k.encoded k.representation are positive k.taken in
    let small : product region.lengths < 2 ^ 64 = omega (arith, few f form k.encoded k.representation h are positive k.counted_whole region c.requires.inside c.args.codec.now c.requires.writes_in_place, k.counted_whole) in
    let count = count_is (product region.lengths) c.in_ok-count.count small ((c.in_ok-count.ensures {u = tt}).product) in
    let fit : data_fit form.type (product region.lengths) new ≡ Ok tt = ap (λ n. data_fit form.type n new) (sym count) ∙ sym ((c.in_ok-validate_data.ensures {u = tt}).exact) in
    absurd (no_fixed f form k.encoded k.representation h c.args.codec.now new (product region.lengths) c.in_err-bytes.field-0.0 c.requires.writes_in_place fit c.in_err-bytes.ensures.answer)

pub returns-clause-checked : goal.returns-clause-checked
returns-clause-checked g c =
    let f = g.B.BytesToBytesCodecTraits.functions in
    let k = c.args.self.now in
    let form = coder_form k in
    let region = c.args.region.now in
    let new = c.args.elements.now in
    let are = c.is_sound.ensures.mappings.mappings in
    let positive = c.is_sound.ensures.positive in
    let h = is_readable f form.chain form.sizes form.type form.fill k.encoded k.representation are positive k.taken in
    let small : product region.lengths < 2 ^ 64 = omega (arith, few f form k.encoded k.representation h are positive k.counted_whole region c.requires.inside c.args.codec.now c.requires.writes_in_place, k.counted_whole) in
    let count = count_is (product region.lengths) c.in_ok-count.count small ((c.in_ok-count.ensures {u = tt}).product) in
    let fit : data_fit form.type (product region.lengths) new ≡ Ok tt = ap (λ n. data_fit form.type n new) (sym count) ∙ sym ((c.in_ok-validate_data.ensures {u = tt}).exact) in
    sym (region_checked f form k.encoded k.representation h are positive k.counted_whole region c.requires.inside c.args.codec.now c.requires.writes_in_place new ∙ fit)

pub returns-clause-lent : goal.returns-clause-lent
returns-clause-lent g c =
    let f = g.B.BytesToBytesCodecTraits.functions in
    let k = c.args.self.now in
    let form = coder_form k in
    let region = c.args.region.now in
    let new = c.args.elements.now in
    let are = c.is_sound.ensures.mappings.mappings in
    let positive = c.is_sound.ensures.positive in
    let h = is_readable f form.chain form.sizes form.type form.fill k.encoded k.representation are positive k.taken in
    let small : product region.lengths < 2 ^ 64 = omega (arith, few f form k.encoded k.representation h are positive k.counted_whole region c.requires.inside c.args.codec.now c.requires.writes_in_place, k.counted_whole) in
    let count = count_is (product region.lengths) c.in_ok-count.count small ((c.in_ok-count.ensures {u = tt}).product) in
    let fit : data_fit form.type (product region.lengths) new ≡ Ok tt = ap (λ n. data_fit form.type n new) (sym count) ∙ sym ((c.in_ok-validate_data.ensures {u = tt}).exact) in
    let raw = fixed_of new c.in_ok-bytes.bytes.now ((c.in_ok-bytes.ensures {u = tt}).answer) in
    subst (LendsData form.type region new) (sym c.new_flen.ensures.made) (region_lends f form k.encoded k.representation h are positive k.counted_whole region c.requires.inside c.args.codec.now c.requires.writes_in_place new raw.0 _ fit raw.1 raw.2)
