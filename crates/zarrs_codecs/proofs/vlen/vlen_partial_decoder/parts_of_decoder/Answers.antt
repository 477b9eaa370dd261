use Rattle.std.proofs.Common.{◌≡◌, ◌<◌, ◌^◌, true, subst}
use Rattle.zarrs_chunk.specs.ChunkShape.{product}
use Rattle.zarrs_data_type.specs.FillValue.{fill_fits}
use Rattle.zarrs_chain_meaning.proofs.ArraySteps.{ok_is}
use Rattle.zarrs_chain_meaning.proofs.ChainSteps.{is_ok_of}
use Rattle.zarrs_codecs.proofs.VlenReads.{vlen_taken}
use Rattle.zarrs_codecs.proofs.vlen.vlen_partial_decoder.parts_of_decoder.Goals as goal

pub returns-clause-filling : goal.returns-clause-filling
returns-clause-filling g c =
    let t = vlen_taken g.B.BytesToBytesCodecTraits.functions c.args.codec.now c.args.form.shape.now c.args.form.data_type.now c.args.form.fill_value.now (is_ok_of _ _ c.in_ok-encoded_representation.ensures.answer.is) in
    let type = ok_is _ _ c.in_ok-data_type.ensures.copy in
    let fill = ok_is _ _ c.in_ok-fill_value.ensures.copy in
    subst (λ k. fill_fits k c.in_ok-fill_value.fill_value ≡ true) type (subst (λ v. fill_fits c.args.form.data_type.now v ≡ true) fill t.filled)

pub returns-clause-counted : goal.returns-clause-counted
returns-clause-counted g c =
    let t = vlen_taken g.B.BytesToBytesCodecTraits.functions c.args.codec.now c.args.form.shape.now c.args.form.data_type.now c.args.form.fill_value.now (is_ok_of _ _ c.in_ok-encoded_representation.ensures.answer.is) in
    subst (λ s. product s < 2 ^ 64) (ok_is _ _ c.in_ok-shape.ensures.copy) t.counted
