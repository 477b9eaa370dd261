use Rattle.zarrs_data_type.specs.Form.{form_of}
use Rattle.std.proofs.Common.{Err, Ok}
use Rattle.std.proofs.lemmas.Result.{err_from_is_err_and}
use Rattle.zarrs_chunk.specs.Runs.{joined_runs}
use Rattle.zarrs_packbits.specs.PackBitsSettings.{packed_layout}
use Rattle.zarrs_packbits.proofs.AsBytes.{layout_kept}
use Rattle.zarrs_packbits.proofs.WholeReads.{whole_read, whole_sure}
use Rattle.zarrs_packbits.proofs.packbits_codec.PackBitsCodec.read_whole_runs.Goals as goal

pub returns-in_err-elements-clause-answer : goal.returns-in_err-elements-clause-answer
returns-in_err-elements-clause-answer g c =
    let type = c.args.data_type.now in
    let whole = layout_kept (packed_layout c.args.self.now (form_of c.args.shape.now type c.args.fill_value.now)) c.requires.whole in
    let stored = (g.H.BytesPartialDecoderTraits.state c.args.handle.now).value in
    let p = err_from_is_err_and c.from_residual.result c.from_residual.ensures.1 in
    rw (p.1, p.2) (whole_read c.args.self.now c.args.shape.now type c.args.fill_value.now (joined_runs c.args.runs.now) stored whole.0 (Err c.in_err-elements.field-0.0) whole.1 whole.2 tt (rw c.little.ensures.made at c.in_err-elements.ensures.answer))

pub returns-in_err-elements-clause-sure : goal.returns-in_err-elements-clause-sure
returns-in_err-elements-clause-sure g c =
    let type = c.args.data_type.now in
    let whole = layout_kept (packed_layout c.args.self.now (form_of c.args.shape.now type c.args.fill_value.now)) c.requires.whole in
    let p = err_from_is_err_and c.from_residual.result c.from_residual.ensures.1 in
    rw (p.1, p.2) (whole_sure c.args.self.now c.args.shape.now type c.args.fill_value.now (joined_runs c.args.runs.now) (g.H.BytesPartialDecoderTraits.state c.args.handle.now).sure _ whole.0 whole.1 whole.2 c.in_err-elements.ensures.sure)

pub returns-clause-answer : goal.returns-clause-answer
returns-clause-answer g c =
    let type = c.args.data_type.now in
    let whole = layout_kept (packed_layout c.args.self.now (form_of c.args.shape.now type c.args.fill_value.now)) c.requires.whole in
    let stored = (g.H.BytesPartialDecoderTraits.state c.args.handle.now).value in
    whole_read c.args.self.now c.args.shape.now type c.args.fill_value.now (joined_runs c.args.runs.now) stored whole.0 (Ok c.in_ok-elements.elements) whole.1 whole.2 c.fixed_are_bytes.ensures.small (rw c.little.ensures.made at c.in_ok-elements.ensures.answer)
