use Rattle.std.proofs.lemmas.Result.{err_from_is_err_and}
use Rattle.zarrs_codecs.proofs.Counting.{replaced_all}
use Rattle.zarrs_codecs.proofs.Unharmed.{accepted_unharmed, read_unharmed}
use Rattle.zarrs_codecs.proofs.chunk_coder.ChunkCoder.replace_value.Goals as goal

pub returns-in_err-value-clause-unharmed : goal.returns-in_err-value-clause-unharmed
returns-in_err-value-clause-unharmed g c =
    let D = g.H.BytesPartialDecoderTraits in
    let p = err_from_is_err_and c.from_residual.result c.from_residual.ensures.1 in
    rw (p.1, p.2) (read_unharmed c.in_err-value.field-0.0 (D.state c.args.handle.now) (D.state c.new_value.new.handle) c.in_err-value.ensures.left)

pub returns-clause-unharmed : goal.returns-clause-unharmed
returns-clause-unharmed g c = accepted_unharmed _ c.replace.result _ _ c.replace.ensures.answer

pub returns-clause-counted : goal.returns-clause-counted
returns-clause-counted g c =
    let D = g.H.BytesPartialDecoderTraits in
    replaced_all c.replace.result c.as_slice.result.now (D.state c.replace.new.self).value (D.calls c.args.handle.now) (D.calls c.new_value.new.handle) (D.calls c.replace.new.self) c.replace.ensures.counted c.in_ok-value.ensures.counted c.replace.ensures.written
