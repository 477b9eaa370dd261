use Rattle.std.proofs.lemmas.Result.{err_from_is_err_and}
use Rattle.zarrs_plain_vlen.proofs.RangesRead.{never_refused}
use Rattle.std.proofs.Common.{◌∙◌, ℕ, ap, sym}
use Rattle.zarrs_codec.specs.Calls.{after_reads}
use Rattle.zarrs_plain_vlen.proofs.CallCounts.{none_asked, some_asked}
use Rattle.zarrs_plain_vlen.proofs.handle_reads.read_inside.Goals as goal

pub returns-in_err-partial_decode_many-clause-answer : goal.returns-in_err-partial_decode_many-clause-answer
returns-in_err-partial_decode_many-clause-answer g c =
    let p = err_from_is_err_and c.from_residual.result c.from_residual.ensures.1 in
    let e = c.in_err-partial_decode_many.field-0.0 in
    let stored = (g.H.BytesPartialDecoderTraits.state c.args.handle.now).value in
    rw (p.1, p.2) (λ h. absurd (never_refused stored c.args.ranges.now e c.requires.stored c.requires.inside (c.in_err-partial_decode_many.ensures.answer h)))

pub returns-then-is_empty-clause-counted : goal.returns-then-is_empty-clause-counted
returns-then-is_empty-clause-counted g c =
    none_asked c.args.ranges.now (g.H.BytesPartialDecoderTraits.calls c.args.handle.now) (sym c.is_empty.ensures ∙ c.if-is_empty.true)

pub returns-clause-counted : goal.returns-clause-counted
returns-clause-counted g c =
    let before = g.H.BytesPartialDecoderTraits.calls c.args.handle.now in
    c.in_ok-partial_decode_many.ensures.counted ∙ ap (λ (n : ℕ). after_reads n before) (sym (some_asked c.args.ranges.now (sym c.is_empty.ensures ∙ c.if-is_empty.false)))
