use Rattle.std.proofs.Common.{◌≡◌, ◌≤◌, ◌-◌, arith, sym}
use Rattle.std.proofs.lemmas.Result.{err_from_is_err_and}
use Rattle.zarrs_codec.specs.StorageState.{value_or_empty}
use Rattle.zarrs_chain_meaning.specs.vlen.PlainVlen.{plain_form}
use Rattle.zarrs_plain_vlen.proofs.IndexOffsets.{refused_there}
use Rattle.zarrs_plain_vlen.proofs.index.read_index.Goals as goal

pub returns-in_err-offsets-clause-answer : goal.returns-in_err-offsets-clause-answer
returns-in_err-offsets-clause-answer g c =
    let p = err_from_is_err_and c.from_residual.result c.from_residual.ensures.1 in
    let e = c.in_err-offsets.field-0.0 in
    let value = value_or_empty (g.H.BytesPartialDecoderTraits.state c.args.handle.now).value in
    let index = c.args.index in
    let size = c.end.result - c.start.result in
    let sized : size ≡ index.end - index.start = omega (arith, c.end.ensures.value, c.start.ensures.value) in
    let ordered : index.start ≤ index.end = omega (arith, c.end.ensures.ordered, c.end.ensures.value) in
    rw (p.1, p.2) (λ _. refused_there (plain_form c.args.codec) c.args.count size value index e sized ordered c.requires.inside (sym c.in_err-offsets.ensures.answer))
