use Rattle.std.proofs.Common.{refl}
use Rattle.std.proofs.lemmas.Result.{err_from_is_err_and}
use Rattle.zarrs_chunk.specs.Indexer.{selection_of}
use Rattle.zarrs_json.specs.HeaderRead.{header_seen}
use Rattle.zarrs_lent_handles.specs.Elsewhere.{own_bytes}
use Rattle.zarrs_lent_handles.specs.Pieces.{pieces_seen}
use Rattle.zarrs_c_calls.specs.Calls.{known_header}
use Rattle.zarrs_c_calls.proofs.FetchedDue.{alike_due, alike_refused, pieces_due}
use Rattle.zarrs_c_calls.proofs.fetched.read_fetched.Goals as goal

pub returns-clause-answer : goal.returns-clause-answer
returns-clause-answer g c =
    let f = c.args.fetched.now in
    pieces_due (own_bytes g.value) (known_header c.args.form.now) f.len f.ranges.now f.bytes.now c.args.tuples c.args.numbers.now (header_seen c.args.form.now) refl (selection_of c.in_ok-indexer.indexer) (pieces_seen c.in_ok-pieces.pieces.items) c.in_ok-indexer.ensures.answer c.in_ok-pieces.ensures.answer
    c.in_ok-elements.elements c.in_ok-elements.ensures.answer c.in_ok-elements.ensures.tight

pub returns-clause-alike : goal.returns-clause-alike
returns-clause-alike g c = λ value has.
    let f = c.args.fetched.now in
    alike_due (own_bytes g.value) (known_header c.args.form.now) f.len f.ranges.now f.bytes.now c.args.tuples c.args.numbers.now (header_seen c.args.form.now) refl (selection_of c.in_ok-indexer.indexer) (pieces_seen c.in_ok-pieces.pieces.items) c.in_ok-indexer.ensures.answer c.in_ok-pieces.ensures.answer
    value c.in_ok-elements.elements has c.in_ok-elements.ensures.answer c.in_ok-elements.ensures.tight

pub returns-in_err-elements-clause-alike : goal.returns-in_err-elements-clause-alike
returns-in_err-elements-clause-alike g c = λ value has.
    let f = c.args.fetched.now in
    let p = err_from_is_err_and c.from_residual-in_err-elements.result c.from_residual-in_err-elements.ensures.1 in
    let e = c.in_err-elements.field-0.0 in
    rw (p.1, p.2) (alike_refused (own_bytes g.value) (known_header c.args.form.now) f.len f.ranges.now f.bytes.now c.args.tuples c.args.numbers.now (header_seen c.args.form.now) refl (selection_of c.in_ok-indexer.indexer) (pieces_seen c.in_ok-pieces.pieces.items) c.in_ok-indexer.ensures.answer c.in_ok-pieces.ensures.answer
    value e has c.in_err-elements.ensures.lacking c.in_err-elements.ensures.answer)
