use Rattle.std.proofs.Common.{ℕ, ◌<◌, List, refl, subst}
use Rattle.std.specs.List.{All}
use Rattle.std.proofs.lemmas.Result.{err_from_is_err_and}
use Rattle.zarrs_chunk.specs.Indexer.{selection_of}
use Rattle.zarrs_json.specs.Header.{header_form}
use Rattle.zarrs_json.specs.HeaderRead.{header_seen}
use Rattle.zarrs_lent_handles.specs.Pieces.{pieces_seen}
use Rattle.zarrs_c_calls.specs.Calls.{known_header}
use Rattle.zarrs_c_calls.specs.LackingRanges.{IsSoundForm}
use Rattle.zarrs_c_calls.proofs.RangesLacking.{all_due, all_refused}
use Rattle.zarrs_c_calls.proofs.rounds.lacking_fetched.Goals as goal

pub returns : goal.returns
returns c =
    let f = c.args.fetched.now in
    let header = header_seen c.args.form.now in
    let sound : IsSoundForm (header_form header) = record { mappings = c.chain_is_sound.ensures.mappings.mappings; positive = subst (λ (sizes : List ℕ). All (λ size. 0 < size) sizes) c.as_slice.ensures.value c.as_slice.ensures.positive } in
    record {
      answer = all_due (known_header c.args.form.now) f.len f.ranges.now f.bytes.now c.args.tuples c.args.numbers.now header (selection_of c.in_ok-indexer.indexer) (pieces_seen c.in_ok-pieces.pieces.items) refl c.in_ok-indexer.ensures.answer c.in_ok-pieces.ensures.answer
          c.in_ok-lacking_apart.field-0.items (c.in_ok-lacking_apart.ensures.answer sound);
    }

pub returns-in_err-lacking_apart : goal.returns-in_err-lacking_apart
returns-in_err-lacking_apart c =
    let f = c.args.fetched.now in
    let header = header_seen c.args.form.now in
    let sound : IsSoundForm (header_form header) = record { mappings = c.chain_is_sound.ensures.mappings.mappings; positive = subst (λ (sizes : List ℕ). All (λ size. 0 < size) sizes) c.as_slice.ensures.value c.as_slice.ensures.positive } in
    let p = err_from_is_err_and c.from_residual-in_err-lacking_apart.result c.from_residual-in_err-lacking_apart.ensures.1 in
    let error = c.in_err-lacking_apart.field-0.0 in
    record {
      answer = rw (p.1, p.2) (all_refused (known_header c.args.form.now) f.len f.ranges.now f.bytes.now c.args.tuples c.args.numbers.now header (selection_of c.in_ok-indexer.indexer) (pieces_seen c.in_ok-pieces.pieces.items) refl c.in_ok-indexer.ensures.answer c.in_ok-pieces.ensures.answer
          error (c.in_err-lacking_apart.ensures.answer sound));
    }
