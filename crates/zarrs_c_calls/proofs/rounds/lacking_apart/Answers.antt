use Rattle.std.proofs.Common.{◌≡◌, Some, ap, sym, ◌∙◌, rules}
use Rattle.std.proofs.lemmas.Result.{err_from_is_err_and}
use Rattle.zarrs_chunk.specs.Indexer.{selection_of}
use Rattle.zarrs_json.specs.HeaderRead.{header_seen}
use Rattle.zarrs_lent_handles.specs.LentHandle.{lent_value}
use Rattle.zarrs_lent_handles.specs.Pieces.{pieces_seen, zeros}
use Rattle.zarrs_lent_handles.specs.PiecesHandle.{pieces_state}
use Rattle.zarrs_c_calls.specs.LackingByte.{whole_value}
use Rattle.zarrs_c_calls.specs.Reads.{form_seen}
use Rattle.zarrs_c_calls.proofs.FetchedLemmas.{made_is}
use Rattle.zarrs_c_calls.proofs.RangesLacking.{whole_due, whole_refused}
use Rattle.zarrs_c_calls.proofs.rounds.lacking_apart.Goals as goal

pub returns-in_ok-read_part-in-Some : goal.returns-in_ok-read_part-in-Some
returns-in_ok-read_part-in-Some c = record {
  answer = λ sound.
      let pieces = pieces_seen c.args.pieces.items in
      let is = made_is zeros c.args.len pieces (pieces_state c.in_ok-handle.handle) c.in_ok-handle.ensures.answer in
      let whole : whole_value c.args.len pieces ≡ Some c.in-Some.value.now = ap (λ items. whole_value c.args.len (pieces_seen items)) (sym c.as_slice.ensures.value) ∙ sym c.in-Some.ensures.value in
      whole_due (form_seen c.args.form.now) (header_seen c.args.form.now).data_type c.args.len pieces c.in-Some.value.now (lent_value c.new-in-Some.result) (selection_of c.args.indexer.now) c.in_ok-read_part-in-Some.field-0 _ is.stand_apart whole c.new-in-Some.ensures.made
      c.in_ok-read_part-in-Some.ensures.answer (search rules);
}

pub returns-in_err-read_part-in-Some : goal.returns-in_err-read_part-in-Some
returns-in_err-read_part-in-Some c = record {
  answer = λ sound.
      let pieces = pieces_seen c.args.pieces.items in
      let is = made_is zeros c.args.len pieces (pieces_state c.in_ok-handle.handle) c.in_ok-handle.ensures.answer in
      let whole : whole_value c.args.len pieces ≡ Some c.in-Some.value.now = ap (λ items. whole_value c.args.len (pieces_seen items)) (sym c.as_slice.ensures.value) ∙ sym c.in-Some.ensures.value in
      let p = err_from_is_err_and c.from_residual-in_err-read_part-in-Some.result c.from_residual-in_err-read_part-in-Some.ensures.1 in
      rw (p.1, p.2) (whole_refused (form_seen c.args.form.now) (header_seen c.args.form.now).data_type c.args.len pieces c.in-Some.value.now (lent_value c.new-in-Some.result) (selection_of c.args.indexer.now) c.in_err-read_part-in-Some.field-0.0 is.stand_apart whole c.new-in-Some.ensures.made
      c.in_err-read_part-in-Some.ensures.answer c.in_err-read_part-in-Some.ensures.no_fault);
}
