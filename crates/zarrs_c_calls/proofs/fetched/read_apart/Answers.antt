use Rattle.std.proofs.Common.{◌≡◌, Some, None, refl, ap, sym, ◌∙◌}
use Rattle.zarrs_chunk.specs.Answer.{is_fault, seen}
use Rattle.zarrs_chunk.specs.Indexer.{selection_of}
use Rattle.zarrs_json.specs.HeaderRead.{header_seen}
use Rattle.zarrs_lent_handles.specs.Pieces.{pieces_seen}
use Rattle.zarrs_lent_handles.specs.PiecesHandle.{state_around}
use Rattle.zarrs_c_calls.specs.LackingByte.{whole_value}
use Rattle.zarrs_c_calls.specs.Reads.{form_seen}
use Rattle.zarrs_c_calls.proofs.FetchedLemmas.{made_is}
use Rattle.zarrs_c_calls.proofs.LackingLemmas.{made_lacks, whole_read}
use Rattle.zarrs_c_calls.proofs.fetched.read_apart.Goals as goal

pub returns-in-Some-clause-answer : goal.returns-in-Some-clause-answer
returns-in-Some-clause-answer g c =
    let elsewhere = g.E.Elsewhere.elsewhere in
    let pieces = pieces_seen c.args.pieces.items in
    let is = made_is elsewhere c.args.len pieces (state_around elsewhere c.in_ok-handle.handle) c.in_ok-handle.ensures.answer in
    let whole : whole_value c.args.len pieces ≡ Some c.in-Some.value.now = ap (λ items. whole_value c.args.len (pieces_seen items)) (sym c.as_slice.ensures.value) ∙ sym c.in-Some.ensures.value in
    whole_read elsewhere (form_seen c.args.form.now) (header_seen c.args.form.now).data_type c.args.len pieces c.in-Some.value.now (Some c.in-Some.value.now) (selection_of c.args.indexer.now) (seen g.T.FromElements.held c.read_whole.result) is.stand_apart whole refl
    c.read_whole.ensures.answer

pub returns-in-None-clause-lacking : goal.returns-in-None-clause-lacking
returns-in-None-clause-lacking g c =
    let elsewhere = g.E.Elsewhere.elsewhere in
    let pieces = pieces_seen c.args.pieces.items in
    let is = made_is elsewhere c.args.len pieces (state_around elsewhere c.in_ok-handle.handle) c.in_ok-handle.ensures.answer in
    let none : whole_value c.args.len pieces ≡ None = ap (λ items. whole_value c.args.len (pieces_seen items)) (sym c.as_slice.ensures.value) ∙ sym c.in-None.ensures.value in
    made_lacks elsewhere (form_seen c.args.form.now) c.args.len pieces (state_around elsewhere c.in_ok-handle.handle) (selection_of c.args.indexer.now) (is_fault (seen g.T.FromElements.held c.read_over.result)) is none c.read_over.ensures.sure
