use Rattle.std.proofs.Common.{◌≡◌, true, List, subst, arith}
use Rattle.zarrs_chunk.specs.Answer.{is_fault}
use Rattle.zarrs_lent_handles.specs.Lacking.{AreLacking}
use Rattle.zarrs_lent_handles.specs.Pieces.{pieces_seen}
use Rattle.zarrs_lent_handles.specs.declared.piece.Piece.{Piece}
use Rattle.zarrs_lent_handles.proofs.LackingLemmas.{all_lacking, some_lacking}
use Rattle.zarrs_lent_handles.proofs.pieces_handle.PiecesHandle.counted.Goals as goal

pub invariant_of-self-clause-apart : goal.invariant_of-self-clause-apart
invariant_of-self-clause-apart g c = c.args.self.now.apart

pub invariant_of-self-clause-lack : goal.invariant_of-self-clause-lack
invariant_of-self-clause-lack g c =
    let len = c.args.self.now.len in
    let asked = c.args.asked.now in
    let lacking = c.in_ok-lacking-in-Err-Storage.lacking.items in
    all_lacking len (pieces_seen c.args.self.now.pieces.items) asked lacking
    (subst (λ (ps : List Piece). AreLacking len (pieces_seen ps) asked lacking) c.as_slice.ensures.value c.in_ok-lacking-in-Err-Storage.ensures.lacking)

pub invariant_of-self-clause-failed : goal.invariant_of-self-clause-failed
invariant_of-self-clause-failed g c =
    let len = c.args.self.now.len in
    let asked = c.args.asked.now in
    let lacking = c.in_ok-lacking-in-Err-Storage.lacking.items in
    let failed : is_fault c.args.answer ≡ true = grind (arith, c.in-Err-Storage.is, c.in-Err-Storage.field-0-is) in
    some_lacking len (pieces_seen c.args.self.now.pieces.items) asked lacking
    (subst (λ (ps : List Piece). AreLacking len (pieces_seen ps) asked lacking) c.as_slice.ensures.value c.in_ok-lacking-in-Err-Storage.ensures.lacking)
    (c.requires.lacks failed)
