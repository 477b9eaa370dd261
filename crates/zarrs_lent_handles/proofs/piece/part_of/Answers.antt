use Rattle.std.proofs.Common.{◌≡◌, ℕ, ◌+◌, ◌-◌, ◌<◌, ◌≤◌, true, Some, None, is_some, length, ap, sym, ◌∙◌, arith}
use Rattle.std.specs.Option.{option_map}
use Rattle.std.proofs.lemmas.Bool.Decides.{nat_tests}
use Rattle.zarrs_lent_handles.specs.Pieces.{piece_seen, pieces_seen, piece_with, is_at_hand}
use Rattle.zarrs_lent_handles.proofs.LackingLemmas.{lacks_number}
use Rattle.zarrs_lent_handles.proofs.PieceLemmas.{has_it, part_is, ended, passes, range_at_hand, value_length}
use Rattle.zarrs_lent_handles.proofs.piece.part_of.Goals as goal

pub returns-then-count-piece-clause-sure : goal.returns-then-count-piece-clause-sure
returns-then-count-piece-clause-sure g c = λ all.
    let is : piece_with (pieces_seen c.args.pieces.now) c.start-start.result ≡ Some (piece_seen c.in-Some.piece) = sym c.piece_near.ensures.found ∙ ap (option_map piece_seen) c.in-Some.is in
    let end : ℕ = c.in-Some.piece.start + length c.in-Some.piece.bytes.now in
    let inside = has_it (pieces_seen c.args.pieces.now) c.start-start.result (piece_seen c.in-Some.piece) is in
    let at : is_some (piece_with (pieces_seen c.args.pieces.now) end) ≡ true = passes (is_at_hand (pieces_seen c.args.pieces.now)) c.args.range.now.start (c.args.range.now.end - c.args.range.now.start) end all
    (omega (arith, inside.0, inside.1, c.start-start.ensures.value))
    (omega (arith, inside.0, inside.1, c.start-start.ensures.value, c.end-end.ensures.value, c.if-count-piece.true)) in
    let none : piece_with (pieces_seen c.args.pieces.now) end ≡ None = ended c.args.len 0 c.start-start.result (pieces_seen c.args.pieces.now) (piece_seen c.in-Some.piece) c.requires.apart is in
    cc (at, none)

pub returns-clause-inside : goal.returns-clause-inside
returns-clause-inside g c =
    let is : piece_with (pieces_seen c.args.pieces.now) c.start-start.result ≡ Some (piece_seen c.in-Some.piece) = sym c.piece_near.ensures.found ∙ ap (option_map piece_seen) c.in-Some.is in
    let inside = has_it (pieces_seen c.args.pieces.now) c.start-start.result (piece_seen c.in-Some.piece) is in
    let same = part_is g.E.Elsewhere.elsewhere c.args.len c.start-start.result c.end-end.result (pieces_seen c.args.pieces.now) (piece_seen c.in-Some.piece) c.requires.apart is
    (omega (arith, c.start-start.ensures.value, c.end-end.ensures.value, c.end-end.ensures.ordered)) c.if-end-len.false
    (omega (arith, inside.0, inside.1, c.if-count-piece.false, c.start-start.ensures.value, c.end-end.ensures.value, c.end-end.ensures.ordered)) in
    rw (← c.start-start.ensures.value, ← c.end-end.ensures.value) (same, grind (arith, nat_tests, value_length g.E.Elsewhere.elsewhere c.args.len (pieces_seen c.args.pieces.now), c.if-end-len.false))

pub returns-clause-at_hand : goal.returns-clause-at_hand
returns-clause-at_hand g c =
    let is : piece_with (pieces_seen c.args.pieces.now) c.start-start.result ≡ Some (piece_seen c.in-Some.piece) = sym c.piece_near.ensures.found ∙ ap (option_map piece_seen) c.in-Some.is in
    let inside = has_it (pieces_seen c.args.pieces.now) c.start-start.result (piece_seen c.in-Some.piece) is in
    rw (← c.start-start.ensures.value, ← c.end-end.ensures.value) (range_at_hand c.args.len c.start-start.result c.end-end.result (pieces_seen c.args.pieces.now) (piece_seen c.in-Some.piece) c.requires.apart is
    (omega (arith, inside.0, inside.1, c.if-count-piece.false, c.start-start.ensures.value, c.end-end.ensures.value, c.end-end.ensures.ordered)))

pub returns-then-count-piece-clause-lacks : goal.returns-then-count-piece-clause-lacks
returns-then-count-piece-clause-lacks g c = λ _.
    let ps = pieces_seen c.args.pieces.now in
    let range = c.args.range.now in
    let is : piece_with ps c.start-start.result ≡ Some (piece_seen c.in-Some.piece) = sym c.piece_near.ensures.found ∙ ap (option_map piece_seen) c.in-Some.is in
    let end : ℕ = c.in-Some.piece.start + length c.in-Some.piece.bytes.now in
    let inside = has_it ps c.start-start.result (piece_seen c.in-Some.piece) is in
    let none : piece_with ps end ≡ None = ended c.args.len 0 c.start-start.result ps (piece_seen c.in-Some.piece) c.requires.apart is in
    let above : range.start ≤ end = omega (arith, inside.0, inside.1, c.start-start.ensures.value) in
    let below : end < range.end = omega (arith, inside.0, inside.1, c.start-start.ensures.value, c.end-end.ensures.value, c.end-end.ensures.ordered, c.if-count-piece.true) in
    let held : end < c.args.len = omega (arith, below, c.end-end.ensures.value, c.if-end-len.false) in
    lacks_number c.args.len ps range end above below held none
