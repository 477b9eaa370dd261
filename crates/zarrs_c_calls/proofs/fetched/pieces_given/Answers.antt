use Rattle.std.proofs.Common.{◌≡◌, ◌+◌, ◌*◌, ◌/◌, ◌%◌, ◌<◌, [], ◌∷◌, length, drop, get_or, refl, ap, ◌∙◌, arith}
use Rattle.std.proofs.lemmas.List.{map-append, take_rest}
use Rattle.zarrs_lent_handles.specs.Pieces.{piece_seen, pieces_seen}
use Rattle.zarrs_c_calls.specs.Fetched.{pieces_given}
use Rattle.zarrs_c_calls.proofs.GivenPieces.{pieces_go_on, pieces_odd}
use Rattle.zarrs_c_calls.proofs.fetched.pieces_given.Goals as goal

pub loop-at-preserved : goal.loop-at-preserved
loop-at-preserved c =
    let ranges = c.args.ranges.now in
    let left = c.loop-at.left.now in
    let at = c.loop-at.at in
    let bytes = c.in_ok-bytes.bytes.now in
    let known : 2 * at + 1 < length ranges = omega (arith, c.loop-at-test.true) in
    pieces_go_on ranges left at (get_or ranges (2 * at) 0) (get_or ranges (2 * at + 1) 0) (pieces_seen c.loop-at.pieces.items) (pieces_given ranges c.args.fetched.now) known refl refl c.loop-at.invariant bytes _ (pieces_seen c.push.new.self.items) c.in_ok-bytes.ensures.answer
    (take_rest left (length bytes) ∙ ap (λ n. drop n left) c.in_ok-bytes.ensures.count) (ap pieces_seen c.in_ok-push.ensures.items ∙ map-append piece_seen c.loop-at.pieces.items (_ ∷ []))

pub returns-then-ranges-ne0 : goal.returns-then-ranges-ne0
returns-then-ranges-ne0 c =
    let ranges = c.args.ranges.now in
    let half : c.loop-at.at ≡ length ranges / 2 = omega (arith, c.loop-at-test.false, c.loop-at.auto.at-end) in
    let odd : length ranges % 2 ≡ 1 = omega (arith, c.if-ranges-ne0.true) in
    record { answer = λ _. pieces_odd ranges c.loop-at.left.now c.loop-at.at (pieces_seen c.loop-at.pieces.items) (pieces_given ranges c.args.fetched.now) half c.loop-at.invariant odd }
