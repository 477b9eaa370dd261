-- The pieces of ranges and their bytes, one after another.
use Rattle.std.proofs.Common.{◌≡◌, ℕ, ◌+◌, ◌-◌, ◌*◌, ◌/◌, ◌%◌, ◌<◌, List, [], ◌∷◌, ◌++◌, length, drop, get_or, Result, Ok, Err, refl, sym, ap, ◌∙◌, arith, append_assoc, length-drop}
use Rattle.std.proofs.lemmas.List.{drop_more}
use Rattle.zarrs_chunk.specs.Answer.{◌>>=◌, seen}
use Rattle.zarrs_lent_handles.specs.Pieces.{PlainPiece}
use Rattle.zarrs_c_calls.specs.Fetched.{front_bytes, pieces_given}
use Rattle.zarrs_c_calls.specs.declared.cause.Cause.{Cause}
use Rattle.zarrs_c_calls.specs.declared.cause.Cause.TheVariants.{Argument}

-- a piece that begins here
abbrev piece : ℕ → List ℕ → PlainPiece
piece start bytes = record { start = start; bytes = bytes }

-- the piece of a range, and those behind it
abbrev then_pieces : ℕ → Result (List ℕ) Cause → Result (List PlainPiece) Cause → Result (List PlainPiece) Cause
then_pieces start front more = front >>= λ bytes. more >>= λ pieces. Ok (piece start bytes ∷ pieces)

-- the first range of those that are left
pieces_more : (ranges bytes : List ℕ) (at start end : ℕ) → 2 * at + 1 < length ranges → get_or ranges (2 * at) 0 ≡ start → get_or ranges (2 * at + 1) 0 ≡ end
    → pieces_given (drop (2 * at) ranges) bytes ≡ then_pieces start (front_bytes start end bytes) (pieces_given (drop (2 * (at + 1)) ranges) (drop (end - start) bytes))
pieces_more ranges bytes at start end l s e =
    let next : 2 * at + 1 + 1 ≡ 2 * (at + 1) = omega arith in
    ap (λ rs. pieces_given rs bytes)
    (drop_more ranges (2 * at) 0 (omega arith)
    ∙ ap (λ rs. get_or ranges (2 * at) 0 ∷ rs) (drop_more ranges (2 * at + 1) 0 l)
    ∙ ap (λ n. get_or ranges (2 * at) 0 ∷ get_or ranges (2 * at + 1) 0 ∷ drop n ranges) next
    ∙ ap (λ x. x ∷ get_or ranges (2 * at + 1) 0 ∷ drop (2 * (at + 1)) ranges) s
    ∙ ap (λ x. start ∷ x ∷ drop (2 * (at + 1)) ranges) e)

-- one piece more is behind those so far
seen_more : (ps : List PlainPiece) (start : ℕ) (bytes : List ℕ) (more : Result (List PlainPiece) Cause)
    → seen (λ rest. ps ++ rest) (then_pieces start (Ok bytes) more) ≡ seen (λ rest. (ps ++ piece start bytes ∷ []) ++ rest) more
seen_more ps start bytes (Ok pieces) = ap (λ (x : List PlainPiece). let r : Result (List PlainPiece) Cause = Ok x in r) (sym (append_assoc ps (piece start bytes ∷ []) pieces))
seen_more ps start bytes (Err cause) = refl

-- with these pieces in front
abbrev pub in_front : List PlainPiece → Result (List PlainPiece) Cause → Result (List PlainPiece) Cause
in_front before more = seen (λ pieces. before ++ pieces) more

module _ (ranges left : List ℕ) (at start end : ℕ) (before : List PlainPiece) (all : Result (List PlainPiece) Cause) (known : 2 * at + 1 < length ranges) (starts : get_or ranges (2 * at) 0 ≡ start) (ends : get_or ranges (2 * at + 1) 0 ≡ end)
    (so_far : in_front before (pieces_given (drop (2 * at) ranges) left) ≡ all) where
  abbrev more : Result (List PlainPiece) Cause
  more = pieces_given (drop (2 * (at + 1)) ranges) (drop (end - start) left)

  by_front : in_front before (then_pieces start (front_bytes start end left) more) ≡ all
  by_front = ap (in_front before) (sym (pieces_more ranges left at start end known starts ends)) ∙ so_far

  -- a piece more, and those of the ranges behind it
  pub pieces_go_on : (bytes rest : List ℕ) (after : List PlainPiece) → Ok bytes ≡ front_bytes start end left → rest ≡ drop (end - start) left → after ≡ before ++ record { start = start; bytes = bytes } ∷ []
      → in_front after (pieces_given (drop (2 * (at + 1)) ranges) rest) ≡ all
  pieces_go_on bytes rest after front behind one =
      ap (λ (r : List ℕ). in_front after (pieces_given (drop (2 * (at + 1)) ranges) r)) behind
      ∙ ap (λ (ps : List PlainPiece). in_front ps more) one
      ∙ sym (seen_more before start bytes more)
      ∙ ap (λ (r : Result (List ℕ) Cause). in_front before (then_pieces start r more)) front
      ∙ by_front

-- ---- behind the last range

ended_odd : (rest bytes : List ℕ) → length rest ≡ 1 → pieces_given rest bytes ≡ Err Argument
ended_odd [] bytes l = absurd (omega (arith, l))
ended_odd (r ∷ []) bytes l = refl
ended_odd (r ∷ s ∷ rest) bytes l = absurd (omega (arith, l))

module _ (ranges left : List ℕ) (count : ℕ) (before : List PlainPiece) (all : Result (List PlainPiece) Cause) (half : count ≡ length ranges / 2) (so_far : in_front before (pieces_given (drop (2 * count) ranges) left) ≡ all) where
  -- a number over
  pub pieces_odd : length ranges % 2 ≡ 1 → all ≡ Err Argument
  pieces_odd odd =
      let over : length (drop (2 * count) ranges) ≡ 1 = omega (arith, length-drop (2 * count) ranges, half, odd) in
      sym so_far ∙ ap (in_front before) (ended_odd (drop (2 * count) ranges) left over)
