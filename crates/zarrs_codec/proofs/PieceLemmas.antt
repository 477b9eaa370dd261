-- Writing pieces of bytes.
use Rattle.std.proofs.Common.{◌≡◌, ℕ, ◌+◌, ◌-◌, ◌<◌, ◌≤◌, ◌^◌, Bool, true, false, ◌&&◌, nat_lt, ◌==◌, List, ◌++◌, length, take, drop, get_or, max, Result, Err, refl, sym, ap, ◌∙◌, arith, drop-drop, length-append, length-take-le, length-drop}
use Rattle.std.specs.List.{list_all, range_with_len}
use Rattle.std.proofs.lemmas.Bool.Decides.{nat_tests}
use Rattle.std.proofs.lemmas.List.{drop_more, take-append-drop}
use Rattle.std.proofs.lemmas.List.FromFn.{length-range_with_len}
use Rattle.zarrs_chunk.specs.Answer.{◌>>=◌, demand}
use Rattle.zarrs_chunk.specs.Runs.{joined_runs}
use Rattle.zarrs_chunk.specs.declared.codec_error.CodecError.{CodecError}
use Rattle.zarrs_chunk.specs.declared.codec_error.CodecError.TheVariants.{Overflow, InvalidBytesLength}
use Rattle.zarrs_array_bytes.specs.Update.{update}
use Rattle.zarrs_array_bytes.proofs.WriteLemmas.{update-append, update-run}
use Rattle.zarrs_codec.specs.BytePieces.{end_of, furthest_end, pieces_fit}

-- bytes written from a number on stand between those before and those behind
pub update-from : (old new : List ℕ) (at : ℕ) → at + length new ≤ length old
    → update old (range_with_len at (length new)) new ≡ take at old ++ (new ++ drop (at + length new) old)
update-from old new at room =
    let n : ℕ = length new in
    let mid : List ℕ = take n (drop at old) in
    let back : List ℕ = drop n (drop at old) in
    let front-len : length (take at old) ≡ at = length-take-le at old (omega arith) in
    let mid-len : length mid ≡ length new = length-take-le n (drop at old) (omega (arith, length-drop at old)) in
    let whole : take at old ++ (mid ++ back) ≡ old = ap (λ xs. take at old ++ xs) (take-append-drop n (drop at old)) ∙ take-append-drop at old in
    ap (λ xs. update xs (range_with_len at n) new) (sym whole)
    ∙ update-run (take at old) mid back new at front-len mid-len
    ∙ ap (λ xs. take at old ++ (new ++ xs)) (drop-drop n at old)

-- how many bytes are left from a piece on
pub length-pieces_from : (pieces : List (ℕ × ℕ)) (i : ℕ) → i < length pieces
    → length (joined_runs (drop i pieces)) ≡ (get_or pieces i (0, 0)).1 + length (joined_runs (drop (i + 1) pieces))
length-pieces_from pieces i l =
    let piece = get_or pieces i (0, 0) in
    let rest = joined_runs (drop (i + 1) pieces) in
    ap (λ ps. length (joined_runs ps)) (drop_more pieces i (0, 0) l)
    ∙ length-append (range_with_len piece.0 piece.1) rest
    ∙ ap (λ n. n + length rest) (length-range_with_len piece.0 piece.1)

-- one piece is written, and those behind it are left
pub update-pieces_from : (value bytes : List ℕ) (pieces : List (ℕ × ℕ)) (i done : ℕ) → i < length pieces → done + (get_or pieces i (0, 0)).1 ≤ length bytes
    → update value (joined_runs (drop i pieces)) (drop done bytes)
    ≡ update (update value (range_with_len (get_or pieces i (0, 0)).0 (get_or pieces i (0, 0)).1) (take (get_or pieces i (0, 0)).1 (drop done bytes))) (joined_runs (drop (i + 1) pieces)) (drop (done + (get_or pieces i (0, 0)).1) bytes)
update-pieces_from value bytes pieces i done l room =
    let piece : ℕ × ℕ = get_or pieces i (0, 0) in
    let numbers : List ℕ = range_with_len piece.0 piece.1 in
    let rest : List ℕ = joined_runs (drop (i + 1) pieces) in
    let here : List ℕ = take piece.1 (drop done bytes) in
    let here-len : length here ≡ piece.1 = length-take-le piece.1 (drop done bytes) (omega (arith, length-drop done bytes)) in
    ap (λ ps. update value (joined_runs ps) (drop done bytes)) (drop_more pieces i (0, 0) l)
    ∙ ap (λ bs. update value (numbers ++ rest) bs) (sym (take-append-drop piece.1 (drop done bytes)))
    ∙ update-append value numbers rest here (drop piece.1 (drop done bytes)) (length-range_with_len piece.0 piece.1 ∙ sym here-len)
    ∙ ap (λ bs. update (update value numbers here) rest bs) (drop-drop piece.1 done bytes)

-- the ends that are left are no further than all
pub furthest_end-from : (pieces : List (ℕ × ℕ)) (i : ℕ) → i < length pieces
    → furthest_end (drop i pieces) ≡ max (end_of (get_or pieces i (0, 0)).0 (get_or pieces i (0, 0)).1) (furthest_end (drop (i + 1) pieces))
furthest_end-from pieces i l = ap furthest_end (drop_more pieces i (0, 0) l)

-- the ends that are left, one piece on
pub ends-from : (pieces : List (ℕ × ℕ)) (i : ℕ) → i < length pieces → (get_or pieces i (0, 0)).0 + (get_or pieces i (0, 0)).1 < 2 ^ 64
    → list_all (λ piece. nat_lt (piece.0 + piece.1) (2 ^ 64)) (drop i pieces) ≡ list_all (λ piece. nat_lt (piece.0 + piece.1) (2 ^ 64)) (drop (i + 1) pieces)
ends-from pieces i l fits =
    let piece : ℕ × ℕ = get_or pieces i (0, 0) in
    let ends : (ℕ × ℕ) → Bool = λ piece. nat_lt (piece.0 + piece.1) (2 ^ 64) in
    let here : nat_lt (piece.0 + piece.1) (2 ^ 64) ≡ true = grind (arith, nat_tests) in
    ap (list_all ends) (drop_more pieces i (0, 0) l) ∙ ap (λ b. b && list_all ends (drop (i + 1) pieces)) here

overflows : (ends count : Bool) (rest : Result (Unit {0}) CodecError) → count ≡ false → (demand ends Overflow >>= λ _. demand count Overflow >>= λ _. rest) ≡ Err Overflow
overflows true true rest h = absurd (cc)
overflows true false rest h = refl
overflows false count rest h = refl

-- so many bytes can't be counted
pub too_many : (pieces : List (ℕ × ℕ)) (count : ℕ) → 2 ^ 64 ≤ length (joined_runs pieces) → pieces_fit pieces count ≡ Err Overflow
too_many pieces count h =
    let long : nat_lt (length (joined_runs pieces)) (2 ^ 64) ≡ false = grind (arith, nat_tests) in
    overflows (list_all (λ piece. nat_lt (piece.0 + piece.1) (2 ^ 64)) pieces) (nat_lt (length (joined_runs pieces)) (2 ^ 64)) (demand (count == length (joined_runs pieces)) (InvalidBytesLength count (length (joined_runs pieces)))) long

-- what the write of a piece of joined bytes leaves, by the piece's own count
pub piece_written : (value bytes : List ℕ) (start count done : ℕ) {new : List ℕ} → done + count ≤ length bytes
    → new ≡ update value (range_with_len start (length (take (done + count - done) (drop done bytes)))) (take (done + count - done) (drop done bytes))
    → new ≡ update value (range_with_len start count) (take count (drop done bytes))
piece_written value bytes start count done room e =
    let same : done + count - done ≡ count = omega arith in
    let long : length (take count (drop done bytes)) ≡ count = length-take-le count (drop done bytes) (omega (arith, length-drop done bytes)) in
    e ∙ ap (λ n. update value (range_with_len start (length (take n (drop done bytes)))) (take n (drop done bytes))) same
    ∙ ap (λ n. update value (range_with_len start n) (take count (drop done bytes))) long
