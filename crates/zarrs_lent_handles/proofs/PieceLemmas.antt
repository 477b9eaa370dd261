-- Pieces in order, and the bytes that they have.
use Rattle.std.proofs.Common.{◌≡◌, ℕ, zero, suc, ◌+◌, ◌-◌, ◌<◌, ◌≤◌, Bool, true, is_some, Some, None, List, [], ◌∷◌, length, take, drop, get_or, refl, sym, ap, ◌∙◌, arith}
use Rattle.std.specs.List.{between, list_all, range_with_len}
use Rattle.std.proofs.lemmas.Bool.Decides.{nat_tests}
use Rattle.std.proofs.lemmas.List.{ext_get_or}
use Rattle.std.proofs.Math.Seq.{take-length}
use Rattle.std.proofs.lemmas.List.Edits.{get_or-between, length-between}
use Rattle.std.proofs.lemmas.List.FromFn.{get_or-map-range_with_len, length-map-range_with_len}
use Rattle.zarrs_lent_handles.specs.declared.piece.Piece.{Piece}
use Rattle.zarrs_lent_handles.specs.Pieces.{PlainPiece, piece_seen, pieces_seen, piece_with, are_apart, is_at_hand, byte_around, value_around, HaveFrom}
use Rattle.zarrs_codec.proofs.Fences.{range_passes}

-- no piece has a byte before the first one
pub none_below : (len free n : ℕ) (ps : List PlainPiece) → are_apart len free ps ≡ true → n < free → piece_with ps n ≡ None
none_below len free n [] apart l = refl
none_below len free n (p ∷ ps) apart l = grind (arith, nat_tests, none_below len (p.start + length p.bytes + 1) n ps)

-- a piece begins no sooner than they may
begin_later : (len free k : ℕ) (ps : List PlainPiece) (d : PlainPiece) → are_apart len free ps ≡ true → k < length ps → free ≤ (get_or ps k d).start
begin_later len free k [] d apart l = absurd (omega arith)
begin_later len free zero (p ∷ ps) d apart l = grind (arith, nat_tests)
begin_later len free (suc k) (p ∷ ps) d apart l =
    let rest : are_apart len (p.start + length p.bytes + 1) ps ≡ true = grind (arith, nat_tests) in
    let first : free ≤ p.start = grind (arith, nat_tests) in
    omega (arith, first, begin_later len (p.start + length p.bytes + 1) k ps d rest (omega arith))

-- what the piece that has a byte is
pub has_it : (ps : List PlainPiece) (s : ℕ) (p : PlainPiece) → piece_with ps s ≡ Some p → (p.start ≤ s) × (s - p.start < length p.bytes)
has_it [] s p is = cc
has_it (q ∷ ps) s p is = grind (arith, nat_tests, has_it ps s p)

-- a piece that has a byte has those up to its end, and no other piece has them
pub same_piece : (len free s n : ℕ) (ps : List PlainPiece) (p : PlainPiece) → are_apart len free ps ≡ true → piece_with ps s ≡ Some p → s ≤ n → n < p.start + length p.bytes → piece_with ps n ≡ Some p
same_piece len free s n [] p apart is above below = cc
same_piece len free s n (q ∷ ps) p apart is above below = grind (arith, nat_tests, none_below len (q.start + length q.bytes + 1) s ps, same_piece len (q.start + length q.bytes + 1) s n ps p)

-- no piece has the byte behind a piece
pub ended : (len free s : ℕ) (ps : List PlainPiece) (p : PlainPiece) → are_apart len free ps ≡ true → piece_with ps s ≡ Some p → piece_with ps (p.start + length p.bytes) ≡ None
ended len free s [] p apart is = cc
ended len free s (q ∷ ps) p apart is = grind (arith, nat_tests, none_below len (q.start + length q.bytes + 1) (q.start + length q.bytes) ps, none_below len (q.start + length q.bytes + 1) s ps, ended len (q.start + length q.bytes + 1) s ps p, has_it ps s p)

pub value_length : (elsewhere : ℕ → ℕ) (len : ℕ) (ps : List PlainPiece) → length (value_around elsewhere len ps) ≡ len
value_length elsewhere len ps = length-map-range_with_len (byte_around elsewhere ps) 0 len

-- the bytes of a range are those of the piece that has its first one, up to the piece's end
pub part_is : (elsewhere : ℕ → ℕ) (len s e : ℕ) (ps : List PlainPiece) (p : PlainPiece) → are_apart len 0 ps ≡ true → piece_with ps s ≡ Some p → s ≤ e → e ≤ len → e ≤ p.start + length p.bytes
    → between (s - p.start) (s - p.start + (e - s)) p.bytes ≡ between s e (value_around elsewhere len ps)
part_is elsewhere len s e ps p apart is order inside held =
    let at : (p.start ≤ s) × (s - p.start < length p.bytes) = has_it ps s p is in
    let size : length (between (s - p.start) (s - p.start + (e - s)) p.bytes) ≡ s - p.start + (e - s) - (s - p.start) = length-between p.bytes (s - p.start) (s - p.start + (e - s)) (omega (arith, at)) in
    let wanted : length (between s e (value_around elsewhere len ps)) ≡ e - s = length-between (value_around elsewhere len ps) s e (rw (value_length elsewhere len ps) inside) in
    ext_get_or 0 (between (s - p.start) (s - p.start + (e - s)) p.bytes) (between s e (value_around elsewhere len ps)) (omega (arith, size, wanted)) (λ i l.
    get_or-between p.bytes (s - p.start) (s - p.start + (e - s)) i 0 (omega (arith, size, l))
    ∙ byte i (omega (arith, size, l))
    ∙ sym (get_or-map-range_with_len (byte_around elsewhere ps) 0 len (s + i) (s + i) 0 (omega (arith, size, l)) (omega arith))
    ∙ sym (get_or-between (value_around elsewhere len ps) s e i 0 (omega (arith, size, l))))
  where
    byte : (i : ℕ) → i < e - s → get_or p.bytes (s - p.start + i) 0 ≡ byte_around elsewhere ps (s + i)
    byte i l =
        let at : (p.start ≤ s) × (s - p.start < length p.bytes) = has_it ps s p is in
        let place : s + i - p.start ≡ s - p.start + i = omega (arith, at) in
        rw (same_piece len 0 s (s + i) ps p apart is (omega arith) (omega arith), place) refl

-- the byte of a number in a range where all bytes pass a test
pub passes : (test : ℕ → Bool) (a n k : ℕ) → list_all test (range_with_len a n) ≡ true → a ≤ k → k < a + n → test k ≡ true
passes test a zero k all above below = absurd (omega arith)
passes test a (suc n) k all above below = grind (arith, nat_tests, passes test (a + 1) n k)

-- all bytes of a value
pub whole_value : (elsewhere : ℕ → ℕ) (len : ℕ) (ps : List PlainPiece) → between 0 len (value_around elsewhere len ps) ≡ value_around elsewhere len ps
whole_value elsewhere len ps =
    let e : len - 0 ≡ length (value_around elsewhere len ps) = omega (arith, value_length elsewhere len ps) in
    ap (λ n. take n (value_around elsewhere len ps)) e ∙ take-length (value_around elsewhere len ps)

-- the pieces before one that begins at a byte or before it don't have the byte
pub skipped : (len free k n : ℕ) (ps : List PlainPiece) (d : PlainPiece) → are_apart len free ps ≡ true → k < length ps → (get_or ps k d).start ≤ n → piece_with (drop k ps) n ≡ piece_with ps n
skipped len free k n [] d apart l begins = absurd (omega arith)
skipped len free zero n (p ∷ ps) d apart l begins = refl
skipped len free (suc k) n (p ∷ ps) d apart l begins =
    let rest : are_apart len (p.start + length p.bytes + 1) ps ≡ true = grind (arith, nat_tests) in
    let behind : p.start + length p.bytes < n = omega (arith, begin_later len (p.start + length p.bytes + 1) k ps d rest (omega arith)) in
    grind (arith, nat_tests, skipped len (p.start + length p.bytes + 1) k n ps d rest (omega arith) begins)

-- what is left of pieces from one on stands apart, too
apart_from : (len free k : ℕ) (ps : List PlainPiece) → are_apart len free ps ≡ true → are_apart len 0 (drop k ps) ≡ true
apart_from len free zero [] apart = refl
apart_from len free (suc k) [] apart = refl
apart_from len free zero (p ∷ ps) apart = grind (arith, nat_tests)
apart_from len free (suc k) (p ∷ ps) apart =
    let rest : are_apart len (p.start + length p.bytes + 1) ps ≡ true = grind (arith, nat_tests) in
    apart_from len (p.start + length p.bytes + 1) k ps rest

pub near_from : (len k n : ℕ) (ps : List PlainPiece) (d : PlainPiece) → are_apart len 0 ps ≡ true → k < length ps → (get_or ps k d).start ≤ n → HaveFrom len n ps (drop k ps)
near_from len k n ps d apart l begins = record {
  apart = apart_from len 0 k ps apart;
  same = λ other above. skipped len 0 k other ps d apart l (omega (arith, begins, above));
}

-- what the pieces from one on are seen as
pub seen_from : (k : ℕ) (ps : List Piece) → pieces_seen (drop k ps) ≡ drop k (pieces_seen ps)
seen_from zero ps = refl
seen_from (suc k) [] = refl
seen_from (suc k) (p ∷ ps) = seen_from k ps

-- and one of them
pub seen_at : (k : ℕ) (ps : List Piece) (d : Piece) → get_or (pieces_seen ps) k (piece_seen d) ≡ piece_seen (get_or ps k d)
seen_at k [] d = refl
seen_at zero (p ∷ ps) d = refl
seen_at (suc k) (p ∷ ps) d = seen_at k ps d

pub seen_length : (ps : List Piece) → length (pieces_seen ps) ≡ length ps
seen_length [] = refl
seen_length (p ∷ ps) = ap suc (seen_length ps)

-- the bytes of a range are at hand that ends within the piece that has its first one
pub range_at_hand : (len s e : ℕ) (ps : List PlainPiece) (p : PlainPiece) → are_apart len 0 ps ≡ true → piece_with ps s ≡ Some p → e ≤ p.start + length p.bytes → list_all (is_at_hand ps) (range_with_len s (e - s)) ≡ true
range_at_hand len s e ps p apart is held =
    range_passes (is_at_hand ps) s (e - s) (λ n above below. ap is_some (same_piece len 0 s n ps p apart is above (omega (arith, held, above, below))))
