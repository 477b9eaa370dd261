-- Bytes that are lacking, as ranges.
use Rattle.std.proofs.Common.{◌≡◌, ℕ, zero, suc, ◌+◌, ◌-◌, ◌<◌, ◌≤◌, ◌&&◌, ◌||◌, nat_le, nat_lt, not, min, max, Bool, true, false, Option, is_some, Some, None, List, [], ◌∷◌, ◌++◌, length, get_or, refl, sym, ap, subst, ◌∙◌, arith, le-leb, lt-ltb}
use Rattle.std.specs.List.{list_all, range_with_len}
use Rattle.std.proofs.lemmas.Bool.{or_left, or_right}
use Rattle.std.proofs.lemmas.Bool.Decides.{nat_tests}
use Rattle.std.proofs.lemmas.List.Folds.{list_all-append, list_any-append, list_any_at}
use Rattle.std.specs.Cmp.Derive.{both_true}
use Rattle.zarrs_codec.specs.ByteSpan.{ByteSpan}
use Rattle.zarrs_codec.specs.ByteRanges.{range_indices}
use Rattle.zarrs_codec.specs.StorageState.{StorageState}
use Rattle.zarrs_codec.proofs.Fences.{first_true, second_true, range_passes}
use Rattle.zarrs_lent_handles.specs.Joined.{has_number, have_number, ranges_apart, filled}
use Rattle.zarrs_lent_handles.specs.Lacking.{gaps_from, is_lacking, AddsLacking, AreLacking, LacksOne, are_all_lacking}
use Rattle.zarrs_lent_handles.specs.declared.piece.Piece.{Piece}
use Rattle.zarrs_lent_handles.specs.Pieces.{PlainPiece, pieces_seen, piece_with, piece_has_byte, are_apart, is_at_hand, value_around, HaveFrom}
use Rattle.zarrs_lent_handles.proofs.JoinLemmas.{span, filled_same}
use Rattle.zarrs_lent_handles.specs.PiecesHandle.{are_unsure, is_unsure}
use Rattle.zarrs_lent_handles.proofs.PieceLemmas.{none_below, value_length}

either : {a : Bool} → (a || false) ≡ true → a ≡ true
either {a = true} e = refl
either {a = false} e = e

-- what each byte of ranges passes, all pass
pub each_passes : (test : ℕ → Bool) (rs : List ByteSpan) → ((n : ℕ) → have_number rs n ≡ true → test n ≡ true) → list_all test (range_indices rs) ≡ true
each_passes test [] h = refl
each_passes test (r ∷ rs) h =
    list_all-append test (range_with_len r.start (r.end - r.start)) (range_indices rs)
    ∙ both_true
    (range_passes test r.start (r.end - r.start) (λ k low high. h k (or_left (has_number r k) (have_number rs k) (grind (arith, nat_tests)))))
    (each_passes test rs (λ n e. h n (or_right (has_number r n) (have_number rs n) e)))

pub all_alike : {A : Type 0} (f g : A → Bool) (xs : List A) → ((x : A) → f x ≡ g x) → list_all f xs ≡ list_all g xs
all_alike f g [] same = refl
all_alike f g (x ∷ xs) same = rw (same x) (ap (λ (b : Bool). g x && b) (all_alike f g xs same))

-- ---- gaps

pub filled_first : (start end : ℕ) (ranges : List ByteSpan) → filled start end [] ++ ranges ≡ filled start end ranges
filled_first start end ranges = by (nat_lt start end) refl
  where
    by : (t : Bool) → nat_lt start end ≡ t → filled start end [] ++ ranges ≡ filled start end ranges
    by true e = rw e refl
    by false e = rw e refl

only_here : (a h : Bool) → (a ≡ true → h ≡ false) → (a || false) ≡ (a && not h)
only_here true h k = rw (k refl) refl
only_here false h k = refl

hand_more : (p : PlainPiece) (ps : List PlainPiece) (n : ℕ) → is_at_hand (p ∷ ps) n ≡ (piece_has_byte p n || is_at_hand ps n)
hand_more p ps n = by (piece_has_byte p n) refl
  where
    by : (t : Bool) → piece_has_byte p n ≡ t → is_at_hand (p ∷ ps) n ≡ (piece_has_byte p n || is_at_hand ps n)
    by true e = rw e refl
    by false e = rw e refl

-- a piece ends inside the value
pub piece_ends : (len free k : ℕ) (ps : List Piece) (d : Piece) → are_apart len free (pieces_seen ps) ≡ true → k < length ps → (get_or ps k d).start + length (get_or ps k d).bytes.now ≤ len
piece_ends len free k [] d apart l = absurd (omega arith)
piece_ends len free zero (p ∷ ps) d apart l = grind (arith, nat_tests)
piece_ends len free (suc k) (p ∷ ps) d apart l =
    let rest : are_apart len (p.start + length p.bytes.now + 1) (pieces_seen ps) ≡ true = grind (arith, nat_tests) in
    piece_ends len (p.start + length p.bytes.now + 1) k ps d rest (omega arith)

-- one piece before others, of which `rest` says whether one has the byte
gap_step : (start end n : ℕ) (p : PlainPiece) (rest : Bool) → p.start < end → (n < p.start + length p.bytes + 1 → rest ≡ false)
    → (has_number (span start p.start) n || (has_number (span (max start (p.start + length p.bytes)) end) n && not rest)) ≡ (has_number (span start end) n && not (piece_has_byte p n || rest))
gap_step start end n p rest l behind = by (nat_lt n (p.start + length p.bytes)) refl
  where
    by : (t : Bool) → nat_lt n (p.start + length p.bytes) ≡ t → (has_number (span start p.start) n || (has_number (span (max start (p.start + length p.bytes)) end) n && not rest)) ≡ (has_number (span start end) n && not (piece_has_byte p n || rest))
    by true f =
        let none : rest ≡ false = behind (grind (arith, nat_tests)) in
        grind (arith, nat_tests, none)
    by false f = grind (arith, nat_tests)

gaps_before : (len start end n : ℕ) (p : PlainPiece) (ps : List PlainPiece) → are_apart len p.start (p ∷ ps) ≡ true → are_apart len (p.start + length p.bytes + 1) ps ≡ true
    → have_number (gaps_from (max start (p.start + length p.bytes)) end ps) n ≡ (has_number (span (max start (p.start + length p.bytes)) end) n && not (is_at_hand ps n))
    → (t : Bool) → nat_le end p.start ≡ t → have_number (gaps_from start end (p ∷ ps)) n ≡ (has_number (span start end) n && not (is_at_hand (p ∷ ps) n))
gaps_before len start end n p ps here rest more true e =
    rw e (filled_same start end n [] ∙ only_here (has_number (span start end) n) (is_at_hand (p ∷ ps) n) (λ h. ap is_some (none_below len p.start n (p ∷ ps) here (grind (arith, nat_tests)))))
gaps_before len start end n p ps here rest more false e =
    let l : p.start < end = grind (arith, nat_tests) in
    rw e (filled_same start p.start n (gaps_from (max start (p.start + length p.bytes)) end ps)
    ∙ ap (λ (b : Bool). has_number (span start p.start) n || b) more
    ∙ gap_step start end n p (is_at_hand ps n) l (λ b. ap is_some (none_below len (p.start + length p.bytes + 1) n ps rest b))
    ∙ ap (λ (b : Bool). has_number (span start end) n && not b) (sym (hand_more p ps n)))

pub gaps_same : (len free start end n : ℕ) (ps : List PlainPiece) → are_apart len free ps ≡ true → have_number (gaps_from start end ps) n ≡ (has_number (span start end) n && not (is_at_hand ps n))
gaps_same len free start end n [] apart = filled_same start end n [] ∙ only_here (has_number (span start end) n) false (λ _. refl)
gaps_same len free start end n (p ∷ ps) apart =
    let rest : are_apart len (p.start + length p.bytes + 1) ps ≡ true = grind (arith, nat_tests) in
    let here : are_apart len p.start (p ∷ ps) ≡ true = grind (arith, nat_tests) in
    gaps_before len start end n p ps here rest (gaps_same len (p.start + length p.bytes + 1) (max start (p.start + length p.bytes)) end n ps rest) (nat_le end p.start) refl

-- ---- bytes that are lacking, added

shuffled : (x a b l : Bool) → ((x || (a && l)) || (b && l)) ≡ (x || ((a || b) && l))
shuffled true a b l = refl
shuffled false true b true = refl
shuffled false true true false = refl
shuffled false true false false = refl
shuffled false false b l = refl

module _ (len : ℕ) (ps : List PlainPiece) where
  pub adds_more : (a b x y z : List ByteSpan) → AddsLacking len ps a x y → AddsLacking len ps b y z → AddsLacking len ps (a ++ b) x z
  adds_more a b x y z first then = record {
    same = λ n.
        then.same n
        ∙ ap (λ (t : Bool). t || (have_number b n && is_lacking len ps n)) (first.same n)
        ∙ shuffled (have_number x n) (have_number a n) (have_number b n) (is_lacking len ps n)
        ∙ ap (λ (t : Bool). have_number x n || (t && is_lacking len ps n)) (sym (list_any-append (λ range. has_number range n) a b));
  }

  cut : (r : ByteSpan) (near : List PlainPiece) (n : ℕ) → HaveFrom len r.start ps near
      → (has_number (span r.start (min r.end len)) n && not (is_at_hand near n)) ≡ ((has_number r n || false) && is_lacking len ps n)
  cut r near n h = by (nat_le r.start n) refl
    where
      by : (t : Bool) → nat_le r.start n ≡ t → (has_number (span r.start (min r.end len)) n && not (is_at_hand near n)) ≡ ((has_number r n || false) && is_lacking len ps n)
      by true e =
          let same : is_at_hand near n ≡ is_at_hand ps n = ap is_some (h.same n (grind (arith, nat_tests))) in
          rw same (grind (arith, nat_tests))
      by false e = rw e refl

  -- the gaps of one range
  pub adds_gaps : (r : ByteSpan) (near : List PlainPiece) (xs : List ByteSpan) → HaveFrom len r.start ps near → AddsLacking len ps (r ∷ []) xs (xs ++ gaps_from r.start (min r.end len) near)
  adds_gaps r near xs h = record {
    same = λ n.
        list_any-append (λ range. has_number range n) xs (gaps_from r.start (min r.end len) near)
        ∙ ap (λ (b : Bool). have_number xs n || b) (gaps_same len 0 r.start (min r.end len) n near h.apart ∙ cut r near n h);
  }

  pub adds_at : (r : ByteSpan) (near : List PlainPiece) (xs ys : List ByteSpan) (s e : ℕ) → s ≡ r.start → e ≡ min r.end len → HaveFrom len s ps near → ys ≡ xs ++ gaps_from s e near → AddsLacking len ps (r ∷ []) xs ys
  adds_at r near xs ys s e p q h is =
      subst (AddsLacking len ps (r ∷ []) xs) (sym (is ∙ ap (λ a. xs ++ gaps_from a e near) p ∙ ap (λ b. xs ++ gaps_from r.start b near) q))
      (adds_gaps r near xs (subst (λ a. HaveFrom len a ps near) p h))

  -- ---- what is kept of them

  pub all_lacking : (asked ranges : List ByteSpan) → AreLacking len ps asked ranges → are_all_lacking len ps ranges ≡ true
  all_lacking asked ranges a =
      both_true a.apart (each_passes (is_lacking len ps) ranges (λ n h. second_true (have_number asked n) (is_lacking len ps n) (sym (a.same n) ∙ h)))

  some_if : (ranges : List ByteSpan) (n : ℕ) → have_number ranges n ≡ true → nat_lt 0 (length ranges) ≡ true
  some_if [] n h = cc
  some_if (r ∷ ranges) n h = grind (arith, nat_tests)

  pub some_lacking : (asked ranges : List ByteSpan) → AreLacking len ps asked ranges → LacksOne len ps asked → nat_lt 0 (length ranges) ≡ true
  some_lacking asked ranges a one = some_if ranges one.number (a.same one.number ∙ both_true one.is_asked one.lacks)

  pub lacks_at : (rs : List ByteSpan) (i : ℕ) (d : ByteSpan) → i < length rs → LacksOne len ps (get_or rs i d ∷ []) → LacksOne len ps rs
  lacks_at rs i d l one = record {
    number = one.number;
    is_asked = list_any_at (λ range. has_number range one.number) rs i d l (either one.is_asked);
    lacks = one.lacks;
  }

-- a byte of a range that no piece has
pub lacks_number : (len : ℕ) (ps : List PlainPiece) (range : ByteSpan) (n : ℕ) → range.start ≤ n → n < range.end → n < len → piece_with ps n ≡ None → LacksOne len ps (range ∷ [])
lacks_number len ps range n above below held none = record {
  number = n;
  is_asked = or_left (has_number range n) false (both_true (le-leb range.start n above) (lt-ltb n range.end below));
  lacks = both_true (lt-ltb n len held) (ap (λ (o : Option PlainPiece). not (is_some o)) none);
}

-- ---- in the words of a handle's state

and_true : (a : Bool) → (a && true) ≡ a
and_true true = refl
and_true false = refl

one_unsure : (elsewhere : ℕ → ℕ) (len : ℕ) (ps : List PlainPiece) (state : StorageState) (n : ℕ) → state.value ≡ Some (value_around elsewhere len ps) → state.sure ≡ Some (is_at_hand ps) → is_unsure state n ≡ is_lacking len ps n
one_unsure elsewhere len ps state n v s = rw (v, s, value_length elsewhere len ps, and_true (is_at_hand ps n)) refl

pub all_unsure : (elsewhere : ℕ → ℕ) (len : ℕ) (ps : List PlainPiece) (ranges : List ByteSpan) (state : StorageState) → state.value ≡ Some (value_around elsewhere len ps) → state.sure ≡ Some (is_at_hand ps) → are_all_lacking len ps ranges ≡ true → are_unsure state ranges ≡ true
all_unsure elsewhere len ps ranges state v s h =
    both_true (first_true _ _ h) (all_alike (is_unsure state) (is_lacking len ps) (range_indices ranges) (λ n. one_unsure elsewhere len ps state n v s) ∙ second_true (ranges_apart 0 ranges) _ h)
