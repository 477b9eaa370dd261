-- Rounds of reads, each with more bytes at hand.
use Rattle.std.proofs.Common.{◌≡◌, ℕ, zero, suc, ◌+◌, ◌<◌, ◌≤◌, ◌&&◌, ◌||◌, nat_le, nat_lt, not, if◌then◌else◌, Bool, true, false, List, [], ◌∷◌, length, refl, sym, ap, subst, ◌∙◌, arith, le-leb, lt-ltb}
use Rattle.std.proofs.lemmas.Bool.Decides.{nat_tests}
use Rattle.std.specs.Cmp.Derive.{both_true}
use Rattle.zarrs_codec.specs.ByteSpan.{ByteSpan}
use Rattle.zarrs_codec.proofs.Fences.{first_true, second_true}
use Rattle.zarrs_lent_handles.specs.Joined.{have_number, ranges_apart}
use Rattle.zarrs_lent_handles.specs.Lacking.{is_lacking}
use Rattle.zarrs_lent_handles.specs.Pieces.{PlainPiece, is_at_hand}
use Rattle.zarrs_lent_handles.specs.Rounds.{IsNextRound, RoundIsEnough, RoundsEnd}

abbrev one_if : Bool → ℕ
one_if b = if b then 1 else 0

-- how many of n numbers from one on pass
abbrev passing : (ℕ → Bool) → ℕ → ℕ → ℕ
passing test at zero = 0
passing test at (suc n) = one_if (test at) + passing test (at + 1) n

one_more : (a b : Bool) → (a ≡ true → b ≡ true) → one_if a ≤ one_if b
one_more true true h = omega arith
one_more true false h = absurd (let e = h refl in cc)
one_more false b h = omega arith

one_bound : (a : Bool) → one_if a ≤ 1
one_bound true = omega arith
one_bound false = omega arith

bounded : (test : ℕ → Bool) (at n : ℕ) → passing test at n ≤ n
bounded test at zero = omega arith
bounded test at (suc n) = omega (arith, one_bound (test at), bounded test (at + 1) n)

one_step_at : (a b : Bool) (p q : ℕ) → a ≡ false → b ≡ true → p ≤ q → one_if a + p < one_if b + q
one_step_at true b p q e h l = absurd (cc)
one_step_at false true p q e h l = omega arith
one_step_at false false p q e h l = absurd (cc)

module _ (f g : ℕ → Bool) (more : (k : ℕ) → f k ≡ true → g k ≡ true) where
  no_less : (at n : ℕ) → passing f at n ≤ passing g at n
  no_less at zero = omega arith
  no_less at (suc n) = omega (arith, one_more (f at) (g at) (more at), no_less (at + 1) n)

  one_step : (at n k : ℕ) (t : Bool) → nat_lt at k ≡ t → at ≤ k → k < at + suc n → f k ≡ false → g k ≡ true → (at < k → passing f (at + 1) n < passing g (at + 1) n) → passing f (at + 1) n ≤ passing g (at + 1) n → passing f at (suc n) < passing g at (suc n)
  one_step at n k true d low high e h rest less =
      let l : at < k = grind (arith, nat_tests) in
      omega (arith, one_more (f at) (g at) (more at), rest l)
  one_step at n k false d low high e h rest less =
      let same : k ≡ at = grind (arith, nat_tests) in
      one_step_at (f at) (g at) (passing f (at + 1) n) (passing g (at + 1) n) (ap f (sym same) ∙ e) (ap g (sym same) ∙ h) less

  one_less : (at n k : ℕ) → at ≤ k → k < at + n → f k ≡ false → g k ≡ true → passing f at n < passing g at n
  one_less at zero k low high e h = absurd (omega arith)
  one_less at (suc n) k low high e h =
      one_step at n k (nat_lt at k) refl low high e h (λ l. one_less (at + 1) n k (omega (arith, l)) (omega (arith, high)) e h) (no_less (at + 1) n)

lacking_one : (len : ℕ) (before : List PlainPiece) (asked : Bool) (n : ℕ) → true ≡ (asked && is_lacking len before n) → (n < len) × (is_at_hand before n ≡ false)
lacking_one len before true n e = grind (arith, nat_tests)
lacking_one len before false n e = absurd (cc)

-- a range that has a byte, and its number
first_byte : (ranges : List ByteSpan) → nat_lt 0 (length ranges) ≡ true → ranges_apart 0 ranges ≡ true → (number : ℕ) × (have_number ranges number ≡ true)
first_byte [] some apart = absurd (cc)
first_byte (r ∷ rs) some apart =
    let l : nat_lt r.start r.end ≡ true = first_true _ _ (second_true (nat_le 0 r.start) _ apart) in
    (r.start, both_or (nat_le r.start r.start) (nat_lt r.start r.end) (have_number rs r.start) (le-leb r.start r.start (omega arith)) l)
  where
    both_or : (a b c : Bool) → a ≡ true → b ≡ true → ((a && b) || c) ≡ true
    both_or true true c d e = refl
    both_or true false c d e = absurd (cc)
    both_or false b c d e = absurd (cc)

grows : (len : ℕ) (before after : List PlainPiece) (asked : List ByteSpan) → IsNextRound len before after asked → passing (is_at_hand before) 0 len < passing (is_at_hand after) 0 len
grows len before after asked next =
    let first = first_byte next.lacking next.some next.are.apart in
    let lacks = lacking_one len before (have_number asked first.0) first.0 (sym first.1 ∙ next.are.same first.0) in
    one_less (is_at_hand before) (is_at_hand after) next.kept 0 len first.0 (omega arith) (omega (arith, lacks.0)) lacks.1 (next.added first.0 first.1)

so_many : (len count : ℕ) (pieces : ℕ → List PlainPiece) (asked : ℕ → List ByteSpan) → ((round : ℕ) → round < count → IsNextRound len (pieces round) (pieces (round + 1)) (asked round)) → count ≤ passing (is_at_hand (pieces count)) 0 len
so_many len zero pieces asked next = omega arith
so_many len (suc count) pieces asked next =
    let before = so_many len count pieces asked (λ round l. next round (omega (arith, l))) in
    let one : count + 1 ≡ suc count = omega arith in
    let step = subst (λ (n : ℕ). passing (is_at_hand (pieces count)) 0 len < passing (is_at_hand (pieces n)) 0 len) one (grows len (pieces count) (pieces (count + 1)) (asked count) (next count (omega arith))) in
    omega (arith, before, step)

pub rounds_end : RoundsEnd
rounds_end len count pieces asked next =
    omega (arith, so_many len count pieces asked next, bounded (is_at_hand (pieces count)) 0 len)

pub a_round_is_enough : RoundIsEnough
a_round_is_enough len before after asked number next is l = by (is_at_hand before number) refl
  where
    lacks : is_at_hand before number ≡ false → is_lacking len before number ≡ true
    lacks e = both_true (lt-ltb number len l) (ap not e)

    by : (t : Bool) → is_at_hand before number ≡ t → is_at_hand after number ≡ true
    by true e = next.kept number e
    by false e = next.added number (next.are.same number ∙ both_true is (lacks e))
