-- Ranges in order, joined.
use Rattle.std.proofs.Common.{◌≡◌, ℕ, suc, ◌+◌, ◌<◌, ◌≤◌, ◌||◌, nat_le, nat_lt, max, Bool, true, false, List, [], ◌∷◌, length, get_or, refl, sym, ap, ◌∙◌, arith}
use Rattle.std.specs.List.Sorted.{IsNonDecreasingBy, IsPermutation}
use Rattle.std.proofs.lemmas.Bool.Decides.{nat_tests}
use Rattle.std.proofs.lemmas.List.Sorted.{list_any-IsPermutation}
use Rattle.zarrs_codec.specs.ByteSpan.{ByteSpan}
use Rattle.zarrs_lent_handles.specs.Joined.{has_number, have_number, ranges_apart, filled, joined_from, Joins}

-- where a range begins
abbrev pub start_of : ByteSpan → ℕ
start_of range = range.start

-- none of the ranges begins before a number
pub record Behind (low : ℕ) (ranges : List ByteSpan) : Type 0 where
  pub each : (k : ℕ) (d : ByteSpan) → k < length ranges → low ≤ (get_or ranges k d).start

-- the ranges begin in order
pub record Rise (ranges : List ByteSpan) : Type 0 where
  pub up : IsNonDecreasingBy start_of ranges

behind_head : (low : ℕ) (r : ByteSpan) (rs : List ByteSpan) → Behind low (r ∷ rs) → low ≤ r.start
behind_head low r rs b = b.each 0 r (omega arith)

behind_tail : (low : ℕ) (r : ByteSpan) (rs : List ByteSpan) → Behind low (r ∷ rs) → Behind low rs
behind_tail low r rs b = record { each = λ k d l. b.each (suc k) d (omega (arith, l)) }

rise_tail : (r : ByteSpan) (rs : List ByteSpan) → Rise (r ∷ rs) → Rise rs
rise_tail r rs u = record { up = λ i j d l m. u.up (suc i) (suc j) d (omega (arith, l)) (omega (arith, m)) }

rise_behind : (r : ByteSpan) (rs : List ByteSpan) → Rise (r ∷ rs) → Behind r.start rs
rise_behind r rs u = record { each = λ k d l. u.up 0 (suc k) d (omega arith) (omega (arith, l)) }

-- ---- they stand apart

module _ (free start end : ℕ) where
  filled_apart : (rs : List ByteSpan) → free ≤ start → (start < end → ranges_apart (end + 1) rs ≡ true) → (end ≤ start → ranges_apart free rs ≡ true) → ranges_apart free (filled start end rs) ≡ true
  filled_apart rs l above below = by (nat_lt start end) refl
    where
      by : (t : Bool) → nat_lt start end ≡ t → ranges_apart free (filled start end rs) ≡ true
      by true e =
          let h : ranges_apart (end + 1) rs ≡ true = above (grind (arith, nat_tests)) in
          grind (arith, nat_tests)
      by false e =
          let h : ranges_apart free rs ≡ true = below (grind (arith, nat_tests)) in
          grind (arith, nat_tests)

apart_step : (free start end : ℕ) (r : ByteSpan) (rs : List ByteSpan)
    → ((free start end : ℕ) → free ≤ start → start ≤ end → Behind start rs → ranges_apart free (joined_from start end rs) ≡ true)
    → free ≤ start → start ≤ end → Behind start (r ∷ rs) → Rise (r ∷ rs) → (s t : Bool) → nat_le r.end r.start ≡ s → nat_le r.start end ≡ t → ranges_apart free (joined_from start end (r ∷ rs)) ≡ true
apart_step free start end r rs more l m b u true t e f = rw e (more free start end l m (behind_tail start r rs b))
apart_step free start end r rs more l m b u false true e f =
    let on : start ≤ max end r.end = omega (arith, m) in
    rw (e, f) (more free start (max end r.end) l on (behind_tail start r rs b))
apart_step free start end r rs more l m b u false false e f =
    let low : start ≤ r.start = behind_head start r rs b in
    let behind : end + 1 ≤ r.start = grind (arith, nat_tests) in
    let some : r.start ≤ r.end = grind (arith, nat_tests) in
    let on : free ≤ r.start = omega (arith, l, low) in
    let rest : Behind r.start rs = rise_behind r rs u in
    rw (e, f) (filled_apart free start end (joined_from r.start r.end rs) l (λ _. more (end + 1) r.start r.end behind some rest) (λ _. more free r.start r.end on some rest))

joined_apart : (free start end : ℕ) (rs : List ByteSpan) → free ≤ start → start ≤ end → Behind start rs → Rise rs → ranges_apart free (joined_from start end rs) ≡ true
joined_apart free start end [] l m b u = filled_apart free start end [] l (λ _. refl) (λ _. refl)
joined_apart free start end (r ∷ rs) l m b u =
    apart_step free start end r rs (λ free' start' end' l' m' b'. joined_apart free' start' end' rs l' m' b' (rise_tail r rs u)) l m b u (nat_le r.end r.start) (nat_le r.start end) refl refl

-- ---- they have the same bytes

-- a range from one number to another
abbrev pub span : ℕ → ℕ → ByteSpan
span start end = record { start = start; end = end }

pub filled_same : (start end n : ℕ) (rs : List ByteSpan) → have_number (filled start end rs) n ≡ (has_number (span start end) n || have_number rs n)
filled_same start end n rs = by (nat_lt start end) refl
  where
    by : (t : Bool) → nat_lt start end ≡ t → have_number (filled start end rs) n ≡ (has_number (span start end) n || have_number rs n)
    by true e = rw e refl
    by false e =
        let none : has_number (span start end) n ≡ false = grind (arith, nat_tests) in
        rw (e, none) refl

passed_over : (a b c : Bool) → b ≡ false → (a || c) ≡ (a || (b || c))
passed_over a b c e = rw e refl

merged : (start end n : ℕ) (r : ByteSpan) → start ≤ r.start → r.start ≤ end → r.start < r.end → has_number (span start (max end r.end)) n ≡ (has_number (span start end) n || has_number r n)
merged start end n r l m k = grind (arith, nat_tests)

or_assoc : (a b c : Bool) → ((a || b) || c) ≡ (a || (b || c))
or_assoc true b c = refl
or_assoc false b c = refl

same_step : (start end n : ℕ) (r : ByteSpan) (rs : List ByteSpan) → ((start end : ℕ) → Behind start rs → have_number (joined_from start end rs) n ≡ (has_number (span start end) n || have_number rs n)) → Behind start (r ∷ rs) → Rise (r ∷ rs)
    → (s t : Bool) → nat_le r.end r.start ≡ s → nat_le r.start end ≡ t → have_number (joined_from start end (r ∷ rs)) n ≡ (has_number (span start end) n || (has_number r n || have_number rs n))
same_step start end n r rs more b u true t e f =
    let none : has_number r n ≡ false = grind (arith, nat_tests) in
    rw e (more start end (behind_tail start r rs b) ∙ passed_over (has_number (span start end) n) (has_number r n) (have_number rs n) none)
same_step start end n r rs more b u false true e f =
    let low : start ≤ r.start = behind_head start r rs b in
    let here : r.start ≤ end = grind (arith, nat_tests) in
    let some : r.start < r.end = grind (arith, nat_tests) in
    rw (e, f) (more start (max end r.end) (behind_tail start r rs b)
    ∙ ap (λ (t : Bool). t || have_number rs n) (merged start end n r low here some)
    ∙ or_assoc (has_number (span start end) n) (has_number r n) (have_number rs n))
same_step start end n r rs more b u false false e f =
    rw (e, f) (filled_same start end n (joined_from r.start r.end rs)
    ∙ ap (λ (t : Bool). has_number (span start end) n || t) (more r.start r.end (rise_behind r rs u)))

joined_same : (start end n : ℕ) (rs : List ByteSpan) → Behind start rs → Rise rs → have_number (joined_from start end rs) n ≡ (has_number (span start end) n || have_number rs n)
joined_same start end n [] b u = filled_same start end n []
joined_same start end n (r ∷ rs) b u =
    same_step start end n r rs (λ start' end' b'. joined_same start' end' n rs b' (rise_tail r rs u)) b u (nat_le r.end r.start) (nat_le r.start end) refl refl

-- ---- ranges in another order that rise, joined

none_yet : (n : ℕ) → has_number (span 0 0) n ≡ false
none_yet n = grind (arith, nat_tests)

pub joins : (ranges sorted : List ByteSpan) → IsPermutation ranges sorted → IsNonDecreasingBy start_of sorted → Joins ranges (joined_from 0 0 sorted)
joins ranges sorted moved up =
    let low : Behind 0 sorted = record { each = λ k d l. omega arith } in
    let rises : Rise sorted = record { up = up } in
    record {
      apart = joined_apart 0 0 0 sorted (omega arith) (omega arith) low rises;
      same = λ number. joined_same 0 0 number sorted low rises ∙ ap (λ (t : Bool). t || have_number sorted number) (none_yet number) ∙ sym (list_any-IsPermutation (λ range. has_number range number) ranges sorted moved);
    }
