-- How many places follow the one before them, place by place.
use Rattle.std.proofs.Common.{◌≡◌, ℕ, zero, suc, ◌+◌, ◌-◌, ◌<◌, ◌≤◌, List, [], ◌∷◌, length, take, get_or, arith}
use Rattle.zarrs_bytes.specs.ReadingCalls.{follows_count, following_count}

following_step : (places : List ℕ) (i : ℕ) → suc i < length places → following_count (take (suc (suc i)) places) ≡ following_count (take (suc i) places) + follows_count (get_or places i 0) (get_or places (suc i) 0)
following_step [] i h = absurd (omega arith)
following_step (a ∷ []) i h = absurd (omega arith)
following_step (a ∷ b ∷ places) zero h = omega arith
following_step (a ∷ b ∷ places) (suc i) h =
    let rest = following_step (b ∷ places) i (omega arith) in
    omega (arith, rest)

-- one place more
pub following_more : (places : List ℕ) (index : ℕ) → 1 ≤ index → index < length places → following_count (take (index + 1) places) ≡ following_count (take index places) + follows_count (get_or places (index - 1) 0) (get_or places index 0)
following_more places zero some h = absurd (omega arith)
following_more places (suc i) some h =
    let next : suc i + 1 ≡ suc (suc i) = omega arith in
    let back : suc i - 1 ≡ i = omega arith in
    rw (next, back) (following_step places i h)
