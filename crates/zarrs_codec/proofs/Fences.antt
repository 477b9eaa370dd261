-- Tests of bytes in a row.
use Rattle.std.proofs.Common.{◌≡◌, ℕ, zero, suc, ◌+◌, ◌-◌, ◌<◌, ◌≤◌, ◌&&◌, nat_le, nat_lt, Bool, true, false, List, length, get_or, refl, ap, sym, ◌∙◌, arith, le-leb, lt-ltb}
use Rattle.std.specs.Cmp.Derive.{both_true}
use Rattle.std.specs.List.{list_all, range_with_len}
use Rattle.std.proofs.lemmas.List.Folds.{list_any_at}
use Rattle.zarrs_codec.specs.ByteSpan.{ByteSpan}
use Rattle.zarrs_codec.specs.FencedHandle.{has_byte, is_fenced}

pub first_true : (a b : Bool) → (a && b) ≡ true → a ≡ true
first_true true b both = refl
first_true false b both = both

pub second_true : (a b : Bool) → (a && b) ≡ true → b ≡ true
second_true true b both = both
second_true false b both = grind (arith, both)

-- bytes at the front that pass can be left out
passed : (test : ℕ → Bool) (n m at next left : ℕ) → at + n ≡ next → m - n ≡ left → list_all test (range_with_len at n) ≡ true → list_all test (range_with_len at m) ≡ list_all test (range_with_len next left)
passed test zero m at next left e f all =
    let g : at ≡ next = omega arith in
    let h : m ≡ left = omega arith in
    rw g (rw h refl)
passed test (suc n) zero at next left e f all = let h : left ≡ 0 = omega arith in rw h refl
passed test (suc n) (suc m) at next left e f all =
    let head : test at ≡ true = first_true _ _ all in
    let rest : list_all test (range_with_len (at + 1) n) ≡ true = second_true (test at) _ all in
    rw head (passed test n m (at + 1) next left (omega arith) (omega arith) rest)

-- so a search can go on behind them
pub from_fence : (test : ℕ → Bool) (at fence end : ℕ) → at < fence → list_all test (range_with_len at (fence - at)) ≡ true → list_all test (range_with_len at (end - at)) ≡ list_all test (range_with_len fence (end - fence))
from_fence test at fence end further all =
    passed test (fence - at) (end - at) at fence (end - fence) (omega arith) (omega arith) all

-- what each number from one on passes, all so many pass
pub range_passes : (test : ℕ → Bool) (at n : ℕ) → ((k : ℕ) → at ≤ k → k < at + n → test k ≡ true) → list_all test (range_with_len at n) ≡ true
range_passes test at zero each = refl
range_passes test at (suc n) each =
    both_true (each at (omega arith) (omega arith)) (range_passes test (at + 1) n (λ k low high. each k (omega arith) (omega arith)))

-- a range has all bytes from one of its own up to its end
pub inside_fence : (ranges : List ByteSpan) (range : ByteSpan) (i byte end : ℕ) → i < length ranges → range ≡ get_or ranges i range → range.start ≤ byte → end ≡ range.end → list_all (is_fenced ranges) (range_with_len byte (end - byte)) ≡ true
inside_fence ranges range i byte end below is low ends =
    range_passes (is_fenced ranges) byte (end - byte)
    (λ other from to.
    let starts : nat_le range.start other ≡ true = le-leb range.start other (omega arith) in
    let stops : nat_lt other range.end ≡ true = lt-ltb other range.end (omega arith) in
    list_any_at (has_byte other) ranges i range below (ap (has_byte other) (sym is) ∙ both_true starts stops))
