-- Components of one byte each, from one of them on in a byte.
use Rattle.std.proofs.Common.{◌≡◌, ℕ, ◌+◌, ◌-◌, ◌*◌, ◌/◌, ◌%◌, ◌^◌, ◌<◌, ◌≤◌, false, List, ◌++◌, length, take, drop, get_or, inl, inr, arith, ap, sym, subst, ◌∙◌}
use Rattle.std.specs.List.{range_with_len}
use Rattle.std.proofs.Math.Nat.{mul-le-mul_right}
use Rattle.std.proofs.lemmas.Bool.{cases_eq}
use Rattle.std.proofs.lemmas.List.{append-nil, append_assoc, drop-drop, drop_all, drop_more, length-append, length-drop, length-take-le, take_at, take_rest}
use Rattle.std.proofs.lemmas.List.Concat.{flat_map-append}
use Rattle.std.proofs.lemmas.List.FromFn.{length-range_with_len}
use Rattle.zarrs_chunk.specs.Runs.{joined_runs}
use Rattle.zarrs_packbits.specs.Bits.{bits_of, field, low_bits}
use Rattle.zarrs_packbits.specs.BitStream.{components_from}
use Rattle.zarrs_packbits.specs.KeptBits.{full_component}
use Rattle.zarrs_packbits.specs.PackedLayout.{IsOneTwoOrFour, IsPackedLayout, element_bits_len, is_whole}
use Rattle.zarrs_packbits.specs.PartialRead.{run_end, run_start}
use Rattle.zarrs_packbits.specs.ReadPlan.{run_bits, runs_len}
use Rattle.zarrs_packbits.specs.declared.layout.PackedLayout.{PackedLayout}
use Rattle.zarrs_packbits.proofs.LocalLemmas.{field_of_piece, flat_range_same}
use Rattle.zarrs_packbits.proofs.RunLemmas.{run_parts, run_some, run_within}

-- so it is of one, two and four
of_one_two_four : (P : ℕ → Type 0) (count : ℕ) → IsOneTwoOrFour count → P 1 → P 2 → P 4 → P count
of_one_two_four P count kept one two four =
    elim (cases_eq count 1) [
      | inl is ↦ subst P (sym is) one
      | inr not_one ↦ (elim (cases_eq count 2) [
        | inl is ↦ subst P (sym is) two
        | inr not_two ↦ subst P (sym (kept not_one not_two)) four
      ])
    ]

-- how many components end the byte that so many others begin
pub record IsHead (count skip each : ℕ) : Type 0 where
  pub some : 0 < count
  pub under : skip ≤ each
  pub whole : skip * count + (each - skip) * count ≡ 8

pub head_is : (count skip : ℕ) → IsOneTwoOrFour count → skip * count < 8 → IsHead count skip (8 / count)
head_is count skip kept =
    of_one_two_four (λ (k : ℕ). skip * k < 8 → IsHead k skip (8 / k)) count kept
    (λ h. record { some = omega arith; under = omega arith; whole = omega arith })
    (λ h. record { some = omega arith; under = omega arith; whole = omega arith })
    (λ h. record { some = omega arith; under = omega arith; whole = omega arith })

-- so many bits are fewer than a byte has
pub record IsSmall (count : ℕ) : Type 0 where
  pub some : 0 < count
  pub below : count < 8

pub small_count : (count : ℕ) → IsOneTwoOrFour count → IsSmall count
small_count count kept =
    of_one_two_four IsSmall count kept
    record { some = omega arith; below = omega arith }
    record { some = omega arith; below = omega arith }
    record { some = omega arith; below = omega arith }

-- kept bits begin with a component
pub record IsSkip (count bit skip : ℕ) : Type 0 where
  pub some : 0 < count
  pub below : skip * count < 8
  pub bits : skip * count ≡ bit % 8

pub skip_is : (count part : ℕ) → IsOneTwoOrFour count → IsSkip count (part * count) (part * count % 8 / count)
skip_is count part kept =
    of_one_two_four (λ (k : ℕ). IsSkip k (part * k) (part * k % 8 / k)) count kept
    record { some = omega arith; below = omega arith; bits = omega arith }
    record { some = omega arith; below = omega arith; bits = omega arith }
    record { some = omega arith; below = omega arith; bits = omega arith }

-- components whose kept bits stand in the first bytes
pub components_front : (l : PackedLayout) (at n m : ℕ) (bytes : List ℕ) → m ≤ length bytes → at + n * l.count ≤ 8 * m → components_from l at n (bits_of (take m bytes)) ≡ components_from l at n (bits_of bytes)
components_front l at n m bytes within inside =
    let k = l.count in
    flat_range_same (λ part. full_component l.first l.above l.sign (field (at + part * k) k (bits_of (take m bytes)))) (λ part. full_component l.first l.above l.sign (field (at + part * k) k (bits_of bytes))) n
    (λ part lt.
    let more : part + 1 ≤ n = omega arith in
    let row : (part + 1) * k ≤ n * k = mul-le-mul_right k more in
    let next : (part + 1) * k ≡ part * k + k = omega arith in
    ap (full_component l.first l.above l.sign) (field_of_piece bytes 0 m (at + part * k) k (omega arith) (omega arith) ∙ ap (λ a. field a k (bits_of bytes)) (let e : 8 * 0 + (at + part * k) ≡ at + part * k = omega arith in e)))

-- ---- runs, one after another

-- 64 bits count the bits of a run and those before it
pub record IsPlaced (l : PackedLayout) (count start places : ℕ) : Type 0 where
  pub group : l.group * count < 2 ^ 64
  pub begin : start * (l.group * count) < 2 ^ 64
  pub parts : places * l.group < 2 ^ 64
  pub bits : start * (l.group * count) + places * l.group * count ≡ (start + places) * (l.group * count)
  pub end : (start + places) * (l.group * count) < 2 ^ 64
  pub some : start * (l.group * count) < (start + places) * (l.group * count)

run_placed : (l : PackedLayout) (start places : ℕ) → IsPackedLayout l → is_whole l ≡ false → 0 < places → start + places ≤ l.elements → IsPlaced l l.count start places
run_placed l start places s part some within =
    let each = element_bits_len l in
    let all = run_within l start places within in
    let fits = s.bits_fit part in
    let more = run_some l start places s some in
    let one : 1 * each ≤ (start + places) * each = mul-le-mul_right each (let e : 1 ≤ start + places = omega arith in e) in
    let sum : start * each + places * l.group * l.count ≡ (start + places) * each = omega arith in
    record { group = omega arith; begin = omega arith; parts = run_parts l start places s within; bits = sum; end = omega arith; some = omega arith }

pub run_place : (l : PackedLayout) (count start places : ℕ) → l.count ≡ count → IsPackedLayout l → is_whole l ≡ false → 0 < places → start + places ≤ l.elements → IsPlaced l count start places
run_place l count start places is s part some within =
    subst (λ (k : ℕ). IsPlaced l k start places) is (run_placed l start places s part some within)

-- the bytes that are left are those of the runs that are left
pub each_sum : (l : PackedLayout) (at i used : ℕ) (bytes : List ℕ) (runs : List (ℕ × ℕ)) → i < length runs → length bytes ≡ at + runs_len l (drop i runs) → used ≡ run_end l (get_or runs i (0, 0)) - run_start l (get_or runs i (0, 0))
    → length bytes ≡ (at + used) + runs_len l (drop (i + 1) runs)
each_sum l at i used bytes runs lt sums is =
    let next : runs_len l (drop i runs) ≡ (run_end l (get_or runs i (0, 0)) - run_start l (get_or runs i (0, 0))) + runs_len l (drop (i + 1) runs) = ap (runs_len l) (drop_more runs i (0, 0) lt) in
    omega (arith, sums, is, next)

-- a run more
pub each_step : (l : PackedLayout) (at i skip parts used count : ℕ) (front piece all bytes : List ℕ) (runs : List (ℕ × ℕ)) → i < length runs → l.count ≡ count → skip * count ≡ (get_or runs i (0, 0)).0 * element_bits_len l % 8 → parts ≡ (get_or runs i (0, 0)).1 * l.group → used ≡ run_end l (get_or runs i (0, 0)) - run_start l (get_or runs i (0, 0))
    → (skip + parts) * count ≤ 8 * used → length bytes ≡ at + runs_len l (drop i runs) → all ≡ front ++ piece → run_bits l bytes runs ≡ bits_of front ++ run_bits l (drop at bytes) (drop i runs) → bits_of piece ≡ components_from l (skip * count) parts (bits_of (take (length bytes - at) (drop at bytes)))
    → run_bits l bytes runs ≡ bits_of all ++ run_bits l (drop (at + used) bytes) (drop (i + 1) runs)
each_step l at i skip parts used count front piece all bytes runs lt is place size bytes_used inside sums joined before added =
    let r : ℕ × ℕ = get_or runs i (0, 0) in
    let tail = drop (i + 1) runs in
    let rest = drop at bytes in
    let len = run_end l r - run_start l r in
    let out = bits_of front in
    let made = components_from l (skip * count) parts (bits_of rest) in
    let left = each_sum l at i used bytes runs lt sums bytes_used in
    let within : used ≤ length rest = omega (arith, left, length-drop at bytes) in
    let ends : skip * count + parts * l.count ≤ 8 * used = omega (arith, inside, ap (λ n. parts * n) is) in
    before
    ∙ ap (λ (rs : List (ℕ × ℕ)). out ++ run_bits l rest rs) (drop_more runs i (0, 0) lt)
    ∙ ap (λ n. out ++ (components_from l (r.0 * element_bits_len l % 8) (r.1 * l.group) (bits_of (take n rest)) ++ run_bits l (drop n rest) tail)) (sym bytes_used)
    ∙ ap (λ n. out ++ (components_from l n (r.1 * l.group) (bits_of (take used rest)) ++ run_bits l (drop used rest) tail)) (sym place)
    ∙ ap (λ n. out ++ (components_from l (skip * count) n (bits_of (take used rest)) ++ run_bits l (drop used rest) tail)) (sym size)
    ∙ ap (λ (xs : List ℕ). out ++ (xs ++ run_bits l (drop used rest) tail)) (components_front l (skip * count) parts used rest within ends)
    ∙ ap (λ (xs : List ℕ). out ++ (made ++ run_bits l xs tail)) (drop-drop used at bytes)
    ∙ sym (append_assoc out made (run_bits l (drop (at + used) bytes) tail))
    ∙ ap (λ (xs : List ℕ). xs ++ run_bits l (drop (at + used) bytes) tail)
    (sym (ap bits_of joined ∙ flat_map-append (low_bits 8) front piece ∙ ap (λ (xs : List ℕ). out ++ xs) (added ∙ ap (λ (xs : List ℕ). components_from l (skip * count) parts (bits_of xs)) (take_rest bytes at))))

-- the places that are left are those of the runs that are left
pub each_count : (l : PackedLayout) (done i parts len : ℕ) (runs : List (ℕ × ℕ)) → i < length runs → len ≡ done + length (joined_runs (drop i runs)) * l.group → parts ≡ (get_or runs i (0, 0)).1 * l.group
    → len ≡ (done + parts) + length (joined_runs (drop (i + 1) runs)) * l.group
each_count l done i parts len runs lt counted size =
    let r : ℕ × ℕ = get_or runs i (0, 0) in
    let rest = joined_runs (drop (i + 1) runs) in
    let next : length (joined_runs (drop i runs)) ≡ r.1 + length rest
    = ap (λ (rs : List (ℕ × ℕ)). length (joined_runs rs)) (drop_more runs i (0, 0) lt) ∙ length-append (range_with_len r.0 r.1) rest ∙ ap (λ n. n + length rest) (length-range_with_len r.0 r.1) in
    let all : length (joined_runs (drop i runs)) * l.group ≡ (r.1 + length rest) * l.group = ap (λ n. n * l.group) next in
    let sum : (r.1 + length rest) * l.group ≡ r.1 * l.group + length rest * l.group = omega arith in
    omega (arith, counted, all, sum, size)

-- ---- written over a part of a list

-- what is written behind what was there
pub written_behind : (out piece rest : List ℕ) (w n : ℕ) → w ≤ length out → n ≡ w + length piece → take n (take w out ++ (piece ++ rest)) ≡ take w out ++ piece
written_behind out piece rest w n within is =
    ap (take n) (sym (append_assoc (take w out) piece rest))
    ∙ take_at (take w out ++ piece) rest n (length-append (take w out) piece ∙ omega (arith, length-take-le w out within, is))

-- what is written from a place to the end
pub written_to_end : (out piece : List ℕ) (w k : ℕ) → length out ≤ w + k → take w out ++ (piece ++ drop k (drop w out)) ≡ take w out ++ piece
written_to_end out piece w k whole =
    ap (λ (xs : List ℕ). take w out ++ (piece ++ xs)) (drop_all k (drop w out) (omega (arith, length-drop w out, whole)))
    ∙ ap (λ (xs : List ℕ). take w out ++ xs) (append-nil piece)

-- how long a part is
pub length-part : (out : List ℕ) (w k : ℕ) → w + k ≤ length out → length (take k (drop w out)) ≡ k
length-part out w k within = length-take-le k (drop w out) (omega (arith, length-drop w out, within))
