-- Whether byte lists are the same, block by block.
use Rattle.std.proofs.Common.{◌≡◌, ℕ, zero, suc, ◌+◌, ◌*◌, ◌-◌, ◌≤◌, ◌^◌, ◌%◌, nat_eq, ◌&&◌, not, cond, Bool, true, false, List, [], ◌∷◌, ◌++◌, length, map, min, take, drop, w8, arith, refl, ap, sym, ◌∙◌}
use Rattle.std.specs.Cmp.Lexicographic.{pointwise, bytes_decides, same_text}
use Rattle.std.proofs.Math.Dec.{eqb-suc-zero}
use Rattle.std.proofs.lemmas.Bool.{false≢true}
use Rattle.std.proofs.lemmas.List.{length-drop, length-take, take_all, drop-drop, take-append-drop}
use Rattle.std.proofs.lemmas.Simd.{length-zip2, mask_l-mod, tops_compared}
use lib.Lanes.{chunk, mask_l, top, zip2}

and_nested : (a b c : Bool) → (a && b) && c ≡ a && (b && c)
and_nested true b c = refl
and_nested false b c = refl

pub joined_same : (xs ys us vs : List ℕ) → length xs ≡ length us → pointwise nat_eq (xs ++ ys) (us ++ vs) ≡ pointwise nat_eq xs us && pointwise nat_eq ys vs
joined_same [] ys [] vs e = refl
joined_same [] ys (u ∷ us) vs e = absurd (omega (arith, e))
joined_same (x ∷ xs) ys [] vs e = absurd (omega (arith, e))
joined_same (x ∷ xs) ys (u ∷ us) vs e =
    let same : length xs ≡ length us = omega (arith, e) in
    ap (λ b. nat_eq x u && b) (joined_same xs ys us vs same) ∙ sym (and_nested (nat_eq x u) (pointwise nat_eq xs us) (pointwise nat_eq ys vs))

-- so many bytes from a place on
abbrev block : ℕ → ℕ → List ℕ → List ℕ
block size at items = take size (drop at items)

-- ---- a mask of the lanes that differ

-- where no lane differs
mask_told : (xs ys : List ℕ) → length xs ≡ length ys → nat_eq (mask_l (zip2 (λ x y. not (nat_eq x y)) xs ys)) 0 ≡ pointwise nat_eq xs ys
mask_told [] [] e = refl
mask_told [] (y ∷ ys) e = absurd (omega (arith, e))
mask_told (x ∷ xs) [] e = absurd (omega (arith, e))
mask_told (x ∷ xs) (y ∷ ys) e = by (nat_eq x y) (mask_l (zip2 (λ x y. not (nat_eq x y)) xs ys)) (mask_told xs ys (omega (arith, e)))
  where
    twice : (n : ℕ) → nat_eq (0 + 2 * n) 0 ≡ nat_eq n 0
    twice zero = refl
    twice (suc n) = let e : 0 + 2 * suc n ≡ suc (suc (2 * n)) = omega arith in ap (λ k. nat_eq k 0) e ∙ eqb-suc-zero (suc (2 * n)) ∙ sym (eqb-suc-zero n)

    odd : (n : ℕ) → nat_eq (1 + 2 * n) 0 ≡ false
    odd n = let e : 1 + 2 * n ≡ suc (2 * n) = omega arith in ap (λ k. nat_eq k 0) e ∙ eqb-suc-zero (2 * n)

    by : (b : Bool) (n : ℕ) → nat_eq n 0 ≡ pointwise nat_eq xs ys → nat_eq (cond (not b) 1 0 + 2 * n) 0 ≡ b && pointwise nat_eq xs ys
    by true n h = twice n ∙ h
    by false n h = odd n

loaded : (at : ℕ) (items : List ℕ) → chunk 0 64 (take (at + 64 - at) (drop at items)) ≡ block 64 at items
loaded at items =
    let n : at + 64 - at ≡ 64 = omega arith in
    ap (λ k. take 64 (take k (drop at items))) n ∙ take_all 64 (block 64 at items) (omega (arith, length-take 64 (drop at items)))

lanes_told : (one other : List ℕ) → length one ≡ 64 → length other ≡ 64 → nat_eq (mask_l (map (top 7) (zip2 (λ x y. cond (not (nat_eq x y)) 255 0) one other)) % 2 ^ 64) 0 ≡ pointwise nat_eq one other
lanes_told one other a b =
    let differ = λ (x y : ℕ). not (nat_eq x y) in
    ap (λ bits. nat_eq (mask_l bits % 2 ^ 64) 0) (tops_compared w8 differ one other)
    ∙ ap (λ n. nat_eq n 0) (mask_l-mod (zip2 differ one other) 64 (omega (arith, length-zip2 differ one other (a ∙ sym b), a)))
    ∙ mask_told one other (a ∙ sym b)

-- no lane differs of two blocks that are the same
pub block_told : (at : ℕ) (one other : List ℕ) → at + 64 ≤ length one → length one ≡ length other
    → nat_eq (mask_l (map (top 7) (zip2 (λ x y. cond (not (nat_eq x y)) 255 0) (chunk 0 64 (take (at + 64 - at) (drop at one))) (chunk 0 64 (take (at + 64 - at) (drop at other))))) % 2 ^ 64) 0
    ≡ pointwise nat_eq (block 64 at one) (block 64 at other)
block_told at one other inside len =
    let long : length (block 64 at one) ≡ 64 = omega (arith, length-take 64 (drop at one), length-drop at one, inside) in
    let also : length (block 64 at other) ≡ 64 = omega (arith, length-take 64 (drop at other), length-drop at other, inside, len) in
    (λ i. nat_eq (mask_l (map (top 7) (zip2 (λ x y. cond (not (nat_eq x y)) 255 0) (loaded at one i) (loaded at other i))) % 2 ^ 64) 0)
    ∙ lanes_told (block 64 at one) (block 64 at other) long also

-- ---- blocks

-- bytes of which a block differs
pub block_differs : (size at : ℕ) (xs ys : List ℕ) → pointwise nat_eq (block size at xs) (block size at ys) ≡ false → pointwise nat_eq xs ys ≡ false
block_differs size at xs ys h = by (pointwise nat_eq xs ys) refl
  where
    by : (b : Bool) → pointwise nat_eq xs ys ≡ b → b ≡ false
    by false e = refl
    by true e = absurd (false≢true (sym h ∙ (bytes_decides (block size at xs) (block size at ys)).1 (ap (block size at) (same_text xs ys (sym e)))))

-- bytes behind a block
pub behind_block : (size at : ℕ) (xs ys : List ℕ) → length xs ≡ length ys → pointwise nat_eq (block size at xs) (block size at ys) ≡ true
    → pointwise nat_eq (drop at xs) (drop at ys) ≡ pointwise nat_eq (drop (at + size) xs) (drop (at + size) ys)
behind_block size at xs ys long h =
    let cut : (zs : List ℕ) → drop at zs ≡ block size at zs ++ drop (at + size) zs = λ zs. sym (take-append-drop size (drop at zs)) ∙ ap (λ rest. block size at zs ++ rest) (drop-drop size at zs) in
    let same : length (block size at xs) ≡ length (block size at ys) = length-take size (drop at xs) ∙ (λ i. min size (left i)) ∙ sym (length-take size (drop at ys)) in
    (λ i. pointwise nat_eq (cut xs i) (cut ys i))
    ∙ joined_same (block size at xs) (drop (at + size) xs) (block size at ys) (drop (at + size) ys) same
    ∙ ap (λ b. b && pointwise nat_eq (drop (at + size) xs) (drop (at + size) ys)) h
  where
    left : length (drop at xs) ≡ length (drop at ys)
    left = length-drop at xs ∙ ap (λ n. n - at) long ∙ sym (length-drop at ys)

-- the last block, behind bytes that are the same
pub last_block : (size at len : ℕ) (xs ys : List ℕ) → length xs ≡ len → length ys ≡ len → size ≤ len → len - size ≤ at
    → pointwise nat_eq xs ys ≡ pointwise nat_eq (drop at xs) (drop at ys)
    → pointwise nat_eq (block size (len - size) xs) (block size (len - size) ys) ≡ pointwise nat_eq xs ys
last_block size at len xs ys long also fits end h = by (pointwise nat_eq (block size (len - size) xs) (block size (len - size) ys)) refl
  where
    whole : (zs : List ℕ) → length zs ≡ len → block size (len - size) zs ≡ drop (len - size) zs
    whole zs e = take_all size (drop (len - size) zs) (omega (arith, length-drop (len - size) zs, e, fits))

    tail : (zs : List ℕ) → length zs ≡ len → drop at zs ≡ drop (at - (len - size)) (block size (len - size) zs)
    tail zs e =
        let there : at ≡ (len - size) + (at - (len - size)) = omega (arith, end) in
        ap (λ n. drop n zs) there ∙ sym (drop-drop (at - (len - size)) (len - size) zs) ∙ ap (drop (at - (len - size))) (sym (whole zs e))

    by : (b : Bool) → pointwise nat_eq (block size (len - size) xs) (block size (len - size) ys) ≡ b → b ≡ pointwise nat_eq xs ys
    by false e = sym (block_differs size (len - size) xs ys e)
    by true e =
        let rest : drop at xs ≡ drop at ys = tail xs long ∙ ap (drop (at - (len - size))) (same_text (block size (len - size) xs) (block size (len - size) ys) (sym e)) ∙ sym (tail ys also) in
        sym (h ∙ (bytes_decides (drop at xs) (drop at ys)).1 rest)
