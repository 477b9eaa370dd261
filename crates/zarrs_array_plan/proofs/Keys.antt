-- The keys of two chunks differ.
use Rattle.std.proofs.Common.{◌≡◌, ℕ, ◌^◌, ◌<◌, ◌≤◌, List, [], ◌∷◌, ◌++◌, length, drop, arith, refl, ap, ap₂}
use Rattle.std.specs.Prelude.{decimal}
use Rattle.std.specs.List.{All}
use Rattle.std.proofs.lemmas.List.Elements.{All-head, All-tail}
use Rattle.std.specs.Str.Parse.{AllDigits}
use Rattle.std.proofs.lemmas.Fmt.{decimal_injective, decimal_is_IsNumeral}
use Rattle.std.proofs.lemmas.Str.Parse.{digit_from_value}
use Rattle.zarrs_array_plan.specs.ChunkKeys.{separator_byte, separated, v2_key, KeysDiffer}
use Rattle.zarrs_array_plan.specs.declared.chunk_key_encoding.ChunkKeySeparator.{ChunkKeySeparator}
use Rattle.zarrs_array_plan.specs.declared.chunk_key_encoding.ChunkKeySeparator.TheVariants.{Slash, Dot}
use Rattle.zarrs_array_plan.specs.declared.chunk_key_encoding.ChunkKeyEncoding.TheVariants.{Default, V2}

-- each byte is no separator
abbrev AreAbove : List ℕ → Type 0
AreAbove [] = Unit {0}
AreAbove (x ∷ xs) = (47 < x) × AreAbove xs

-- a text begins with a byte that ends digits, or is empty
abbrev EndsDigits : List ℕ → Type 0
EndsDigits [] = Unit {0}
EndsDigits (x ∷ xs) = x ≤ 47

-- digits before such texts
same_front : (a b s t : List ℕ) → AreAbove a → AreAbove b → EndsDigits s → EndsDigits t → a ++ s ≡ b ++ t → (a ≡ b) × (s ≡ t)
same_front [] [] s t p q u v e = (refl, e)
same_front [] (y ∷ b) [] t p q u v e = absurd (cc)
same_front [] (y ∷ b) (x ∷ s) t p q u v e = absurd (let h : x ≡ y = cc in omega (arith, u, q.0, h))
same_front (x ∷ a) [] s [] p q u v e = absurd (cc)
same_front (x ∷ a) [] s (y ∷ t) p q u v e = absurd (let h : x ≡ y = cc in omega (arith, v, p.0, h))
same_front (x ∷ a) (y ∷ b) s t p q u v e =
    let h : x ≡ y = cc in
    let f : a ++ s ≡ b ++ t = ap (drop 1) e in
    let r = same_front a b s t p.1 q.1 u v f in
    (ap₂ (λ i xs. i ∷ xs) h r.0, r.1)

above : (ds : List ℕ) → AllDigits 10 ds → AreAbove ds
above [] d = tt
above (c ∷ cs) d = let r = digit_from_value c d.0 in (omega (arith, r.0), above cs d.1)

decimal_above : (n : ℕ) → n < 2 ^ 64 → AreAbove (decimal n)
decimal_above n h = above (decimal n) (decimal_is_IsNumeral n h).0.1

separated_ends : (separator : ℕ) (numbers : List ℕ) → separator ≤ 47 → EndsDigits (separated separator numbers)
separated_ends separator [] h = tt
separated_ends separator (number ∷ numbers) h = h

-- 64 bits hold an index
abbrev pub is_small : ℕ → Type 0
is_small index = index < 2 ^ 64

separated_same : (separator : ℕ) (one other : List ℕ) → separator ≤ 47 → length one ≡ length other → All is_small one → All is_small other → separated separator one ≡ separated separator other → one ≡ other
separated_same separator [] [] h l p q e = refl
separated_same separator [] (n ∷ other) h l p q e = absurd (omega arith)
separated_same separator (m ∷ one) [] h l p q e = absurd (omega arith)
separated_same separator (m ∷ one) (n ∷ other) h l p q e =
    let small = All-head is_small m one p in
    let little = All-head is_small n other q in
    let f : decimal m ++ separated separator one ≡ decimal n ++ separated separator other = ap (drop 1) e in
    let r = same_front (decimal m) (decimal n) (separated separator one) (separated separator other) (decimal_above m small) (decimal_above n little) (separated_ends separator one h) (separated_ends separator other h) f in
    ap₂ (λ i xs. i ∷ xs) (decimal_injective m n small little r.0) (separated_same separator one other h (omega arith) (All-tail is_small m one p) (All-tail is_small n other q) r.1)

separator_small : (separator : ChunkKeySeparator) → separator_byte separator ≤ 47
separator_small Slash = omega arith
separator_small Dot = omega arith

v2_same : (separator : ℕ) (one other : List ℕ) → separator ≤ 47 → length one ≡ length other → All is_small one → All is_small other → v2_key separator one ≡ v2_key separator other → one ≡ other
v2_same separator [] [] h l p q e = refl
v2_same separator [] (n ∷ other) h l p q e = absurd (omega arith)
v2_same separator (m ∷ one) [] h l p q e = absurd (omega arith)
v2_same separator (m ∷ one) (n ∷ other) h l p q e =
    let small = All-head is_small m one p in
    let little = All-head is_small n other q in
    let r = same_front (decimal m) (decimal n) (separated separator one) (separated separator other) (decimal_above m small) (decimal_above n little) (separated_ends separator one h) (separated_ends separator other h) e in
    ap₂ (λ i xs. i ∷ xs) (decimal_injective m n small little r.0) (separated_same separator one other h (omega arith) (All-tail is_small m one p) (All-tail is_small n other q) r.1)

pub keys_apart : KeysDiffer
keys_apart (Default separator) one other l p q e = separated_same (separator_byte separator) one other (separator_small separator) l p q (ap (drop 1) e)
keys_apart (V2 separator) one other l p q e = v2_same (separator_byte separator) one other (separator_small separator) l p q e
