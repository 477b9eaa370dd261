-- Bytes are divided one by one.
use Rattle.std.proofs.Common.{◌≡◌, ℕ, zero, suc, ◌+◌, ◌-◌, ◌*◌, ◌^◌, ◌<◌, ◌≤◌, inl, inr, bit_xor, List, [], ◌∷◌, ◌++◌, length, drop, get_or, refl, sym, ap, ap₂, subst, ◌∙◌, arith}
use Rattle.std.proofs.lemmas.Nat.{xor_lt}
use Rattle.std.proofs.lemmas.List.{length-drop, drop-drop, get_or-drop}
use Rattle.std.specs.Int.Bits.{xor_zero_l, xor_zero_r}
use Rattle.std.proofs.lemmas.Bool.{cases_lt, cases_eq, lt-ltb, le-ltb}
use Rattle.zarrs_crc32c.specs.Checksum.{after_bits, after_bytes, all_ones}
use Rattle.zarrs_crc32c.specs.Quotient.{sum_of_five, last_byte, owed, after_sums, after_division, lower_terms, AreSums}
use Rattle.zarrs_crc32c.specs.Lawful.{bits_small}
use Rattle.zarrs_crc32c.proofs.Registers.{bits_more}
use Rattle.zarrs_crc32c.proofs.Multiple.{sums_of_five, five_linear, six_terms}
use Rattle.zarrs_crc32c.proofs.Sixteen.{zeros, zero_read}
use Rattle.zarrs_crc32c.proofs.Sums.{after_alone, sums_same, sums_apart, alone_apart, alone_still, sums_none, sums_taken, one_at, one_there, one_elsewhere, alone_one}

five_same : (a b c d e v w x y z : ℕ) → a ≡ v → b ≡ w → c ≡ x → d ≡ y → e ≡ z → sum_of_five a b c d e ≡ sum_of_five v w x y z
five_same a b c d e v w x y z p q r s t = ap₂ bit_xor (ap₂ bit_xor (ap₂ bit_xor (ap₂ bit_xor p q) r) s) t

-- ---- the last bytes of a quotient

last_inside : (quotient : List ℕ) (at place : ℕ) → place < 418 → last_byte quotient at place ≡ get_or quotient (at + place) 0
last_inside quotient at place l = rw (lt-ltb place 418 l) refl

last_outside : (quotient : List ℕ) (at place : ℕ) → 418 ≤ place → last_byte quotient at place ≡ 0
last_outside quotient at place l = rw (le-ltb place 418 l) refl

-- one byte more: the bytes are those, each a place before, and the new one
last_next : (quotient : List ℕ) (at place here next one : ℕ) → next ≡ suc here → here + one ≡ place + 417
    → last_byte quotient (at + 1) here ≡ bit_xor (last_byte quotient at next) (one_at one (get_or quotient (at + 418) 0) place)
last_next quotient at place here next one e f =
    let new : ℕ = get_or quotient (at + 418) 0 in
    elim (cases_eq here 417) [
      | inl is ↦
          last_inside quotient (at + 1) here (omega (arith, is))
          ∙ ap (λ (i : ℕ). get_or quotient i 0) (let g : at + 1 + here ≡ at + 418 = omega (arith, is) in g)
          ∙ sym (one_there one new)
          ∙ ap (one_at one new) (let g : one ≡ place = omega (arith, is, f) in g)
          ∙ sym (xor_zero_l (one_at one new place))
          ∙ ap (λ (x : ℕ). bit_xor x (one_at one new place)) (sym (last_outside quotient at next (omega (arith, is, e))))
      | inr differ ↦
          let same : last_byte quotient (at + 1) here ≡ last_byte quotient at next =
          elim (cases_lt here 417) [
            | inl l ↦
                last_inside quotient (at + 1) here (omega (arith, l))
                ∙ ap (λ (i : ℕ). get_or quotient i 0) (let g : at + 1 + here ≡ at + next = omega (arith, e) in g)
                ∙ sym (last_inside quotient at next (omega (arith, l, e)))
            | inr k ↦
                let past : 418 ≤ here = omega (arith, k, differ) in
                last_outside quotient (at + 1) here past ∙ sym (last_outside quotient at next (omega (arith, past, e)))
          ] in
          same ∙ sym (xor_zero_r (last_byte quotient at next))
          ∙ ap (bit_xor (last_byte quotient at next)) (sym (one_elsewhere one new place (λ g. differ (omega (arith, f, g)))))
    ]

-- what a new byte adds to those that come
abbrev ones : ℕ → ℕ → ℕ
ones number place = sum_of_five (one_at 417 number place) (one_at 389 number place) (one_at 339 number place) (one_at 309 number place) (one_at 129 number place)

owed_next : (quotient : List ℕ) (at place : ℕ) → owed quotient (at + 1) place ≡ bit_xor (owed quotient at (suc place)) (ones (get_or quotient (at + 418) 0) place)
owed_next quotient at place =
    let new : ℕ = get_or quotient (at + 418) 0 in
    let of : ℕ → ℕ = last_byte quotient at in
    let with : ℕ → ℕ → ℕ = λ (k one : ℕ). bit_xor (of (suc place + k)) (one_at one new place) in
    five_same (last_byte quotient (at + 1) place) (last_byte quotient (at + 1) (place + 28)) (last_byte quotient (at + 1) (place + 78)) (last_byte quotient (at + 1) (place + 108)) (last_byte quotient (at + 1) (place + 288))
    (bit_xor (of (suc place)) (one_at 417 new place)) (with 28 389) (with 78 339) (with 108 309) (with 288 129)
    (last_next quotient at place place (suc place) 417 refl refl)
    (last_next quotient at place (place + 28) (suc place + 28) 389 (omega arith) (omega arith))
    (last_next quotient at place (place + 78) (suc place + 78) 339 (omega arith) (omega arith))
    (last_next quotient at place (place + 108) (suc place + 108) 309 (omega arith) (omega arith))
    (last_next quotient at place (place + 288) (suc place + 288) 129 (omega arith) (omega arith))
    ∙ sums_of_five (of (suc place)) (of (suc place + 28)) (of (suc place + 78)) (of (suc place + 108)) (of (suc place + 288))
    (one_at 417 new place) (one_at 389 new place) (one_at 339 new place) (one_at 309 new place) (one_at 129 new place)

-- ---- what a byte of the quotient adds is what it makes of the register

ones_apart : (number total : ℕ) → after_alone 0 (ones number) total
    ≡ sum_of_five (after_alone 0 (one_at 417 number) total) (after_alone 0 (one_at 389 number) total) (after_alone 0 (one_at 339 number) total) (after_alone 0 (one_at 309 number) total) (after_alone 0 (one_at 129 number) total)
ones_apart number total =
    let a = one_at 417 number in
    let b = one_at 389 number in
    let c = one_at 339 number in
    let d = one_at 309 number in
    let e = one_at 129 number in
    let two : ℕ → ℕ = λ (p : ℕ). bit_xor (a p) (b p) in
    let three : ℕ → ℕ = λ (p : ℕ). bit_xor (two p) (c p) in
    let four : ℕ → ℕ = λ (p : ℕ). bit_xor (three p) (d p) in
    alone_apart 0 0 four e (ones number) total (λ p. refl)
    ∙ ap (λ (x : ℕ). bit_xor x (after_alone 0 e total)) (alone_apart 0 0 three d four total (λ p. refl)
    ∙ ap (λ (x : ℕ). bit_xor x (after_alone 0 d total)) (alone_apart 0 0 two c three total (λ p. refl)
    ∙ ap (λ (x : ℕ). bit_xor x (after_alone 0 c total)) (alone_apart 0 0 a b two total (λ p. refl))))

-- a byte, and so many bytes and then more
one_term : (number more count : ℕ) → after_bits (8 * suc (count + more)) number ≡ after_bits (8 * count) (after_bits (8 * more) (after_bits 8 number))
one_term number more count =
    ap (λ (n : ℕ). after_bits n number) (let e : 8 * suc (count + more) ≡ 8 + (8 * more + 8 * count) = omega arith in e)
    ∙ bits_more 8 (8 * more + 8 * count) number
    ∙ bits_more (8 * more) (8 * count) (after_bits 8 number)

no_term : (number count : ℕ) → after_bits (8 * suc count) number ≡ after_bits (8 * count) (after_bits 8 number)
no_term number count =
    ap (λ (n : ℕ). after_bits n number) (let e : 8 * suc count ≡ 8 + 8 * count = omega arith in e) ∙ bits_more 8 (8 * count) number

ones_close : (number count total : ℕ) → after_bits 8 number < 2 ^ 32 → total ≡ count + 418 → after_alone 0 (ones number) total ≡ after_alone (after_bits 8 number) (λ place. 0) total
ones_close number count total l e =
    let register : ℕ = after_bits 8 number in
    let term : ℕ → ℕ = λ (k : ℕ). after_bits (8 * count) (after_bits (8 * k) register) in
    ones_apart number total
    ∙ five_same (after_alone 0 (one_at 417 number) total) (after_alone 0 (one_at 389 number) total) (after_alone 0 (one_at 339 number) total) (after_alone 0 (one_at 309 number) total) (after_alone 0 (one_at 129 number) total)
    (after_bits (8 * count) register) (term 28) (term 78) (term 108) (term 288)
    (alone_one 417 number count total (omega (arith, e)) ∙ no_term number count)
    (alone_one 389 number (count + 28) total (omega (arith, e)) ∙ one_term number 28 count)
    (alone_one 339 number (count + 78) total (omega (arith, e)) ∙ one_term number 78 count)
    (alone_one 309 number (count + 108) total (omega (arith, e)) ∙ one_term number 108 count)
    (alone_one 129 number (count + 288) total (omega (arith, e)) ∙ one_term number 288 count)
    ∙ sym (five_linear (8 * count) register (after_bits 224 register) (after_bits 624 register) (after_bits 864 register) (after_bits 2304 register))
    ∙ ap (after_bits (8 * count)) (sym (six_terms register l))
    ∙ sym (bits_more 3344 (8 * count) register)
    ∙ ap (λ (n : ℕ). after_bits n register) (let f : 3344 + 8 * count ≡ 8 * total = omega (arith, e) in f)
    ∙ sym (alone_still register total)

-- ---- the division

pub divided_next : (quotient : List ℕ) (at byte : ℕ) (bytes : List ℕ) → after_bits 8 (get_or quotient (at + 418) 0) < 2 ^ 32 → get_or quotient (at + 418) 0 ≡ bit_xor byte (owed quotient at 0) → 418 ≤ length bytes
    → after_division quotient at (byte ∷ bytes) ≡ after_division quotient (at + 1) bytes
divided_next quotient at byte bytes l is long =
    let new : ℕ = get_or quotient (at + 418) 0 in
    let register : ℕ = after_bits 8 new in
    let f : ℕ → ℕ = λ (place : ℕ). owed quotient at (suc place) in
    ap (λ (x : ℕ). after_sums (after_bits 8 x) f bytes) (xor_zero_l (bit_xor byte (owed quotient at 0)) ∙ sym is)
    ∙ ap (λ (x : ℕ). after_sums x f bytes) (sym (xor_zero_l register))
    ∙ sums_apart 0 register f (λ place. 0) f bytes (λ place. sym (xor_zero_r (f place)))
    ∙ ap (bit_xor (after_sums 0 f bytes)) (sym (ones_close new (length bytes - 418) (length bytes) l (omega (arith, long))))
    ∙ sym (sums_apart 0 0 f (ones new) (owed quotient (at + 1)) bytes (owed_next quotient at))

divided_one : (quotient : List ℕ) (at byte next : ℕ) (bytes : List ℕ) → get_or quotient (at + 418) 0 < 256 → get_or quotient (at + 418) 0 ≡ bit_xor byte (owed quotient at 0) → next ≡ at + 1 → 418 ≤ length bytes
    → after_division quotient at (byte ∷ bytes) ≡ after_division quotient next bytes
divided_one quotient at byte next bytes small is e long =
    divided_next quotient at byte bytes (bits_small 8 (get_or quotient (at + 418) 0) (omega (arith, small))) is long
    ∙ ap (λ (n : ℕ). after_division quotient n bytes) (sym e)

-- so many bytes
pub divided_more : (count : ℕ) (quotient : List ℕ) (at : ℕ) (bytes : List ℕ) → ((place : ℕ) → place < count → get_or quotient (at + place + 418) 0 < 256)
    → ((place : ℕ) → place < count → get_or quotient (at + place + 418) 0 ≡ bit_xor (get_or bytes place 0) (owed quotient (at + place) 0)) → count + 418 ≤ length bytes
    → after_division quotient at bytes ≡ after_division quotient (at + count) (drop count bytes)
divided_more zero quotient at bytes small each long = ap (λ (n : ℕ). after_division quotient n bytes) (let e : at ≡ at + 0 = omega arith in e)
divided_more (suc count) quotient at [] small each long = absurd (omega (arith, long))
divided_more (suc count) quotient at (byte ∷ bytes) small each long =
    let here : at + 0 ≡ at = omega arith in
    divided_one quotient at byte (at + 1) bytes (subst (λ (n : ℕ). get_or quotient (n + 418) 0 < 256) here (small 0 (omega arith)))
    (subst (λ (n : ℕ). get_or quotient (n + 418) 0 ≡ bit_xor byte (owed quotient n 0)) here (each 0 (omega arith))) refl (omega (arith, long))
    ∙ divided_more count quotient (at + 1) bytes
    (λ place l. subst (λ (n : ℕ). get_or quotient (n + 418) 0 < 256) (let e : at + suc place ≡ at + 1 + place = omega arith in e) (small (suc place) (omega (arith, l))))
    (λ place l. subst (λ (n : ℕ). get_or quotient (n + 418) 0 ≡ bit_xor (get_or bytes place 0) (owed quotient n 0)) (let e : at + suc place ≡ at + 1 + place = omega arith in e) (each (suc place) (omega (arith, l))))
    (omega (arith, long))
    ∙ ap (λ (n : ℕ). after_division quotient n (drop count bytes)) (let e : at + 1 + count ≡ at + suc count = omega arith in e)

-- the last bytes alone count
last_same : (quotient other : List ℕ) (at there place : ℕ) → ((i : ℕ) → i < 418 → get_or quotient (at + i) 0 ≡ get_or other (there + i) 0) → last_byte quotient at place ≡ last_byte other there place
last_same quotient other at there place each =
    elim (cases_lt place 418) [
      | inl l ↦ last_inside quotient at place l ∙ each place l ∙ sym (last_inside other there place l)
      | inr k ↦ last_outside quotient at place k ∙ sym (last_outside other there place k)
    ]

pub divided_same : (quotient other : List ℕ) (at there : ℕ) (bytes : List ℕ) → ((i : ℕ) → i < 418 → get_or quotient (at + i) 0 ≡ get_or other (there + i) 0) → after_division quotient at bytes ≡ after_division other there bytes
divided_same quotient other at there bytes each =
    sums_same 0 (owed quotient at) (owed other there) bytes
    (λ place. five_same (last_byte quotient at place) (last_byte quotient at (place + 28)) (last_byte quotient at (place + 78)) (last_byte quotient at (place + 108)) (last_byte quotient at (place + 288))
    (last_byte other there place) (last_byte other there (place + 28)) (last_byte other there (place + 78)) (last_byte other there (place + 108)) (last_byte other there (place + 288))
    (last_same quotient other at there place each) (last_same quotient other at there (place + 28) each) (last_same quotient other at there (place + 78) each)
    (last_same quotient other at there (place + 108) each) (last_same quotient other at there (place + 288) each))

five_small : (a b c d e : ℕ) → a < 256 → b < 256 → c < 256 → d < 256 → e < 256 → sum_of_five a b c d e < 256
five_small a b c d e p q r s t =
    let first : bit_xor a b < 256 = xor_lt 8 a b p q in
    let second : bit_xor (bit_xor a b) c < 256 = xor_lt 8 (bit_xor a b) c first r in
    xor_lt 8 (bit_xor (bit_xor (bit_xor a b) c) d) e (xor_lt 8 (bit_xor (bit_xor a b) c) d second s) t

-- sixteen bytes of the quotient, written behind those before
pub divided_sixteen : (quotient new sums bytes : List ℕ) (at next : ℕ) → ((i : ℕ) → get_or quotient i 0 < 256) → ((i : ℕ) → get_or bytes i 0 < 256) → ((i : ℕ) → i < at + 418 → get_or new i 0 ≡ get_or quotient i 0)
    → ((place : ℕ) → place < 16 → get_or new (at + 418 + place) 0 ≡ get_or sums place 0) → AreSums quotient bytes at sums → next ≡ at + 16 → at + 434 ≤ length bytes
    → after_division new next (drop next bytes) ≡ after_division quotient at (drop at bytes)
divided_sixteen quotient new sums bytes at next small each kept written are e long =
    let rest : length (drop at bytes) ≡ length bytes - at = length-drop at bytes in
    sym (divided_same quotient new at at (drop at bytes) (λ i l. sym (kept (at + i) (omega (arith, l))))
    ∙ divided_more 16 new at (drop at bytes)
    (λ place l. subst (λ (x : ℕ). x < 256) (sym (is place l))
    (xor_lt 8 (get_or bytes (at + place) 0) (lower_terms quotient at place) (each (at + place)) (five_small (get_or quotient (at + place) 0) (get_or quotient (at + 28 + place) 0) (get_or quotient (at + 78 + place) 0) (get_or quotient (at + 108 + place) 0) (get_or quotient (at + 288 + place) 0)
    (small (at + place)) (small (at + 28 + place)) (small (at + 78 + place)) (small (at + 108 + place)) (small (at + 288 + place)))))
    (λ place l. is place l
    ∙ ap₂ bit_xor (sym (get_or-drop at bytes place 0))
    (five_same (get_or quotient (at + place) 0) (get_or quotient (at + 28 + place) 0) (get_or quotient (at + 78 + place) 0) (get_or quotient (at + 108 + place) 0) (get_or quotient (at + 288 + place) 0)
    (get_or new (at + place + 0) 0) (get_or new (at + place + 28) 0) (get_or new (at + place + 78) 0) (get_or new (at + place + 108) 0) (get_or new (at + place + 288) 0)
    (stands place 0 (at + place) l (omega arith) (omega arith))
    (stands place 28 (at + 28 + place) l (omega arith) (omega arith))
    (stands place 78 (at + 78 + place) l (omega arith) (omega arith))
    (stands place 108 (at + 108 + place) l (omega arith) (omega arith))
    (stands place 288 (at + 288 + place) l (omega arith) (omega arith))))
    (omega (arith, rest, long))
    ∙ ap (after_division new (at + 16)) (drop-drop 16 at bytes)
    ∙ ap (λ (n : ℕ). after_division new n (drop n bytes)) (sym e))
  where
    is : (place : ℕ) → place < 16 → get_or new (at + place + 418) 0 ≡ bit_xor (get_or bytes (at + place) 0) (lower_terms quotient at place)
    is place l = ap (λ (i : ℕ). get_or new i 0) (let f : at + place + 418 ≡ at + 418 + place = omega arith in f) ∙ written place l ∙ are.1 place l

    stands : (place k from : ℕ) → place < 16 → k < 300 → from ≡ at + place + k → get_or quotient from 0 ≡ get_or new (at + place + k) 0
    stands place k from l h f = ap (λ (i : ℕ). get_or quotient i 0) f ∙ sym (kept (at + place + k) (omega (arith, l, h)))

-- ---- where it begins

-- a register of ones, as four bytes that are added to the first ones
pub ones_in_four : ℕ → ℕ
ones_in_four zero = 255
ones_in_four (suc zero) = 255
ones_in_four (suc (suc zero)) = 255
ones_in_four (suc (suc (suc zero))) = 255
ones_in_four (suc (suc (suc (suc place)))) = 0

pub none_behind : (place : ℕ) → 4 ≤ place → ones_in_four place ≡ 0
unfolding ones_in_four
none_behind zero l = absurd (omega (arith, l))
none_behind (suc zero) l = absurd (omega (arith, l))
none_behind (suc (suc zero)) l = absurd (omega (arith, l))
none_behind (suc (suc (suc zero))) l = absurd (omega (arith, l))
none_behind (suc (suc (suc (suc place)))) l = refl

pub ones_read : (i : ℕ) → get_or ((255 ∷ 255 ∷ 255 ∷ 255 ∷ []) ++ drop 4 (zeros 1442)) i 0 ≡ ones_in_four i
unfolding ones_in_four
ones_read zero = refl
ones_read (suc zero) = refl
ones_read (suc (suc zero)) = refl
ones_read (suc (suc (suc zero))) = refl
ones_read (suc (suc (suc (suc i)))) = zero_read 1438 i

four_taken : (count : ℕ) → 4 ≤ count → after_alone 0 ones_in_four count ≡ after_alone all_ones (λ place. 0) count
unfolding ones_in_four after_bits
four_taken zero l = absurd (omega (arith, l))
four_taken (suc zero) l = absurd (omega (arith, l))
four_taken (suc (suc zero)) l = absurd (omega (arith, l))
four_taken (suc (suc (suc zero))) l = absurd (omega (arith, l))
four_taken (suc (suc (suc (suc count)))) l = refl

pub begun : (quotient bytes : List ℕ) → ((i : ℕ) → i < 418 → get_or quotient i 0 ≡ ones_in_four i) → 4 ≤ length bytes → after_division quotient 0 bytes ≡ after_bytes all_ones bytes
begun quotient bytes each long =
    let none : ℕ → ℕ = λ (place : ℕ). 0 in
    sums_same 0 (owed quotient 0) ones_in_four bytes (λ place.
    five_same (last_byte quotient 0 place) (last_byte quotient 0 (place + 28)) (last_byte quotient 0 (place + 78)) (last_byte quotient 0 (place + 108)) (last_byte quotient 0 (place + 288)) (ones_in_four place) 0 0 0 0
    (first place) (first (place + 28) ∙ none_behind (place + 28) (omega arith)) (first (place + 78) ∙ none_behind (place + 78) (omega arith)) (first (place + 108) ∙ none_behind (place + 108) (omega arith)) (first (place + 288) ∙ none_behind (place + 288) (omega arith))
    ∙ xor_zero_r (bit_xor (bit_xor (bit_xor (ones_in_four place) 0) 0) 0) ∙ xor_zero_r (bit_xor (bit_xor (ones_in_four place) 0) 0) ∙ xor_zero_r (bit_xor (ones_in_four place) 0) ∙ xor_zero_r (ones_in_four place))
    ∙ sums_apart 0 0 none ones_in_four ones_in_four bytes (λ place. sym (xor_zero_l (ones_in_four place)))
    ∙ ap (bit_xor (after_sums 0 none bytes)) (four_taken (length bytes) long)
    ∙ sym (sums_apart 0 all_ones none none none bytes (λ place. refl))
    ∙ sums_none all_ones none bytes (λ place. refl)
  where
    first : (place : ℕ) → last_byte quotient 0 place ≡ ones_in_four place
    first place =
        elim (cases_lt place 418) [
          | inl l ↦ last_inside quotient 0 place l ∙ ap (λ (i : ℕ). get_or quotient i 0) (let e : 0 + place ≡ place = omega arith in e) ∙ each place l
          | inr k ↦ last_outside quotient 0 place k ∙ sym (none_behind place (omega (arith, k)))
        ]

-- ---- where it ends

-- behind the quotient's bytes are zeros
last_of_zeros : (last : List ℕ) (place : ℕ) → ((i : ℕ) → 418 ≤ i → get_or last i 0 ≡ 0) → last_byte last 0 place ≡ get_or last place 0
last_of_zeros last place zeros =
    elim (cases_lt place 418) [
      | inl l ↦ last_inside last 0 place l ∙ ap (λ (i : ℕ). get_or last i 0) (let e : 0 + place ≡ place = omega arith in e)
      | inr k ↦ last_outside last 0 place k ∙ sym (zeros place k)
    ]

pub taken_sixteen : (last bytes sums : List ℕ) (register at next : ℕ) → ((i : ℕ) → 418 ≤ i → get_or last i 0 ≡ 0) → AreSums last bytes at sums → next ≡ at + 16 → at + 16 ≤ length bytes
    → after_sums (after_bytes register sums) (λ place. owed last 0 (next + place)) (drop next bytes) ≡ after_sums register (λ place. owed last 0 (at + place)) (drop at bytes)
taken_sixteen last bytes sums register at next zeros are e long =
    sym (sums_taken sums (drop at bytes) register (λ place. owed last 0 (at + place)) (λ place. owed last 0 (next + place))
    (λ place l. are.1 place (omega (arith, l, are.0))
    ∙ ap₂ bit_xor (sym (get_or-drop at bytes place 0))
    (five_same (get_or last (at + place) 0) (get_or last (at + 28 + place) 0) (get_or last (at + 78 + place) 0) (get_or last (at + 108 + place) 0) (get_or last (at + 288 + place) 0)
    (last_byte last 0 (at + place)) (last_byte last 0 (at + place + 28)) (last_byte last 0 (at + place + 78)) (last_byte last 0 (at + place + 108)) (last_byte last 0 (at + place + 288))
    (stands (at + place) (at + place) refl)
    (stands (at + 28 + place) (at + place + 28) (omega arith))
    (stands (at + 78 + place) (at + place + 78) (omega arith))
    (stands (at + 108 + place) (at + place + 108) (omega arith))
    (stands (at + 288 + place) (at + place + 288) (omega arith))))
    (omega (arith, are.0, length-drop at bytes, long))
    (λ place. ap (owed last 0) (let f : at + (length sums + place) ≡ next + place = omega (arith, are.0, e) in f))
    ∙ ap (after_sums (after_bytes register sums) (λ place. owed last 0 (next + place)))
    (ap (λ (n : ℕ). drop n (drop at bytes)) are.0 ∙ drop-drop 16 at bytes ∙ ap (λ (n : ℕ). drop n bytes) (sym e)))
  where
    stands : (from place : ℕ) → from ≡ place → get_or last from 0 ≡ last_byte last 0 place
    stands from place f = ap (λ (i : ℕ). get_or last i 0) f ∙ sym (last_of_zeros last place zeros)

pub none_owed : (last : List ℕ) (place : ℕ) → 418 ≤ place → owed last 0 place ≡ 0
none_owed last place l =
    five_same (last_byte last 0 place) (last_byte last 0 (place + 28)) (last_byte last 0 (place + 78)) (last_byte last 0 (place + 108)) (last_byte last 0 (place + 288)) 0 0 0 0 0
    (last_outside last 0 place l) (last_outside last 0 (place + 28) (omega (arith, l))) (last_outside last 0 (place + 78) (omega (arith, l))) (last_outside last 0 (place + 108) (omega (arith, l))) (last_outside last 0 (place + 288) (omega (arith, l)))

pub all_taken : (last bytes : List ℕ) (register at : ℕ) → 418 ≤ at → after_sums register (λ place. owed last 0 (at + place)) bytes ≡ after_bytes register bytes
all_taken last bytes register at l = sums_none register (λ place. owed last 0 (at + place)) bytes (λ place. none_owed last (at + place) (omega (arith, l)))
