-- Fill values of whole numbers are shown and read again.
use Rattle.std.proofs.Common.{◌≡◌, ◌∙◌, ◌<◌, ◌≤◌, ℕ, suc, ◌+◌, ◌-◌, ◌*◌, ◌^◌, Bool, true, false, cond, List, Some, None, Option, length, refl, ap, sym, subst, arith, lit≤}
use Rattle.std.specs.Prelude.{ℤ, pos, negsuc, nat_lt, option_map, option_and_then, IsSome}
use Rattle.std.specs.Int.{w64, cast_unsigned}
use Rattle.std.proofs.lemmas.Bool.{lt-ltb, ltb-true}
use Rattle.serde_json.specs.Data.{Num, Data, unsigned, number}
use Rattle.serde_json.specs.Find.{as_i64, as_u64, as_number, of_integer}
use Rattle.zarrs_fill_values.specs.ElementName.{is_signed}
use Rattle.zarrs_fill_values.specs.Integers.{integer_size, half_range, is_within, signed_word, unsigned_word, integer_word, integer_fill, signed_of, signed_number, sign_bit, number_of_word, integer_shown, integer_sized}
use Rattle.zarrs_fill_values.specs.Words.{low_first, low_first_number, IsBytes}
use Rattle.zarrs_fill_values.specs.declared.element_name.IntegerName.{IntegerName}
use Rattle.zarrs_fill_values.specs.declared.element_name.IntegerName.TheVariants.{Int2, Int4, Int8, Int16, Int32, Int64, Uint2, Uint4, Uint8, Uint16, Uint32, Uint64}
use Rattle.zarrs_fill_values.proofs.LowBytes.{length-low_first, low_first_number-low_first, low_first_number-below, low_first-low_first_number, low_first-more}
use Rattle.zarrs_fill_values.proofs.Lengths.{of_length-is, of_length-found}

-- What holds of the sizes of each type: `room` is how many times over 64 bits hold its bytes, less once.
pub record Sizes (half top bytes : ℕ) : Type 0 where
  pub room : ℕ
  pub within : half ≤ top
  pub twice : 2 * top ≡ bytes
  pub least : 0 < half
  pub most : half ≤ 2 ^ 63
  pub whole : 2 ^ 64 ≡ bytes + bytes * room

one_byte : (half : ℕ) → 0 < half → half ≤ 128 → Sizes half 128 256
one_byte half low high = record { room = 72057594037927935; within = high; twice = refl; least = low; most = omega (arith, high); whole = refl }

pub sizes : (integer : IntegerName) → Sizes (half_range integer) (sign_bit integer) (256 ^ integer_size integer)
sizes Int2 = one_byte 2 (lit≤ tt) (lit≤ tt)
sizes Int4 = one_byte 8 (lit≤ tt) (lit≤ tt)
sizes Int8 = one_byte 128 (lit≤ tt) (lit≤ tt)
sizes Int16 = record { room = 281474976710655; within = lit≤ tt; twice = refl; least = lit≤ tt; most = lit≤ tt; whole = refl }
sizes Int32 = record { room = 4294967295; within = lit≤ tt; twice = refl; least = lit≤ tt; most = lit≤ tt; whole = refl }
sizes Int64 = record { room = 0; within = lit≤ tt; twice = refl; least = lit≤ tt; most = lit≤ tt; whole = refl }
sizes Uint2 = one_byte 2 (lit≤ tt) (lit≤ tt)
sizes Uint4 = one_byte 8 (lit≤ tt) (lit≤ tt)
sizes Uint8 = one_byte 128 (lit≤ tt) (lit≤ tt)
sizes Uint16 = record { room = 281474976710655; within = lit≤ tt; twice = refl; least = lit≤ tt; most = lit≤ tt; whole = refl }
sizes Uint32 = record { room = 4294967295; within = lit≤ tt; twice = refl; least = lit≤ tt; most = lit≤ tt; whole = refl }
sizes Uint64 = record { room = 0; within = lit≤ tt; twice = refl; least = lit≤ tt; most = lit≤ tt; whole = refl }

-- the 64 bits of a number below zero have in their lowest bytes what stands for it there
below_zero : (size m room : ℕ) → m < 256 ^ size → 2 ^ 64 ≡ 256 ^ size + 256 ^ size * room → low_first size (2 ^ 64 - suc m) ≡ low_first size (256 ^ size - suc m)
below_zero size m room h e =
    let product = 256 ^ size * room in
    let is : 2 ^ 64 - suc m ≡ 256 ^ size - suc m + product = rest (2 ^ 64) (256 ^ size) product m h e in
    ap (low_first size) is ∙ low_first-more size (256 ^ size - suc m) room
  where
    rest : (all bytes product m : ℕ) → m < bytes → all ≡ bytes + product → all - suc m ≡ bytes - suc m + product
    rest all bytes product m h e = omega (arith, h, e)

-- a test passes just where something is answered
passed : {A : Type 0} (b : Bool) (x : A) (y : A) → cond b (Some x) None ≡ Some y → (b ≡ true) × (x ≡ y)
passed true x y h = (refl, cc)
passed false x y h = absurd (cc)

pass : {A : Type 0} (b : Bool) (x : A) → b ≡ true → cond b (Some x) None ≡ Some x
pass true x h = refl
pass false x h = absurd (cc)

mapped : {A B : Type 0} (f : A → B) (o : Option A) (y : B) → option_map f o ≡ Some y → (x : A) × (o ≡ Some x) × (f x ≡ y)
mapped f None y h = absurd (cc)
mapped f (Some x) y h = (x, refl, cc)

-- ---- what is shown is read again

-- a number with a sign is JSON's number of as many bits
as_i64-of_integer : (half : ℕ) (z : ℤ) → half ≤ 2 ^ 63 → is_within half z ≡ true → as_i64 (of_integer z) ≡ Some z
as_i64-of_integer half (pos n) most h =
    let below : n < half = ltb-true n half h in
    pass (nat_lt n (2 ^ 63)) (pos n) (lt-ltb n (2 ^ 63) (omega (arith, below, most)))
as_i64-of_integer half (negsuc n) most h = refl

signed_again : (size half top room n : ℕ) → 2 * top ≡ 256 ^ size → 2 ^ 64 ≡ 256 ^ size + 256 ^ size * room → n < 256 ^ size → low_first size (cast_unsigned w64 (signed_of top n)) ≡ low_first size n
signed_again size half top room n twice whole h = by_test (nat_lt n top) refl
  where
    by_test : (b : Bool) → nat_lt n top ≡ b → low_first size (cast_unsigned w64 (cond b (pos n) (negsuc (2 * top - suc n)))) ≡ low_first size n
    by_test true e = refl
    by_test false e =
        let m : ℕ = 2 * top - suc n in
        let small : m < 256 ^ size = omega (arith, twice, h) in
        let back : 256 ^ size - suc m ≡ n = omega (arith, twice, h) in
        below_zero size m room small whole ∙ ap (low_first size) back

word_again : (integer : IntegerName) (word : ℕ) (n : Num) → word < 256 ^ integer_size integer → number_of_word integer word ≡ Some n → integer_fill integer n ≡ Some (low_first (integer_size integer) word)
word_again integer word n small h = by_sign (is_signed integer) h
  where
    it : Sizes (half_range integer) (sign_bit integer) (256 ^ integer_size integer)
    it = sizes integer

    size : ℕ
    size = integer_size integer

    half : ℕ
    half = half_range integer

    by_sign : (b : Bool) → cond b (signed_number half (signed_of (sign_bit integer) word)) (option_map unsigned (unsigned_word (2 * half) word)) ≡ Some n
        → option_map (low_first size) (cond b (option_and_then (signed_word half) (as_i64 n)) (option_and_then (unsigned_word (2 * half)) (as_u64 n))) ≡ Some (low_first size word)
    by_sign true h =
        let z = signed_of (sign_bit integer) word in
        let found = passed (is_within half z) (of_integer z) n h in
        rw (sym found.1, as_i64-of_integer half z it.most found.0, pass (is_within half z) (cast_unsigned w64 z) found.0)
        (ap Some (signed_again size half (sign_bit integer) it.room word it.twice it.whole small))
    by_sign false h =
        let found = mapped unsigned (unsigned_word (2 * half) word) n h in
        let is = passed (nat_lt word (2 * half)) word found.0 found.1 in
        rw (sym found.2, sym is.1, pass (nat_lt word (2 * half)) word is.0) refl

-- what is shown of a whole number is read again
pub integer-again : (integer : IntegerName) (fill : List ℕ) (tree : Data) → IsBytes fill → integer_sized integer fill ≡ Some tree → option_and_then (integer_fill integer) (as_number tree) ≡ Some fill
integer-again integer fill tree bytes h =
    let sized = of_length-is (integer_size integer) fill (integer_shown integer) tree h in
    let found = mapped number (number_of_word integer (low_first_number fill)) tree sized.1 in
    let small : low_first_number fill < 256 ^ integer_size integer = subst (λ n. low_first_number fill < 256 ^ n) sized.0 (low_first_number-below fill bytes) in
    rw (sym found.2) (word_again integer (low_first_number fill) found.0 small found.1 ∙ ap (λ n. Some (low_first n (low_first_number fill))) (sym sized.0) ∙ ap Some (low_first-low_first_number fill bytes))

-- ---- what is read is shown

-- the number whose bytes those of a number with a sign are is in the range again
signed_within : (size half top room : ℕ) (z : ℤ) → half ≤ top → 2 * top ≡ 256 ^ size → 2 ^ 64 ≡ 256 ^ size + 256 ^ size * room → is_within half z ≡ true → is_within half (signed_of top (low_first_number (low_first size (cast_unsigned w64 z)))) ≡ true
signed_within size half top room (pos n) within twice whole h =
    let below : n < half = ltb-true n half h in
    let small : n < 256 ^ size = omega (arith, below, within, twice) in
    let here : nat_lt n top ≡ true = lt-ltb n top (omega (arith, below, within)) in
    rw (low_first_number-low_first size n small, here) h
signed_within size half top room (negsuc n) within twice whole h =
    let below : n < half = ltb-true n half h in
    let small : n < 256 ^ size = omega (arith, below, within, twice) in
    let word : ℕ = 256 ^ size - suc n in
    let less : word < 256 ^ size = omega (arith, small) in
    let is : low_first_number (low_first size (2 ^ 64 - suc n)) ≡ word = ap low_first_number (below_zero size n room small whole) ∙ low_first_number-low_first size word less in
    let high : nat_lt word top ≡ false = not_less word top (omega (arith, below, within, twice)) in
    let back : 2 * top - suc word ≡ n = omega (arith, small, twice) in
    rw (is, high, back) h
  where
    not_less : (a b : ℕ) → b ≤ a → nat_lt a b ≡ false
    not_less a b l = by_test (nat_lt a b) refl
      where
        by_test : (t : Bool) → nat_lt a b ≡ t → t ≡ false
        by_test true e = let less : a < b = ltb-true a b e in absurd (omega (arith, less, l))
        by_test false e = refl

word_shown : (integer : IntegerName) (word : ℕ) (n : Num) → integer_word integer n ≡ Some word → IsSome (number_of_word integer (low_first_number (low_first (integer_size integer) word)))
word_shown integer word n h = by_sign (is_signed integer) h
  where
    it : Sizes (half_range integer) (sign_bit integer) (256 ^ integer_size integer)
    it = sizes integer

    size : ℕ
    size = integer_size integer

    half : ℕ
    half = half_range integer

    chained : {A : Type 0} (f : A → Option ℕ) (o : Option A) (y : ℕ) → option_and_then f o ≡ Some y → (x : A) × (f x ≡ Some y)
    chained f None y h = absurd (cc)
    chained f (Some x) y h = (x, h)

    by_sign : (b : Bool) → cond b (option_and_then (signed_word half) (as_i64 n)) (option_and_then (unsigned_word (2 * half)) (as_u64 n)) ≡ Some word
        → IsSome (cond b (signed_number half (signed_of (sign_bit integer) (low_first_number (low_first size word)))) (option_map unsigned (unsigned_word (2 * half) (low_first_number (low_first size word)))))
    by_sign true h =
        let found = chained (signed_word half) (as_i64 n) word h in
        let z = found.0 in
        let is = passed (is_within half z) (cast_unsigned w64 z) word found.1 in
        let ok : is_within half (signed_of (sign_bit integer) (low_first_number (low_first size (cast_unsigned w64 z)))) ≡ true =
        signed_within size half (sign_bit integer) it.room z it.within it.twice it.whole is.0 in
        rw (sym is.1, ok) refl
    by_sign false h =
        let found = chained (unsigned_word (2 * half)) (as_u64 n) word h in
        let is = passed (nat_lt found.0 (2 * half)) found.0 word found.1 in
        let below : word < 2 * half = subst (λ m. m < 2 * half) is.1 (ltb-true found.0 (2 * half) is.0) in
        let small : word < 256 ^ size = omega (arith, below, it.within, it.twice) in
        rw (low_first_number-low_first size word small, lt-ltb word (2 * half) below) refl

-- a whole number that is read can be shown
pub integer-shown : (integer : IntegerName) (n : Num) (fill : List ℕ) → integer_fill integer n ≡ Some fill → IsSome (integer_sized integer fill)
integer-shown integer n fill h =
    let found = mapped (low_first (integer_size integer)) (integer_word integer n) fill h in
    let size = integer_size integer in
    subst (λ bytes. IsSome (integer_sized integer bytes)) found.2
    (rw (of_length-found size (low_first size found.0) (length-low_first size found.0))
    (some_mapped (number_of_word integer (low_first_number (low_first size found.0))) (word_shown integer found.0 n found.1)))
  where
    some_mapped : (o : Option Num) → IsSome o → IsSome (option_map number o)
    some_mapped None s = s
    some_mapped (Some x) s = s

-- as many bytes as the type has
pub integer-length : (integer : IntegerName) (n : Num) (fill : List ℕ) → integer_fill integer n ≡ Some fill → length fill ≡ integer_size integer
integer-length integer n fill h =
    let found = mapped (low_first (integer_size integer)) (integer_word integer n) fill h in
    ap length (sym found.2) ∙ length-low_first (integer_size integer) found.0
