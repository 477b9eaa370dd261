-- Names of raw bits.
use Rattle.std.proofs.Common.{◌≡◌, ◌∙◌, ◌<◌, ℕ, ◌^◌, Bool, true, false, cond, ◌&&◌, List, Some, None, refl, ap, sym, arith, decimal}
use Rattle.std.specs.Prelude.{Result, Ok, Err, nat_lt}
use Rattle.std.proofs.lemmas.Bool.{lt-ltb, ltb-true, and_parts, false≢true}
use Rattle.std.proofs.lemmas.Slice.Eq.{bytes_eq-Decides}
use Rattle.std.specs.Str.{bytes_eq}
use Rattle.std.specs.Str.Parse.{digits_value, ParsesUnsigned}
use Rattle.std.proofs.lemmas.Fmt.{decimal_is_IsNumeral, parse-decimal}
use Rattle.zarrs_fill_values.specs.ElementName.{is_raw}
use Rattle.zarrs_fill_values.specs.Names.{raw_bits_of}

-- the test that a number is the one of digits
abbrev says_number : List ℕ → ℕ → Bool
says_number digits bits = nat_lt bits (2 ^ 64) && is_raw bits && bytes_eq digits (decimal bits)

-- the digits of a number say it
pub raw_bits_of-found : (digits : List ℕ) (bits : ℕ) → bits < 2 ^ 64 → is_raw bits ≡ true → digits ≡ decimal bits → raw_bits_of digits ≡ Some bits
raw_bits_of-found digits bits small whole is =
    let value : digits_value 10 digits ≡ bits = ap (digits_value 10) is ∙ (decimal_is_IsNumeral bits small).1 in
    let below : nat_lt bits (2 ^ 64) ≡ true = lt-ltb bits (2 ^ 64) small in
    let same : bytes_eq digits (decimal bits) ≡ true = (bytes_eq-Decides digits (decimal bits)).1 is in
    let passes : says_number digits bits ≡ true = ap (λ b. b && is_raw bits && bytes_eq digits (decimal bits)) below ∙ ap (λ b. b && bytes_eq digits (decimal bits)) whole ∙ same in
    ap (λ v. cond (says_number digits v) (Some v) None) value ∙ ap (λ b. cond b (Some bits) None) passes

-- digits that aren't those of any number say none
pub raw_bits_of-none : (digits : List ℕ) → ((bits : ℕ) → bits < 2 ^ 64 → is_raw bits ≡ true → digits ≡ decimal bits → ⊥) → raw_bits_of digits ≡ None
raw_bits_of-none digits other = by_test (says_number digits (digits_value 10 digits)) (digits_value 10 digits) refl
  where
    by_test : (b : Bool) (bits : ℕ) → says_number digits bits ≡ b → cond b (Some bits) None ≡ None
    by_test true bits h =
        let parts = and_parts (nat_lt bits (2 ^ 64) && is_raw bits) (bytes_eq digits (decimal bits)) h in
        let sizes = and_parts (nat_lt bits (2 ^ 64)) (is_raw bits) parts.0 in
        absurd (other bits (ltb-true bits (2 ^ 64) sizes.0) sizes.1 ((bytes_eq-Decides digits (decimal bits)).0 parts.1))
    by_test false bits h = refl

-- what is read of a number's digits is the number
pub raw_digits : {E : Type 0} (digits : List ℕ) (bits : ℕ) (read : Result ℕ E) → bits < 2 ^ 64 → digits ≡ decimal bits → ParsesUnsigned 64 10 digits read → read ≡ Ok bits
raw_digits digits bits read small is parses = parse-decimal 64 bits digits read small small is parses

says_small : {E : Type 0} (digits : List ℕ) (bits : ℕ) (read : Result ℕ E) → read ≡ Ok bits → ParsesUnsigned 64 10 digits read → bits < 2 ^ 64
says_small digits bits (Ok found) e parses = let same : found ≡ bits = cc in omega (arith, parses.0.1, parses.1, same)
says_small digits bits (Err error) e parses = absurd (cc)

ok_same : {E : Type 0} (read : Result ℕ E) (a b : ℕ) → read ≡ Ok a → read ≡ Ok b → a ≡ b
ok_same read a b p q = cc

-- a number that was read of digits is the one that they say just where the test passes
pub raw_bits_of-test : {E : Type 0} (digits : List ℕ) (bits : ℕ) (read : Result ℕ E) (passes : Bool) → read ≡ Ok bits → ParsesUnsigned 64 10 digits read → (is_raw bits && bytes_eq digits (decimal bits)) ≡ passes → raw_bits_of digits ≡ cond passes (Some bits) None
raw_bits_of-test digits bits read true e parses h =
    let parts = and_parts (is_raw bits) (bytes_eq digits (decimal bits)) h in
    raw_bits_of-found digits bits (says_small digits bits read e parses) parts.0 ((bytes_eq-Decides digits (decimal bits)).0 parts.1)
raw_bits_of-test digits bits read false e parses h =
    raw_bits_of-none digits (λ other small whole is.
    let again : read ≡ Ok other = raw_digits digits other read small is parses in
    let same : other ≡ bits = ok_same read other bits again e in
    let written : digits ≡ decimal bits = is ∙ ap decimal same in
    let test : bytes_eq digits (decimal bits) ≡ true = (bytes_eq-Decides digits (decimal bits)).1 written in
    false≢true (sym h ∙ ap (λ b. b && bytes_eq digits (decimal bits)) (sym (ap is_raw same) ∙ whole) ∙ test))
