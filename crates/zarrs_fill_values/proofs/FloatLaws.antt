-- Fill values of floats are shown and read again.
use Rattle.std.proofs.Common.{◌≡◌, ◌∙◌, ◌<◌, ℕ, ◌*◌, ◌^◌, Bool, true, false, cond, ◌==◌, List, Some, None, Option, length, refl, ap, sym, subst, codes, eqb-true}
use Rattle.std.specs.Prelude.{option_map, reverse, to_bits, from_bits, Ok, not}
use Rattle.std.specs.Float.{binary32, binary64, float_is_finite}
use Rattle.std.specs.Result.{result_ok}
use Rattle.std.proofs.lemmas.List.{reverse-reverse, length-reverse}
use Rattle.hex.specs.Hex.{decode_sized, encode_lower}
use Rattle.hex.proofs.HexLemmas.{decode_sized-encode_lower}
use Rattle.serde_json.specs.Data.{Data, float}
use lib.Dec.{T}
use lib.Ieee.{Float, Format, nan, inf, fin, is_nan, top}
use lib.Ieee.Bits.{to_bits-of_bits, of_bits-fits}
use Rattle.zarrs_fill_values.specs.Floats.{float_size, infinity_word, nan_word, minus_infinity_word, hex_word, text_word, nearest_to, finite_word, number_word, float_word, float_fill, finite, number_of_bits, hex_text, float_text, shown_as, float_shown}
use Rattle.zarrs_fill_values.specs.Words.{low_first, low_first_number, IsBytes}
use Rattle.zarrs_fill_values.specs.declared.element_name.FloatName.{FloatName}
use Rattle.zarrs_fill_values.specs.declared.element_name.FloatName.TheVariants.{Float16, Bfloat16, Float32, Float64}
use Rattle.zarrs_half.specs.declared.half_format.HalfFormat.TheVariants as half
use Rattle.zarrs_half.proofs.ExactFloats.{round_to_format-fits}
use Rattle.zarrs_half.proofs.NumbersAgain.{number_again as half_again}
use Rattle.zarrs_fill_values.proofs.Lengths.{IsBytes-reverse}
use Rattle.zarrs_fill_values.proofs.LowBytes.{length-low_first, low_first_number-low_first, low_first_number-below, low_first-low_first_number, IsBytes-low_first}

-- the digits of bits say these bits
hex_again : (name : FloatName) (word : ℕ) → word < 256 ^ float_size name → hex_word name (encode_lower (reverse (low_first (float_size name) word))) ≡ Some word
hex_again name word h =
    let low = low_first (float_size name) word in
    let many : length (reverse low) ≡ float_size name = length-reverse low ∙ length-low_first (float_size name) word in
    let decoded : decode_sized (encode_lower (reverse low)) (float_size name) ≡ Ok (reverse low) =
    decode_sized-encode_lower (reverse low) (float_size name) many (IsBytes-reverse low (IsBytes-low_first (float_size name) word)) in
    ap (λ r. option_map (λ bytes. low_first_number (reverse bytes)) (result_ok r)) decoded
    ∙ ap (λ bytes. Some (low_first_number bytes)) (reverse-reverse low)
    ∙ ap Some (low_first_number-low_first (float_size name) word h)

-- the text of bits says these bits
text_again : (name : FloatName) (word : ℕ) → word < 256 ^ float_size name → text_word name (float_text name word) ≡ Some word
text_again name word h = by_tests (word == nan_word name) (word == infinity_word name) (word == minus_infinity_word name) refl refl refl
  where
    by_tests : (a b c : Bool) → (word == nan_word name) ≡ a → (word == infinity_word name) ≡ b → (word == minus_infinity_word name) ≡ c
        → text_word name (cond a (codes "NaN") (cond b (codes "Infinity") (cond c (codes "-Infinity") (hex_text name word)))) ≡ Some word
    by_tests true b c e f g = ap Some (sym (eqb-true word (nan_word name) e))
    by_tests false true c e f g = ap Some (sym (eqb-true word (infinity_word name) f))
    by_tests false false true e f g = ap Some (sym (eqb-true word (minus_infinity_word name) g))
    by_tests false false false e f g = hex_again name word h

-- ---- numbers

finite_is : (x y : Float) → finite x ≡ Some y → (x ≡ y) × (float_is_finite x ≡ true)
finite_is x y h = by_test (float_is_finite x) refl h
  where
    by_test : (b : Bool) → float_is_finite x ≡ b → cond b (Some x) None ≡ Some y → (x ≡ y) × (b ≡ true)
    by_test true e h = (cc, refl)
    by_test false e h = absurd (cc)

-- a number isn't what is none
not_nan : (x : Float) → float_is_finite x ≡ true → is_nan x ≡ false
unfolding float_is_finite is_nan
not_nan nan h = absurd (cc)
not_nan (inf s) h = absurd (cc)
not_nan (fin s m e) h = refl

no_nan : (b : Bool) → b ≡ false → T (not b)
no_nan true h = absurd (cc)
no_nan false h = tt

-- a number of so many bits is its own nearest one
nearest_again : (format : Format) (word : ℕ) → nearest_to format (from_bits format word) ≡ from_bits format word
nearest_again binary32 word = round_to_format-fits binary32 (from_bits binary32 word) (of_bits-fits binary32 word)
nearest_again binary64 word = refl

-- the bits of a number are those that it was made of
finite_again : (format : Format) (word : ℕ) (x : Float) → word < 2 * top format → finite (from_bits format word) ≡ Some x → finite_word format (nearest_to format x) ≡ Some word
finite_again format word x h e =
    let is = finite_is (from_bits format word) x e in
    let bits : to_bits format (from_bits format word) ≡ word =
    to_bits-of_bits format word h (no_nan (is_nan (from_bits format word)) (not_nan (from_bits format word) is.1)) in
    ap (λ y. finite_word format (nearest_to format y)) (sym is.0)
    ∙ ap (finite_word format) (nearest_again format word)
    ∙ ap (λ b. cond b (Some (to_bits format (from_bits format word))) None) is.1
    ∙ ap Some bits

number_again : (name : FloatName) (word : ℕ) (x : Float) → word < 256 ^ float_size name → number_of_bits name word ≡ Some x → number_word name (float x) ≡ Some word
number_again Float16 word x h e = half_again half.Binary16 word x h e
number_again Bfloat16 word x h e = half_again half.Bfloat16 word x h e
number_again Float32 word x h e = finite_again binary32 word x h e
number_again Float64 word x h e = finite_again binary64 word x h e

-- what is shown of bits is read as these bits
word_again : (name : FloatName) (word : ℕ) → word < 256 ^ float_size name → float_word name (shown_as name word (number_of_bits name word)) ≡ Some word
word_again name word h = by_number (number_of_bits name word) refl
  where
    by_number : (o : Option Float) → number_of_bits name word ≡ o → float_word name (shown_as name word o) ≡ Some word
    by_number (Some x) e = number_again name word x h e
    by_number None e = text_again name word h

-- what is shown of a float is read again, whatever its bits are
pub float-again : (name : FloatName) (fill : List ℕ) → IsBytes fill → length fill ≡ float_size name → float_fill name (float_shown name fill) ≡ Some fill
float-again name fill bytes is =
    let small : low_first_number fill < 256 ^ float_size name = subst (λ n. low_first_number fill < 256 ^ n) is (low_first_number-below fill bytes) in
    ap (option_map (low_first (float_size name))) (word_again name (low_first_number fill) small)
    ∙ ap (λ n. Some (low_first n (low_first_number fill))) (sym is)
    ∙ ap Some (low_first-low_first_number fill bytes)

-- as many bytes as the type has
pub float-length : (name : FloatName) (tree : Data) (fill : List ℕ) → float_fill name tree ≡ Some fill → length fill ≡ float_size name
float-length name tree fill h = by_word (float_word name tree) h
  where
    by_word : (o : Option ℕ) → option_map (low_first (float_size name)) o ≡ Some fill → length fill ≡ float_size name
    by_word None h = absurd (cc)
    by_word (Some word) h = let e : low_first (float_size name) word ≡ fill = cc in ap length (sym e) ∙ length-low_first (float_size name) word
