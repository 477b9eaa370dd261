-- The sample codecs of bytes are lawful.
use Rattle.std.proofs.Common.{◌≡◌, ◌⊎◌, ℕ, suc, zero, ◌+◌, ◌<◌, ◌≤◌, ◌^◌, ◌==◌, Bool, true, false, nat_lt, nat_le, if◌then◌else◌, List, [], ◌∷◌, ◌++◌, length, drop, reverse, Result, Ok, Err, arith, refl, ap, sym, subst, ◌∙◌, inl, inr}
use Rattle.std.specs.Int.{byte_at, bytes_low_first}
use Rattle.std.proofs.lemmas.Bool.Decides.{nat_tests}
use Rattle.std.proofs.lemmas.List.{length-reverse, reverse-reverse, length-append}
use Rattle.std.proofs.lemmas.List.Elements.{All-append, All-head, All-tail}
use Rattle.std.proofs.lemmas.Nat.{from_le_bytes-to_le_bytes_8}
use mathlib.Core.List.{reverse-cons}
use Rattle.zarrs_chunk.specs.Answer.{◌>>=◌, demand}
use Rattle.zarrs_chunk.specs.declared.codec_error.CodecError.{CodecError}
use Rattle.zarrs_chunk.specs.declared.codec_error.CodecError.TheVariants.{BytesCodec}
use Rattle.zarrs_codec.specs.BytesToBytesCodec.{KeepsTo, IsAtMost, AreBytes, IsValue, IsBytesRefusal, IsLawful}
use Rattle.zarrs_codec.specs.SampleBytesCodec.{length_bytes, stored_length, behind_length, with_length, sample_encoded_bytes, sample_decoded_bytes, sample_representation, sample_codecs}
use Rattle.zarrs_codec.specs.declared.bytes_representation.BytesRepresentation.{BytesRepresentation}
use Rattle.zarrs_codec.specs.declared.bytes_representation.BytesRepresentation.TheVariants.{FixedSize, BoundedSize, UnboundedSize}
use Rattle.zarrs_codec.specs.declared.sample_bytes_codec.SampleBytesCodec.{SampleBytesCodec}
use Rattle.zarrs_codec.specs.declared.sample_bytes_codec.SampleBytesCodec.TheVariants.{Reverse, Length}
use Rattle.zarrs_chunk.proofs.Inside.{le_test}

-- ---- the length

eight : (bytes : List ℕ) → length (length_bytes bytes) ≡ 8
unfolding length_bytes
eight bytes = refl

stored : (bytes : List ℕ) → length bytes < 2 ^ 64 → stored_length (length_bytes bytes ++ bytes) ≡ length bytes
unfolding length_bytes stored_length
stored bytes small = from_le_bytes-to_le_bytes_8 (length bytes) small

behind : (bytes : List ℕ) → drop 8 (length_bytes bytes ++ bytes) ≡ bytes
unfolding length_bytes
behind bytes = refl

pub eq_test : (a b : ℕ) → a ≡ b → (a == b) ≡ true
eq_test a b h = grind (arith, nat_tests)

length_undone : (bytes : List ℕ) → length bytes < 2 ^ 64 → behind_length (length_bytes bytes ++ bytes) ≡ Ok bytes
length_undone bytes small =
    let whole = length_bytes bytes ++ bytes in
    let long : 8 ≤ length whole = omega (arith, length-append (length_bytes bytes) bytes, eight bytes) in
    let first = le_test 8 (length whole) long in
    let second = eq_test (stored_length whole) (length (drop 8 whole)) (stored bytes small ∙ sym (ap length (behind bytes))) in
    rw (first, second) (ap Ok (behind bytes))

-- ---- bytes

-- each byte of a number is below 256
pub byte_below : (i n : ℕ) → byte_at i n < 256
byte_below zero n = omega arith
byte_below (suc i) n = omega arith

pub low_first_are_bytes : (i k n : ℕ) → AreBytes (bytes_low_first i k n)
low_first_are_bytes i zero n k' d l = absurd (omega (arith, l))
low_first_are_bytes i (suc k) n zero d l = byte_below i n
low_first_are_bytes i (suc k) n (suc j) d l = low_first_are_bytes (suc i) k n j d (omega (arith, l))

length_are_bytes : (bytes : List ℕ) → AreBytes (length_bytes bytes)
unfolding length_bytes
length_are_bytes bytes = low_first_are_bytes 0 8 (length bytes)

one_byte : (byte : ℕ) → byte < 256 → AreBytes (byte ∷ [])
one_byte byte lt zero d l = lt
one_byte byte lt (suc k) d l = absurd (omega (arith, l))

pub reversed_are_bytes : (bytes : List ℕ) → AreBytes bytes → AreBytes (reverse bytes)
reversed_are_bytes [] h = h
reversed_are_bytes (byte ∷ bytes) h =
    let is_byte = λ (x : ℕ). x < 256 in
    rw (reverse-cons byte bytes) (All-append is_byte (reverse bytes) (byte ∷ []) (reversed_are_bytes bytes (All-tail is_byte byte bytes h)) (one_byte byte (All-head is_byte byte bytes h)))

-- ---- sizes

same_length : (r : BytesRepresentation) (bytes others : List ℕ) → length others ≡ length bytes → KeepsTo r bytes → KeepsTo r others
same_length (FixedSize size) bytes others e k = omega (arith, e, k)
same_length (BoundedSize size) bytes others e k = omega (arith, e, k)
same_length UnboundedSize bytes others e k = tt

cases : (b : Bool) → (b ≡ true) ⊎ (b ≡ false)
cases true = inl refl
cases false = inr refl

length_kept : (r : BytesRepresentation) (bytes : List ℕ) → KeepsTo r bytes → KeepsTo (with_length r) (length_bytes bytes ++ bytes)
length_kept (FixedSize size) bytes k =
    elim (cases (nat_lt (size + 8) (2 ^ 64))) [
      | inl passed ↦ rw passed (omega (arith, k, length-append (length_bytes bytes) bytes, eight bytes))
      | inr failed ↦ rw failed tt
    ]
length_kept (BoundedSize size) bytes k =
    elim (cases (nat_lt (size + 8) (2 ^ 64))) [
      | inl passed ↦ rw passed (omega (arith, k, length-append (length_bytes bytes) bytes, eight bytes))
      | inr failed ↦ rw failed tt
    ]
length_kept UnboundedSize bytes k = tt

lt_down : (m n : ℕ) → m ≤ n → nat_lt (n + 8) (2 ^ 64) ≡ true → nat_lt (m + 8) (2 ^ 64) ≡ true
lt_down m n h e = grind (arith, nat_tests)

-- one that is counted where the second is, grows where its own size does
grown : (m n : ℕ) (f g : ℕ → BytesRepresentation) → m ≤ n → IsAtMost (f (m + 8)) (g (n + 8)) → IsAtMost (if nat_lt (m + 8) (2 ^ 64) then f (m + 8) else UnboundedSize) (if nat_lt (n + 8) (2 ^ 64) then g (n + 8) else UnboundedSize)
grown m n f g h step =
    elim (cases (nat_lt (n + 8) (2 ^ 64))) [
      | inl passed ↦ rw (passed, lt_down m n h passed) step
      | inr failed ↦ rw failed tt
    ]

length_grows : (r s : BytesRepresentation) → IsAtMost r s → IsAtMost (with_length r) (with_length s)
length_grows r UnboundedSize h = tt
length_grows (FixedSize m) (FixedSize n) h = grown m n FixedSize FixedSize h (omega (arith, h))
length_grows (FixedSize m) (BoundedSize n) h = grown m n FixedSize BoundedSize h (omega (arith, h))
length_grows (BoundedSize m) (FixedSize n) h = grown m n BoundedSize FixedSize h (omega (arith, h))
length_grows (BoundedSize m) (BoundedSize n) h = grown m n BoundedSize BoundedSize h (omega (arith, h))
length_grows UnboundedSize (FixedSize n) h = absurd h
length_grows UnboundedSize (BoundedSize n) h = absurd h

-- ---- errors

-- bytes as a result
abbrev okay : List ℕ → Result (List ℕ) CodecError
okay bytes = Ok bytes

-- an error as a result
abbrev refused : CodecError → Result (List ℕ) CodecError
refused error = Err error

-- what stands behind a length, by whether there is one and whether it is right
abbrev two_tests : Bool → Bool → List ℕ → Result (List ℕ) CodecError
two_tests long same bytes = do
  _ ← demand long (BytesCodec 1)
  _ ← demand same (BytesCodec 2)
  Ok (drop 8 bytes)

ok_is_no_error : (bytes : List ℕ) (error : CodecError) → okay bytes ≡ Err error → ⊥
ok_is_no_error bytes error e = cc

error_is : (cause error : CodecError) → refused cause ≡ refused error → cause ≡ error
error_is cause error e = cc

length_refusal : (bytes : List ℕ) (error : CodecError) → behind_length bytes ≡ Err error → IsBytesRefusal error
length_refusal bytes error e =
    elim (cases (nat_le 8 (length bytes))) [
      | inl passed ↦ elim (cases (stored_length bytes == length (drop 8 bytes))) [
        | inl same ↦ absurd (ok_is_no_error (drop 8 bytes) error (subst (λ (b : Bool). two_tests b true bytes ≡ Err error) passed (subst (λ (b : Bool). two_tests (nat_le 8 (length bytes)) b bytes ≡ Err error) same e)))
        | inr other ↦ subst IsBytesRefusal (error_is (BytesCodec 2) error (subst (λ (b : Bool). two_tests b false bytes ≡ Err error) passed (subst (λ (b : Bool). two_tests (nat_le 8 (length bytes)) b bytes ≡ Err error) other e))) tt
      ]
      | inr failed ↦ subst IsBytesRefusal (error_is (BytesCodec 1) error (subst (λ (b : Bool). two_tests b (stored_length bytes == length (drop 8 bytes)) bytes ≡ Err error) failed e)) tt
    ]

-- ---- the laws

sample_undone : (codec : SampleBytesCodec) (r : BytesRepresentation) (bytes : List ℕ) → IsValue bytes → KeepsTo r bytes → length (sample_encoded_bytes codec bytes) < 2 ^ 64 → sample_decoded_bytes codec r (sample_encoded_bytes codec bytes) ≡ Ok bytes
sample_undone Reverse r bytes value keeps small = ap Ok (reverse-reverse bytes)
sample_undone Length r bytes value keeps small = length_undone bytes value.small

sample_kept : (codec : SampleBytesCodec) (r : BytesRepresentation) (bytes : List ℕ) → IsValue bytes → KeepsTo r bytes → length (sample_encoded_bytes codec bytes) < 2 ^ 64 → KeepsTo (sample_representation codec r) (sample_encoded_bytes codec bytes)
sample_kept Reverse r bytes value keeps small = same_length r bytes (reverse bytes) (length-reverse bytes) keeps
sample_kept Length r bytes value keeps small = length_kept r bytes keeps

sample_are_bytes : (codec : SampleBytesCodec) (bytes : List ℕ) → IsValue bytes → AreBytes (sample_encoded_bytes codec bytes)
sample_are_bytes Reverse bytes value = reversed_are_bytes bytes value.each
sample_are_bytes Length bytes value = All-append (λ (x : ℕ). x < 256) (length_bytes bytes) bytes (length_are_bytes bytes) value.each

sample_refusal : (codec : SampleBytesCodec) (r : BytesRepresentation) (bytes : List ℕ) (error : CodecError) → sample_decoded_bytes codec r bytes ≡ Err error → IsBytesRefusal error
sample_refusal Reverse r bytes error e = absurd (ok_is_no_error (reverse bytes) error e)
sample_refusal Length r bytes error e = length_refusal bytes error e

sample_grows : (codec : SampleBytesCodec) (r s : BytesRepresentation) → IsAtMost r s → IsAtMost (sample_representation codec r) (sample_representation codec s)
sample_grows Reverse r s h = h
sample_grows Length r s h = length_grows r s h

pub sample_is_lawful : IsLawful sample_codecs
sample_is_lawful = record {
  decode_undoes = sample_undone;
  kept = sample_kept;
  are_bytes = sample_are_bytes;
  refusal = sample_refusal;
  grows = sample_grows;
}
