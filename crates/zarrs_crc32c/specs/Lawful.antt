-- The codec `crc32c` keeps the laws of bytes-to-bytes codecs.
use Rattle.std.proofs.Common.{◌≡◌, ℕ, suc, zero, ◌+◌, ◌-◌, ◌/◌, ◌%◌, ◌<◌, ◌≤◌, ◌^◌, ◌==◌, Bool, true, false, nat_lt, nat_le, if◌then◌else◌, List, [], ◌∷◌, length, take, drop, Result, Ok, Err, arith, refl, ap, sym, subst, ◌∙◌, inl, inr, bit_xor}
use Rattle.std.proofs.lemmas.Bool.{cases_Bool}
use Rattle.std.proofs.lemmas.Bool.Decides.{nat_tests}
use Rattle.std.proofs.Math.Seq.{take-append_seam, drop-append_seam}
use Rattle.std.proofs.lemmas.List.{length-append}
use Rattle.std.proofs.lemmas.List.Elements.{All-append, All-head, All-tail}
use Rattle.std.proofs.lemmas.Nat.{from_le_bytes-to_le_bytes_4, xor_lt}
use Rattle.zarrs_chunk.specs.Answer.{◌>>=◌, demand}
use Rattle.zarrs_chunk.specs.declared.codec_error.CodecError.{CodecError}
use Rattle.zarrs_chunk.specs.declared.codec_error.CodecError.TheVariants.{BytesCodec}
use Rattle.zarrs_chunk.proofs.Inside.{le_test}
use Rattle.zarrs_codec.specs.BytesToBytesCodec.{KeepsTo, IsAtMost, AreBytes, IsBytesRefusal, IsLawful}
use Rattle.zarrs_codec.specs.SampleLaws.{eq_test, low_first_are_bytes}
use Rattle.zarrs_codec.specs.declared.bytes_representation.BytesRepresentation.{BytesRepresentation}
use Rattle.zarrs_codec.specs.declared.bytes_representation.BytesRepresentation.TheVariants.{FixedSize, BoundedSize, UnboundedSize}
use Rattle.zarrs_crc32c.specs.Checksum.{crc32c, castagnoli, after_bit, after_bits, after_byte, after_bytes, all_ones}
use Rattle.zarrs_crc32c.specs.Crc32cCodec.{checksum_bytes, checksum_in, with_checksum, bytes_before, last_four, checked_bytes, four_more, crc32c_codecs}

-- ---- the register has 32 bits

either_small : (b : Bool) (x y : ℕ) → x < 2 ^ 32 → y < 2 ^ 32 → (if b then x else y) < 2 ^ 32
either_small true x y h k = h
either_small false x y h k = k

pub bit_small : (register : ℕ) → register < 2 ^ 32 → after_bit register < 2 ^ 32
bit_small register l =
    let half : register / 2 < 2 ^ 32 = omega arith in
    either_small (register % 2 == 1) (bit_xor (register / 2) castagnoli) (register / 2) (xor_lt 32 (register / 2) castagnoli half (omega arith)) half

pub bits_small : (count register : ℕ) → register < 2 ^ 32 → after_bits count register < 2 ^ 32
unfolding after_bits
bits_small zero register l = l
bits_small (suc count) register l = bits_small count (after_bit register) (bit_small register l)

pub bytes_small : (register : ℕ) (bytes : List ℕ) → register < 2 ^ 32 → AreBytes bytes → after_bytes register bytes < 2 ^ 32
bytes_small register [] l each = l
bytes_small register (byte ∷ bytes) l each =
    let is_byte = λ (x : ℕ). x < 256 in
    let first : byte < 256 = All-head is_byte byte bytes each in
    bytes_small (after_byte register byte) bytes (bits_small 8 (bit_xor register byte) (xor_lt 32 register byte l (omega arith))) (All-tail is_byte byte bytes each)

checksum_small : (bytes : List ℕ) → AreBytes bytes → crc32c bytes < 2 ^ 32
unfolding crc32c
checksum_small bytes each = xor_lt 32 (after_bytes all_ones bytes) all_ones (bytes_small all_ones bytes (omega arith) each) (omega arith)

-- ---- a checksum behind its bytes

pub four : (bytes : List ℕ) → length (checksum_bytes bytes) ≡ 4
unfolding checksum_bytes
four bytes = refl

pub stored : (bytes : List ℕ) → AreBytes bytes → checksum_in (checksum_bytes bytes) ≡ crc32c bytes
unfolding checksum_bytes checksum_in
stored bytes each = from_le_bytes-to_le_bytes_4 (crc32c bytes) (checksum_small bytes each)

pub length_with : (bytes : List ℕ) → length (with_checksum bytes) ≡ length bytes + 4
length_with bytes = omega (arith, length-append bytes (checksum_bytes bytes), four bytes)

pub cut : (bytes : List ℕ) → length (with_checksum bytes) - 4 ≡ length bytes
cut bytes = omega (arith, length_with bytes)

pub before : (bytes : List ℕ) → bytes_before (with_checksum bytes) ≡ bytes
before bytes = ap (λ (n : ℕ). take n (with_checksum bytes)) (cut bytes) ∙ take-append_seam bytes (checksum_bytes bytes)

pub behind : (bytes : List ℕ) → last_four (with_checksum bytes) ≡ checksum_bytes bytes
behind bytes = ap (λ (n : ℕ). drop n (with_checksum bytes)) (cut bytes) ∙ drop-append_seam bytes (checksum_bytes bytes)

undone : (bytes : List ℕ) → AreBytes bytes → checked_bytes (with_checksum bytes) ≡ Ok bytes
undone bytes each =
    let whole = with_checksum bytes in
    let first = le_test 4 (length whole) (omega (arith, length_with bytes)) in
    let second = eq_test (checksum_in (last_four whole)) (crc32c (bytes_before whole)) (ap checksum_in (behind bytes) ∙ stored bytes each ∙ sym (ap crc32c (before bytes))) in
    rw (first, second) (ap Ok (before bytes))

-- ---- bytes

pub checksum_are_bytes : (bytes : List ℕ) → AreBytes (checksum_bytes bytes)
unfolding checksum_bytes
checksum_are_bytes bytes = low_first_are_bytes 0 4 (crc32c bytes)

-- ---- sizes

size_kept : (r : BytesRepresentation) (bytes : List ℕ) → KeepsTo r bytes → KeepsTo (four_more r) (with_checksum bytes)
size_kept (FixedSize size) bytes k =
    elim (cases_Bool (nat_lt (size + 4) (2 ^ 64))) [
      | inl passed ↦ rw passed (omega (arith, k, length_with bytes))
      | inr failed ↦ rw failed tt
    ]
size_kept (BoundedSize size) bytes k =
    elim (cases_Bool (nat_lt (size + 4) (2 ^ 64))) [
      | inl passed ↦ rw passed (omega (arith, k, length_with bytes))
      | inr failed ↦ rw failed tt
    ]
size_kept UnboundedSize bytes k = tt

counted_down : (m n : ℕ) → m ≤ n → nat_lt (n + 4) (2 ^ 64) ≡ true → nat_lt (m + 4) (2 ^ 64) ≡ true
counted_down m n h e = grind (arith, nat_tests)

-- one that is counted where the second is, grows where its own size does
grown : (m n : ℕ) (f g : ℕ → BytesRepresentation) → m ≤ n → IsAtMost (f (m + 4)) (g (n + 4)) → IsAtMost (if nat_lt (m + 4) (2 ^ 64) then f (m + 4) else UnboundedSize) (if nat_lt (n + 4) (2 ^ 64) then g (n + 4) else UnboundedSize)
grown m n f g h step =
    elim (cases_Bool (nat_lt (n + 4) (2 ^ 64))) [
      | inl passed ↦ rw (passed, counted_down m n h passed) step
      | inr failed ↦ rw failed tt
    ]

size_grows : (r s : BytesRepresentation) → IsAtMost r s → IsAtMost (four_more r) (four_more s)
size_grows r UnboundedSize h = tt
size_grows (FixedSize m) (FixedSize n) h = grown m n FixedSize FixedSize h (omega (arith, h))
size_grows (FixedSize m) (BoundedSize n) h = grown m n FixedSize BoundedSize h (omega (arith, h))
size_grows (BoundedSize m) (FixedSize n) h = grown m n BoundedSize FixedSize h (omega (arith, h))
size_grows (BoundedSize m) (BoundedSize n) h = grown m n BoundedSize BoundedSize h (omega (arith, h))
size_grows UnboundedSize (FixedSize n) h = absurd h
size_grows UnboundedSize (BoundedSize n) h = absurd h

-- ---- errors

-- what is before a checksum, by whether there is one and whether it is right
abbrev two_checks : Bool → Bool → List ℕ → Result (List ℕ) CodecError
two_checks long same bytes = do
  _ ← demand long (BytesCodec 1)
  _ ← demand same (BytesCodec 2)
  Ok (bytes_before bytes)

is_no_error : (result : Result (List ℕ) CodecError) (bytes : List ℕ) (error : CodecError) → result ≡ Ok bytes → result ≡ Err error → ⊥
is_no_error result bytes error is other = cc

same_error : (result : Result (List ℕ) CodecError) (cause error : CodecError) → result ≡ Err cause → result ≡ Err error → cause ≡ error
same_error result cause error is other = cc

tests_reject : (long same : Bool) (bytes : List ℕ) (error : CodecError) → two_checks long same bytes ≡ Err error → IsBytesRefusal error
tests_reject true true bytes error e = absurd (is_no_error (two_checks true true bytes) (bytes_before bytes) error refl e)
tests_reject true false bytes error e = subst IsBytesRefusal (same_error (two_checks true false bytes) (BytesCodec 2) error refl e) tt
tests_reject false same bytes error e = subst IsBytesRefusal (same_error (two_checks false same bytes) (BytesCodec 1) error refl e) tt

-- ---- the laws

pub crc32c_is_lawful : IsLawful crc32c_codecs
crc32c_is_lawful = record {
  decode_undoes = λ codec r bytes value keeps small. undone bytes value.each;
  kept = λ codec r bytes value keeps small. size_kept r bytes keeps;
  are_bytes = λ codec bytes value. All-append (λ (x : ℕ). x < 256) bytes (checksum_bytes bytes) value.each (checksum_are_bytes bytes);
  refusal = λ codec r bytes error e. tests_reject (nat_le 4 (length bytes)) (checksum_in (last_four bytes) == crc32c (bytes_before bytes)) bytes error e;
  grows = λ codec r s h. size_grows r s h;
}
