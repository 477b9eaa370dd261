-- Registers that differ stay different, so one replaced byte is found.
use Rattle.std.proofs.Common.{◌≡◌, ◌≢◌, inl, inr, ℕ, zero, suc, ◌+◌, ◌-◌, ◌/◌, ◌%◌, ◌^◌, ◌<◌, ◌≤◌, ◌==◌, false, bit_xor, List, [], ◌∷◌, ◌++◌, length, take, drop, get_or, Err, refl, sym, ap, subst, ◌∙◌, arith}
use Rattle.std.specs.Int.Bits.{xor_assoc, xor_comm, xor_self, xor_zero_r}
use Rattle.std.proofs.Math.Seq.{take-append-add, drop-append-add, take-append_seam, drop-append_seam}
use Rattle.std.proofs.lemmas.Bool.{cases_lt}
use Rattle.std.proofs.lemmas.Bool.Decides.{nat_tests}
use Rattle.std.proofs.lemmas.List.{length-append, append_cancel_left, take-append-le, drop-append-le}
use Rattle.std.proofs.lemmas.List.Elements.{All-head, All-tail, All-append}
use Rattle.std.proofs.Math.ListN.{get_or-eq_default}
use Rattle.std.proofs.lemmas.Nat.{xor_lt, mod_below, le_bytes_4}
use Rattle.zarrs_chunk.specs.declared.codec_error.CodecError.TheVariants.{BytesCodec}
use Rattle.zarrs_chunk.proofs.Inside.{le_test}
use Rattle.zarrs_codec.specs.BytesToBytesCodec.{AreBytes}
use Rattle.zarrs_crc32c.specs.Checksum.{castagnoli, after_bit, after_bits, after_byte, after_bytes, all_ones, crc32c}
use Rattle.zarrs_crc32c.specs.Crc32cCodec.{checksum_bytes, checksum_in, with_checksum, bytes_before, last_four, checked_bytes}
use Rattle.zarrs_crc32c.specs.Lawful.{bits_small, bytes_small, four, stored, length_with, checksum_are_bytes}
use Rattle.zarrs_crc32c.proofs.Registers.{moved, linear, after_both}

-- ---- what is added can be taken away

taken_away : (a b : ℕ) → bit_xor (bit_xor a b) b ≡ a
taken_away a b = xor_assoc a b b ∙ ap (bit_xor a) (xor_self b) ∙ xor_zero_r a

same_sum : (a b c : ℕ) → bit_xor a c ≡ bit_xor b c → a ≡ b
same_sum a b c e = sym (taken_away a c) ∙ ap (λ (x : ℕ). bit_xor x c) e ∙ taken_away b c

no_sum : (a b : ℕ) → bit_xor a b ≡ 0 → a ≡ b
no_sum a b e = same_sum a b b (e ∙ sym (xor_self b))

-- ---- registers that differ stay different

moved_nothing : (bit rest : ℕ) → bit < 2 → rest < 2 ^ 31 → moved bit rest ≡ 0 → (bit ≡ 0) × (rest ≡ 0)
moved_nothing zero rest l k e = (refl, e)
moved_nothing (suc zero) rest l k e = absurd (let same : rest ≡ castagnoli = no_sum rest castagnoli e in omega (arith, same, k))
moved_nothing (suc (suc bit)) rest l k e = absurd (omega arith)

bit_nothing : (a : ℕ) → a < 2 ^ 32 → after_bit a ≡ 0 → a ≡ 0
bit_nothing a l e =
    let parts = moved_nothing (a % 2) (a / 2) (mod_below a 2 (omega arith)) (omega arith) e in
    omega (arith, parts.0, parts.1)

bits_nothing : (n a : ℕ) → a < 2 ^ 32 → after_bits n a ≡ 0 → a ≡ 0
unfolding after_bits
bits_nothing zero a l e = e
bits_nothing (suc n) a l e = bit_nothing a l (bits_nothing n (after_bit a) (bits_small 1 a l) e)

bits_apart : (n a b : ℕ) → a < 2 ^ 32 → b < 2 ^ 32 → after_bits n a ≡ after_bits n b → a ≡ b
bits_apart n a b l k e =
    no_sum a b (bits_nothing n (bit_xor a b) (xor_lt 32 a b l k) (linear n a b ∙ ap (λ (x : ℕ). bit_xor x (after_bits n b)) e ∙ xor_self (after_bits n b)))

byte_small : (register byte : ℕ) → register < 2 ^ 32 → byte < 256 → bit_xor register byte < 2 ^ 32
byte_small register byte l k = xor_lt 32 register byte l (omega arith)

bytes_apart : (first second : ℕ) (bytes : List ℕ) → first < 2 ^ 32 → second < 2 ^ 32 → AreBytes bytes → after_bytes first bytes ≡ after_bytes second bytes → first ≡ second
bytes_apart first second [] l k each e = e
bytes_apart first second (byte ∷ bytes) l k each e =
    let is_byte = λ (x : ℕ). x < 256 in
    let here : byte < 256 = All-head is_byte byte bytes each in
    let a : bit_xor first byte < 2 ^ 32 = byte_small first byte l here in
    let b : bit_xor second byte < 2 ^ 32 = byte_small second byte k here in
    same_sum first second byte
    (bits_apart 8 (bit_xor first byte) (bit_xor second byte) a b
    (bytes_apart (after_byte first byte) (after_byte second byte) bytes (bits_small 8 (bit_xor first byte) a) (bits_small 8 (bit_xor second byte) b) (All-tail is_byte byte bytes each) e))

-- so of two lists that differ in one byte
byte_told : (register byte other : ℕ) (back : List ℕ) → register < 2 ^ 32 → byte < 256 → other < 256 → AreBytes back
    → after_bytes register (byte ∷ back) ≡ after_bytes register (other ∷ back) → byte ≡ other
byte_told register byte other back l k h each e =
    let a : bit_xor register byte < 2 ^ 32 = byte_small register byte l k in
    let b : bit_xor register other < 2 ^ 32 = byte_small register other l h in
    let sums : bit_xor register byte ≡ bit_xor register other =
    bits_apart 8 (bit_xor register byte) (bit_xor register other) a b
    (bytes_apart (after_byte register byte) (after_byte register other) back (bits_small 8 (bit_xor register byte) a) (bits_small 8 (bit_xor register other) b) each e) in
    same_sum byte other register (xor_comm byte register ∙ sums ∙ xor_comm register other)

-- ---- lists cut behind a byte

each_front : (front back : List ℕ) → AreBytes (front ++ back) → AreBytes front
each_front [] back each k d l = absurd (omega (arith, l))
each_front (byte ∷ front) back each zero d l = each zero d (omega arith)
each_front (byte ∷ front) back each (suc k) d l =
    each_front front back (All-tail (λ (x : ℕ). x < 256) byte (front ++ back) each) k d (omega (arith, l))

each_back : (front back : List ℕ) → AreBytes (front ++ back) → AreBytes back
each_back [] back each = each
each_back (byte ∷ front) back each = each_back front back (All-tail (λ (x : ℕ). x < 256) byte (front ++ back) each)

checksums_apart : (front back : List ℕ) (byte other : ℕ) → AreBytes (front ++ byte ∷ back) → other < 256
    → crc32c (front ++ byte ∷ back) ≡ crc32c (front ++ other ∷ back) → byte ≡ other
unfolding crc32c
checksums_apart front back byte other each h e =
    let is_byte = λ (x : ℕ). x < 256 in
    let rest : AreBytes (byte ∷ back) = each_back front (byte ∷ back) each in
    let begun : ℕ = after_bytes all_ones front in
    let registers : after_bytes all_ones (front ++ byte ∷ back) ≡ after_bytes all_ones (front ++ other ∷ back) =
    same_sum (after_bytes all_ones (front ++ byte ∷ back)) (after_bytes all_ones (front ++ other ∷ back)) all_ones e in
    byte_told begun byte other back (bytes_small all_ones front (omega arith) (each_front front (byte ∷ back) each))
    (All-head is_byte byte back rest) h (All-tail is_byte byte back rest)
    (sym (after_both all_ones front (byte ∷ back)) ∙ registers ∙ after_both all_ones front (other ∷ back))

-- ---- a value with another byte

unequal_test : (a b : ℕ) → (a ≡ b → ⊥) → (a == b) ≡ false
unequal_test a b differ = grind (arith, nat_tests)

-- what is rejected: the bytes before and the last four don't belong together
rejected_by : (encoded front last : List ℕ) → 4 ≤ length encoded → bytes_before encoded ≡ front → last_four encoded ≡ last → (checksum_in last ≡ crc32c front → ⊥) → checked_bytes encoded ≡ Err (BytesCodec 2)
rejected_by encoded front last long before behind differ =
    let first = le_test 4 (length encoded) long in
    let second : (checksum_in (last_four encoded) == crc32c (bytes_before encoded)) ≡ false =
    unequal_test (checksum_in (last_four encoded)) (crc32c (bytes_before encoded))
    (λ e. differ (ap checksum_in (sym behind) ∙ e ∙ ap crc32c before)) in
    rw (first, second) refl

cut_take : (front back : List ℕ) (byte k n : ℕ) → n ≡ length front + suc k → take n (front ++ byte ∷ back) ≡ front ++ byte ∷ take k back
cut_take front back byte k n e = ap (λ (m : ℕ). take m (front ++ byte ∷ back)) e ∙ take-append-add front (byte ∷ back) (suc k)

cut_drop : (front back : List ℕ) (byte k n : ℕ) → n ≡ length front + suc k → drop n (front ++ byte ∷ back) ≡ drop k back
cut_drop front back byte k n e = ap (λ (m : ℕ). drop m (front ++ byte ∷ back)) e ∙ drop-append-add front (byte ∷ back) (suc k)

each_with : (byte : ℕ) (bytes : List ℕ) → byte < 256 → AreBytes bytes → AreBytes (byte ∷ bytes)
each_with byte bytes l each zero d k = l
each_with byte bytes l each (suc i) d k = each i d (omega (arith, k))

-- each read of bytes is below 256, also past their end
read_small : (bytes : List ℕ) → AreBytes bytes → (i : ℕ) → get_or bytes i 0 < 256
read_small bytes each i =
    elim (cases_lt i (length bytes)) [
      | inl l ↦ each i 0 l
      | inr k ↦ subst (λ (x : ℕ). x < 256) (sym (get_or-eq_default bytes 0 k)) (omega arith)
    ]

same_head : (first second : ℕ) (back : List ℕ) → first ∷ back ≡ second ∷ back → first ≡ second
same_head first second back e = cc

-- four bytes that spell a checksum are its bytes
spelled_back : (bytes last : List ℕ) → length last ≡ 4 → AreBytes last → checksum_in last ≡ crc32c bytes → checksum_bytes bytes ≡ last
unfolding checksum_bytes checksum_in
spelled_back bytes last long each e = le_bytes_4 last (crc32c bytes) long (read_small last each) (sym e)

module _ (bytes front back : List ℕ) (byte other : ℕ) (each : AreBytes bytes) (small : other < 256) (is : with_checksum bytes ≡ front ++ byte ∷ back) (differ : other ≢ byte) where
  long : length front + suc (length back) ≡ length bytes + 4
  long = sym (length-append front (byte ∷ back)) ∙ ap length (sym is) ∙ length_with bytes

  other_long : length (front ++ other ∷ back) ≡ length bytes + 4
  other_long = length-append front (other ∷ back) ∙ long

  other_cut : length (front ++ other ∷ back) - 4 ≡ length bytes
  other_cut = omega (arith, other_long)

  before_is : bytes ≡ take (length bytes) (front ++ byte ∷ back)
  before_is = sym (take-append_seam bytes (checksum_bytes bytes)) ∙ ap (take (length bytes)) is

  behind_is : checksum_bytes bytes ≡ drop (length bytes) (front ++ byte ∷ back)
  behind_is = sym (drop-append_seam bytes (checksum_bytes bytes)) ∙ ap (drop (length bytes)) is

  other_before : bytes_before (front ++ other ∷ back) ≡ take (length bytes) (front ++ other ∷ back)
  other_before = ap (λ (n : ℕ). take n (front ++ other ∷ back)) other_cut

  other_behind : last_four (front ++ other ∷ back) ≡ drop (length bytes) (front ++ other ∷ back)
  other_behind = ap (λ (n : ℕ). drop n (front ++ other ∷ back)) other_cut

  -- the byte stands in the bytes
  in_bytes : (k : ℕ) → length bytes ≡ length front + suc k → checked_bytes (front ++ other ∷ back) ≡ Err (BytesCodec 2)
  in_bytes k e =
      let old : bytes ≡ front ++ byte ∷ take k back = before_is ∙ cut_take front back byte k (length bytes) e in
      let last : checksum_bytes bytes ≡ drop k back = behind_is ∙ cut_drop front back byte k (length bytes) e in
      rejected_by (front ++ other ∷ back) (front ++ other ∷ take k back) (drop k back) (omega (arith, other_long))
      (other_before ∙ cut_take front back other k (length bytes) e)
      (other_behind ∙ cut_drop front back other k (length bytes) e)
      (λ same. differ (sym (checksums_apart front (take k back) byte other (subst AreBytes old each) small
      (ap crc32c (sym old) ∙ sym (stored bytes each) ∙ ap checksum_in last ∙ same))))

  -- it stands in the checksum
  in_checksum : length bytes ≤ length front → checked_bytes (front ++ other ∷ back) ≡ Err (BytesCodec 2)
  in_checksum le =
      let begun : List ℕ = drop (length bytes) front in
      let old : checksum_bytes bytes ≡ begun ++ byte ∷ back = behind_is ∙ drop-append-le (length bytes) front (byte ∷ back) le in
      let rest : AreBytes (begun ++ byte ∷ back) = subst AreBytes old (checksum_are_bytes bytes) in
      let is_byte = λ (x : ℕ). x < 256 in
      let changed : AreBytes (begun ++ other ∷ back) =
      All-append is_byte begun (other ∷ back) (each_front begun (byte ∷ back) rest)
      (each_with other back small (All-tail is_byte byte back (each_back begun (byte ∷ back) rest))) in
      let len : length (begun ++ other ∷ back) ≡ 4 =
      length-append begun (other ∷ back) ∙ sym (length-append begun (byte ∷ back)) ∙ ap length (sym old) ∙ four bytes in
      rejected_by (front ++ other ∷ back) bytes (begun ++ other ∷ back) (omega (arith, other_long))
      (other_before ∙ take-append-le (length bytes) front (other ∷ back) le ∙ sym (take-append-le (length bytes) front (byte ∷ back) le) ∙ sym before_is)
      (other_behind ∙ drop-append-le (length bytes) front (other ∷ back) le)
      (λ same. differ (same_head other byte back
      (append_cancel_left begun (other ∷ back) (byte ∷ back) (sym (spelled_back bytes (begun ++ other ∷ back) len changed same) ∙ old))))

  pub replaced_found : checked_bytes (front ++ other ∷ back) ≡ Err (BytesCodec 2)
  replaced_found =
      elim (cases_lt (length front) (length bytes)) [
        | inl l ↦ in_bytes (length bytes - length front - 1) (omega arith)
        | inr le ↦ in_checksum le
      ]
