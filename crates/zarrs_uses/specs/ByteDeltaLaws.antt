-- The codec `example.byte_delta` keeps the laws of bytes-to-bytes codecs.
use Rattle.std.proofs.Common.{◌≡◌, ℕ, ◌+◌, ◌-◌, ◌%◌, ◌<◌, suc, zero, List, [], ◌∷◌, length, Result, Ok, Err, arith, refl, ap}
use Rattle.std.proofs.lemmas.List.Elements.{All-head, All-tail}
use Rattle.zarrs_codecs.specs.CodecError.{CodecError}
use Rattle.zarrs_codecs.specs.BytesToBytesCodec.{KeepsTo, AreBytes, IsLawful}
use Rattle.zarrs_codecs.specs.BytesRepresentation.{BytesRepresentation}
use Rattle.zarrs_codecs.specs.BytesRepresentation.TheVariants.{FixedSize, BoundedSize, UnboundedSize}
use Rattle.zarrs_uses.specs.ByteDelta.{deltas, sums, byte_delta_codecs}

-- ---- decoding undoes encoding

one_back : (previous byte : ℕ) → previous < 256 → byte < 256 → (previous + (byte + (256 - previous)) % 256) % 256 ≡ byte
one_back previous byte p b = omega arith

undone : (previous : ℕ) (bytes : List ℕ) → previous < 256 → AreBytes bytes → sums previous (deltas previous bytes) ≡ bytes
undone previous [] small each = refl
undone previous (byte ∷ bytes) small each =
    let is_byte = λ (x : ℕ). x < 256 in
    let first : byte < 256 = All-head is_byte byte bytes each in
    rw (one_back previous byte small first) (ap (λ rest. byte ∷ rest) (undone byte bytes first (All-tail is_byte byte bytes each)))

-- ---- as many bytes, each below 256

length-deltas : (previous : ℕ) (bytes : List ℕ) → length (deltas previous bytes) ≡ length bytes
length-deltas previous [] = refl
length-deltas previous (byte ∷ bytes) = ap suc (length-deltas byte bytes)

size_kept : (r : BytesRepresentation) (bytes : List ℕ) → KeepsTo r bytes → KeepsTo r (deltas 0 bytes)
size_kept (FixedSize size) bytes keeps = omega (arith, keeps, length-deltas 0 bytes)
size_kept (BoundedSize size) bytes keeps = omega (arith, keeps, length-deltas 0 bytes)
size_kept UnboundedSize bytes keeps = tt

deltas_are_bytes : (previous : ℕ) (bytes : List ℕ) → AreBytes (deltas previous bytes)
deltas_are_bytes previous [] zero d l = absurd (omega (arith, l))
deltas_are_bytes previous [] (suc k) d l = absurd (omega (arith, l))
deltas_are_bytes previous (byte ∷ bytes) zero d l = omega arith
deltas_are_bytes previous (byte ∷ bytes) (suc k) d l = deltas_are_bytes byte bytes k d (omega (arith, l))

-- ---- nothing is rejected

none_rejected : (bytes : List ℕ) (error : CodecError) → (let decoded : Result (List ℕ) CodecError = Ok bytes in decoded ≡ Err error) → ⊥
none_rejected bytes error e = cc

-- ---- the laws

pub byte_delta_is_lawful : IsLawful byte_delta_codecs
byte_delta_is_lawful = record {
  decode_undoes = λ codec r bytes value keeps small. ap Ok (undone 0 bytes (omega arith) value.each);
  kept = λ codec r bytes value keeps small. size_kept r bytes keeps;
  are_bytes = λ codec bytes value. deltas_are_bytes 0 bytes;
  refusal = λ codec r bytes error e. absurd (none_rejected (sums 0 bytes) error e);
  grows = λ codec r s less. less;
}
