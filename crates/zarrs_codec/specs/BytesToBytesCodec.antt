-- Codecs of bytes to bytes, as functions, and the laws that they keep.
-- Source: zarrs, `BytesToBytesCodecTraits`; the laws are own.
use Rattle.std.specs.Prelude.{◌≡◌, ℕ, ◌<◌, ◌≤◌, ◌^◌, Result, Ok, Err, List, length, All}
use Rattle.zarrs_chunk.specs.declared.codec_error.CodecError.{CodecError}
use Rattle.zarrs_chunk.specs.declared.codec_error.CodecError.TheVariants.{BytesCodec}
use Rattle.zarrs_codec.specs.declared.bytes_representation.BytesRepresentation.{BytesRepresentation}
use Rattle.zarrs_codec.specs.declared.bytes_representation.BytesRepresentation.TheVariants.{FixedSize, BoundedSize, UnboundedSize}

-- What the codecs of a type compute: the encoded bytes of some bytes; the bytes of that representation that encoded ones stand for, or why there are none; and the representation of the encoded bytes, by that of the bytes.
pub record BytesCodecs (B : Type 0) : Type 0 where
  pub encoded_bytes : B → List ℕ → List ℕ
  pub decoded_bytes : B → BytesRepresentation → List ℕ → Result (List ℕ) CodecError
  pub representation : B → BytesRepresentation → BytesRepresentation

-- the bytes are as many as the representation states
abbrev pub KeepsTo : BytesRepresentation → List ℕ → Type 0
KeepsTo (FixedSize size) bytes = length bytes ≡ size
KeepsTo (BoundedSize size) bytes = length bytes ≤ size
KeepsTo UnboundedSize bytes = Unit {0}

-- the first size is no greater than the second; none counts as endless
abbrev pub IsAtMost : BytesRepresentation → BytesRepresentation → Type 0
IsAtMost first UnboundedSize = Unit {0}
IsAtMost UnboundedSize second = ⊥
IsAtMost (FixedSize first) (FixedSize second) = first ≤ second
IsAtMost (FixedSize first) (BoundedSize second) = first ≤ second
IsAtMost (BoundedSize first) (FixedSize second) = first ≤ second
IsAtMost (BoundedSize first) (BoundedSize second) = first ≤ second

-- each number is a byte
abbrev pub AreBytes : List ℕ → Type 0
AreBytes bytes = All (λ byte. byte < 256) bytes

-- bytes, and no more of them than 64 bits count
pub record IsValue (bytes : List ℕ) : Type 0 where
  pub each : AreBytes bytes
  pub small : length bytes < 2 ^ 64

-- the error is the caller's codec's
abbrev pub IsBytesRefusal : CodecError → Type 0
IsBytesRefusal (BytesCodec number) = Unit {0}
IsBytesRefusal _ = ⊥

-- The laws: what is encoded is decoded again, and is as many bytes as declared, where it was as many as declared before; encoded bytes are bytes; what can't be decoded fails with the codec's own number; and a greater size never gives a smaller one.
pub record IsLawful {B : Type 0} (codecs : BytesCodecs B) : Type 0 where
  pub decode_undoes :
      (codec : B) (r : BytesRepresentation) (bytes : List ℕ) → IsValue bytes → KeepsTo r bytes → length (codecs.encoded_bytes codec bytes) < 2 ^ 64 → codecs.decoded_bytes codec r (codecs.encoded_bytes codec bytes) ≡ Ok bytes
  pub kept :
      (codec : B) (r : BytesRepresentation) (bytes : List ℕ) → IsValue bytes → KeepsTo r bytes → length (codecs.encoded_bytes codec bytes) < 2 ^ 64 → KeepsTo (codecs.representation codec r) (codecs.encoded_bytes codec bytes)
  pub are_bytes : (codec : B) (bytes : List ℕ) → IsValue bytes → AreBytes (codecs.encoded_bytes codec bytes)
  pub refusal : (codec : B) (r : BytesRepresentation) (bytes : List ℕ) (error : CodecError) → codecs.decoded_bytes codec r bytes ≡ Err error → IsBytesRefusal error
  pub grows : (codec : B) (r s : BytesRepresentation) → IsAtMost r s → IsAtMost (codecs.representation codec r) (codecs.representation codec s)
