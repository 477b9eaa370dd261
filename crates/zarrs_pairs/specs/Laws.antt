-- What codecs of pairs owe beside the laws of their trait.
use Rattle.std.specs.Prelude.{◌≡◌, ◌<◌, ◌^◌, ◌↔◌, ℕ, List, length, All, Some, Ok}
use Rattle.zarrs_codec.specs.BytesToBytesCodec.{BytesCodecs, IsValue, KeepsTo}
use Rattle.zarrs_codec.specs.declared.bytes_representation.BytesRepresentation.{BytesRepresentation}
use Rattle.zarrs_pairs.specs.Pairs.{Pairs, encoded_with, decoded_with, IsPair, AreOneToOne}
use Rattle.zarrs_pairs.specs.PairsCodec.{pairs_codecs, codec_pairs}
use Rattle.zarrs_pairs.specs.declared.pairs_codec.PairsCodec.{PairsCodec}

-- Of pairs that are one to one those that are there are found, from either side, and no others.
pub record AreLookedUp (pairs : Pairs) : Type 0 where
  pub encoded : (decoded encoded : List ℕ) → (encoded_with pairs decoded ≡ Some encoded) ↔ IsPair pairs decoded encoded
  pub decoded : (decoded encoded : List ℕ) → (decoded_with pairs encoded ≡ Some decoded) ↔ IsPair pairs decoded encoded

-- Decoding undoes encoding, and encoding undoes decoding.
abbrev pub IsUndone : Pairs → Type 0
IsUndone pairs = (decoded encoded : List ℕ) → (encoded_with pairs decoded ≡ Some encoded) ↔ (decoded_with pairs encoded ≡ Some decoded)

-- the pairs are another codec's: it encodes the decoded bytes of each as the encoded ones
abbrev pub AreOf : {B : Type 0} → BytesCodecs B → B → Pairs → Type 0
AreOf codecs codec pairs = All (λ pair. codecs.encoded_bytes codec pair.0 ≡ pair.1) pairs

-- By the pairs of another codec, bytes that are encoded are encoded as that codec does.
abbrev pub EncodesAs : {B : Type 0} → BytesCodecs B → Type 0
EncodesAs {B} codecs =
    (other : B) (codec : PairsCodec) (bytes : List ℕ) → AreOf codecs other (codec_pairs codec) → length (pairs_codecs.encoded_bytes codec bytes) < 2 ^ 64
    → pairs_codecs.encoded_bytes codec bytes ≡ codecs.encoded_bytes other bytes

-- By the pairs of another codec, bytes that are decoded are decoded as that codec does, where it is lawful and they are as many as declared.
abbrev pub DecodesAs : {B : Type 0} → BytesCodecs B → Type 0
DecodesAs {B} codecs =
    (other : B) (codec : PairsCodec) (r : BytesRepresentation) (encoded bytes : List ℕ) → AreOf codecs other (codec_pairs codec) → length encoded < 2 ^ 64
    → IsValue bytes → KeepsTo r bytes → pairs_codecs.decoded_bytes codec r encoded ≡ Ok bytes
    → codecs.decoded_bytes other r encoded ≡ Ok bytes

-- a pair whose sides are bytes that 64 bits count
pub record IsOfValues (pair : List ℕ × List ℕ) : Type 0 where
  pub decoded : IsValue pair.0
  pub small : length pair.1 < 2 ^ 64

-- The pairs of a lawful codec are one to one.
abbrev pub OneToOneOf : {B : Type 0} → BytesCodecs B → Type 0
OneToOneOf {B} codecs = (other : B) (pairs : Pairs) → AreOf codecs other pairs → All IsOfValues pairs → AreOneToOne pairs
