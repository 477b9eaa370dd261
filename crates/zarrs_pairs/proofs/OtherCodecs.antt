-- By the pairs of another codec, bytes are encoded and decoded as that codec does.
use Rattle.std.proofs.Common.{◌≡◌, ℕ, ◌<◌, ◌^◌, List, [], ◌∷◌, length, Option, Some, None, Ok, Result, inl, inr, refl, sym, ap, ◌∙◌, subst}
use Rattle.std.specs.Prelude.{All}
use Rattle.std.proofs.lemmas.List.Elements.{All-head, All-tail}
use Rattle.zarrs_chunk.specs.declared.codec_error.CodecError.{CodecError}
use Rattle.zarrs_codec.specs.BytesToBytesCodec.{BytesCodecs, IsLawful, IsValue}
use Rattle.zarrs_codec.specs.declared.bytes_representation.BytesRepresentation.TheVariants.{UnboundedSize}
use Rattle.zarrs_pairs.specs.Laws.{AreOf, EncodesAs, DecodesAs, IsOfValues, OneToOneOf}
use Rattle.zarrs_pairs.specs.Lawful.{are_looked_up, found_is_there, row_cases, no_member, too_long}
use Rattle.zarrs_pairs.specs.Pairs.{encoded_with, decoded_with, Pairs, IsPair}
use Rattle.zarrs_pairs.specs.PairsCodec.{codec_pairs, or_endless, or_refused}

-- each pair of a codec is what it encodes
of_codec : {B : Type 0} (codecs : BytesCodecs B) (other : B) (pairs : Pairs) (decoded encoded : List ℕ) → AreOf codecs other pairs → IsPair pairs decoded encoded → codecs.encoded_bytes other decoded ≡ encoded
of_codec codecs other [] decoded encoded each member = absurd (no_member _ member)
of_codec codecs other (pair ∷ pairs) decoded encoded each member =
    let of = λ (p : List ℕ × List ℕ). codecs.encoded_bytes other p.0 ≡ p.1 in
    elim (row_cases pair pairs (decoded, encoded) member) [
      | inl same ↦ subst (λ row. codecs.encoded_bytes other row.0 ≡ row.1) same (All-head of pair pairs each)
      | inr later ↦ of_codec codecs other pairs decoded encoded (All-tail of pair pairs each) later
    ]

-- bytes that 64 bits count
abbrev AreValues : List ℕ → List ℕ → Type 0
AreValues decoded encoded = IsValue decoded × (length encoded < 2 ^ 64)

-- what holds of the sides of each pair holds of those that are a pair
side_values : (pairs : Pairs) (decoded encoded : List ℕ) → All IsOfValues pairs → IsPair pairs decoded encoded → AreValues decoded encoded
side_values [] decoded encoded each member = absurd (no_member _ member)
side_values (pair ∷ pairs) decoded encoded each member =
    elim (row_cases pair pairs (decoded, encoded) member) [
      | inl same ↦ let head = All-head IsOfValues pair pairs each in subst (λ row. AreValues row.0 row.1) same (head.decoded, head.small)
      | inr later ↦ side_values pairs decoded encoded (All-tail IsOfValues pair pairs each) later
    ]

-- ---- encoding

encoded_by : {B : Type 0} (codecs : BytesCodecs B) (other : B) (pairs : Pairs) (bytes : List ℕ) (o : Option (List ℕ)) → AreOf codecs other pairs → encoded_with pairs bytes ≡ o → length (or_endless o) < 2 ^ 64 → or_endless o ≡ codecs.encoded_bytes other bytes
encoded_by codecs other pairs bytes None each e small = absurd (too_long small)
encoded_by codecs other pairs bytes (Some encoded) each e small = sym (of_codec codecs other pairs bytes encoded each (found_is_there pairs bytes encoded e))

pub encodes_as : {B : Type 0} (codecs : BytesCodecs B) → EncodesAs codecs
encodes_as codecs other codec bytes each small = encoded_by codecs other (codec_pairs codec) bytes (encoded_with (codec_pairs codec) bytes) each refl small

-- ---- decoding

not_refused : (bytes : List ℕ) → or_refused None ≡ Ok bytes → ⊥
not_refused bytes e = cc

is_answer : (decoded bytes : List ℕ) → or_refused (Some decoded) ≡ Ok bytes → decoded ≡ bytes
is_answer decoded bytes e = cc

is_found : (o : Option (List ℕ)) (bytes : List ℕ) → or_refused o ≡ Ok bytes → o ≡ Some bytes
is_found None bytes e = absurd (not_refused bytes e)
is_found (Some decoded) bytes e = ap Some (is_answer decoded bytes e)

pub decodes_as : {B : Type 0} (codecs : BytesCodecs B) → IsLawful codecs → DecodesAs codecs
decodes_as codecs lawful other codec r encoded bytes each small value keeps e =
    let pairs = codec_pairs codec in
    let found = is_found (decoded_with pairs encoded) bytes e in
    let there = ((are_looked_up pairs codec.table.now.one_to_one).decoded bytes encoded).0 found in
    let is : codecs.encoded_bytes other bytes ≡ encoded = of_codec codecs other pairs bytes encoded each there in
    subst (λ (y : List ℕ). codecs.decoded_bytes other r y ≡ Ok bytes) is (lawful.decode_undoes other r bytes value keeps (subst (λ (y : List ℕ). length y < 2 ^ 64) (sym is) small))

-- ---- one to one

ok_is : (a b : List ℕ) (result : Result (List ℕ) CodecError) → result ≡ Ok a → result ≡ Ok b → a ≡ b
ok_is a b result e f = cc

pub one_to_one_of : {B : Type 0} (codecs : BytesCodecs B) → IsLawful codecs → OneToOneOf codecs
one_to_one_of codecs lawful other pairs each values = record {
  one_encoded = λ decoded first second a b. sym (of_codec codecs other pairs decoded first each a) ∙ of_codec codecs other pairs decoded second each b;
  one_decoded = λ first second encoded a b. ok_is first second (codecs.decoded_bytes other UnboundedSize encoded) (back first encoded a) (back second encoded b);
}
  where
    back : (decoded encoded : List ℕ) → IsPair pairs decoded encoded → codecs.decoded_bytes other UnboundedSize encoded ≡ Ok decoded
    back decoded encoded member =
        let is : codecs.encoded_bytes other decoded ≡ encoded = of_codec codecs other pairs decoded encoded each member in
        let held = side_values pairs decoded encoded values member in
        subst (λ (y : List ℕ). codecs.decoded_bytes other UnboundedSize y ≡ Ok decoded) is
        (lawful.decode_undoes other UnboundedSize decoded held.0 tt (subst (λ (y : List ℕ). length y < 2 ^ 64) (sym is) held.1))
