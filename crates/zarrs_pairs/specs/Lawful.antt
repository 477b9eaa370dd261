-- Codecs of pairs keep the laws of bytes-to-bytes codecs.
use Rattle.std.proofs.Common.{◌≡◌, ℕ, ◌<◌, ◌^◌, ◌⊎◌, inl, inr, List, [], ◌∷◌, length, map, replicate, nat_eq, Option, Some, None, Ok, Err, arith, refl, sym, ap, ◌∙◌, subst}
use Rattle.std.specs.Prelude.{All, Contains}
use Rattle.std.proofs.lemmas.Bool.{cases_Bool, false≢true}
use Rattle.std.proofs.lemmas.List.{length-replicate}
use Rattle.std.proofs.lemmas.List.Elements.{All-cons, All-head, All-tail, All-replicate, Contains-append_left, Contains-append_right, Contains-append_cases, Contains-push, Contains-push_cases}
use Rattle.std.proofs.lemmas.Option.{same_Some}
use Rattle.std.specs.Cmp.Lexicographic.{pointwise}
use Rattle.zarrs_array_bytes.specs.SameBytesLaws.{same_numbers, numbers_same}
use Rattle.zarrs_chunk.specs.declared.codec_error.CodecError.{CodecError}
use Rattle.zarrs_chunk.specs.declared.codec_error.CodecError.TheVariants.{BytesCodec}
use Rattle.zarrs_codec.specs.BytesToBytesCodec.{IsLawful, AreBytes, IsBytesRefusal}
use Rattle.zarrs_pairs.specs.Rows.{IsFunction}
use Rattle.zarrs_pairs.specs.Laws.{AreLookedUp, IsUndone}
use Rattle.zarrs_pairs.specs.Pairs.{Pairs, beside, encoded_with, decoded_with, turned, IsPair, AreOneToOne}
use Rattle.zarrs_pairs.specs.PairsCodec.{pairs_codecs, or_endless, or_refused, endless, beyond, codec_pairs}
use Rattle.zarrs_pairs.specs.declared.pairs_codec.PairsCodec.{PairsCodec}

-- ---- members of a list

pub no_member : {X : Type 0} (x : X) → Contains [] x → ⊥
no_member x member = omega (arith, member.1)

-- a row among those behind the first is that one, or one of the rest
pub row_cases : (row : List ℕ × List ℕ) (rows : Pairs) (q : List ℕ × List ℕ) → Contains (row ∷ rows) q → (row ≡ q) ⊎ Contains rows q
row_cases row rows q member =
    elim (Contains-append_cases (row ∷ []) rows q member) [
      | inl first ↦ elim (Contains-push_cases [] row q first) [ inl none ↦ absurd (no_member q none) | inr same ↦ inl same ]
      | inr later ↦ inr later
    ]

pub member_head : {X : Type 0} (x : X) (xs : List X) → Contains (x ∷ xs) x
member_head x xs = Contains-append_left (x ∷ []) xs x (Contains-push [] x)

pub row_behind : (row : List ℕ × List ℕ) (rows : Pairs) (q : List ℕ × List ℕ) → Contains rows q → Contains (row ∷ rows) q
row_behind row rows q member = Contains-append_right (row ∷ []) rows q member

pub second_side : (row other : List ℕ × List ℕ) → row ≡ other → row.1 ≡ other.1
second_side row other same = ap (λ (p : List ℕ × List ℕ). p.1) same

-- a pair has its two sides in either order
pub turned_member : (pairs : Pairs) (decoded encoded : List ℕ) → IsPair pairs decoded encoded → Contains (map turned pairs) (encoded, decoded)
turned_member [] decoded encoded member = absurd (no_member _ member)
turned_member (pair ∷ pairs) decoded encoded member =
    elim (row_cases pair pairs (decoded, encoded) member) [
      | inl same ↦ subst (λ p. Contains (turned pair ∷ map turned pairs) (p.1, p.0)) same (member_head (turned pair) (map turned pairs))
      | inr later ↦ row_behind (turned pair) (map turned pairs) (encoded, decoded) (turned_member pairs decoded encoded later)
    ]

pub turned_back : (pairs : Pairs) (decoded encoded : List ℕ) → Contains (map turned pairs) (encoded, decoded) → IsPair pairs decoded encoded
turned_back [] decoded encoded member = absurd (no_member _ member)
turned_back (pair ∷ pairs) decoded encoded member =
    elim (row_cases (turned pair) (map turned pairs) (encoded, decoded) member) [
      | inl same ↦ subst (λ p. Contains (pair ∷ pairs) (p.1, p.0)) same (member_head pair pairs)
      | inr later ↦ row_behind pair pairs (decoded, encoded) (turned_back pairs decoded encoded later)
    ]

-- ---- what stands beside bytes

pub none_is_not : (a : List ℕ) → None ≡ Some a → ⊥
none_is_not a e = cc

-- what is found is in a row
pub found_is_there : (rows : Pairs) (key value : List ℕ) → beside rows key ≡ Some value → Contains rows (key, value)
found_is_there [] key value found = absurd (none_is_not value found)
found_is_there (row ∷ rows) key value found =
    elim (cases_Bool (pointwise nat_eq row.0 key)) [
      | inl same ↦
          let at : row.0 ≡ key = same_numbers _ _ same in
          let is : row.1 ≡ value = same_Some _ _ (rw same at found) in
          subst (λ v. Contains (row ∷ rows) (key, v)) is (subst (λ k. Contains (row ∷ rows) (k, row.1)) at (member_head row rows))
      | inr other ↦ row_behind row rows (key, value) (found_is_there rows key value (rw other at found))
    ]

-- where a row begins with the bytes, something is found
pub record IsFound (rows : Pairs) (key : List ℕ) : Type 0 where
  pub value : List ℕ
  pub is : beside rows key ≡ Some value

pub found_of_member : (rows : Pairs) (key value : List ℕ) → Contains rows (key, value) → IsFound rows key
found_of_member [] key value member = absurd (no_member _ member)
found_of_member (row ∷ rows) key value member =
    elim (cases_Bool (pointwise nat_eq row.0 key)) [
      | inl same ↦ record { value = row.1; is = rw same refl }
      | inr other ↦
          elim (row_cases row rows (key, value) member) [
            | inl is ↦ absurd (false≢true (sym other ∙ (ap (λ (p : List ℕ × List ℕ). pointwise nat_eq p.0 key) is ∙ numbers_same key)))
            | inr later ↦ let rest = found_of_member rows key value later in record { value = rest.value; is = rw other rest.is }
          ]
    ]

-- where no row begins with the bytes, nothing is found
none_found : (rows : Pairs) (key : List ℕ) (o : Option (List ℕ)) → ((value : List ℕ) → Contains rows (key, value) → ⊥) → beside rows key ≡ o → o ≡ None
none_found rows key None lacks e = refl
none_found rows key (Some value) lacks e = absurd (lacks value (found_is_there rows key value e))

pub none_beside : (rows : Pairs) (key : List ℕ) → ((value : List ℕ) → Contains rows (key, value) → ⊥) → beside rows key ≡ None
none_beside rows key lacks = none_found rows key (beside rows key) lacks refl

pub member_is_found : (rows : Pairs) → IsFunction rows → (key value : List ℕ) → Contains rows (key, value) → beside rows key ≡ Some value
member_is_found rows one key value member =
    let found = found_of_member rows key value member in
    found.is ∙ ap Some (one key found.value value (found_is_there rows key found.value found.is) member)

-- the pairs turned round, where they are one to one
pub turned_is_function : (pairs : Pairs) → AreOneToOne pairs → IsFunction (map turned pairs)
turned_is_function pairs one key first second a b = one.one_decoded first second key (turned_back pairs first key a) (turned_back pairs second key b)

pub are_looked_up : (pairs : Pairs) → AreOneToOne pairs → AreLookedUp pairs
are_looked_up pairs one = record {
  encoded = λ decoded encoded. (found_is_there pairs decoded encoded, member_is_found pairs one.one_encoded decoded encoded);
  decoded = λ decoded encoded. (
    λ found. turned_back pairs decoded encoded (found_is_there (map turned pairs) encoded decoded found),
    λ member. member_is_found (map turned pairs) (turned_is_function pairs one) encoded decoded (turned_member pairs decoded encoded member),
  );
}

pub is_undone : (pairs : Pairs) → AreOneToOne pairs → IsUndone pairs
is_undone pairs one decoded encoded =
    let found = are_looked_up pairs one in (
      λ e. (found.decoded decoded encoded).1 ((found.encoded decoded encoded).0 e),
      λ e. (found.encoded decoded encoded).1 ((found.decoded decoded encoded).0 e),
    )

pub member_are_bytes : (pairs : Pairs) (decoded encoded : List ℕ) → All (λ pair. AreBytes pair.1) pairs → IsPair pairs decoded encoded → AreBytes encoded
member_are_bytes [] decoded encoded each member = absurd (no_member _ member)
member_are_bytes (pair ∷ pairs) decoded encoded each member =
    let of = λ (p : List ℕ × List ℕ). AreBytes p.1 in
    elim (row_cases pair pairs (decoded, encoded) member) [
      | inl same ↦ subst AreBytes (second_side pair (decoded, encoded) same) (All-head of pair pairs each)
      | inr later ↦ member_are_bytes pairs decoded encoded (All-tail of pair pairs each) later
    ]

-- ---- without a pair

no_less : (count : ℕ) → length (beyond count) < count → ⊥
unfolding beyond
no_less count l =
    let zeros : List ℕ = replicate count 0 in
    let is : length zeros ≡ count = length-replicate count 0 in
    omega (arith, l, is)

pub too_long : length endless < 2 ^ 64 → ⊥
too_long l = no_less (2 ^ 64) l

beyond_are : (count : ℕ) → AreBytes (beyond count)
unfolding beyond
beyond_are count =
    let is_byte = λ (x : ℕ). x < 256 in
    All-cons is_byte 0 (replicate count 0) (omega arith) (All-replicate is_byte count 0 (omega arith))

-- ---- the laws

undone : (codec : PairsCodec) (o : Option (List ℕ)) (bytes : List ℕ) → encoded_with (codec_pairs codec) bytes ≡ o → length (or_endless o) < 2 ^ 64 → or_refused (decoded_with (codec_pairs codec) (or_endless o)) ≡ Ok bytes
undone codec None bytes e l = absurd (too_long l)
undone codec (Some encoded) bytes e l = ap or_refused ((is_undone (codec_pairs codec) codec.table.now.one_to_one bytes encoded).0 e)

are : (codec : PairsCodec) (o : Option (List ℕ)) (bytes : List ℕ) → encoded_with (codec_pairs codec) bytes ≡ o → AreBytes (or_endless o)
are codec None bytes e = beyond_are (2 ^ 64)
are codec (Some encoded) bytes e =
    member_are_bytes (codec_pairs codec) bytes encoded codec.table.now.are_bytes (found_is_there (codec_pairs codec) bytes encoded e)

ok_is_no_error : (bytes : List ℕ) (error : CodecError) → or_refused (Some bytes) ≡ Err error → ⊥
ok_is_no_error bytes error e = cc

error_is : (error : CodecError) → or_refused None ≡ Err error → BytesCodec 1 ≡ error
error_is error e = cc

refused : (o : Option (List ℕ)) (error : CodecError) → or_refused o ≡ Err error → IsBytesRefusal error
refused None error e = subst IsBytesRefusal (error_is error e) tt
refused (Some bytes) error e = absurd (ok_is_no_error bytes error e)

pub pairs_are_lawful : IsLawful pairs_codecs
pairs_are_lawful = record {
  decode_undoes = λ codec r bytes value keeps small. undone codec (encoded_with (codec_pairs codec) bytes) bytes refl small;
  kept = λ codec r bytes value keeps small. tt;
  are_bytes = λ codec bytes value. are codec (encoded_with (codec_pairs codec) bytes) bytes refl;
  refusal = λ codec r bytes error e. refused (decoded_with (codec_pairs codec) bytes) error e;
  grows = λ codec r s h. tt;
}
