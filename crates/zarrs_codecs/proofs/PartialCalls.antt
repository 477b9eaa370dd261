-- The calls of reads in part.
use Rattle.zarrs_data_type.specs.Form.{form_of}
use Rattle.std.proofs.Common.{◌≡◌, ℕ, ◌<◌, ◌^◌, nat_lt, Bool, true, false, if◌then◌else◌, Option, List, [], ◌∷◌, length, map, replicate, Result, Ok, Err, IfOk, arith, refl, ap, sym, ◌∙◌, subst}
use Rattle.std.specs.Prelude.{is_ok, IsOkAnd}
use Rattle.std.proofs.lemmas.Bool.Decides.{nat_tests}
use Rattle.zarrs_chunk.specs.Answer.{◌>>=◌, checked_u64, demand, seen, Answers, AnswersBy, memory, no_refusal}
use Rattle.zarrs_chunk.specs.ChunkShape.{product}
use Rattle.zarrs_chunk.specs.Runs.{joined_runs, AreApart, AreFilled}
use Rattle.zarrs_chunk.specs.Selection.{Selection}
use Rattle.zarrs_chunk.specs.declared.codec_error.CodecError.{CodecError}
use Rattle.zarrs_chunk.specs.declared.codec_error.CodecError.TheVariants.{InvalidFillValue, Overflow}
use Rattle.zarrs_data_type.specs.Element.{Element, Chunk, fill_element}
use Rattle.zarrs_data_type.specs.ElementType.{ElementType}
use Rattle.zarrs_data_type.specs.FillValue.{fill_fits}
use Rattle.zarrs_data_type.specs.declared.endianness.Endianness.{Endianness}
use Rattle.zarrs_array_bytes.specs.Chunks.{fill_chunk}
use Rattle.zarrs_array_bytes.specs.Elements.{elements}
use Rattle.zarrs_array_bytes.specs.Held.{Held}
use Rattle.zarrs_array_bytes.specs.Validity.{Holds, sizes_fit, validity}
use Rattle.zarrs_codec.specs.ByteRanges.{range_indices}
use Rattle.zarrs_codec.specs.ByteSpan.{ByteSpan}
use Rattle.zarrs_codec.specs.BytesToBytesCodec.{BytesCodecs}
use Rattle.zarrs_codec.specs.CoordinateMap.{CoordinateMap, IsCoordinateMap}
use Rattle.zarrs_codec.specs.declared.bytes_representation.BytesRepresentation.{BytesRepresentation}
use Rattle.zarrs_codec.specs.declared.bytes_representation.BytesRepresentation.TheVariants.{FixedSize}
use Rattle.zarrs_array_to_array.specs.ArrayToArrayCodec.{ArrayMapping}
use Rattle.zarrs_array_to_array.specs.Mapping.{chained_places}
use Rattle.zarrs_bytes.specs.BytesCodec.{bytes_length}
use Rattle.zarrs_bytes.specs.PartialRead.{place_bytes, place_size}
use Rattle.zarrs_bytes.specs.PlannedRanges.{IsPlan as IsElementPlan}
use Rattle.zarrs_packbits.specs.PackBitsSettings.{PackBitsSettings, packed_layout, packbits_length}
use Rattle.zarrs_packbits.specs.PaddingByte.{value_len}
use Rattle.zarrs_packbits.specs.ReadPlan.{IsPackBitsPlan, IsPlanOfRuns}
use Rattle.zarrs_packbits.proofs.PartReads.{plan_of_runs}
use Rattle.zarrs_chain_meaning.specs.ArrayStages.{arrays_map, IsMapWhere}
use Rattle.zarrs_chain_meaning.specs.Chain.{taken_form}
use Rattle.zarrs_chain.specs.ChainView.{plain_codec}
use Rattle.zarrs_codecs.specs.ChunkRead.{encoded_places}
use Rattle.zarrs_codecs.specs.CodecPart.{IsCodecPlan}
use Rattle.zarrs_chain_meaning.specs.CodecMeaning.{PlainCodec, bytes_codec, packbits_codec, PlainChain, meaning, codec_representation, codec_chunk}
use Rattle.zarrs_chain.specs.declared.array_to_bytes_codec.ArrayToBytesCodec.{ArrayToBytesCodec}
use Rattle.zarrs_chain.specs.declared.array_to_bytes_codec.ArrayToBytesCodec.TheVariants.{Bytes, PackBits}
use Rattle.zarrs_chain_meaning.proofs.Answered.{from_ok}
use Rattle.zarrs_bytes.proofs.Coding.{ok, bind_ok}
use Rattle.zarrs_chain_meaning.proofs.ArraySteps.{at_ok, ok_is}
use Rattle.zarrs_chain_meaning.proofs.CodecLaws.{chunk_count, codec_fits}
use Rattle.zarrs_chain_meaning.proofs.ChainSteps.{is_taken, is_ok_of}
use Rattle.zarrs_codecs.proofs.PartialReads.{places_through}

-- ---- fill values

replicate_map : (element : Element) (places : List ℕ) → replicate (length places) element ≡ map (λ _. element) places
replicate_map element [] = refl
replicate_map element (place ∷ places) = ap (λ (rest : List Element). element ∷ rest) (replicate_map element places)

filled_by : (type : ElementType) (fill places : List ℕ) (held : Held) (r : Result Chunk CodecError) → fill_chunk type (length places) fill ≡ r → IsOkAnd r (Holds type held) → Holds type held (map (λ _. fill_element type fill) places)
filled_by type fill places held (Ok chunk) e h =
    let a = bind_ok (demand (fill_fits type fill) InvalidFillValue) _ chunk e in
    let b = bind_ok (sizes_fit type (length places)) _ chunk a.2 in
    subst (Holds type held) (sym (ok_is _ _ b.2) ∙ replicate_map (fill_element type fill) places) h
filled_by type fill places held (Err x) e h = absurd h

-- a container of fill values, one for each place
pub filled_places : (type : ElementType) (fill places : List ℕ) (held : Held) (count : ℕ) → count ≡ length places → IsOkAnd (fill_chunk type count fill) (Holds type held) → Holds type held (map (λ _. fill_element type fill) places)
filled_places type fill places held count e h = filled_by type fill places held (fill_chunk type (length places) fill) refl (subst (λ n. IsOkAnd (fill_chunk type n fill) (Holds type held)) e h)

-- ---- what an array-to-bytes codec takes

pub seen_is_ok : {A C : Type 0} (g : A → C) (r : Result A CodecError) → is_ok (seen g r) ≡ true → is_ok r ≡ true
seen_is_ok g (Ok x) e = refl
seen_is_ok g (Err x) e = absurd cc

bytes_is_ok : {B : Type 0} (f : BytesCodecs B) (order : Option Endianness) (sizes : List ℕ) (type : ElementType) (fill : List ℕ) → is_ok (codec_representation f (bytes_codec order) sizes type fill) ≡ true → is_ok (bytes_length order (form_of sizes type fill)) ≡ true
unfolding meaning
bytes_is_ok f order sizes type fill e = seen_is_ok FixedSize (bytes_length order (form_of sizes type fill)) e

packed_is_ok : {B : Type 0} (f : BytesCodecs B) (settings : PackBitsSettings) (sizes : List ℕ) (type : ElementType) (fill : List ℕ) → is_ok (codec_representation f (packbits_codec settings) sizes type fill) ≡ true → is_ok (packed_layout settings (form_of sizes type fill)) ≡ true
unfolding meaning
packed_is_ok f settings sizes type fill e = seen_is_ok value_len (packed_layout settings (form_of sizes type fill)) (seen_is_ok FixedSize (packbits_length settings (form_of sizes type fill)) e)

pub bytes_taken : {B : Type 0} (f : BytesCodecs B) (codec : ArrayToBytesCodec B) (order : Option Endianness) (sizes : List ℕ) (type : ElementType) (fill : List ℕ) → codec ≡ Bytes order → is_ok (codec_representation f (plain_codec codec) sizes type fill) ≡ true → is_ok (bytes_length order (form_of sizes type fill)) ≡ true
unfolding plain_codec
bytes_taken f codec order sizes type fill is e = bytes_is_ok f order sizes type fill (subst (λ x. is_ok (codec_representation f (plain_codec x) sizes type fill) ≡ true) is e)

pub packed_taken : {B : Type 0} (f : BytesCodecs B) (codec : ArrayToBytesCodec B) (settings : PackBitsSettings) (sizes : List ℕ) (type : ElementType) (fill : List ℕ) → codec ≡ PackBits settings → is_ok (codec_representation f (plain_codec codec) sizes type fill) ≡ true → is_ok (packed_layout settings (form_of sizes type fill)) ≡ true
unfolding plain_codec
packed_taken f codec settings sizes type fill is e = packed_is_ok f settings sizes type fill (subst (λ x. is_ok (codec_representation f (plain_codec x) sizes type fill) ≡ true) is e)

counted_test : (test : Bool) (n m : ℕ) → (if test then ok n else Err Overflow) ≡ ok m → test ≡ true
counted_test true n m e = refl
counted_test false n m e = absurd cc

pub counted_is : (n m : ℕ) → checked_u64 n ≡ Ok m → n < 2 ^ 64
counted_is n m e = let t = counted_test (nat_lt n (2 ^ 64)) n m e in grind (arith, nat_tests, t)

-- what a reader keeps of a chunk that a chain takes
pub record IsKept {B : Type 0} (f : BytesCodecs B) (chain : PlainChain B) (sizes : List ℕ) (type : ElementType) (fill encoded : List ℕ) : Type 0 where
  pub measured : is_ok (codec_representation f chain.array_to_bytes encoded type fill) ≡ true
  pub filled : fill_fits type fill ≡ true
  pub counted : product encoded < 2 ^ 64
  pub counted_whole : product sizes < 2 ^ 64

pub kept_of : {B : Type 0} (f : BytesCodecs B) (chain : PlainChain B) (sizes : List ℕ) (type : ElementType) (fill encoded : List ℕ) (r : BytesRepresentation) → IsMapWhere type chain.array_to_array sizes → checked_u64 (product sizes) ≡ Ok (product sizes)
    → taken_form f chain sizes type fill ≡ Ok (encoded, r) → IsKept f chain sizes type fill encoded
kept_of f chain sizes type fill encoded r maps counted e =
    let t = is_taken f chain sizes type fill (encoded, r) e in
    let h = at_ok (arrays_map type chain.array_to_array sizes) (λ (m : CoordinateMap). IsCoordinateMap sizes m) t.map_is t.mapped maps in
    let measured : codec_representation f chain.array_to_bytes encoded type fill ≡ Ok r = subst (λ s. codec_representation f chain.array_to_bytes s type fill ≡ Ok r) t.encoded_is t.measured in
    record {
      measured = is_ok_of _ r measured;
      filled = codec_fits f chain.array_to_bytes encoded type fill r measured;
      counted = subst (λ n. n < 2 ^ 64) (sym h.count ∙ ap product t.encoded_is) (counted_is (product sizes) (product sizes) counted);
      counted_whole = counted_is (product sizes) (product sizes) counted;
    }

-- ---- plans

pub bytes_planned : (B : Type 0) {A : Type 0} (view : A → List ByteSpan) (r : Result A CodecError) (codec : ArrayToBytesCodec B) (order : Option Endianness) (sizes : List ℕ) (type : ElementType) (fill places : List ℕ) → codec ≡ Bytes order
    → Answers memory (λ x. range_indices (view x)) r (Ok (place_bytes (place_size type) places)) → IfOk r (λ x. IsElementPlan (place_size type) places (view x))
    → AnswersBy memory (λ x (_ : Unit {0}). IsCodecPlan {B = B} (plain_codec codec) (form_of sizes type fill) places (view x)) r no_refusal
unfolding plain_codec
bytes_planned B view (Ok x) codec order sizes type fill places is h plan = subst (λ k. IsCodecPlan {B = B} (plain_codec k) (form_of sizes type fill) places (view x)) (sym is) plan
bytes_planned B view (Err e) codec order sizes type fill places is h plan = λ ne. let never : ⊥ = cc (h ne) in absurd never

plan_from : {L : Type 0} (P Q : L → Type 0) → ((l : L) → P l → Q l) → (r : Result L CodecError) → IsOkAnd r P → IsOkAnd r Q
plan_from P Q each (Ok l) h = each l h
plan_from P Q each (Err e) h = absurd h

pub packed_planned : (B : Type 0) {A : Type 0} (view : A → List ByteSpan) (r : Result A CodecError) (codec : ArrayToBytesCodec B) (settings : PackBitsSettings) (sizes : List ℕ) (type : ElementType) (fill : List ℕ) (runs : List (ℕ × ℕ)) → codec ≡ PackBits settings → AreFilled runs → AreApart runs
    → is_ok (packed_layout settings (form_of sizes type fill)) ≡ true → AnswersBy memory (λ x layout. IsPlanOfRuns layout runs (view x)) r (packed_layout settings (form_of sizes type fill))
    → AnswersBy memory (λ x (_ : Unit {0}). IsCodecPlan {B = B} (plain_codec codec) (form_of sizes type fill) (joined_runs runs) (view x)) r no_refusal
unfolding plain_codec
packed_planned B view (Ok x) codec settings sizes type fill runs is filled apart taken h =
    subst (λ k. IsCodecPlan {B = B} (plain_codec k) (form_of sizes type fill) (joined_runs runs) (view x)) (sym is)
    (plan_from (λ l. IsPlanOfRuns l runs (view x)) (λ l. IsPackBitsPlan l (joined_runs runs) (view x)) (λ l p. plan_of_runs l runs (view x) (joined_runs runs) filled apart refl p) (packed_layout settings (form_of sizes type fill)) h)
packed_planned B view (Err e) codec settings sizes type fill runs is filled apart taken h = λ ne.
    let l = from_ok (packed_layout settings (form_of sizes type fill)) taken in
    let never : ⊥ = cc (sym l.1 ∙ h ne) in
    absurd never

-- ---- runs through array-to-array codecs

pub runs_answer : {A : Type 0} (view : A → List ℕ) (r : Result A CodecError) (type : ElementType) (arrays given : List ArrayMapping) (sizes : List ℕ) (selection : Selection) (m : CoordinateMap) → given ≡ arrays → arrays_map type arrays sizes ≡ Ok m
    → Answers memory view r (chained_places given selection sizes) → Answers memory view r (encoded_places type arrays sizes selection)
runs_answer view r type arrays given sizes selection m is e h =
    subst (λ (x : Result (List ℕ) CodecError). Answers memory view r x) (ap (λ cs. chained_places cs selection sizes) is ∙ places_through type arrays sizes selection m e) h

-- ---- a chunk that is kept

pub same_stored : (one other : Option (List ℕ)) → ◌≡◌ {A = Result (Option (List ℕ)) CodecError} (Ok one) (Ok other) → one ≡ other
same_stored one other e = cc

pub held_of : (type : ElementType) (count : ℕ) (held : Held) (r : Result Chunk CodecError) → ((chunk : Chunk) → r ≡ Ok chunk → length chunk ≡ count) → IsOkAnd r (Holds type held) → (r ≡ ok (elements type count held)) × (validity type count held ≡ Ok tt)
held_of type count held (Ok chunk) long h =
    let n = long chunk refl in
    (ap ok (sym h.elements_are ∙ ap (λ k. elements type k held) n), subst (λ k. validity type k held ≡ Ok tt) n h.valid)
held_of type count held (Err e) long h = absurd h

counted_after : {B : Type 0} (f : BytesCodecs B) (codec : PlainCodec B) (encoded : List ℕ) (type : ElementType) (fill : List ℕ) (o : Result (List ℕ) CodecError) (chunk : Chunk) → (o >>= codec_chunk f codec encoded type fill) ≡ Ok chunk → length chunk ≡ product encoded
counted_after f codec encoded type fill o chunk e =
    let a = bind_ok o (codec_chunk f codec encoded type fill) chunk e in
    chunk_count f codec encoded type fill a.0 chunk a.2

-- the container of the chunk that the array-to-bytes codec reads
pub held_after : {B : Type 0} (f : BytesCodecs B) (codec : PlainCodec B) (encoded : List ℕ) (type : ElementType) (fill : List ℕ) (held : Held) (o : Result (List ℕ) CodecError) → IsOkAnd (o >>= codec_chunk f codec encoded type fill) (Holds type held)
    → ((o >>= codec_chunk f codec encoded type fill) ≡ ok (elements type (product encoded) held)) × (validity type (product encoded) held ≡ Ok tt)
held_after f codec encoded type fill held o h = held_of type (product encoded) held (o >>= codec_chunk f codec encoded type fill) (counted_after f codec encoded type fill o) h

pub is_valid : (r : Result (Unit {0}) CodecError) → r ≡ Ok tt → is_ok r ≡ true
is_valid r e = rw e refl
