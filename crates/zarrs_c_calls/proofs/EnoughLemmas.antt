-- Ranges that are returned for a plan have all bytes that are planned.
use Rattle.std.proofs.Common.{◌≡◌, ℕ, ◌*◌, ◌<◌, ◌&&◌, ◌||◌, Bool, true, false, not, if◌then◌else◌, Option, Some, None, List, [], ◌∷◌, Result, Ok, Err, IsOkAnd, refl, ap, sym, ◌∙◌, subst}
use Rattle.std.specs.Prelude.{is_some}
use Rattle.std.specs.List.{All, list_all, list_any, range_with_len}
use Rattle.std.specs.List.Sorted.{IsPermutation}
use Rattle.std.proofs.lemmas.List.Folds.{list_all-append}
use Rattle.std.proofs.lemmas.List.Sorted.{list_any-IsPermutation}
use Rattle.zarrs_chunk.specs.Answer.{◌>>=◌, seen}
use Rattle.zarrs_chunk.specs.Region.{Region}
use Rattle.zarrs_chunk.specs.Selection.{Selection}
use Rattle.zarrs_chunk.specs.declared.codec_error.CodecError.{CodecError}
use Rattle.zarrs_data_type.specs.ElementType.{ElementType}
use Rattle.zarrs_data_type.specs.declared.endianness.Endianness.{Endianness}
use Rattle.zarrs_codec.specs.ByteRanges.{range_indices}
use Rattle.zarrs_codec.specs.ByteSpan.{ByteSpan}
use Rattle.zarrs_json.specs.KnownBytesCodec.{known_codecs}
use Rattle.zarrs_codec.specs.declared.bytes_representation.BytesRepresentation.{BytesRepresentation}
use Rattle.zarrs_json.specs.declared.known_bytes_codec.KnownBytesCodec.{KnownBytesCodec}
use Rattle.zarrs_array_to_array.specs.ArrayToArrayCodec.{IsMapping}
use Rattle.zarrs_bytes.specs.PartialRead.{place_bytes, place_size}
use Rattle.zarrs_bytes.specs.PlannedRanges.{IsPlan}
use Rattle.zarrs_chain_meaning.specs.Chain.{taken_form}
use Rattle.zarrs_chain_meaning.specs.Laws.{IsChainOfMappings}
use Rattle.zarrs_chain_meaning.specs.CodecMeaning.{PlainCodec, chain_representation}
use Rattle.zarrs_chain_meaning.specs.Meaning.{Meaning}
use Rattle.zarrs_bytes.proofs.Coding.{bind_ok, ok}
use Rattle.zarrs_codecs.specs.ChunkRead.{IsReadPlan, encoded_places, form_in_place, planned_places, planned_region, reads_places, standing_places}
use Rattle.zarrs_chain_meaning.specs.ChunkForm.{ChunkForm}
use Rattle.zarrs_data_type.specs.Form.{form_of}
use Rattle.zarrs_codecs.specs.CodecPart.{IsCodecPlan, codec_rests_on, Part}
use Rattle.zarrs_codecs.proofs.LawfulPart.{part_laws}
use Rattle.zarrs_codecs.proofs.PlaceWrites.{bytes_alone}
use Rattle.zarrs_codecs.proofs.PlannedPlaces.{planned_are_meant, standing_is}
use Rattle.zarrs_json.specs.Header.{Header, header_form}
use Rattle.zarrs_lent_handles.specs.Pieces.{is_at_hand}
use Rattle.zarrs_codecs.specs.PlannedReads.{ArePlanned}
use Rattle.zarrs_c_calls.specs.Codes.{codec_call_answer}
use Rattle.zarrs_c_calls.specs.Enough.{PlanIsEnough}
use Rattle.zarrs_c_calls.specs.Plans.{Planned, places_planned}
use Rattle.zarrs_c_calls.specs.Calls.{header_given}
use Rattle.zarrs_c_calls.proofs.HeaderLemmas.{header_sound}
use Rattle.zarrs_c_calls.proofs.PlanLemmas.{plan_by, with_header}
use Rattle.zarrs_lent_handles.proofs.LackingLemmas.{each_passes}
use Rattle.std.specs.Option.{option_map_or}

-- ---- places in another order

neither : (a b : Bool) → (a && not b) ≡ not (not a || b)
neither true true = refl
neither true false = refl
neither false true = refl
neither false false = refl

none_fails : {X : Type 0} (test : X → Bool) (xs : List X) → list_all test xs ≡ not (list_any (λ x. not (test x)) xs)
none_fails test [] = refl
none_fails test (x ∷ xs) = ap (λ (t : Bool). test x && t) (none_fails test xs) ∙ neither (test x) (list_any (λ y. not (test y)) xs)

all_permuted : {X : Type 0} (test : X → Bool) (xs ys : List X) → IsPermutation xs ys → list_all test xs ≡ list_all test ys
all_permuted test xs ys same =
    none_fails test xs ∙ ap not (list_any-IsPermutation (λ x. not (test x)) xs ys same) ∙ sym (none_fails test ys)

place_by_place : (test : ℕ → Bool) (size : ℕ) (places : List ℕ) → list_all test (place_bytes size places) ≡ list_all (λ place. list_all test (range_with_len (place * size) size)) places
place_by_place test size [] = refl
place_by_place test size (place ∷ places) =
    list_all-append test (range_with_len (place * size) size) (place_bytes size places)
    ∙ ap (λ (t : Bool). list_all test (range_with_len (place * size) size) && t) (place_by_place test size places)

same_bytes : (test : ℕ → Bool) (size : ℕ) (places others : List ℕ) → IsPermutation places others → list_all test (place_bytes size places) ≡ list_all test (place_bytes size others)
same_bytes test size places others same =
    place_by_place test size places
    ∙ all_permuted (λ place. list_all test (range_with_len (place * size) size)) places others same
    ∙ sym (place_by_place test size others)

in_place : (order : Option (Option Endianness)) (kept : Option Region) (region : Region) → (if is_some order then kept else None) ≡ Some region → (own : Option Endianness) × (order ≡ Some own)
in_place None kept region e = absurd (cc)
in_place (Some own) kept region e = (own, refl)

-- ---- of an array-to-bytes codec

module _ (made : List ByteSpan) (test : ℕ → Bool) where
  -- the numbers that this answers all pass just where all bytes of the ranges do
  abbrev Passing : Result (List ℕ) CodecError → Type 0
  Passing r = (numbers : List ℕ) × (r ≡ Ok numbers) × (list_all test numbers ≡ list_all test (range_indices made))

  codec_passes : (codec : PlainCodec KnownBytesCodec) (sizes : List ℕ) (type : ElementType) (fill places : List ℕ) → IsCodecPlan codec (form_of sizes type fill) places made → Passing (codec_rests_on known_codecs codec sizes type fill None places)
  codec_passes codec sizes type fill places plan =
      let b = (part_laws codec).planned_bytes known_codecs sizes type fill places made plan in
      (b.0, b.1, sym (b.2 test))

  -- over `bytes` in whatever order the places are planned
  moved_passes : (type : ElementType) (places planned : List ℕ) → IsPermutation places planned → IsPlan (place_size type) planned made → Passing (ok (place_bytes (place_size type) places))
  moved_passes type places planned same plan =
      (place_bytes (place_size type) places, refl, same_bytes test (place_size type) places planned same ∙ ap (list_all test) (sym plan.bytes))

  -- ---- through a chain

  abbrev some_if : Bool → List ℕ → Option (List ℕ)
  some_if b numbers = if b then Some numbers else None

  was_planned : (b : Bool) (found places : List ℕ) → ok (some_if b found) ≡ Ok (Some places) → (b ≡ true) × (found ≡ places)
  was_planned true found places e = (refl, cc)
  was_planned false found places e = absurd (cc)

  chain_passes : (b : Bool) (arrange : List ℕ → List ℕ) (codec : PlainCodec KnownBytesCodec) (type : ElementType) (fill : List ℕ) (p : Result (List ℕ) CodecError) (t : Result (List ℕ × BytesRepresentation) CodecError) (places : List ℕ)
      → ((sizes meant : List ℕ) → p ≡ Ok meant → IsCodecPlan codec (form_of sizes type fill) (arrange meant) made → Passing (codec_rests_on known_codecs codec sizes type fill None meant))
      → seen (some_if b) (seen arrange p) ≡ Ok (Some places) → IsOkAnd t (λ taken. IsCodecPlan codec (form_of taken.0 type fill) places made)
      → (numbers : List ℕ) × ((p >>= λ found. t >>= λ taken. codec_rests_on known_codecs codec taken.0 type fill None found >>= λ bytes. ok (some_if b bytes)) ≡ Ok (Some numbers)) × (list_all test numbers ≡ list_all test (range_indices made))
  chain_passes b arrange codec type fill (Err e) t places passing is plan = absurd (cc)
  chain_passes b arrange codec type fill (Ok meant) (Err e) places passing is plan = absurd plan
  chain_passes b arrange codec type fill (Ok meant) (Ok taken) places passing is plan =
      let was = was_planned b (arrange meant) places is in
      let own : IsCodecPlan codec (form_of taken.0 type fill) (arrange meant) made = subst (λ (ps : List ℕ). IsCodecPlan codec (form_of taken.0 type fill) ps made) (sym was.1) plan in
      let found_numbers = passing taken.0 meant refl own in (
        found_numbers.0,
        ap (λ (r : Result (List ℕ) CodecError). r >>= λ bytes. ok (some_if b bytes)) found_numbers.1 ∙ ap (λ (s : Bool). ok (some_if s found_numbers.0)) was.0,
        found_numbers.2,
      )

  module _ (form : ChunkForm KnownBytesCodec) (selection : Selection) (are : All IsMapping form.chain.array_to_array) (positive : All (λ size. 0 < size) form.sizes) where
    -- the selected places, where these are planned in their order
    ordered_passes : (planned : Option Region) → planned_region form selection ≡ planned → (sizes meant : List ℕ) → encoded_places form.type form.chain.array_to_array form.sizes selection ≡ Ok meant
        → IsCodecPlan form.chain.array_to_bytes (form_of sizes form.type form.fill) (option_map_or (standing_places form.chain.array_to_array form.sizes) planned meant) made → Passing (codec_rests_on known_codecs form.chain.array_to_bytes sizes form.type form.fill None meant)
    ordered_passes None p sizes meant e plan = codec_passes form.chain.array_to_bytes sizes form.type form.fill meant plan
    ordered_passes (Some region) p sizes meant e plan =
        let own = in_place (form_in_place form) _ region p in
        let codec_is = (bytes_alone form.chain.bytes_to_bytes form.chain.array_to_bytes own.0 own.1).1 in
        let chain_is : IsChainOfMappings form.chain = record { mappings = are; inner_mappings = subst (λ (m : Meaning KnownBytesCodec). m.Mapped) (sym codec_is.means) tt } in
        let standing : List ℕ = standing_places form.chain.array_to_array form.sizes region in
        let order = planned_are_meant KnownBytesCodec form selection meant standing chain_is positive e (standing_is form selection region meant p e) in
        subst (λ (p : Part KnownBytesCodec). Passing (p.rests_on known_codecs sizes form.type form.fill None meant)) (sym codec_is.does)
        (moved_passes form.type meant standing order.0 (subst (λ (p : Part KnownBytesCodec). p.IsPlanned sizes form.type form.fill standing made) codec_is.does plan))

    pub form_passes : (places : List ℕ) → planned_places form selection ≡ Ok (Some places) → IsReadPlan known_codecs form (Some made) (Some places)
        → (numbers : List ℕ) × ArePlanned known_codecs form selection numbers × (list_all test numbers ≡ list_all test (range_indices made))
    form_passes places is plan =
        chain_passes (reads_places form.chain.bytes_to_bytes form.chain.array_to_bytes) (option_map_or (standing_places form.chain.array_to_array form.sizes) (planned_region form selection)) form.chain.array_to_bytes form.type form.fill (encoded_places form.type form.chain.array_to_array form.sizes selection) (taken_form known_codecs form.chain form.sizes form.type form.fill) places
        (ordered_passes (planned_region form selection) refl) is plan

-- ---- of a header

planned_is : (header : Header) (r : Result (Option (List ℕ)) CodecError) (plan : Planned) → (codec_call_answer r >>= with_header header) ≡ Ok plan → (r ≡ Ok plan.1) × (header ≡ plan.0)
planned_is header (Ok places) plan e =
    let same : (header, places) ≡ plan = cc in
    (ap (λ (p : Planned). ok p.1) same, ap (λ (p : Planned). p.0) same)
planned_is header (Err error) plan e = absurd (cc)

pub plan_is_enough : PlanIsEnough
plan_is_enough text tuples numbers header selection plan ranges pieces reads means is told all =
    let form = header_form header in
    let places : List ℕ = told.0 in
    let made : List ByteSpan = told.1 in
    let p = planned_is header (places_planned form selection) plan (sym (plan_by (header_given text) tuples numbers header selection reads means) ∙ is) in
    let b = bind_ok (chain_representation known_codecs form.chain form.sizes form.type form.fill) (λ _. planned_places form selection) (Some places) (p.0 ∙ ap ok told.2) in
    let own : IsReadPlan known_codecs form (Some made) (Some places) = subst (λ (h : Header). IsReadPlan known_codecs (header_form h) (Some made) (Some places)) (sym p.1) told.3 in
    let sound = header_sound text header reads in
    let p = form_passes made (is_at_hand pieces) form selection sound.mappings sound.positive places b.2 own in
    (p.0, p.1, p.2 ∙ each_passes (is_at_hand pieces) made (λ n e. all n (told.4.same n ∙ e)))
