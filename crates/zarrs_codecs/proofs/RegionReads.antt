-- Reads of regions that go through array-to-array codecs as regions.
use Rattle.std.proofs.Common.{◌≡◌, ◌^◌, ◌<◌, ℕ, Bool, true, Some, None, List, [], ◌∷◌, get_or, map, Result, Ok, Err, IfOk, refl, ap, sym, ◌∙◌, subst}
use Rattle.std.specs.Prelude.{IfErr, IsOkAnd}
use Rattle.std.specs.List.{All, flat_map, list_all}
use Rattle.std.proofs.lemmas.List.{map-id}
use Rattle.std.proofs.lemmas.List.Concat.{flat_map_single}
use Rattle.std.proofs.lemmas.List.Elements.{All-cons, All-nil}
use Rattle.zarrs_chunk.specs.Answer.{seen, AnswersBy, memory, memory_or_fault}
use Rattle.zarrs_chunk.specs.ChunkShape.{product}
use Rattle.zarrs_chunk.specs.Region.{Region}
use Rattle.zarrs_chunk.specs.Runs.{joined_runs}
use Rattle.zarrs_chunk.specs.Selection.{Selection, subset, bounds_of}
use Rattle.zarrs_chunk.specs.Tuples.{is_box_inside}
use Rattle.zarrs_chunk.specs.declared.codec_error.CodecError.{CodecError}
use Rattle.zarrs_data_type.specs.Element.{absent, Chunk, fill_element}
use Rattle.zarrs_data_type.specs.ElementType.{ElementType}
use Rattle.zarrs_array_bytes.specs.Held.{Held}
use Rattle.zarrs_array_bytes.specs.Validity.{Holds, validity}
use Rattle.zarrs_codec.specs.BytesToBytesCodec.{BytesCodecs}
use Rattle.zarrs_codec.specs.CoordinateMap.{CoordinateMap}
use Rattle.zarrs_codec.specs.StorageState.{are_sure, StorageState}
use Rattle.zarrs_codec.specs.declared.bytes_representation.BytesRepresentation.{BytesRepresentation}
use Rattle.zarrs_array_to_array.specs.ArrayToArrayCodec.{ArrayMapping, IsMapping, chained}
use Rattle.zarrs_array_to_array.specs.CodecAnswers.{type_taken}
use Rattle.zarrs_array_regions.specs.declared.window.Window.{Window}
use Rattle.zarrs_array_regions.specs.KeptRegions.{keeps_regions, IsKept}
use Rattle.zarrs_array_regions.specs.PlaceReaders.{ReadsInAnyOrder}
use Rattle.zarrs_array_regions.specs.Windows.{TakesRegion, TakeType, window_of, window_places, last_window, decoded_elements, decoded_of}
use Rattle.zarrs_array_to_array.proofs.BoxPlaces.{bounds_from}
use Rattle.zarrs_array_regions.proofs.KeptWindows.{places_are}
use Rattle.zarrs_array_regions.proofs.PlaceReads.{mapped_read, then_read, region_read, region_decoded, region_sure}
use Rattle.zarrs_chain_meaning.specs.ArrayStages.{codec_map, arrays_map}
use Rattle.zarrs_chain_meaning.specs.Chain.{taken_form}
use Rattle.zarrs_chain_meaning.specs.CodecMeaning.{PlainChain}
use Rattle.zarrs_bytes.proofs.Coding.{ok, bind_ok}
use Rattle.zarrs_chain_meaning.proofs.ArraySteps.{ok_is, ok_no_err}
use Rattle.zarrs_chain_meaning.proofs.NestedStages.{chained_of}
use Rattle.zarrs_codecs.specs.ChunkRead.{asks_in_part, encoded_places, WhereSureBy}
use Rattle.zarrs_chain_meaning.specs.ChunkForm.{ChunkForm}
use Rattle.zarrs_codecs.specs.CodecPart.{codec_read, rests_where}
use Rattle.zarrs_codecs.specs.PlaceLaws.{SameMembers}
use Rattle.zarrs_codecs.specs.ChunkSource.{Source, bytes_above, chunk_below, source_places, source_read}
use Rattle.zarrs_codecs.proofs.PartialReads.{IsReadable}
use Rattle.zarrs_codecs.proofs.PlaceWrites.{memory_too}
use Rattle.zarrs_codecs.proofs.SureReads.{where_sure}
use Rattle.zarrs_codecs.proofs.IndexReads.{sure_alike}
use Rattle.zarrs_codecs.proofs.LawfulPart.{codec_any}

-- ---- what is read of places in any order

pub source_any : {B : Type 0} (f : BytesCodecs B) (chain : PlainChain B) (encoded : List ℕ) (type : ElementType) (fill : List ℕ) (r : BytesRepresentation) (source : Source) → ReadsInAnyOrder (source_places f chain encoded type fill r source)
source_any f chain encoded type fill r (bytes_above below value) =
    then_read _ (λ bytes. codec_read f chain.array_to_bytes encoded type fill bytes) (λ bytes. codec_any f chain.array_to_bytes encoded type fill bytes)
source_any f chain encoded type fill r (chunk_below None) = mapped_read (λ _. fill_element type fill)
source_any f chain encoded type fill r (chunk_below (Some chunk)) = mapped_read (λ place. get_or chunk place absent)

-- ---- what is known of a region that is kept

types_taken : (type : ElementType) (codecs : List ArrayMapping) (sizes : List ℕ) (m : CoordinateMap) → arrays_map type codecs sizes ≡ Ok m → TakeType codecs type
types_taken type [] sizes m e = All-nil (λ codec. type_taken codec type ≡ Ok tt)
types_taken type (codec ∷ codecs) sizes m e =
    let a = bind_ok (codec_map type codec sizes) _ m e in
    let b = bind_ok (type_taken codec type) _ a.0 a.1 in
    let c = bind_ok (arrays_map type codecs a.0.encoded) _ m a.2 in
    All-cons (λ codec. type_taken codec type ≡ Ok tt) codec codecs b.1 (types_taken type codecs a.0.encoded c.0 c.1)

each_alone : (places : List ℕ) → flat_map (λ place. place ∷ []) places ≡ places
each_alone places = flat_map_single (λ place. place) places ∙ map-id places

module _ {B : Type 0} (f : BytesCodecs B) (form : ChunkForm B) (encoded : List ℕ) (r : BytesRepresentation) (h : IsReadable f form.chain form.sizes form.type form.fill encoded r) (are : All IsMapping form.chain.array_to_array) (positive : All (λ size. 0 < size) form.sizes) (counted : product form.sizes < 2 ^ 64)
    (region : Region) (inside : is_box_inside form.sizes region.starts region.lengths ≡ true) (kept : keeps_regions form.chain.array_to_array ≡ true) where
  abbrev last : Window
  last = last_window form.chain.array_to_array (window_of form.sizes region)

  chained_is : chained form.chain.array_to_array form.sizes ≡ Ok h.map_is
  chained_is = chained_of form.type form.chain.array_to_array form.sizes h.map_is h.mapped

  pub takes_region : TakesRegion form.chain.array_to_array form.sizes region
  takes_region = record { taken = rw chained_is refl; counted = counted; inside = inside }

  pub takes_type : TakeType form.chain.array_to_array form.type
  takes_type = types_taken form.type form.chain.array_to_array form.sizes h.map_is h.mapped

  -- where its places go
  pub region_goes : encoded_places form.type form.chain.array_to_array form.sizes (subset region) ≡ Ok (map h.map_is.to (window_places (window_of form.sizes region)))
  region_goes = rw (places_are form.sizes region inside counted, h.mapped) refl

  module _ (source : Source) where
    abbrev wanted : Result Chunk CodecError
    wanted = source_read f form encoded r source (subset region)

    abbrev read_last : List ℕ → Result Chunk CodecError
    read_last places = source_places f form.chain encoded form.type form.fill r source places

    any : ReadsInAnyOrder read_last
    any = source_any f form.chain encoded form.type form.fill r source

    wanted_is : wanted ≡ read_last (map h.map_is.to (window_places (window_of form.sizes region)))
    wanted_is = rw region_goes refl

    -- the read of the last window is rejected
    pub region_refused : (places : List ℕ) (e : CodecError) → ok (window_places last) ≡ ok places → AnswersBy {T = Held} memory_or_fault (Holds form.type) (Err e) (read_last places) → AnswersBy {T = Held} memory_or_fault (Holds form.type) (Err e) wanted
    region_refused places e at answer = λ unexcused.
        wanted_is
        ∙ region_read form.chain.array_to_array form.sizes h.map_is region are positive chained_is kept inside read_last any
        ∙ ap (seen (decoded_elements form.chain.array_to_array (window_of form.sizes region))) (ap read_last (ok_is (window_places last) places at) ∙ answer unexcused)

    -- its elements are valid, and decoded they are what is read
    pub region_valid : (places : List ℕ) (held : Held) → ok (window_places last) ≡ ok places → IsOkAnd (read_last places) (Holds form.type held) → validity form.type (product region.lengths) held ≡ Ok tt
    region_valid places held at answer =
        (region_decoded form.chain.array_to_array form.sizes h.map_is region are positive chained_is kept inside read_last form.type held held any
        (subst (λ ps. IsOkAnd (read_last ps) (Holds form.type held)) (sym (ok_is (window_places last) places at)) answer)).0

    pub region_answered : (places : List ℕ) (held : Held) (result : Result Held CodecError) → ok (window_places last) ≡ ok places → IsOkAnd (read_last places) (Holds form.type held)
        → AnswersBy memory (Holds form.type) result (ok (decoded_of form.chain.array_to_array form.type (window_of form.sizes region) held)) → AnswersBy memory_or_fault (Holds form.type) result wanted
    region_answered places held (Ok decoded) at answer d =
        subst (λ x. IsOkAnd x (Holds form.type decoded)) (sym wanted_is)
        ((region_decoded form.chain.array_to_array form.sizes h.map_is region are positive chained_is kept inside read_last form.type held decoded any
        (subst (λ ps. IsOkAnd (read_last ps) (Holds form.type held)) (sym (ok_is (window_places last) places at)) answer)).1 d)
    region_answered places held (Err e) at answer d = λ unexcused. absurd (ok_no_err (decoded_of form.chain.array_to_array form.type (window_of form.sizes region) held) e (d (memory_too e unexcused)))

  -- the places of the last window are the region's, where they go
  pub region_members : SameMembers (map h.map_is.to (window_places (window_of form.sizes region))) (window_places last)
  region_members test =
      ap (list_all test) (sym (each_alone (map h.map_is.to (window_places (window_of form.sizes region)))))
      ∙ region_sure form.chain.array_to_array form.sizes h.map_is region are positive chained_is kept inside (Some test) (λ place. place ∷ [])
      ∙ ap (list_all test) (each_alone (window_places last))

  -- the bytes that a read of the last window rests on
  pub region_sure_where : (known : Bool) (before : StorageState) (places : List ℕ) (P : Type 0) → ok (window_places last) ≡ ok places → taken_form f form.chain form.sizes form.type form.fill ≡ Ok (encoded, r)
      → (asks_in_part form.chain.bytes_to_bytes form.chain.array_to_bytes ≡ true → IfOk (rests_where known f form.chain.array_to_bytes encoded form.type form.fill before.value places) (λ numbers. are_sure before.sure numbers ≡ true → P)) → WhereSureBy known f form before (subset region) P
  region_sure_where known before places P at taken sure =
      where_sure known f form before (subset region) P encoded r (map h.map_is.to (window_places (window_of form.sizes region))) region_goes taken
      (λ asks. sure_alike f known form.chain.array_to_bytes before.sure (map h.map_is.to (window_places (window_of form.sizes region))) (window_places last) region_members encoded form.type form.fill before.value P
      (subst (λ ps. IfOk (rests_where known f form.chain.array_to_bytes encoded form.type form.fill before.value ps) (λ numbers. are_sure before.sure numbers ≡ true → P)) (sym (ok_is (window_places last) places at)) (sure asks)))

-- ---- calls

-- the runs of the last window cover its places
pub runs_at : (arrays given : List ArrayMapping) (window : Window) (runs lent : List (ℕ × ℕ)) → given ≡ arrays → ok (window_places (last_window given window)) ≡ ok (joined_runs runs) → lent ≡ runs
    → ok (window_places (last_window arrays window)) ≡ ok (joined_runs lent)
runs_at arrays given window runs lent e at same =
    ap (λ cs. ok (window_places (last_window cs window))) (sym e) ∙ at ∙ ap (λ rs. ok (joined_runs rs)) (sym same)

-- a region inside is in bounds
pub inside_bounds : (sizes : List ℕ) (region : Region) → is_box_inside sizes region.starts region.lengths ≡ true → (Q : CodecError → Type 0) → IfErr (bounds_of (subset region) sizes) Q
inside_bounds sizes region inside Q = rw (bounds_from sizes region inside) tt

-- and so is a selection that is such a region
pub kept_bounds : (codecs : List ArrayMapping) (sizes : List ℕ) (selection : Selection) (region : Region) → IsKept codecs sizes selection region → (Q : CodecError → Type 0) → IfErr (bounds_of selection sizes) Q
kept_bounds codecs sizes selection region k Q =
    subst (λ s. IfErr (bounds_of s sizes) Q) (sym k.selection_is) (inside_bounds sizes region k.inside Q)
