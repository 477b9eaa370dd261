-- What is read through a chain of a value that stands in a span.
use Rattle.std.proofs.Common.{◌≡◌, ℕ, ◌<◌, ◌^◌, Bool, true, false, Option, Some, None, List, [], ◌∷◌, length, take, map, Result, Ok, Err, IfOk, refl, ap, sym, subst, ◌∙◌, Global}
use Rattle.std.specs.List.{All, list_all}
use Rattle.std.specs.Prelude.{IsOkAnd, Vec}
use Rattle.zarrs_array_bytes.specs.Held.{Held}
use Rattle.zarrs_array_bytes.specs.Validity.{Holds, validity}
use Rattle.zarrs_array_regions.specs.KeptRegions.{keeps_regions}
use Rattle.zarrs_array_regions.specs.Windows.{decoded_of, last_window, window_of, window_places, TakesRegion, TakeType}
use Rattle.zarrs_array_to_array.specs.ArrayToArrayCodec.{ArrayMapping, IsMapping}
use Rattle.zarrs_bytes.proofs.Coding.{ok}
use Rattle.zarrs_chain_meaning.proofs.Answered.{from_ok}
use Rattle.zarrs_chain_meaning.proofs.ArraySteps.{ok_is}
use Rattle.zarrs_chain_meaning.specs.ArrayStages.{arrays_map}
use Rattle.zarrs_chain_meaning.specs.BytesStages.{outer_bytes}
use Rattle.zarrs_chain_meaning.specs.ChunkForm.{ChunkForm}
use Rattle.zarrs_chain_meaning.specs.CodecMeaning.{PlainCodec, PlainChain, codec_representation}
use Rattle.zarrs_chunk.specs.Answer.{◌>>=◌, AnswersBy, memory, memory_or_fault, seen, Answers}
use Rattle.zarrs_chunk.specs.ChunkShape.{product}
use Rattle.zarrs_chunk.specs.Region.{Region}
use Rattle.zarrs_chunk.specs.Selection.{Selection, places_of, subset}
use Rattle.zarrs_chunk.specs.Tuples.{is_box_inside}
use Rattle.zarrs_chunk.specs.declared.codec_error.CodecError.{CodecError}
use Rattle.zarrs_codec.specs.BytesToBytesCodec.{BytesCodecs}
use Rattle.zarrs_codec.specs.CoordinateMap.{CoordinateMap, same_places}
use Rattle.zarrs_codec.specs.StorageState.{StorageState, are_sure}
use Rattle.zarrs_codec.specs.declared.bytes_representation.BytesRepresentation.{BytesRepresentation}
use Rattle.zarrs_codecs.proofs.LawfulPart.{part_laws}
use Rattle.zarrs_codecs.proofs.PartialReads.{IsReadable, take_codecs, is_readable}
use Rattle.zarrs_codecs.proofs.RegionReads.{region_answered, region_goes, region_members, region_refused, region_valid, takes_region, takes_type}
use Rattle.zarrs_codecs.specs.ChunkRead.{are_given_sure, encoded_places, outer_stored}
use Rattle.zarrs_codecs.specs.ChunkSource.{Source, bytes_above, source_places, source_read}
use Rattle.zarrs_codecs.specs.CodecPart.{codec_read, codec_rests_on}
use Rattle.zarrs_codecs.specs.PlaceLaws.{SameMembers, rests_through}
use Rattle.zarrs_codecs.specs.SpanReads.{chain_read, chain_rests, held_state, moved_read, moved_rests, outer_rests, seen_state, span_parts, StandsIn}
use Rattle.zarrs_array_regions.specs.WindowLaws.{region_places}
use Rattle.zarrs_codecs.specs.TakenChain.{inner_form, moved_sizes, moved_taken}
use Rattle.zarrs_codecs.specs.declared.sharding.taken_chain.TakenChain.{TakenChain}
use Rattle.zarrs_codecs.specs.declared.sharding.value_span.ValueSpan.{ValueSpan}
use Rattle.zarrs_data_type.specs.ElementType.{ElementType}
use Rattle.zarrs_lent_handles.specs.SpanHandle.{span_state}
use Rattle.zarrs_array_to_array.specs.Mapping.{chained_places}
use Rattle.zarrs_chain_meaning.specs.Chain.{taken_form}
use Rattle.zarrs_chunk.specs.Runs.{joined_runs}
use Rattle.zarrs_codecs.proofs.PartialCalls.{runs_answer}
use Rattle.zarrs_codecs.proofs.SpanSeen.{stands_value}

-- ---- sure bytes

-- what holds where bytes are known and sure holds where those are sure that are known
pub where_sure_runs : (sure : Option (ℕ → Bool)) (P : Type 0) (r : Result (List ℕ) CodecError) → (are_given_sure sure r ≡ true → P) → IfOk r (λ numbers. are_sure sure numbers ≡ true → P)
where_sure_runs sure P (Ok numbers) h = h
where_sure_runs sure P (Err x) h = tt

all_true : (numbers : List ℕ) → list_all (λ _. true) numbers ≡ true
all_true [] = refl
all_true (number ∷ numbers) = all_true numbers

-- ---- below bytes-to-bytes codecs

pub moved_alone : {B : Type 0} (f : BytesCodecs B) (chain : PlainChain B) (encoded : List ℕ) (type : ElementType) (fill : List ℕ) (r : BytesRepresentation) (stored : Option (List ℕ)) (places : List ℕ) → chain.bytes_to_bytes ≡ []
    → moved_read f chain encoded type fill r stored places ≡ codec_read f chain.array_to_bytes encoded type fill stored places
moved_alone f chain encoded type fill r stored places e =
    ap (λ codecs. outer_stored f (take (length codecs) codecs) r stored >>= λ bytes. codec_read f chain.array_to_bytes encoded type fill bytes places) e ∙ none stored
  where
    none : (stored : Option (List ℕ)) → (outer_stored f [] r stored >>= λ bytes. codec_read f chain.array_to_bytes encoded type fill bytes places) ≡ codec_read f chain.array_to_bytes encoded type fill stored places
    none None = refl
    none (Some value) = refl

module _ {B : Type 0} (f : BytesCodecs B) (chain : PlainChain B) (encoded : List ℕ) (type : ElementType) (fill : List ℕ) (r : BytesRepresentation) (stored : Option (List ℕ)) (value : List ℕ) (there : stored ≡ Some value) (places : List ℕ) where
  opened : moved_read f chain encoded type fill r stored places ≡ (outer_bytes f chain.bytes_to_bytes r value >>= λ below. codec_read f chain.array_to_bytes encoded type fill (Some below) places)
  opened =
      ap (λ (v : Option (List ℕ)). moved_read f chain encoded type fill r v places) there
      ∙ ap (λ codecs. seen (λ bytes. Some bytes) (outer_bytes f codecs r value) >>= λ bytes. codec_read f chain.array_to_bytes encoded type fill bytes places) (take_codecs chain.bytes_to_bytes)
      ∙ through (outer_bytes f chain.bytes_to_bytes r value)
    where
      through : (x : Result (List ℕ) CodecError) → (seen (λ bytes. Some bytes) x >>= λ bytes. codec_read f chain.array_to_bytes encoded type fill bytes places) ≡ (x >>= λ below. codec_read f chain.array_to_bytes encoded type fill (Some below) places)
      through (Ok below) = refl
      through (Err error) = refl

-- ---- bytes in memory

-- are all sure
pub held_sure : {B : Type 0} (f : BytesCodecs B) (codec : PlainCodec B) (inside : ValueSpan) (bytes : List ℕ) (state : StorageState) (encoded : List ℕ) (type : ElementType) (fill : List ℕ) (r : BytesRepresentation) (places : List ℕ) → span_parts inside ≡ (Some bytes, 0, length bytes)
    → codec_representation f codec encoded type fill ≡ Ok r → are_given_sure (seen_state inside state).sure (codec_rests_on f codec encoded type fill (seen_state inside state).value places) ≡ true
held_sure f codec inside bytes state encoded type fill r places e measured =
    let known = from_ok (codec_rests_on f codec encoded type fill (seen_state inside state).value places) (((part_laws codec).places f).rests_found encoded type fill r (seen_state inside state).value places measured) in
    ap (are_given_sure (seen_state inside state).sure) known.1
    ∙ ap (λ (p : Option (List ℕ) × ℕ × ℕ). are_sure (span_state p.1 p.2 (held_state p.0 state)).sure known.0) e
    ∙ all_true known.0

-- where selected places go
pub selected_go : (type : ElementType) (arrays : List ArrayMapping) (sizes places : List ℕ) (selection : Selection) (m : CoordinateMap) → places_of selection sizes ≡ Ok places → arrays_map type arrays sizes ≡ Ok m → encoded_places type arrays sizes selection ≡ Ok (map m.to places)
selected_go type arrays sizes places selection m a b = rw (a, b) refl

-- ---- through array-to-array codecs

-- A chain takes such a chunk, no size of which is zero and whose elements 64 bits count, and something is stored.
pub record StoredChunk {B : Type 0} (f : BytesCodecs B) (form : ChunkForm B) (encoded : List ℕ) (r : BytesRepresentation) (state : StorageState) : Type 0 where
  pub mappings : All IsMapping form.chain.array_to_array
  pub positive : All (λ size. 0 < size) form.sizes
  pub counted : product form.sizes < 2 ^ 64
  pub taken : taken_form f form.chain form.sizes form.type form.fill ≡ Ok (encoded, r)
  pub value : List ℕ
  pub value_is : state.value ≡ Some value

-- what stands in a span, where the chain was taken
pub taken_stored : {B : Type 0} {b : _} (taken : TakenChain B b) (span : ValueSpan) (state : StorageState) → All IsMapping (inner_form taken).chain.array_to_array → StandsIn span state
    → StoredChunk b.functions (inner_form taken) (moved_sizes taken) (moved_taken taken).1 (seen_state span state)
taken_stored taken span state mappings stands =
    let there = stands_value span state stands in
    record { mappings = mappings; positive = taken.positive; counted = taken.counted; taken = taken.takes; value = there.value; value_is = there.is }

module _ {B : Type 0} {f : BytesCodecs B} {form : ChunkForm B} {encoded : List ℕ} {r : BytesRepresentation} {state : StorageState} (it : StoredChunk f form encoded r state) where
  abbrev pub readable : IsReadable f form.chain form.sizes form.type form.fill encoded r
  readable = is_readable f form.chain form.sizes form.type form.fill encoded r it.mappings it.positive it.taken

  -- it is read where its places go
  chain_moved : (places : List ℕ) → chain_read f form.chain form.sizes form.type form.fill state.value places ≡ moved_read f form.chain encoded form.type form.fill r state.value (map readable.map_is.to places)
  chain_moved places =
      ap (λ (v : Option (List ℕ)). chain_read f form.chain form.sizes form.type form.fill v places) it.value_is
      ∙ ap (λ (x : Result CoordinateMap CodecError). x >>= λ m. codec_representation f form.chain.array_to_bytes m.encoded form.type form.fill >>= λ r. outer_bytes f form.chain.bytes_to_bytes r it.value >>= λ below. codec_read f form.chain.array_to_bytes m.encoded form.type form.fill (Some below) (map m.to places)) readable.mapped
      ∙ ap (λ (s : List ℕ). codec_representation f form.chain.array_to_bytes s form.type form.fill >>= λ r. outer_bytes f form.chain.bytes_to_bytes r it.value >>= λ below. codec_read f form.chain.array_to_bytes s form.type form.fill (Some below) (map readable.map_is.to places)) readable.encoded_is
      ∙ ap (λ (x : Result BytesRepresentation CodecError). x >>= λ r. outer_bytes f form.chain.bytes_to_bytes r it.value >>= λ below. codec_read f form.chain.array_to_bytes encoded form.type form.fill (Some below) (map readable.map_is.to places)) readable.measured
      ∙ sym (opened f form.chain encoded form.type form.fill r state.value it.value it.value_is (map readable.map_is.to places))

  -- and rests on what stands there
  pub chain_rests_moved : (places : List ℕ) → chain_rests f form.chain form.sizes form.type form.fill state.value places ≡ moved_rests f form.chain encoded form.type form.fill state.value (map readable.map_is.to places)
  chain_rests_moved places = by form.chain.bytes_to_bytes
    where
      by : (codecs : List B) → rests_through form.chain.array_to_array (codec_rests_on f form.chain.array_to_bytes) codecs form.sizes form.type form.fill state.value places ≡ outer_rests codecs (codec_rests_on f form.chain.array_to_bytes) encoded form.type form.fill state.value (map readable.map_is.to places)
      by [] =
          ap (λ (x : Result CoordinateMap CodecError). x >>= λ m. codec_rests_on f form.chain.array_to_bytes m.encoded form.type form.fill state.value (map m.to places)) readable.mapped
          ∙ ap (λ (s : List ℕ). codec_rests_on f form.chain.array_to_bytes s form.type form.fill state.value (map readable.map_is.to places)) readable.encoded_is
      by (codec ∷ codecs) = refl

  -- without codecs its places stay
  places_stay : form.chain.array_to_array ≡ [] → (places : List ℕ) → map readable.map_is.to places ≡ places
  places_stay e places =
      let same : same_places form.sizes ≡ readable.map_is = ok_is (same_places form.sizes) readable.map_is (ap (λ (arrays : List ArrayMapping). arrays_map form.type arrays form.sizes) (sym e) ∙ readable.mapped) in
      ap (λ (m : CoordinateMap). map m.to places) (sym same) ∙ each places
    where
      each : (ps : List ℕ) → map (λ p. p) ps ≡ ps
      each [] = refl
      each (p ∷ ps) = ap (λ (qs : List ℕ). p ∷ qs) (each ps)

  -- and otherwise they go where those of an indexer do, as runs that are borrowed
  pub places_gone : (given : List ArrayMapping) (selection : Selection) (places : List ℕ) (runs : Result (Vec (ℕ × ℕ) Global) CodecError) → given ≡ form.chain.array_to_array → places_of selection form.sizes ≡ Ok places
      → Answers memory (λ runs. joined_runs runs.items) runs (chained_places given selection form.sizes) → Answers memory (λ runs. joined_runs runs.items) runs (ok (map readable.map_is.to places))
  places_gone given selection places runs same selects answer =
      subst (λ (r : Result (List ℕ) CodecError). Answers memory (λ (runs : Vec (ℕ × ℕ) Global). joined_runs runs.items) runs r) (selected_go form.type form.chain.array_to_array form.sizes places selection readable.map_is selects readable.mapped)
      (runs_answer (λ (runs : Vec (ℕ × ℕ) Global). joined_runs runs.items) runs form.type form.chain.array_to_array given form.sizes selection readable.map_is same readable.mapped answer)

  module _ (places moved : List ℕ) (go : map readable.map_is.to places ≡ moved) where
    pub read_moved : chain_read f form.chain form.sizes form.type form.fill state.value places ≡ moved_read f form.chain encoded form.type form.fill r state.value moved
    read_moved = chain_moved places ∙ ap (moved_read f form.chain encoded form.type form.fill r state.value) go

    pub sure_moved : are_given_sure state.sure (chain_rests f form.chain form.sizes form.type form.fill state.value places) ≡ true → are_given_sure state.sure (moved_rests f form.chain encoded form.type form.fill state.value moved) ≡ true
    sure_moved s =
        ap (λ (ps : List ℕ). are_given_sure state.sure (moved_rests f form.chain encoded form.type form.fill state.value ps)) (sym go)
        ∙ ap (are_given_sure state.sure) (sym (chain_rests_moved places)) ∙ s

  pub read_alone : form.chain.array_to_array ≡ [] → (places : List ℕ) → chain_read f form.chain form.sizes form.type form.fill state.value places ≡ moved_read f form.chain encoded form.type form.fill r state.value places
  read_alone e places = read_moved places places (places_stay e places)

-- ---- the same places in another order

abbrev is_given : Result Bool CodecError → Bool
is_given (Ok test) = test
is_given (Err error) = false

tested : (test : ℕ → Bool) (r : Result (List ℕ) CodecError) → are_given_sure (Some test) r ≡ is_given (seen (list_all test) r)
tested test (Ok numbers) = refl
tested test (Err error) = refl

never_sure : (r : Result (List ℕ) CodecError) → are_given_sure None r ≡ false
never_sure (Ok numbers) = refl
never_sure (Err error) = refl

given_same : (sure : Option (ℕ → Bool)) (r s : Result (List ℕ) CodecError) → ((test : ℕ → Bool) → seen (list_all test) r ≡ seen (list_all test) s) → are_given_sure sure r ≡ are_given_sure sure s
given_same None r s same = never_sure r ∙ sym (never_sure s)
given_same (Some test) r s same = tested test r ∙ ap is_given (same test) ∙ sym (tested test s)

moved_same : {B : Type 0} (f : BytesCodecs B) (chain : PlainChain B) (encoded : List ℕ) (type : ElementType) (fill : List ℕ) (stored : Option (List ℕ)) (sure : Option (ℕ → Bool)) (ps qs : List ℕ) → SameMembers ps qs
    → are_given_sure sure (moved_rests f chain encoded type fill stored ps) ≡ are_given_sure sure (moved_rests f chain encoded type fill stored qs)
moved_same {B} f chain encoded type fill stored sure ps qs same = by chain.bytes_to_bytes
  where
    by : (codecs : List B) → are_given_sure sure (outer_rests codecs (codec_rests_on f chain.array_to_bytes) encoded type fill stored ps) ≡ are_given_sure sure (outer_rests codecs (codec_rests_on f chain.array_to_bytes) encoded type fill stored qs)
    by [] = given_same sure (codec_rests_on f chain.array_to_bytes encoded type fill stored ps) (codec_rests_on f chain.array_to_bytes encoded type fill stored qs) (((part_laws chain.array_to_bytes).places f).rests_each encoded type fill stored ps qs same)
    by (codec ∷ codecs) = refl

-- ---- regions

module _ {B : Type 0} {f : BytesCodecs B} {form : ChunkForm B} {encoded : List ℕ} {r : BytesRepresentation} {state : StorageState} (it : StoredChunk f form encoded r state) (region : Region) (inside : is_box_inside form.sizes region.starts region.lengths ≡ true) (kept : keeps_regions form.chain.array_to_array ≡ true) where
  abbrev source : Source
  source = bytes_above (length form.chain.bytes_to_bytes) state.value

  region_is : source_read f form encoded r source (subset region) ≡ chain_read f form.chain form.sizes form.type form.fill state.value (region_places form.sizes region)
  region_is =
      ap (λ (x : Result (List ℕ) CodecError). x >>= source_places f form.chain encoded form.type form.fill r source) (region_goes f form encoded r (readable it) it.mappings it.positive it.counted region inside kept)
      ∙ sym (chain_moved it (region_places form.sizes region))

  pub window_taken : TakesRegion form.chain.array_to_array form.sizes region
  window_taken = takes_region f form encoded r (readable it) it.mappings it.positive it.counted region inside kept

  pub window_type_taken : TakeType form.chain.array_to_array form.type
  window_type_taken = takes_type f form encoded r (readable it) it.mappings it.positive it.counted region inside kept

  pub window_refused : (places : List ℕ) (e : CodecError) → ok (window_places (last_window form.chain.array_to_array (window_of form.sizes region))) ≡ ok places
      → AnswersBy {T = Held} memory_or_fault (Holds form.type) (Err e) (moved_read f form.chain encoded form.type form.fill r state.value places)
      → AnswersBy {T = Held} memory_or_fault (Holds form.type) (Err e) (chain_read f form.chain form.sizes form.type form.fill state.value (region_places form.sizes region))
  window_refused places e at answer = λ unexcused. sym region_is ∙ region_refused f form encoded r (readable it) it.mappings it.positive it.counted region inside kept source places e at answer unexcused

  pub window_valid : (places : List ℕ) (held : Held) → ok (window_places (last_window form.chain.array_to_array (window_of form.sizes region))) ≡ ok places → IsOkAnd (moved_read f form.chain encoded form.type form.fill r state.value places) (Holds form.type held)
      → validity form.type (product region.lengths) held ≡ Ok tt
  window_valid places held at answer = region_valid f form encoded r (readable it) it.mappings it.positive it.counted region inside kept source places held at answer

  pub window_answered : (places : List ℕ) (held : Held) (result : Result Held CodecError) → ok (window_places (last_window form.chain.array_to_array (window_of form.sizes region))) ≡ ok places → IsOkAnd (moved_read f form.chain encoded form.type form.fill r state.value places) (Holds form.type held)
      → AnswersBy memory (Holds form.type) result (ok (decoded_of form.chain.array_to_array form.type (window_of form.sizes region) held)) → AnswersBy memory_or_fault (Holds form.type) result (chain_read f form.chain form.sizes form.type form.fill state.value (region_places form.sizes region))
  window_answered places held result at answer d = subst (AnswersBy memory_or_fault (Holds form.type) result) region_is (region_answered f form encoded r (readable it) it.mappings it.positive it.counted region inside kept source places held result at answer d)

  pub window_sure : (places : List ℕ) → ok (window_places (last_window form.chain.array_to_array (window_of form.sizes region))) ≡ ok places
      → are_given_sure state.sure (chain_rests f form.chain form.sizes form.type form.fill state.value (region_places form.sizes region)) ≡ true → are_given_sure state.sure (moved_rests f form.chain encoded form.type form.fill state.value places) ≡ true
  window_sure places at s =
      ap (λ (ps : List ℕ). are_given_sure state.sure (moved_rests f form.chain encoded form.type form.fill state.value ps)) (sym (ok_is (window_places (last_window form.chain.array_to_array (window_of form.sizes region))) places at))
      ∙ sym (moved_same f form.chain encoded form.type form.fill state.value state.sure (map (readable it).map_is.to (region_places form.sizes region)) (window_places (last_window form.chain.array_to_array (window_of form.sizes region))) (region_members f form encoded r (readable it) it.mappings it.positive it.counted region inside kept))
      ∙ ap (are_given_sure state.sure) (sym (chain_rests_moved it (region_places form.sizes region)))
      ∙ s
