-- Reads in part through a chain.
use Rattle.std.proofs.Common.{◌≡◌, ℕ, suc, ◌<◌, Option, Some, None, List, [], ◌∷◌, ◌++◌, length, map, take, drop, get_or, Result, Ok, Err, IfOk, arith, refl, ap, sym, ◌∙◌, subst}
use Rattle.std.specs.Prelude.{is_some}
use Rattle.std.specs.List.{All, range_with_len}
use Rattle.std.proofs.lemmas.List.{take_all, take-append-drop, get_or-map, length-map}
use Rattle.std.proofs.lemmas.List.FromFn.{get_or-map-range_with_len}
use Rattle.std.proofs.lemmas.Simd.{map-map}
use Rattle.zarrs_chunk.specs.Answer.{◌>>=◌, seen}
use Rattle.zarrs_chunk.specs.ChunkShape.{product}
use Rattle.zarrs_chunk.specs.Selection.{Selection, places_of}
use Rattle.zarrs_chunk.specs.declared.codec_error.CodecError.{CodecError}
use Rattle.zarrs_chunk.proofs.PlaceLaws.{places_below}
use Rattle.zarrs_data_type.specs.Element.{Element, absent, Chunk, fill_element}
use Rattle.zarrs_data_type.specs.ElementType.{ElementType}
use Rattle.zarrs_array_bytes.specs.Elements.{select}
use Rattle.zarrs_codec.specs.BytesToBytesCodec.{BytesCodecs}
use Rattle.zarrs_codec.specs.CoordinateMap.{CoordinateMap, IsCoordinateMap, moved_chunk, inverse_map}
use Rattle.zarrs_codec.specs.declared.bytes_representation.BytesRepresentation.{BytesRepresentation}
use Rattle.zarrs_array_to_array.specs.ArrayToArrayCodec.{ArrayMapping, IsMapping}
use Rattle.zarrs_array_to_array.specs.Mapping.{chained_places}
use Rattle.zarrs_chain_meaning.specs.ArrayStages.{arrays_map}
use Rattle.zarrs_chain_meaning.specs.BytesStages.{outer_bytes, outer_representation}
use Rattle.zarrs_chain_meaning.specs.Chain.{taken_form}
use Rattle.zarrs_codecs.specs.ChunkRead.{encoded_places, outer_stored, stored_read}
use Rattle.zarrs_chain_meaning.specs.ChunkForm.{ChunkForm}
use Rattle.zarrs_codecs.specs.CodecPart.{codec_read}
use Rattle.zarrs_codecs.specs.ChunkSource.{Source, is_source_stored, opened_chunk, source_at, source_made_at, source_places, source_read}
use Rattle.zarrs_chain_meaning.specs.CodecMeaning.{PlainChain, HasMappings, codec_representation, codec_chunk, chain_chunk}
use Rattle.zarrs_chain_meaning.specs.Laws.{IsChainOfMappings}
use Rattle.zarrs_codecs.specs.declared.partial_decoder.cache.CacheStage.{CacheStage}
use Rattle.zarrs_codecs.specs.declared.partial_decoder.cache.CacheStage.TheVariants as stage
use Rattle.zarrs_bytes.proofs.Coding.{ok, bind_ok}
use Rattle.zarrs_chain_meaning.proofs.ArraySteps.{ok_is}
use Rattle.zarrs_chain_meaning.proofs.ChainSteps.{is_taken}
use Rattle.zarrs_chain_meaning.proofs.NestedStages.{arrays_are_map, chained_of}
use Rattle.zarrs_plain_vlen.proofs.IndexOffsets.{same_answer}
use Rattle.zarrs_codecs.proofs.LawfulPart.{codec_fills, codec_selects}
use Rattle.zarrs_data_type.specs.Form.{form_of}

-- ---- what is known of a chunk that a chain takes

pub record IsReadable {B : Type 0} (f : BytesCodecs B) (chain : PlainChain B) (sizes : List ℕ) (type : ElementType) (fill encoded : List ℕ) (r : BytesRepresentation) : Type 0 where
  pub map_is : CoordinateMap
  pub mapped : arrays_map type chain.array_to_array sizes ≡ Ok map_is
  pub is_map : IsCoordinateMap sizes map_is
  pub encoded_is : map_is.encoded ≡ encoded
  pub count : product encoded ≡ product sizes
  pub measured : codec_representation f chain.array_to_bytes encoded type fill ≡ Ok r
  pub positive : All (λ size. 0 < size) encoded

pub codec_measured : {B : Type 0} (f : BytesCodecs B) (chain : PlainChain B) (sizes : List ℕ) (type : ElementType) (fill encoded : List ℕ) (r : BytesRepresentation) → taken_form f chain sizes type fill ≡ Ok (encoded, r) → codec_representation f chain.array_to_bytes encoded type fill ≡ Ok r
codec_measured f chain sizes type fill encoded r e =
    let t = is_taken f chain sizes type fill (encoded, r) e in
    subst (λ s. codec_representation f chain.array_to_bytes s type fill ≡ Ok r) t.encoded_is t.measured

pub is_readable : {B : Type 0} (f : BytesCodecs B) (chain : PlainChain B) (sizes : List ℕ) (type : ElementType) (fill encoded : List ℕ) (r : BytesRepresentation) → All IsMapping chain.array_to_array → All (λ size. 0 < size) sizes
    → taken_form f chain sizes type fill ≡ Ok (encoded, r) → IsReadable f chain sizes type fill encoded r
is_readable f chain sizes type fill encoded r mappings positive e =
    let t = is_taken f chain sizes type fill (encoded, r) e in
    let h = arrays_are_map chain.array_to_array sizes type t.map_is mappings positive t.mapped in
    record {
      map_is = t.map_is;
      mapped = t.mapped;
      is_map = h;
      encoded_is = t.encoded_is;
      count = ap product (sym t.encoded_is) ∙ h.count;
      measured = codec_measured f chain sizes type fill encoded r e;
      positive = subst (All (λ size. 0 < size)) t.encoded_is (h.positive positive);
    }

-- where places go through the codecs of a chain that takes the chunk
pub places_through : (type : ElementType) (arrays : List ArrayMapping) (sizes : List ℕ) (selection : Selection) (m : CoordinateMap) → arrays_map type arrays sizes ≡ Ok m → chained_places arrays selection sizes ≡ encoded_places type arrays sizes selection
places_through type arrays sizes selection m e = rw (e, chained_of type arrays sizes m e) refl

-- ---- bytes-to-bytes codecs in two parts

bind_again : {A C D : Type 0} (r : Result A CodecError) (g : A → Result C CodecError) (h : C → Result D CodecError) → ((r >>= g) >>= h) ≡ (r >>= λ x. g x >>= h)
bind_again (Ok x) g h = refl
bind_again (Err e) g h = refl

outer_append : {B : Type 0} (f : BytesCodecs B) (front back : List B) (r : BytesRepresentation) (value : List ℕ) → outer_bytes f (front ++ back) r value ≡ (outer_bytes f back (outer_representation f front r) value >>= outer_bytes f front r)
outer_append f [] back r value = sym (same_answer (outer_bytes f back r value))
outer_append f (codec ∷ front) back r value =
    ap (λ (o : Result (List ℕ) CodecError). o >>= λ u. f.decoded_bytes codec r u) (outer_append f front back (f.representation codec r) value)
    ∙ bind_again (outer_bytes f back (outer_representation f front (f.representation codec r)) value) (outer_bytes f front (f.representation codec r)) (λ u. f.decoded_bytes codec r u)

pub outer_split : {B : Type 0} (f : BytesCodecs B) (codecs : List B) (below : ℕ) (r : BytesRepresentation) (value u : List ℕ) → outer_bytes f (drop below codecs) (outer_representation f (take below codecs) r) value ≡ Ok u → outer_bytes f codecs r value ≡ outer_bytes f (take below codecs) r u
outer_split f codecs below r value u e =
    ap (λ (bs : List _). outer_bytes f bs r value) (sym (take-append-drop below codecs))
    ∙ outer_append f (take below codecs) (drop below codecs) r value
    ∙ ap (λ (o : Result (List ℕ) CodecError). o >>= outer_bytes f (take below codecs) r) e

pub take_codecs : {B : Type 0} (codecs : List B) → take (length codecs) codecs ≡ codecs
take_codecs codecs = take_all (length codecs) codecs (omega arith)

-- ---- what a cache keeps changes no answer

same_source : (one other : Source) → ok one ≡ ok other → other ≡ one
same_source one other e = cc

module _ {B : Type 0} (f : BytesCodecs B) (chain : PlainChain B) (encoded : List ℕ) (type : ElementType) (fill : List ℕ) (r : BytesRepresentation) (measured : codec_representation f chain.array_to_bytes encoded type fill ≡ Ok r) (has : HasMappings chain.array_to_bytes) (positive : All (λ size. 0 < size) encoded) where
  abbrev read_below : Result (List ℕ) CodecError → List ℕ → Result Chunk CodecError
  read_below bytes places = seen (λ b. Some b) bytes >>= λ below. codec_read f chain.array_to_bytes encoded type fill below places

  pub unchanged : (s : CacheStage) (stored : Option (List ℕ)) (source : Source) (places : List ℕ) → source_at f chain encoded type fill r s stored ≡ Ok source → All (λ place. place < product encoded) places
      → source_places f chain encoded type fill r source places ≡ (outer_stored f chain.bytes_to_bytes r stored >>= λ below. codec_read f chain.array_to_bytes encoded type fill below places)
  unchanged stage.Nowhere stored source places e h =
      ap (λ x. source_places f chain encoded type fill r x places) (same_source _ _ e)
      ∙ ap (λ (bs : List B). outer_stored f bs r stored >>= λ below. codec_read f chain.array_to_bytes encoded type fill below places) (take_codecs chain.bytes_to_bytes)
  unchanged (stage.Bytes below) None source places e h = ap (λ x. source_places f chain encoded type fill r x places) (same_source _ _ e)
  unchanged (stage.Bytes below) (Some value) source places e h =
      let a = bind_ok (outer_bytes f (drop below chain.bytes_to_bytes) (outer_representation f (take below chain.bytes_to_bytes) r) value) _ source e in
      ap (λ x. source_places f chain encoded type fill r x places) (same_source _ _ a.2)
      ∙ ap (λ o. read_below o places) (sym (outer_split f chain.bytes_to_bytes below r value a.0 a.1))
  unchanged stage.Chunk None source places e h = ap (λ x. source_places f chain encoded type fill r x places) (same_source _ _ e) ∙ sym (codec_fills f chain.array_to_bytes encoded type fill r places measured)
  unchanged stage.Chunk (Some value) source places e h =
      let a = bind_ok (opened_chunk f chain (form_of encoded type fill) r value) _ source e in
      let b = bind_ok (outer_bytes f chain.bytes_to_bytes r value) _ a.0 a.1 in
      ap (λ x. source_places f chain encoded type fill r x places) (same_source _ _ a.2)
      ∙ sym (codec_selects f chain.array_to_bytes encoded type fill b.0 r a.0 places has positive measured b.2 h)
      ∙ ap (λ o. read_below o places) (sym b.1)

-- places that go through a chain lie inside the moved chunk
moved_below : (places : List ℕ) (m : CoordinateMap) (sizes encoded : List ℕ) → IsCoordinateMap sizes m → product encoded ≡ product sizes → All (λ place. place < product sizes) places → All (λ place. place < product encoded) (map m.to places)
moved_below places m sizes encoded h count inside = λ k d l.
    let n : k < length places = omega (arith, length-map places m.to) in
    let below = h.places.to_below (get_or places k 0) (inside k 0 n) in
    rw (get_or-map m.to places k 0 d n) (omega (arith, below, count))

at_both : {A : Type 0} (r : Result (List ℕ) CodecError) (P : List ℕ → Type 0) (g h : List ℕ → Result A CodecError) → IfOk r P → ((places : List ℕ) → P places → g places ≡ h places) → (r >>= g) ≡ (r >>= h)
at_both (Ok places) P g h inside each = each places inside
at_both (Err e) P g h inside each = refl

mapped_below : (type : ElementType) (arrays : List ArrayMapping) (sizes encoded : List ℕ) (selection : Selection) (m : CoordinateMap) → arrays_map type arrays sizes ≡ Ok m → IsCoordinateMap sizes m → product encoded ≡ product sizes → IfOk (encoded_places type arrays sizes selection) (All (λ place. place < product encoded))
mapped_below type arrays sizes encoded selection m e h count = rw e (go (places_of selection sizes) (places_below selection sizes))
  where
    go : (r : Result (List ℕ) CodecError) → IfOk r (All (λ place. place < product sizes)) → IfOk (r >>= λ places. ok (map m.to places)) (All (λ place. place < product encoded))
    go (Ok places) inside = moved_below places m sizes encoded h count inside
    go (Err x) inside = tt

form_read : {B : Type 0} (f : BytesCodecs B) (form : ChunkForm B) (encoded : List ℕ) (r : BytesRepresentation) (stored : Option (List ℕ)) (selection : Selection) → taken_form f form.chain form.sizes form.type form.fill ≡ Ok (encoded, r)
    → stored_read f form stored selection ≡ (encoded_places form.type form.chain.array_to_array form.sizes selection >>= λ places. outer_stored f form.chain.bytes_to_bytes r stored >>= λ below. codec_read f form.chain.array_to_bytes encoded form.type form.fill below places)
form_read f form encoded r stored selection e = rw e refl

made_at : {B : Type 0} (f : BytesCodecs B) (s : CacheStage) (form : ChunkForm B) (stored : Option (List ℕ)) (source : Source) (encoded : List ℕ) (r : BytesRepresentation) → taken_form f form.chain form.sizes form.type form.fill ≡ Ok (encoded, r)
    → source_made_at f form s stored ≡ Ok source → source_at f form.chain encoded form.type form.fill r s stored ≡ Ok source
made_at f s form stored source encoded r e made = rw e at made

-- What a decoder reads by what its answers rest on is what is read of the stored value.
pub source_is_stored : {B : Type 0} (f : BytesCodecs B) (s : CacheStage) (form : ChunkForm B) (encoded : List ℕ) (r : BytesRepresentation) (stored : Option (List ℕ)) (source : Source) (selection : Selection)
    → IsChainOfMappings form.chain → All (λ size. 0 < size) form.sizes → taken_form f form.chain form.sizes form.type form.fill ≡ Ok (encoded, r) → source_made_at f form s stored ≡ Ok source
    → source_read f form encoded r source selection ≡ stored_read f form stored selection
source_is_stored f s form encoded r stored source selection mappings positive e made =
    let h = is_readable f form.chain form.sizes form.type form.fill encoded r mappings.mappings positive e in
    at_both (encoded_places form.type form.chain.array_to_array form.sizes selection) (All (λ place. place < product encoded)) _ _ (mapped_below form.type form.chain.array_to_array form.sizes encoded selection h.map_is h.mapped h.is_map h.count)
    (λ places inside. unchanged f form.chain encoded form.type form.fill r h.measured mappings.inner_mappings h.positive s stored source places (made_at f s form stored source encoded r e made) inside)
    ∙ sym (form_read f form encoded r stored selection e)

there_at : {B : Type 0} (f : BytesCodecs B) (chain : PlainChain B) (encoded : List ℕ) (type : ElementType) (fill : List ℕ) (r : BytesRepresentation) (s : CacheStage) (stored : Option (List ℕ)) (source : Source) → source_at f chain encoded type fill r s stored ≡ Ok source → is_source_stored source ≡ is_some stored
there_at f chain encoded type fill r stage.Nowhere stored source e = ap is_source_stored (same_source _ _ e)
there_at f chain encoded type fill r (stage.Bytes below) None source e = ap is_source_stored (same_source _ _ e)
there_at f chain encoded type fill r (stage.Bytes below) (Some value) source e =
    let a = bind_ok (outer_bytes f (drop below chain.bytes_to_bytes) (outer_representation f (take below chain.bytes_to_bytes) r) value) _ source e in
    ap is_source_stored (same_source _ _ a.2)
there_at f chain encoded type fill r stage.Chunk None source e = ap is_source_stored (same_source _ _ e)
there_at f chain encoded type fill r stage.Chunk (Some value) source e =
    let a = bind_ok (opened_chunk f chain (form_of encoded type fill) r value) _ source e in
    ap is_source_stored (same_source _ _ a.2)

-- something is there just where something is stored
pub source_there : {B : Type 0} (f : BytesCodecs B) (s : CacheStage) (form : ChunkForm B) (stored : Option (List ℕ)) (source : Source) → source_made_at f form s stored ≡ Ok source → is_source_stored source ≡ is_some stored
source_there f s form stored source made =
    let t = bind_ok (taken_form f form.chain form.sizes form.type form.fill) _ source made in
    there_at f form.chain t.0.0 form.type form.fill t.0.1 s stored source t.2

-- ---- selections of the chunk that is stored

select_back : (m : CoordinateMap) (sizes : List ℕ) (chunk : Chunk) (places : List ℕ) → All (λ place. place < product sizes) places → select chunk (map m.to places) ≡ select (moved_chunk (inverse_map sizes m) chunk) places
select_back m sizes chunk [] h = refl
select_back m sizes chunk (place ∷ places) h =
    let inside : place < product sizes = h 0 place (omega arith) in
    let one : get_or (moved_chunk (inverse_map sizes m) chunk) place absent ≡ get_or chunk (m.to place) absent
    = ap (λ (c : Chunk). get_or c place absent) (map-map (λ q. get_or chunk q absent) m.to (range_with_len 0 (product sizes)))
    ∙ get_or-map-range_with_len (λ p. get_or chunk (m.to p) absent) 0 (product sizes) place place absent inside (omega arith) in
    λ i. sym one i ∷ select_back m sizes chunk places (λ k d l. h (suc k) d (omega arith)) i

at_places : {A C : Type 0} (r : Result (List ℕ) CodecError) (P : List ℕ → Type 0) (to : List ℕ → A) (g : A → Result C CodecError) (h : List ℕ → C) → IfOk r P → ((places : List ℕ) → P places → g (to places) ≡ Ok (h places)) → ((r >>= λ places. ok (to places)) >>= g) ≡ seen h r
at_places (Ok places) P to g h inside each = each places inside
at_places (Err e) P to g h inside each = refl

encoded_by : (type : ElementType) (arrays : List ArrayMapping) (sizes : List ℕ) (selection : Selection) (m : CoordinateMap) → arrays_map type arrays sizes ≡ Ok m → encoded_places type arrays sizes selection ≡ (places_of selection sizes >>= λ places. ok (map m.to places))
encoded_by type arrays sizes selection m e = rw e refl

-- the places of a selection, read one way, are those read another way
read_by_places : {B : Type 0} (f : BytesCodecs B) (form : ChunkForm B) (encoded : List ℕ) (r : BytesRepresentation) (stored : Option (List ℕ)) (selection : Selection) (g : List ℕ → Chunk) (h : IsReadable f form.chain form.sizes form.type form.fill encoded r)
    → taken_form f form.chain form.sizes form.type form.fill ≡ Ok (encoded, r)
    → ((places : List ℕ) → All (λ place. place < product form.sizes) places → (outer_stored f form.chain.bytes_to_bytes r stored >>= λ below. codec_read f form.chain.array_to_bytes encoded form.type form.fill below (map h.map_is.to places)) ≡ Ok (g places))
    → stored_read f form stored selection ≡ seen g (places_of selection form.sizes)
read_by_places f form encoded r stored selection g h e each =
    form_read f form encoded r stored selection e
    ∙ ap (λ (p : Result (List ℕ) CodecError). p >>= λ places. outer_stored f form.chain.bytes_to_bytes r stored >>= λ below. codec_read f form.chain.array_to_bytes encoded form.type form.fill below places) (encoded_by form.type form.chain.array_to_array form.sizes selection h.map_is h.mapped)
    ∙ at_places (places_of selection form.sizes) (All (λ place. place < product form.sizes)) (map h.map_is.to) (λ places. outer_stored f form.chain.bytes_to_bytes r stored >>= λ below. codec_read f form.chain.array_to_bytes encoded form.type form.fill below places) g (places_below selection form.sizes) each

fills_mapped : (element : Element) (g : ℕ → ℕ) (places : List ℕ) → map (λ _. element) (map g places) ≡ map (λ _. element) places
fills_mapped element g places = map-map (λ _. element) g places

-- Where nothing is stored, the fill element is read at each place.
pub unstored_read : {B : Type 0} (f : BytesCodecs B) (form : ChunkForm B) (encoded : List ℕ) (r : BytesRepresentation) (selection : Selection) → All IsMapping form.chain.array_to_array → All (λ size. 0 < size) form.sizes
    → taken_form f form.chain form.sizes form.type form.fill ≡ Ok (encoded, r) → stored_read f form None selection ≡ seen (map (λ _. fill_element form.type form.fill)) (places_of selection form.sizes)
unstored_read f form encoded r selection mappings positive e =
    let h = is_readable f form.chain form.sizes form.type form.fill encoded r mappings positive e in
    read_by_places f form encoded r None selection (map (λ _. fill_element form.type form.fill)) h e
    (λ places inside. codec_fills f form.chain.array_to_bytes encoded form.type form.fill r (map h.map_is.to places) h.measured ∙ ap ok (fills_mapped (fill_element form.type form.fill) h.map_is.to places))

-- what a chain reads of a value as a chunk, step by step
record ChunkSteps {B : Type 0} (f : BytesCodecs B) (chain : PlainChain B) (sizes : List ℕ) (type : ElementType) (fill encoded : List ℕ) (r : BytesRepresentation) (m : CoordinateMap) (value : List ℕ) (chunk : Chunk) : Type 0 where
  bytes : List ℕ
  inner : Chunk
  opened : outer_bytes f chain.bytes_to_bytes r value ≡ Ok bytes
  decoded : codec_chunk f chain.array_to_bytes encoded type fill bytes ≡ Ok inner
  is : moved_chunk (inverse_map sizes m) inner ≡ chunk

chunk_steps : {B : Type 0} (f : BytesCodecs B) (chain : PlainChain B) (sizes : List ℕ) (type : ElementType) (fill encoded : List ℕ) (r : BytesRepresentation) (value : List ℕ) (chunk : Chunk) (h : IsReadable f chain sizes type fill encoded r) → chain_chunk f chain sizes type fill value ≡ Ok chunk
    → ChunkSteps f chain sizes type fill encoded r h.map_is value chunk
chunk_steps f chain sizes type fill encoded r value chunk h e =
    let a = bind_ok (arrays_map type chain.array_to_array sizes) _ chunk e in
    let m : a.0 ≡ h.map_is = ok_is a.0 h.map_is (sym a.1 ∙ h.mapped) in
    let later = subst (λ (x : CoordinateMap). (codec_representation f chain.array_to_bytes x.encoded type fill >>= λ s. outer_bytes f chain.bytes_to_bytes s value >>= λ bytes. codec_chunk f chain.array_to_bytes x.encoded type fill bytes >>= λ c. ok (moved_chunk (inverse_map sizes x) c)) ≡ Ok chunk) m a.2 in
    let here = subst (λ (s : List ℕ). (codec_representation f chain.array_to_bytes s type fill >>= λ q. outer_bytes f chain.bytes_to_bytes q value >>= λ bytes. codec_chunk f chain.array_to_bytes s type fill bytes >>= λ c. ok (moved_chunk (inverse_map sizes h.map_is) c)) ≡ Ok chunk) h.encoded_is later in
    let b = bind_ok (codec_representation f chain.array_to_bytes encoded type fill) _ chunk here in
    let s : b.0 ≡ r = ok_is b.0 r (sym b.1 ∙ h.measured) in
    let c = bind_ok (outer_bytes f chain.bytes_to_bytes b.0 value) _ chunk b.2 in
    let d = bind_ok (codec_chunk f chain.array_to_bytes encoded type fill c.0) _ chunk c.2 in
    record {
      bytes = c.0;
      inner = d.0;
      opened = ap (λ (x : BytesRepresentation). outer_bytes f chain.bytes_to_bytes x value) (sym s) ∙ c.1;
      decoded = d.1;
      is = ok_is _ _ d.2;
    }

-- Of a value that a chain reads as a chunk, the chunk's elements are read.
pub stored_selects : {B : Type 0} (f : BytesCodecs B) (form : ChunkForm B) (encoded : List ℕ) (r : BytesRepresentation) (value : List ℕ) (chunk : Chunk) (selection : Selection) → IsChainOfMappings form.chain → All (λ size. 0 < size) form.sizes
    → taken_form f form.chain form.sizes form.type form.fill ≡ Ok (encoded, r) → chain_chunk f form.chain form.sizes form.type form.fill value ≡ Ok chunk
    → stored_read f form (Some value) selection ≡ seen (select chunk) (places_of selection form.sizes)
stored_selects f form encoded r value chunk selection mappings positive e is =
    let h = is_readable f form.chain form.sizes form.type form.fill encoded r mappings.mappings positive e in
    let s = chunk_steps f form.chain form.sizes form.type form.fill encoded r value chunk h is in
    read_by_places f form encoded r (Some value) selection (select chunk) h e
    (λ places inside.
    ap (λ (o : Result (List ℕ) CodecError). seen (λ b. Some b) o >>= λ below. codec_read f form.chain.array_to_bytes encoded form.type form.fill below (map h.map_is.to places)) s.opened
    ∙ codec_selects f form.chain.array_to_bytes encoded form.type form.fill s.bytes r s.inner (map h.map_is.to places) mappings.inner_mappings h.positive h.measured s.decoded (moved_below places h.map_is form.sizes encoded h.is_map h.count inside)
    ∙ ap ok (select_back h.map_is form.sizes s.inner places inside ∙ ap (λ (c : Chunk). select c places) s.is))
