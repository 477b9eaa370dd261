-- What reads in part through chains and through `sharding_indexed` select and rest on, by those of the inner chain.
use Rattle.std.proofs.Common.{◌≡◌, ℕ, zero, suc, ◌+◌, ◌-◌, ◌<◌, ◌≤◌, ◌&&◌, nat_eq, nat_le, Bool, true, false, if◌then◌else◌, Option, Some, None, get_or, List, [], ◌∷◌, ◌++◌, length, take, drop, map, replicate, Result, Ok, Err, arith, refl, ap, sym, subst, ◌∙◌}
use Rattle.std.specs.Prelude.{IsOk}
use Rattle.std.specs.List.{All, list_all, range_with_len}
use Rattle.std.proofs.lemmas.Bool.{false≢true, true≢false}
use Rattle.std.proofs.lemmas.Bool.Decides.{nat_tests}
use Rattle.std.proofs.lemmas.List.{ext_get_or, get_or-take, get_or-drop, get_or_past, get_or-replicate, length-take-le, length-drop}
use Rattle.std.proofs.lemmas.List.Elements.{All-nil, All-cons, All-head, All-tail}
use Rattle.std.proofs.lemmas.List.Folds.{list_all-append, list_all-map}
use Rattle.std.proofs.lemmas.List.FromFn.{get_or-range_with_len, get_or-map-range_with_len, length-range_with_len}
use Rattle.zarrs_array_bytes.specs.Elements.{select}
use Rattle.zarrs_array_to_array.proofs.CoordinateMaps.{moved_at}
use Rattle.zarrs_array_to_array.specs.ArrayToArrayCodec.{ArrayMapping, IsMapping}
use Rattle.zarrs_bytes.proofs.Alike.{All-first, All-second}
use Rattle.zarrs_bytes.proofs.Coding.{ok, bind_ok, demand_ok}
use Rattle.zarrs_chain_meaning.proofs.ArraySteps.{ok_is}
use Rattle.zarrs_chain_meaning.proofs.ChainSteps.{seen_ok}
use Rattle.zarrs_chain_meaning.proofs.InnerChunks.{is_cut}
use Rattle.zarrs_chain_meaning.proofs.NestedStages.{arrays_are_map, is_positive}
use Rattle.zarrs_chain_meaning.proofs.ShardNormal.{shard_taken}
use Rattle.zarrs_chain_meaning.proofs.ShardReads.{chunk_opened}
use Rattle.zarrs_chain_meaning.specs.ArrayStages.{arrays_map}
use Rattle.zarrs_chain_meaning.specs.BytesStages.{outer_bytes}
use Rattle.zarrs_chain_meaning.specs.Meaning.{Measure, Decoder, Meaning, around_representation, around_chunk, through}
use Rattle.zarrs_chain_meaning.specs.sharding.InnerChunks.{inner_chunk_of, place_inside, joined_inner_chunks, IsCut}
use Rattle.zarrs_chain_meaning.specs.sharding.ShardSteps.{inner_chunks_at}
use Rattle.zarrs_chain_meaning.specs.sharding.Sharding.{index_size, Span, is_stored, spans_of, index_part_of, spanned_bytes, inner_chunk_at, shard_representation, shard_chunk, shard_meaning, spans_in}
use Rattle.zarrs_chain_meaning.specs.vlen.Vlen.{offsets_in_chunk}
use Rattle.zarrs_chunk.proofs.Inside.{from_le_test}
use Rattle.zarrs_chunk.specs.Answer.{◌>>=◌, demand, seen}
use Rattle.zarrs_chunk.specs.ChunkShape.{product}
use Rattle.zarrs_chunk.specs.declared.codec_error.CodecError.{CodecError}
use Rattle.zarrs_chunk.specs.declared.codec_error.CodecError.TheVariants.{InvalidBytesLength, InvalidByteRange}
use Rattle.zarrs_codec.specs.BytesToBytesCodec.{BytesCodecs}
use Rattle.zarrs_codec.specs.CoordinateMap.{CoordinateMap, IsCoordinateMap, inverse_map, moved_chunk}
use Rattle.zarrs_codec.specs.declared.bytes_representation.BytesRepresentation.{BytesRepresentation}
use Rattle.zarrs_codecs.proofs.ShardReads.{members_mapped, members_inside, parts_of, picked, in_turn_is, shard_each, through_each, spans_by, spans_rest}
use Rattle.zarrs_codecs.specs.PartRead.{PlaceReader}
use Rattle.zarrs_codecs.specs.PlaceLaws.{Resting, read_through, rests_through, SameMembers, RestsEach, IsSame, ReadsBy, SelectsOfChunk, IsLawfulReader}
use Rattle.zarrs_codecs.specs.ShardRead.{span_read, in_turn, spans_read, shard_read, index_bytes_at, span_rests, shard_rests, shard_rests_behind, of_any, each_inner}
use Rattle.zarrs_data_type.specs.Element.{Element, absent, Chunk, fill_element}
use Rattle.zarrs_data_type.specs.ElementType.{ElementType}
use Rattle.zarrs_shard_runs.specs.PlacesInside.{places_of_inner}
use Rattle.zarrs_shard_runs.proofs.Grouping.{if_inside, inner_step}
use Rattle.zarrs_bytes.specs.PartialWrite.{filled_chunk}

-- ---- the same places rest on the same bytes

two_seen : (test : ℕ → Bool) (first second : Result (List ℕ) CodecError) → seen (list_all test) (first >>= λ a. second >>= λ b. ok (a ++ b)) ≡ (seen (list_all test) first >>= λ x. seen (list_all test) second >>= λ y. ok (x && y))
two_seen test (Ok a) (Ok b) = ap (λ (t : Bool). ok t) (list_all-append test a b)
two_seen test (Ok a) (Err e) = refl
two_seen test (Err e) second = refl

one_seen : (test : ℕ → Bool) (a : List ℕ) (second : Result (List ℕ) CodecError) → seen (list_all test) (second >>= λ b. ok (a ++ b)) ≡ (seen (list_all test) second >>= λ y. ok (list_all test a && y))
one_seen test a (Ok b) = ap (λ (t : Bool). ok t) (list_all-append test a b)
one_seen test a (Err e) = refl

moved_seen : (test : ℕ → Bool) (at : ℕ) (r : Result (List ℕ) CodecError) → seen (list_all test) (seen (map (λ number. at + number)) r) ≡ seen (list_all (λ number. test (at + number))) r
moved_seen test at (Ok a) = ap (λ (t : Bool). ok t) (list_all-map test (λ number. at + number) a)
moved_seen test at (Err e) = refl

if_seen : (view : List ℕ → Bool) (t : Bool) (a b : Result (List ℕ) CodecError) → seen view a ≡ seen view b → seen view (if t then a else ok []) ≡ seen view (if t then b else ok [])
if_seen view true a b e = e
if_seen view false a b e = refl

module _ (rests : Resting) (shape sizes : List ℕ) (type : ElementType) (fill value : List ℕ) (law : (s : Option (List ℕ)) → RestsEach (rests shape type fill s)) where
  span_same : (stored : Bool) (span : Span) → RestsEach (span_rests stored rests shape type fill value span)
  span_same false span ps qs same test = refl
  span_same true span ps qs same test =
      let at : ℕ = span.0 in
      let there = Some (spanned_bytes value span) in
      if_seen (list_all test) (nat_le (span.0 + span.1) (length value)) (seen (map (λ number. at + number)) (rests shape type fill there ps)) (seen (map (λ number. at + number)) (rests shape type fill there qs))
      (moved_seen test at (rests shape type fill there ps) ∙ law there ps qs same (λ number. test (at + number)) ∙ sym (moved_seen test at (rests shape type fill there qs)))

  inner_same : (span : Span) → RestsEach (of_any (span_rests (is_stored span) rests shape type fill value span))
  inner_same span [] [] same test = refl
  inner_same span [] (q ∷ qs) same test = absurd (true≢false (same (λ _. false)))
  inner_same span (p ∷ ps) [] same test = absurd (false≢true (same (λ _. false)))
  inner_same span (p ∷ ps) (q ∷ qs) same test = span_same (is_stored span) span (p ∷ ps) (q ∷ qs) same test

  chunks_same : (ps qs : List ℕ) → SameMembers ps qs → (test : ℕ → Bool) (number : ℕ) (spans : List Span)
      → seen (list_all test) (each_inner ◌++◌ (λ span. span_rests (is_stored span) rests shape type fill value span) shape sizes ps number spans) ≡ seen (list_all test) (each_inner ◌++◌ (λ span. span_rests (is_stored span) rests shape type fill value span) shape sizes qs number spans)
  chunks_same ps qs same test number [] = refl
  chunks_same ps qs same test number (span ∷ spans) =
      let first = inner_same span (places_of_inner shape sizes number ps) (places_of_inner shape sizes number qs) (members_inside shape sizes number ps qs same) test in
      let rest = chunks_same ps qs same test (suc number) spans in
      two_seen test (of_any (span_rests (is_stored span) rests shape type fill value span) (places_of_inner shape sizes number ps)) (each_inner ◌++◌ (λ span. span_rests (is_stored span) rests shape type fill value span) shape sizes ps (suc number) spans)
      ∙ (λ i. first i >>= λ x. rest i >>= λ y. ok (x && y))
      ∙ sym (two_seen test (of_any (span_rests (is_stored span) rests shape type fill value span) (places_of_inner shape sizes number qs)) (each_inner ◌++◌ (λ span. span_rests (is_stored span) rests shape type fill value span) shape sizes qs (suc number) spans))

  spans_same : (ps qs : List ℕ) → SameMembers ps qs → (test : ℕ → Bool) (spans : Result (List Span) CodecError)
      → seen (list_all test) (spans_rest rests shape sizes type fill value ps spans) ≡ seen (list_all test) (spans_rest rests shape sizes type fill value qs spans)
  spans_same ps qs same test (Ok spans) = chunks_same ps qs same test 0 spans
  spans_same ps qs same test (Err cause) = refl

  behind_size : (ps qs : List ℕ) → SameMembers ps qs → (test : ℕ → Bool) (at_end : Bool) (index : Decoder) (size : Result ℕ CodecError)
      → seen (list_all test) (size >>= λ n. spans_rest rests shape sizes type fill value ps (size >>= spans_by shape at_end index sizes value) >>= λ b. ok (index_bytes_at at_end n value ++ b))
      ≡ seen (list_all test) (size >>= λ n. spans_rest rests shape sizes type fill value qs (size >>= spans_by shape at_end index sizes value) >>= λ b. ok (index_bytes_at at_end n value ++ b))
  behind_size ps qs same test at_end index (Ok n) =
      let spans = spans_by shape at_end index sizes value n in
      let here = index_bytes_at at_end n value in
      one_seen test here (spans_rest rests shape sizes type fill value ps spans)
      ∙ ap (λ (r : Result Bool CodecError). r >>= λ y. ok (list_all test here && y)) (spans_same ps qs same test spans)
      ∙ sym (one_seen test here (spans_rest rests shape sizes type fill value qs spans))
  behind_size ps qs same test at_end index (Err cause) = refl

pub shard_rests_each : (shape : List ℕ) (at_end : Bool) (measure : Measure) (index : Decoder) (rests : Resting) → ((sizes : List ℕ) (type : ElementType) (fill : List ℕ) (stored : Option (List ℕ)) → RestsEach (rests sizes type fill stored))
    → (sizes : List ℕ) (type : ElementType) (fill : List ℕ) (stored : Option (List ℕ)) → RestsEach (shard_rests shape at_end measure index rests sizes type fill stored)
shard_rests_each shape at_end measure index rests law sizes type fill None ps qs same test = refl
shard_rests_each shape at_end measure index rests law sizes type fill (Some value) ps qs same test =
    behind_size rests shape sizes type fill value (law shape type fill) ps qs same test at_end index (index_size measure shape sizes)

-- and behind the index
pub shard_behind_each : (shape : List ℕ) (at_end : Bool) (measure : Measure) (index : Decoder) (rests : Resting) → ((sizes : List ℕ) (type : ElementType) (fill : List ℕ) (stored : Option (List ℕ)) → RestsEach (rests sizes type fill stored))
    → (sizes : List ℕ) (type : ElementType) (fill : List ℕ) (stored : Option (List ℕ)) → RestsEach (shard_rests_behind shape at_end measure index rests sizes type fill stored)
shard_behind_each shape at_end measure index rests law sizes type fill None ps qs same test = refl
shard_behind_each shape at_end measure index rests law sizes type fill (Some value) ps qs same test =
    spans_same rests shape sizes type fill value (law shape type fill) ps qs same test (spans_in shape at_end measure index sizes value)

mapped_rests : (rests : Resting) (type : ElementType) (fill : List ℕ) (stored : Option (List ℕ)) → ((sizes : List ℕ) → RestsEach (rests sizes type fill stored)) → (ps qs : List ℕ) → SameMembers ps qs → (test : ℕ → Bool) (m : Result CoordinateMap CodecError)
    → seen (list_all test) (m >>= λ m. rests m.encoded type fill stored (map m.to ps)) ≡ seen (list_all test) (m >>= λ m. rests m.encoded type fill stored (map m.to qs))
mapped_rests rests type fill stored law ps qs same test (Ok m) = law m.encoded (map m.to ps) (map m.to qs) (members_mapped m.to ps qs same) test
mapped_rests rests type fill stored law ps qs same test (Err cause) = refl

pub through_rests_each : {B : Type 0} (arrays : List ArrayMapping) (rests : Resting) (outer : List B) → ((sizes : List ℕ) (type : ElementType) (fill : List ℕ) (stored : Option (List ℕ)) → RestsEach (rests sizes type fill stored))
    → (sizes : List ℕ) (type : ElementType) (fill : List ℕ) (stored : Option (List ℕ)) → RestsEach (rests_through arrays rests outer sizes type fill stored)
through_rests_each arrays rests [] law sizes type fill stored ps qs same test = mapped_rests rests type fill stored (λ sizes. law sizes type fill stored) ps qs same test (arrays_map type arrays sizes)
through_rests_each arrays rests (codec ∷ codecs) law sizes type fill stored ps qs same test = refl

-- ---- what a read rests on is known

then_found : {A C : Type 0} (r : Result A CodecError) (next : A → Result C CodecError) → IsOk r → ((x : A) → IsOk (next x)) → IsOk (r >>= next)
then_found (Ok x) next found each = each x
then_found (Err e) next found each = absurd cc

seen_found : (view : List ℕ → List ℕ) (r : Result (List ℕ) CodecError) → IsOk r → IsOk (seen view r)
seen_found view (Ok x) found = refl
seen_found view (Err e) found = absurd cc

if_found : (test : Bool) (r : Result (List ℕ) CodecError) → IsOk r → IsOk (if test then r else ok [])
if_found true r found = found
if_found false r found = refl

module _ (rests : Resting) (shape sizes : List ℕ) (type : ElementType) (fill value : List ℕ) (law : (stored : Option (List ℕ)) (places : List ℕ) → IsOk (rests shape type fill stored places)) where
  inner_found : (span : Span) (places : List ℕ) → IsOk (of_any (span_rests (is_stored span) rests shape type fill value span) places)
  inner_found span [] = refl
  inner_found span (p ∷ ps) = span_found (is_stored span) span (p ∷ ps)
    where
      span_found : (stored : Bool) (span : Span) (places : List ℕ) → IsOk (span_rests stored rests shape type fill value span places)
      span_found false span places = refl
      span_found true span places =
          let there = rests shape type fill (Some (spanned_bytes value span)) places in
          if_found (nat_le (span.0 + span.1) (length value)) (seen (map (λ number. span.0 + number)) there) (seen_found (map (λ number. span.0 + number)) there (law (Some (spanned_bytes value span)) places))

  chunks_found : (places : List ℕ) (number : ℕ) (spans : List Span) → IsOk (each_inner ◌++◌ (λ span. span_rests (is_stored span) rests shape type fill value span) shape sizes places number spans)
  chunks_found places number [] = refl
  chunks_found places number (span ∷ spans) =
      then_found (of_any (span_rests (is_stored span) rests shape type fill value span) (places_of_inner shape sizes number places)) (λ here. each_inner ◌++◌ (λ span. span_rests (is_stored span) rests shape type fill value span) shape sizes places (suc number) spans >>= λ behind. ok (here ++ behind))
      (inner_found span (places_of_inner shape sizes number places))
      (λ here. then_found (each_inner ◌++◌ (λ span. span_rests (is_stored span) rests shape type fill value span) shape sizes places (suc number) spans) (λ behind. ok (here ++ behind)) (chunks_found places (suc number) spans) (λ behind. refl))

  spans_found : (places : List ℕ) (spans : Result (List Span) CodecError) → IsOk (spans_rest rests shape sizes type fill value places spans)
  spans_found places (Ok spans) = chunks_found places 0 spans
  spans_found places (Err cause) = refl

pub shard_found : (shape : List ℕ) (at_end : Bool) (keep : _) (im measure : Measure) (index : Decoder) (rests : Resting)
    → ((sizes : List ℕ) (type : ElementType) (fill : List ℕ) (r : BytesRepresentation) (stored : Option (List ℕ)) (places : List ℕ) → im sizes type fill ≡ Ok r → IsOk (rests sizes type fill stored places))
    → (sizes : List ℕ) (type : ElementType) (fill : List ℕ) (r : BytesRepresentation) (stored : Option (List ℕ)) (places : List ℕ) → shard_representation shape keep im measure sizes type fill ≡ Ok r → IsOk (shard_rests shape at_end measure index rests sizes type fill stored places)
shard_found shape at_end keep im measure index rests law sizes type fill r None places t = refl
shard_found shape at_end keep im measure index rests law sizes type fill r (Some value) places t =
    let taken = shard_taken shape keep im measure sizes type fill r t in
    let spans = spans_by shape at_end index sizes value taken.size in
    rw taken.sized
    (then_found (spans_rest rests shape sizes type fill value places spans) (λ behind. ok (index_bytes_at at_end taken.size value ++ behind))
    (spans_found rests shape sizes type fill value (λ stored places. law shape type fill taken.inner_size stored places taken.inner_is) places spans) (λ behind. refl))

pub through_found : {B : Type 0} (f : BytesCodecs B) (arrays : List ArrayMapping) (measure : Measure) (rests : Resting) (outer : List B)
    → ((sizes : List ℕ) (type : ElementType) (fill : List ℕ) (r : BytesRepresentation) (stored : Option (List ℕ)) (places : List ℕ) → measure sizes type fill ≡ Ok r → IsOk (rests sizes type fill stored places))
    → (sizes : List ℕ) (type : ElementType) (fill : List ℕ) (r : BytesRepresentation) (stored : Option (List ℕ)) (places : List ℕ) → around_representation f arrays measure outer sizes type fill ≡ Ok r → IsOk (rests_through arrays rests outer sizes type fill stored places)
through_found f arrays measure rests [] law sizes type fill r stored places t =
    let a = bind_ok (arrays_map type arrays sizes) _ r t in
    let b = bind_ok (measure a.0.encoded type fill) _ r a.2 in
    rw a.1 (law a.0.encoded type fill b.0 stored (map a.0.to places) b.1)
through_found f arrays measure rests (codec ∷ codecs) law sizes type fill r stored places t = refl

-- ---- what is selected

fills_selected : (count : ℕ) (element : Element) (ps : List ℕ) → All (λ p. p < count) ps → map (λ _. element) ps ≡ select (replicate count element) ps
fills_selected count element [] below = refl
fills_selected count element (p ∷ ps) below =
    let first = sym (get_or-replicate count p element absent (All-head (λ q. q < count) p ps below)) in
    let rest = fills_selected count element ps (All-tail (λ q. q < count) p ps below) in
    λ i. first i ∷ rest i

inside_if : (n : ℕ) (here : Bool) (inside : ℕ) (rest : List ℕ) → inside < n → All (λ q. q < n) rest → All (λ q. q < n) (if_inside here inside rest)
inside_if n true inside rest l below = All-cons (λ q. q < n) inside rest l below
inside_if n false inside rest l below = below

all_in : (shape sizes : List ℕ) (number : ℕ) (ps : List ℕ) → IsCut shape sizes → All (λ p. p < product sizes) ps → All (λ q. q < product shape) (places_of_inner shape sizes number ps)
all_in shape sizes number [] cut below = All-nil (λ q. q < product shape)
all_in shape sizes number (p ∷ ps) cut below =
    subst (All (λ q. q < product shape)) (sym (inner_step shape sizes number p ps))
    (inside_if (product shape) (nat_eq (inner_chunk_of shape sizes p) number) (place_inside shape sizes p) (places_of_inner shape sizes number ps) (cut.inside_below p (All-head (λ p. p < product sizes) p ps below))
    (all_in shape sizes number ps cut (All-tail (λ p. p < product sizes) p ps below)))

-- the element of an inner chunk
abbrev element_of : Chunk → ℕ → Element
element_of chunk inside = get_or chunk inside absent

picked_is : (chunks : List Chunk) (k inside : ℕ) → picked element_of chunks k inside ≡ get_or (get_or chunks k []) inside absent
picked_is [] zero zero = refl
picked_is [] zero (suc inside) = refl
picked_is [] (suc k) zero = refl
picked_is [] (suc k) (suc inside) = refl
picked_is (chunk ∷ chunks) zero inside = refl
picked_is (chunk ∷ chunks) (suc k) inside = picked_is chunks k inside

module _ (measure : Measure) (decode : Decoder) (read : PlaceReader) (law : SelectsOfChunk measure decode read) (shape : List ℕ) (type : ElementType) (fill value : List ℕ) (positive : All is_positive shape) (measured : (r : _) × (measure shape type fill ≡ Ok r)) (none : (places : List ℕ) → read shape type fill None places ≡ Ok (map (λ _. fill_element type fill) places)) where
  span_selects : (stored : Bool) (span : Span) (chunk : Chunk) (ps : List ℕ) → inner_chunk_at stored decode shape type fill value span ≡ Ok chunk → All (λ q. q < product shape) ps → span_read stored read shape type fill value span ps ≡ Ok (select chunk ps)
  span_selects false span chunk ps e below =
      none ps ∙ ap (λ (c : Chunk). ok c) (fills_selected (product shape) (fill_element type fill) ps below) ∙ ap (λ (c : Chunk). ok (select c ps)) (ok_is (filled_chunk shape type fill) chunk e)
  span_selects true span chunk ps e below =
      let a = bind_ok (demand (nat_le (span.0 + span.1) (length value)) InvalidByteRange) _ chunk e in
      rw (demand_ok (nat_le (span.0 + span.1) (length value)) InvalidByteRange a.0 a.1) (law shape type fill (spanned_bytes value span) measured.0 chunk ps positive measured.1 a.2 below)

  inner_selects : (span : Span) (chunk : Chunk) (ps : List ℕ) → inner_chunk_at (is_stored span) decode shape type fill value span ≡ Ok chunk → All (λ q. q < product shape) ps → of_any (span_read (is_stored span) read shape type fill value span) ps ≡ Ok (select chunk ps)
  inner_selects span chunk [] e below = refl
  inner_selects span chunk (p ∷ ps) e below = span_selects (is_stored span) span chunk (p ∷ ps) e below

  chunks_select : (sizes : List ℕ) (number : ℕ) (spans : List Span) (chunks : List Chunk) (ps : List ℕ) → IsCut shape sizes → All (λ p. p < product sizes) ps → inner_chunks_at decode shape type fill value spans ≡ Ok chunks
      → each_inner ◌∷◌ (λ span. span_read (is_stored span) read shape type fill value span) shape sizes ps number spans ≡ Ok (parts_of element_of shape sizes ps number chunks)
  chunks_select sizes number [] chunks ps cut below e = ap (λ (c : List Chunk). ok (parts_of element_of shape sizes ps number c)) (ok_is [] chunks e)
  chunks_select sizes number (span ∷ spans) chunks ps cut below e =
      let a = bind_ok (inner_chunk_at (is_stored span) decode shape type fill value span) _ chunks e in
      let b = bind_ok (inner_chunks_at decode shape type fill value spans) _ chunks a.2 in
      let first = inner_selects span a.0 (places_of_inner shape sizes number ps) a.1 (all_in shape sizes number ps cut below) in
      let rest = chunks_select sizes (suc number) spans b.0 ps cut below b.1 in
      (λ i. first i >>= λ part. rest i >>= λ parts. ok (part ∷ parts))
      ∙ ap (λ (c : List Chunk). ok (parts_of element_of shape sizes ps number c)) (ok_is (a.0 ∷ b.0) chunks b.2)

joined_selected : (shape sizes : List ℕ) (chunks : List Chunk) (ps : List ℕ) → All (λ p. p < product sizes) ps → map (λ p. picked element_of chunks (inner_chunk_of shape sizes p) (place_inside shape sizes p)) ps ≡ select (joined_inner_chunks shape sizes chunks) ps
joined_selected shape sizes chunks [] below = refl
joined_selected shape sizes chunks (p ∷ ps) below =
    let first
    = picked_is chunks (inner_chunk_of shape sizes p) (place_inside shape sizes p)
    ∙ sym (get_or-map-range_with_len (λ place. get_or (get_or chunks (inner_chunk_of shape sizes place) []) (place_inside shape sizes place) absent) 0 (product sizes) p p absent (All-head (λ p. p < product sizes) p ps below) (omega arith)) in
    let rest = joined_selected shape sizes chunks ps (All-tail (λ p. p < product sizes) p ps below) in
    λ i. first i ∷ rest i

pub shard_selects : (shape : List ℕ) (at_end : Bool) (keep : _) (im measure : Measure) (decode index : Decoder) (read : PlaceReader) → All is_positive shape → SelectsOfChunk im decode read
    → ((sizes : List ℕ) (type : ElementType) (fill : List ℕ) (r : BytesRepresentation) (places : List ℕ) → im sizes type fill ≡ Ok r → read sizes type fill None places ≡ Ok (map (λ _. fill_element type fill) places))
    → SelectsOfChunk (shard_representation shape keep im measure) (shard_chunk shape at_end measure decode index) (shard_read shape at_end measure index read)
shard_selects shape at_end keep im measure decode index read p law none sizes type fill value r chunk ps positive t e below =
    let taken = shard_taken shape keep im measure sizes type fill r t in
    let cut = is_cut shape sizes p taken.divided in
    let o = chunk_opened shape at_end measure decode index sizes type fill value chunk e in
    let spans = spans_of (offsets_in_chunk true o.rows) in
    let parts = chunks_select im decode read law shape type fill value p (taken.inner_size, taken.inner_is) (λ places. none shape type fill taken.inner_size places taken.inner_is) sizes 0 spans o.inner_chunks ps cut below o.read in
    rw (o.sized, o.enough, o.found, parts)
    (ap (λ (c : Chunk). ok c) (in_turn_is element_of o.inner_chunks shape sizes ps ∙ joined_selected shape sizes o.inner_chunks ps below)
    ∙ ap (λ (c : Chunk). ok (select c ps)) o.joined)

back_selected : (sizes : List ℕ) (m : CoordinateMap) (chunk : Chunk) (ps : List ℕ) → All (λ p. p < product sizes) ps → select chunk (map m.to ps) ≡ select (moved_chunk (inverse_map sizes m) chunk) ps
back_selected sizes m chunk [] below = refl
back_selected sizes m chunk (p ∷ ps) below =
    let first = sym (moved_at (inverse_map sizes m) chunk p (All-head (λ p. p < product sizes) p ps below)) in
    let rest = back_selected sizes m chunk ps (All-tail (λ p. p < product sizes) p ps below) in
    λ i. first i ∷ rest i

pub moved_below : (sizes : List ℕ) (m : CoordinateMap) (ps : List ℕ) → IsCoordinateMap sizes m → All (λ p. p < product sizes) ps → All (λ p. p < product m.encoded) (map m.to ps)
moved_below sizes m [] h below = All-nil (λ p. p < product m.encoded)
moved_below sizes m (p ∷ ps) h below =
    let first = h.places.to_below p (All-head (λ p. p < product sizes) p ps below) in
    All-cons (λ p. p < product m.encoded) (m.to p) (map m.to ps) (omega (arith, first, h.count)) (moved_below sizes m ps h (All-tail (λ p. p < product sizes) p ps below))

pub through_selects : {B : Type 0} (f : BytesCodecs B) (arrays : List ArrayMapping) (measure : Measure) (decode : Decoder) (read : PlaceReader) (outer : List B) → All IsMapping arrays → SelectsOfChunk measure decode read
    → SelectsOfChunk (around_representation f arrays measure outer) (around_chunk f arrays measure decode outer) (read_through f arrays measure read outer)
through_selects f arrays measure decode read outer mappings law sizes type fill value r chunk ps positive t e below =
    let a = bind_ok (arrays_map type arrays sizes) _ chunk e in
    let m = a.0 in
    let b = bind_ok (measure m.encoded type fill) _ chunk a.2 in
    let c = bind_ok (outer_bytes f outer b.0 value) _ chunk b.2 in
    let g = bind_ok (decode m.encoded type fill c.0) _ chunk c.2 in
    let h : IsCoordinateMap sizes m = arrays_are_map arrays sizes type m mappings positive a.1 in
    rw (a.1, b.1, c.1)
    (law m.encoded type fill c.0 b.0 g.0 (map m.to ps) (h.positive positive) b.1 g.1 (moved_below sizes m ps h below)
    ∙ ap (λ (c : Chunk). ok c) (back_selected sizes m g.0 ps below)
    ∙ ap (λ (c : Chunk). ok (select c ps)) (ok_is (moved_chunk (inverse_map sizes m) g.0) chunk g.2))

-- ---- locality

pub all_same : (value other : List ℕ) → length value ≡ length other → All (IsSame value other) (range_with_len 0 (length value)) → value ≡ other
all_same value other l h =
    ext_get_or 0 value other l
    (λ i below.
    let here : i < length (range_with_len 0 (length value)) = omega (arith, below, length-range_with_len 0 (length value)) in
    let number : get_or (range_with_len 0 (length value)) i 0 ≡ i = get_or-range_with_len 0 (length value) i 0 below ∙ zero_and i in
    subst (IsSame value other) number (h i 0 here))
  where
    zero_and : (n : ℕ) → 0 + n ≡ n
    zero_and n = omega arith

part_long : (at size : ℕ) (value : List ℕ) → at + size ≤ length value → length (take size (drop at value)) ≡ size
part_long at size value l = length-take-le size (drop at value) (omega (arith, length-drop at value, l))

part_at : (at size : ℕ) (value : List ℕ) (i : ℕ) → i < size → get_or (take size (drop at value)) i 0 ≡ get_or value (at + i) 0
part_at at size value i l = get_or-take size (drop at value) i 0 l ∙ get_or-drop at value i 0

part_same : (at size : ℕ) (value other : List ℕ) → length value ≡ length other → at + size ≤ length value → All (IsSame value other) (range_with_len at size) → take size (drop at value) ≡ take size (drop at other)
part_same at size value other l inside h =
    let second : at + size ≤ length other = omega (arith, l, inside) in
    ext_get_or 0 (take size (drop at value)) (take size (drop at other)) (part_long at size value inside ∙ sym (part_long at size other second))
    (λ i below.
    let few : i < size = omega (arith, below, part_long at size value inside) in
    let here : i < length (range_with_len at size) = omega (arith, few, length-range_with_len at size) in
    part_at at size value i few ∙ subst (IsSame value other) (get_or-range_with_len at size i 0 few) (h i 0 here) ∙ sym (part_at at size other i few))

index_same : (at_end : Bool) (size : ℕ) (value other : List ℕ) → length value ≡ length other → size ≤ length value → All (IsSame value other) (index_bytes_at at_end size value) → index_part_of at_end size value ≡ index_part_of at_end size other
index_same false size value other l inside h = part_same 0 size value other l (omega (arith, inside)) h
index_same true size value other l inside h =
    let at = length value - size in
    let all : at + size ≡ length value = omega (arith, inside) in
    let long : length (drop at value) ≡ size = omega (arith, length-drop at value, inside) in
    let also : length (drop at other) ≡ size = omega (arith, length-drop at other, inside, l) in
    sym (whole_part (drop at value) size long) ∙ part_same at size value other l (omega (arith, all)) h ∙ whole_part (drop at other) size also ∙ ap (λ (n : ℕ). drop (n - size) other) l
  where
    whole_part : (xs : List ℕ) (n : ℕ) → length xs ≡ n → take n xs ≡ xs
    whole_part [] zero e = refl
    whole_part [] (suc n) e = refl
    whole_part (x ∷ xs) zero e = absurd (omega (arith, e))
    whole_part (x ∷ xs) (suc n) e = ap (λ (ys : List ℕ). x ∷ ys) (whole_part xs n (omega (arith, e)))

spans_alike : (shape : List ℕ) (at_end : Bool) (index : Decoder) (sizes value other : List ℕ) (size : ℕ) → length value ≡ length other → All (IsSame value other) (index_bytes_at at_end size value)
    → spans_by shape at_end index sizes value size ≡ spans_by shape at_end index sizes other size
spans_alike shape at_end index sizes value other size l h = by (nat_le size (length value)) refl
  where
    longs : nat_le size (length value) ≡ nat_le size (length other)
    longs = ap (nat_le size) l

    by : (test : Bool) → nat_le size (length value) ≡ test → spans_by shape at_end index sizes value size ≡ spans_by shape at_end index sizes other size
    by true e =
        let part = index_same at_end size value other l (from_le_test size (length value) e) h in
        rw (e, sym longs ∙ e, part) refl
    by false e = rw (e, sym longs ∙ e) (ap (λ (n : ℕ). Err (InvalidBytesLength n size)) l)

not_less : (a b : ℕ) → nat_le (suc a) b ≡ false → b ≤ a
not_less a b e = grind (arith, nat_tests, e)

-- bytes of a span, by their numbers in the value
spanned_same : (value other : List ℕ) (span : Span) (numbers : List ℕ) → length value ≡ length other → span.0 + span.1 ≤ length value → All (IsSame value other) (map (λ number. span.0 + number) numbers) → All (IsSame (spanned_bytes value span) (spanned_bytes other span)) numbers
spanned_same value other span [] l inside h = All-nil (IsSame (spanned_bytes value span) (spanned_bytes other span))
spanned_same value other span (number ∷ numbers) l inside h =
    All-cons (IsSame (spanned_bytes value span) (spanned_bytes other span)) number numbers
    (one (nat_le (suc number) span.1) refl (All-head (IsSame value other) (span.0 + number) (map (λ n. span.0 + n) numbers) h))
    (spanned_same value other span numbers l inside (All-tail (IsSame value other) (span.0 + number) (map (λ n. span.0 + n) numbers) h))
  where
    second : span.0 + span.1 ≤ length other
    second = omega (arith, l, inside)

    one : (test : Bool) → nat_le (suc number) span.1 ≡ test → IsSame value other (span.0 + number) → IsSame (spanned_bytes value span) (spanned_bytes other span) number
    one true e s =
        let few = from_le_test (suc number) span.1 e in
        part_at span.0 span.1 value number few ∙ s ∙ sym (part_at span.0 span.1 other number few)
    one false e s =
        let many = not_less number span.1 e in
        get_or_past (spanned_bytes value span) number 0 (omega (arith, many, part_long span.0 span.1 value inside)) ∙ sym (get_or_past (spanned_bytes other span) number 0 (omega (arith, many, part_long span.0 span.1 other second)))

then_ok : (t : Bool) (r : Result (List ℕ) CodecError) (numbers : List ℕ) → t ≡ true → (if t then r else ok []) ≡ Ok numbers → r ≡ Ok numbers
then_ok true r numbers h e = e
then_ok false r numbers h e = absurd (false≢true h)

module _ (read : PlaceReader) (rests : Resting) (law : ReadsBy read rests) (shape sizes : List ℕ) (type : ElementType) (fill value other : List ℕ) (l : length value ≡ length other) where
  span_alike : (stored : Bool) (span : Span) (ps numbers : List ℕ) → span_rests stored rests shape type fill value span ps ≡ Ok numbers → All (IsSame value other) numbers → span_read stored read shape type fill value span ps ≡ span_read stored read shape type fill other span ps
  span_alike false span ps numbers e h = refl
  span_alike true span ps numbers e h = by (nat_le (span.0 + span.1) (length value)) refl
    where
      longs : nat_le (span.0 + span.1) (length value) ≡ nat_le (span.0 + span.1) (length other)
      longs = ap (nat_le (span.0 + span.1)) l

      by : (test : Bool) → nat_le (span.0 + span.1) (length value) ≡ test → span_read true read shape type fill value span ps ≡ span_read true read shape type fill other span ps
      by true t =
          let within = from_le_test (span.0 + span.1) (length value) t in
          let also : span.0 + span.1 ≤ length other = omega (arith, within, l) in
          let there = rests shape type fill (Some (spanned_bytes value span)) ps in
          let found = seen_ok (map (λ number. span.0 + number)) there numbers (then_ok (nat_le (span.0 + span.1) (length value)) (seen (map (λ number. span.0 + number)) there) numbers t e) in
          let long : length (spanned_bytes value span) ≡ length (spanned_bytes other span) = part_long span.0 span.1 value within ∙ sym (part_long span.0 span.1 other also) in
          rw (t, sym longs ∙ t) (law shape type fill (spanned_bytes value span) (spanned_bytes other span) ps found.0 long found.1 (spanned_same value other span found.0 l within (subst (All (IsSame value other)) (sym found.2) h)))
      by false t = rw (t, sym longs ∙ t) refl

  inner_alike : (span : Span) (ps numbers : List ℕ) → of_any (span_rests (is_stored span) rests shape type fill value span) ps ≡ Ok numbers → All (IsSame value other) numbers → of_any (span_read (is_stored span) read shape type fill value span) ps ≡ of_any (span_read (is_stored span) read shape type fill other span) ps
  inner_alike span [] numbers e h = refl
  inner_alike span (p ∷ ps) numbers e h = span_alike (is_stored span) span (p ∷ ps) numbers e h

  chunks_alike : (ps : List ℕ) (number : ℕ) (spans : List Span) (numbers : List ℕ) → each_inner ◌++◌ (λ span. span_rests (is_stored span) rests shape type fill value span) shape sizes ps number spans ≡ Ok numbers → All (IsSame value other) numbers
      → each_inner ◌∷◌ (λ span. span_read (is_stored span) read shape type fill value span) shape sizes ps number spans ≡ each_inner ◌∷◌ (λ span. span_read (is_stored span) read shape type fill other span) shape sizes ps number spans
  chunks_alike ps number [] numbers e h = refl
  chunks_alike ps number (span ∷ spans) numbers e h =
      let a = bind_ok (of_any (span_rests (is_stored span) rests shape type fill value span) (places_of_inner shape sizes number ps)) _ numbers e in
      let b = bind_ok (each_inner ◌++◌ (λ span. span_rests (is_stored span) rests shape type fill value span) shape sizes ps (suc number) spans) _ numbers a.2 in
      let both : All (IsSame value other) (a.0 ++ b.0) = subst (All (IsSame value other)) (sym (ok_is (a.0 ++ b.0) numbers b.2)) h in
      let first = inner_alike span (places_of_inner shape sizes number ps) a.0 a.1 (All-first (IsSame value other) a.0 b.0 both) in
      let rest = chunks_alike ps (suc number) spans b.0 b.1 (All-second (IsSame value other) a.0 b.0 both) in
      λ i. first i >>= λ part. rest i >>= λ parts. ok (part ∷ parts)

  after_spans : (ps : List ℕ) (spans : Result (List Span) CodecError) (numbers : List ℕ) → spans_rest rests shape sizes type fill value ps spans ≡ Ok numbers → All (IsSame value other) numbers
      → (spans >>= λ s. spans_read read shape sizes type fill value ps s) ≡ (spans >>= λ s. spans_read read shape sizes type fill other ps s)
  after_spans ps (Ok spans) numbers e h = ap (λ (r : Result (List Chunk) CodecError). r >>= λ parts. ok (in_turn shape sizes parts ps)) (chunks_alike ps 0 spans numbers e h)
  after_spans ps (Err cause) numbers e h = refl

pub shard_local : (shape : List ℕ) (at_end : Bool) (measure : Measure) (index : Decoder) (read : PlaceReader) (rests : Resting) → ReadsBy read rests → ReadsBy (shard_read shape at_end measure index read) (shard_rests shape at_end measure index rests)
shard_local shape at_end measure index read rests law sizes type fill value other ps numbers l e h =
    let a = bind_ok (index_size measure shape sizes) _ numbers e in
    let spans = spans_by shape at_end index sizes value a.0 in
    let here = subst (λ (s : Result ℕ CodecError). (spans_rest rests shape sizes type fill value ps (s >>= spans_by shape at_end index sizes value) >>= λ behind. ok (index_bytes_at at_end a.0 value ++ behind)) ≡ Ok numbers) a.1 a.2 in
    let b = bind_ok (spans_rest rests shape sizes type fill value ps spans) _ numbers here in
    let both : All (IsSame value other) (index_bytes_at at_end a.0 value ++ b.0) = subst (All (IsSame value other)) (sym (ok_is (index_bytes_at at_end a.0 value ++ b.0) numbers b.2)) h in
    let same : spans ≡ spans_by shape at_end index sizes other a.0 = spans_alike shape at_end index sizes value other a.0 l (All-first (IsSame value other) (index_bytes_at at_end a.0 value) b.0 both) in
    rw a.1
    (after_spans read rests law shape sizes type fill value other l ps spans b.0 b.1 (All-second (IsSame value other) (index_bytes_at at_end a.0 value) b.0 both)
    ∙ ap (λ (s : Result (List Span) CodecError). s >>= λ x. spans_read read shape sizes type fill other ps x) same)

pub through_local : {B : Type 0} (f : BytesCodecs B) (arrays : List ArrayMapping) (measure : Measure) (read : PlaceReader) (rests : Resting) (outer : List B) → ReadsBy read rests → ReadsBy (read_through f arrays measure read outer) (rests_through arrays rests outer)
through_local f arrays measure read rests [] law sizes type fill value other ps numbers l e h =
    let a = bind_ok (arrays_map type arrays sizes) _ numbers e in
    rw a.1 (ap (λ (x : Result Chunk CodecError). measure a.0.encoded type fill >>= λ r. x) (law a.0.encoded type fill value other (map a.0.to ps) numbers l a.2 h))
through_local f arrays measure read rests (codec ∷ codecs) law sizes type fill value other ps numbers l e h =
    let all : All (IsSame value other) (range_with_len 0 (length value)) = subst (All (IsSame value other)) (sym (ok_is (range_with_len 0 (length value)) numbers e)) h in
    ap (λ (v : List ℕ). read_through f arrays measure read (codec ∷ codecs) sizes type fill (Some v) ps) (all_same value other l all)

-- ---- all of it

-- what is asked of reads holds of a chain, where it holds of its array-to-bytes codec
pub through_places : {B : Type 0} (f : BytesCodecs B) (arrays : List ArrayMapping) (m : Meaning B) (read : PlaceReader) (rests : Resting) (outer : List B) → IsLawfulReader f m read rests
    → IsLawfulReader f (through arrays m outer) (read_through f arrays (m.representation f) read outer) (rests_through arrays rests outer)
through_places f arrays m read rests outer laws = record {
  fills = λ sizes type fill r places t. refl;
  selects = λ mapped. through_selects f arrays (m.representation f) (m.chunk f) read outer mapped.0 (laws.selects mapped.1);
  each = through_each f arrays (m.representation f) read outer laws.each;
  rests_each = through_rests_each arrays rests outer laws.rests_each;
  rests_found = through_found f arrays (m.representation f) rests outer laws.rests_found;
  local = through_local f arrays (m.representation f) read rests outer laws.local;
}

-- and of `sharding_indexed`, where it holds of its inner chain
pub shard_places : {B : Type 0} (f : BytesCodecs B) (shape : List ℕ) (at_end : Bool) (m index : Meaning B) (read : PlaceReader) (rests : Resting) → IsLawfulReader f m read rests
    → IsLawfulReader f (shard_meaning shape at_end m index) (shard_read shape at_end (index.representation f) (index.chunk f) read) (shard_rests shape at_end (index.representation f) (index.chunk f) rests)
shard_places f shape at_end m index read rests laws = record {
  fills = λ sizes type fill r places t. refl;
  selects = λ mapped. shard_selects shape at_end m.normal (m.representation f) (index.representation f) (m.chunk f) (index.chunk f) read mapped.0 (laws.selects mapped.1) laws.fills;
  each = shard_each shape at_end (index.representation f) (index.chunk f) read laws.each;
  rests_each = shard_rests_each shape at_end (index.representation f) (index.chunk f) rests laws.rests_each;
  rests_found = shard_found shape at_end m.normal (m.representation f) (index.representation f) (index.chunk f) rests laws.rests_found;
  local = shard_local shape at_end (index.representation f) (index.chunk f) read rests laws.local;
}
