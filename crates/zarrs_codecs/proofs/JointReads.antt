-- What is read of inner chunks before they are decoded.
use Rattle.std.proofs.Common.{◌≡◌, ℕ, ◌+◌, ◌-◌, ◌≤◌, ◌<◌, ◌^◌, nat_le, not, Bool, true, false, Option, Some, None, Bor, get_or, List, [], ◌∷◌, ◌++◌, length, take, drop, map, Result, Ok, Err, arith, refl, ap, sym, subst, ◌∙◌}
use Rattle.std.specs.List.{All, flat_map, list_all, range_with_len}
use Rattle.std.specs.Option.{option_map}
use Rattle.std.specs.Prelude.{is_ok, is_some, IfErr, IfOk, Vec}
use Rattle.std.specs.declared.alloc.Global.{Global}
use Rattle.std.proofs.lemmas.List.{append-nil, length-append, take-append-drop}
use Rattle.std.proofs.Math.Nat.{add_assoc}
use Rattle.std.proofs.lemmas.Bool.{and_from}
use Rattle.std.proofs.lemmas.List.Concat.{flat_map-append}
use Rattle.std.proofs.lemmas.List.Folds.{list_all-append}
use Rattle.zarrs_array_regions.specs.KeptRegions.{IsKept}
use Rattle.zarrs_array_regions.specs.WindowLaws.{region_places}
use Rattle.zarrs_array_regions.specs.Windows.{last_window, window_of, window_places}
use Rattle.zarrs_array_to_array.specs.ArrayToArrayCodec.{IsMapping}
use Rattle.zarrs_bytes.proofs.Coding.{bind_ok, demand_ok, ok}
use Rattle.zarrs_chain_meaning.proofs.ArraySteps.{ok_is, ok_no_err}
use Rattle.zarrs_chain_meaning.specs.ChunkForm.{ChunkForm}
use Rattle.zarrs_chunk.specs.Region.{Region}
use Rattle.zarrs_chunk.specs.Selection.{Selection, places_of}
use Rattle.zarrs_codecs.proofs.PlaceWrites.{memory_too}
use Rattle.zarrs_codecs.proofs.RegionReads.{region_goes}
use Rattle.zarrs_chain_meaning.specs.sharding.Sharding.{Span, is_stored, spanned_bytes, spans_of}
use Rattle.zarrs_chunk.proofs.Inside.{from_le_test, le_test}
use Rattle.zarrs_chunk.specs.Answer.{Answers, AnswersBy, demand, memory, memory_or_fault, seen}
use Rattle.zarrs_chunk.specs.declared.codec_error.CodecError.{CodecError}
use Rattle.zarrs_chunk.specs.declared.codec_error.CodecError.TheVariants.{InvalidByteRange}
use Rattle.zarrs_codec.proofs.Fences.{first_true, second_true}
use Rattle.zarrs_codec.specs.ByteRanges.{bytes_in_ranges, range_indices, ranges_are_sure, read_ranges}
use Rattle.zarrs_codec.specs.ByteSpan.{ByteSpan}
use Rattle.zarrs_codec.specs.BytesToBytesCodec.{BytesCodecs}
use Rattle.zarrs_codec.specs.StorageState.{StorageState, are_sure, value_indices}
use Rattle.zarrs_codecs.proofs.GroupedReads.{first_sure, span_sure as inner_sure}
use Rattle.zarrs_codecs.proofs.LawfulPart.{part_laws}
use Rattle.zarrs_codecs.proofs.PartialReads.{IsReadable, is_readable}
use Rattle.zarrs_codecs.proofs.SpanChains.{StoredChunk, chain_rests_moved, readable, selected_go, window_sure}
use Rattle.zarrs_codecs.proofs.SpanSeen.{stands_value}
use Rattle.zarrs_codecs.specs.ChunkRead.{are_given_sure, asks_in_part, encoded_places}
use Rattle.zarrs_codecs.specs.CodecPart.{codec_rests_on}
use Rattle.zarrs_codecs.specs.JointReads.{AddsRanges, AddsSpan, AreGroupRanges, AreRestedOn, RestMoved, all_pass, end_within}
use Rattle.zarrs_codecs.specs.ShardRead.{groups_rest, span_rests}
use Rattle.zarrs_codecs.specs.SpanReads.{StandsIn, held_state, inner_span, moved_rests, outer_rests, seen_state, span_held, span_parts, stored_groups_rest, taken_rests}
use Rattle.zarrs_codecs.specs.TakenChain.{inner_form, moved_sizes, moved_taken}
use Rattle.zarrs_codecs.specs.declared.sharding.taken_chain.TakenChain.{TakenChain}
use Rattle.zarrs_codecs.specs.declared.sharding.value_span.ValueSpan.{ValueSpan}
use Rattle.zarrs_lent_handles.proofs.SpanLemmas.{span_sure as moved_are_sure, spanned_long}
use Rattle.zarrs_lent_handles.specs.AheadHandle.{ReadsAhead}
use Rattle.zarrs_lent_handles.specs.SpanHandle.{is_span_of, moved_ranges, span_state}
use Rattle.zarrs_chunk.specs.Runs.{EndWithin, joined_runs}
use Rattle.zarrs_shard_runs.specs.GroupedRuns.{group}
use Rattle.zarrs_shard_runs.specs.declared.grouped_runs.InnerRuns.{InnerRuns}

-- ---- an inner chunk that is read whole

-- the state of a handle that keeps this value, of which these bytes are sure
abbrev kept_state : List ℕ → (ℕ → Bool) → StorageState
kept_state value test = record { value = Some value; sure = Some test; faults = 0; failure = None; writes = 0; accepted_writes = 0 }

-- a chain that was taken, where this value is stored
abbrev stored_as : {B : Type 0} {b : _} (taken : TakenChain B b) → All IsMapping (inner_form taken).chain.array_to_array → (value : List ℕ) (test : ℕ → Bool) → StoredChunk b.functions (inner_form taken) (moved_sizes taken) (moved_taken taken).1 (kept_state value test)
stored_as taken mappings value test = record { mappings = mappings; positive = taken.positive; counted = taken.counted; taken = taken.takes; value = value; value_is = refl }

-- one that isn't read in part rests on all bytes
chain_wholly : {B : Type 0} {b : _} (taken : TakenChain B b) → All IsMapping (inner_form taken).chain.array_to_array → asks_in_part (inner_form taken).chain.bytes_to_bytes (inner_form taken).chain.array_to_bytes ≡ false → (value : List ℕ) (test : ℕ → Bool) (places : List ℕ)
    → taken_rests taken (inner_form taken).sizes (inner_form taken).type (inner_form taken).fill (Some value) places ≡ Ok (value_indices (Some value))
chain_wholly {B} {b} taken mappings whole value test places = chain_rests_moved it places ∙ by form.chain.bytes_to_bytes whole
  where
    form : ChunkForm B
    form = inner_form taken

    it : StoredChunk b.functions form (moved_sizes taken) (moved_taken taken).1 (kept_state value test)
    it = stored_as taken mappings value test

    by : (codecs : List B) → asks_in_part codecs form.chain.array_to_bytes ≡ false → outer_rests codecs (codec_rests_on b.functions form.chain.array_to_bytes) (moved_sizes taken) form.type form.fill (Some value) (map (readable it).map_is.to places) ≡ Ok (value_indices (Some value))
    by [] e = (part_laws form.chain.array_to_bytes).rests_wholly b.functions (moved_sizes taken) form.type form.fill (Some value) (map (readable it).map_is.to places) e
    by (codec ∷ codecs) e = refl

pub is_whole : (test : Bool) → true ≡ not test → test ≡ false
is_whole true e = absurd cc
is_whole false e = refl

pub rested_wholly : {B : Type 0} {b : _} (taken : TakenChain B b) → All IsMapping (inner_form taken).chain.array_to_array → asks_in_part (inner_form taken).chain.bytes_to_bytes (inner_form taken).chain.array_to_bytes ≡ false → (len : ℕ) (places : List ℕ) (ranges : List ByteSpan)
    → ranges ≡ record { start = 0; end = len } ∷ [] → AreRestedOn taken len places ranges
rested_wholly taken mappings whole len places ranges are = λ value test long given.
    let all : list_all test (range_with_len 0 (length value)) ≡ true = ap (are_given_sure (Some test)) (sym (chain_wholly taken mappings whole value test places)) ∙ given in
    let count : len - 0 ≡ length value = omega (arith, long) in
    ap (all_pass test) are ∙ ap (list_all test) (append-nil (range_with_len 0 (len - 0))) ∙ ap (λ (n : ℕ). list_all test (range_with_len 0 n)) count ∙ all

-- ---- an inner chunk whose bytes are planned

pub refused_of : {A B : Type 0} (view : A → B) (r : Result A CodecError) (x : B) → Answers memory view r (Ok x) → IfErr r (λ error. memory_or_fault error ≡ true)
refused_of view (Ok a) x h = tt
refused_of view (Err e) x h = by (memory_or_fault e) refl
  where
    by : (test : Bool) → memory_or_fault e ≡ test → memory_or_fault e ≡ true
    by true is = is
    by false is = absurd (ok_no_err x e (h (memory_too e is)))

-- what is taken fails for lack of memory alone
pub refused_by : {A B : Type 0} (R : A → B → Type 0) (r : Result A CodecError) (expected : Result B CodecError) → AnswersBy memory R r expected → is_ok expected ≡ true → IfErr r (λ error. memory_or_fault error ≡ true)
refused_by R (Ok a) expected h taken = tt
refused_by R (Err e) (Ok x) h taken = refused_of (λ (y : _). y) (Err e) x h
refused_by R (Err e) (Err cause) h taken = absurd cc

-- ---- as they stand in the whole value

moved_within : (at len limit : ℕ) (own : List ByteSpan) → at + len ≤ limit → end_within len own ≡ true → end_within limit (moved_ranges at own) ≡ true
moved_within at len limit [] l h = refl
moved_within at len limit (range ∷ own) l h =
    let fits = from_le_test range.end len (first_true (nat_le range.end len) (end_within len own) h) in
    let here = le_test (at + range.end) limit (omega (arith, fits, l)) in
    let rest = moved_within at len limit own l (second_true (nat_le range.end len) (end_within len own) h) in
    rw (here, rest) refl

pub adds_ranges : {B : Type 0} {b : _} (taken : TakenChain B b) (span : ValueSpan) (runs : List (ℕ × ℕ)) (before own after : List ByteSpan) → AreRestedOn taken span.len (joined_runs runs) own → end_within span.len own ≡ true → after ≡ before ++ moved_ranges span.at own
    → AddsRanges taken span runs before after
adds_ranges taken span runs before own after rested fit are = record {
  inside = λ limit l h.
      ap (end_within limit) are
      ∙ list_all-append (λ (range : ByteSpan). nat_le range.end limit) before (moved_ranges span.at own)
      ∙ and_from (end_within limit before) (end_within limit (moved_ranges span.at own)) h (moved_within span.at span.len limit own l fit);
  rested = λ value test long given h.
      let mine : all_pass test (moved_ranges span.at own) ≡ true = sym (moved_are_sure span.at (Some test) own) ∙ rested value (λ number. test (span.at + number)) long given in
      ap (all_pass test) are
      ∙ ap (list_all test) (flat_map-append _ before (moved_ranges span.at own))
      ∙ list_all-append test (range_indices before) (range_indices (moved_ranges span.at own))
      ∙ and_from (all_pass test before) (all_pass test (moved_ranges span.at own)) h mine;
}

-- ---- an inner chunk at a span

pub adds_none : {B : Type 0} {b : _} (taken : TakenChain B b) (span : ValueSpan) (place : Span) (runs : List (ℕ × ℕ)) (ranges : List ByteSpan) → AddsSpan taken span place runs ranges ranges
adds_none taken span place runs ranges = record { inside = λ h. h; rested = λ value test long given h. h }

-- ---- where the places of an inner chunk go

pub end_below : (r : Result (Vec (ℕ × ℕ) Global) CodecError) (n m : ℕ) → n ≡ m → IfOk r (λ moved. EndWithin m moved.items) → IfOk r (λ moved. EndWithin n moved.items)
end_below r n m e h = subst (λ (k : ℕ). IfOk r (λ moved. EndWithin k moved.items)) (sym e) h

module _ {B : Type 0} {b : _} (taken : TakenChain B b) (mappings : All IsMapping (inner_form taken).chain.array_to_array) where
  -- what is known of a read through it
  abbrev pub taken_readable : IsReadable b.functions (inner_form taken).chain (inner_form taken).sizes (inner_form taken).type (inner_form taken).fill (moved_sizes taken) (moved_taken taken).1
  taken_readable = is_readable b.functions (inner_form taken).chain (inner_form taken).sizes (inner_form taken).type (inner_form taken).fill (moved_sizes taken) (moved_taken taken).1 mappings taken.positive taken.takes

module _ {B : Type 0} {b : _} (taken : TakenChain B b) (mappings : All IsMapping (inner_form taken).chain.array_to_array) (places : List ℕ) (selection : Selection) (selects : places_of selection (inner_form taken).sizes ≡ Ok places) where
  abbrev f : BytesCodecs B
  f = b.functions

  abbrev form : ChunkForm B
  form = inner_form taken

  abbrev h : IsReadable f form.chain form.sizes form.type form.fill (moved_sizes taken) (moved_taken taken).1
  h = taken_readable taken mappings

  abbrev chunk : (value : List ℕ) (test : ℕ → Bool) → StoredChunk f form (moved_sizes taken) (moved_taken taken).1 (kept_state value test)
  chunk = stored_as taken mappings

  abbrev Moves : List ℕ → Type 0
  Moves moved = RestMoved taken places moved

  to_moved : Moves (map h.map_is.to places)
  to_moved = λ value test given. ap (are_given_sure (Some test)) (sym (chain_rests_moved (chunk value test) places)) ∙ given

  go : encoded_places form.type form.chain.array_to_array form.sizes selection ≡ Ok (map h.map_is.to places)
  go = selected_go form.type form.chain.array_to_array form.sizes places selection h.map_is selects h.mapped

  -- place by place
  pub encoded_moved : (result : Result (Vec (ℕ × ℕ) Global) CodecError) → Answers memory (λ v. joined_runs v.items) result (encoded_places form.type form.chain.array_to_array form.sizes selection) → IfOk result (λ moved. Moves (joined_runs moved.items))
  encoded_moved (Ok runs) answer = subst Moves (ok_is (map h.map_is.to places) (joined_runs runs.items) (sym go ∙ answer)) to_moved
  encoded_moved (Err e) answer = tt

  pub encoded_refused : (result : Result (Vec (ℕ × ℕ) Global) CodecError) → Answers memory (λ v. joined_runs v.items) result (encoded_places form.type form.chain.array_to_array form.sizes selection) → IfErr result (λ error. memory_or_fault error ≡ true)
  encoded_refused result answer = refused_of (λ v. joined_runs v.items) result (map h.map_is.to places) (subst (Answers memory (λ v. joined_runs v.items) result) go answer)

  -- as a region
  module _ (region : Region) (kept : IsKept form.chain.array_to_array form.sizes selection region) where
    same : map h.map_is.to (region_places form.sizes region) ≡ map h.map_is.to places
    same = ok_is (map h.map_is.to (region_places form.sizes region)) (map h.map_is.to places) (sym (region_goes f form (moved_sizes taken) (moved_taken taken).1 h mappings taken.positive taken.counted region kept.inside kept.kept) ∙ ap (encoded_places form.type form.chain.array_to_array form.sizes) (sym kept.selection_is) ∙ go)

    to_window : (moved : List ℕ) → ok (window_places (last_window form.chain.array_to_array (window_of form.sizes region))) ≡ ok moved → Moves moved
    to_window moved at = λ value test given.
        window_sure (chunk value test) region kept.inside kept.kept moved at
        (ap (are_given_sure (Some test)) (chain_rests_moved (chunk value test) (region_places form.sizes region))
        ∙ ap (λ (ps : List ℕ). are_given_sure (Some test) (moved_rests f form.chain (moved_sizes taken) form.type form.fill (Some value) ps)) same
        ∙ to_moved value test given)

    pub region_moved : (result : Result (Vec (ℕ × ℕ) Global) CodecError) → Answers memory (λ v. joined_runs v.items) result (ok (window_places (last_window form.chain.array_to_array (window_of form.sizes region)))) → IfOk result (λ moved. Moves (joined_runs moved.items))
    region_moved (Ok runs) answer = to_window (joined_runs runs.items) answer
    region_moved (Err e) answer = tt

-- ---- a stored inner chunk of a value

pub adds_span : {B : Type 0} {b : _} (taken : TakenChain B b) (span inside : ValueSpan) (place : Span) (runs : List (ℕ × ℕ)) (before after : List ByteSpan) → is_stored place ≡ true → ok (span_parts inside) ≡ inner_span span place.0 place.1
    → AddsRanges taken inside runs before after → AddsSpan taken span place runs before after
adds_span taken span inside place runs before after e parts adds =
    let rests = taken_rests taken in
    let form = inner_form taken in
    let a = bind_ok (demand (nat_le (place.0 + place.1) span.len) InvalidByteRange) _ (span_parts inside) (sym parts) in
    let fits = from_le_test (place.0 + place.1) span.len (demand_ok (nat_le (place.0 + place.1) span.len) InvalidByteRange a.0 a.1) in
    let same : (span_held span, span.at + place.0, place.1) ≡ span_parts inside = ok_is (span_held span, span.at + place.0, place.1) (span_parts inside) a.2 in
    let ends = subst (λ (p : Option (List ℕ) × ℕ × ℕ). (limit : ℕ) → p.1 + p.2 ≤ limit → end_within limit before ≡ true → end_within limit after ≡ true) (sym same) adds.inside in
    let passes = subst (λ (p : Option (List ℕ) × ℕ × ℕ). (value : List ℕ) (test : ℕ → Bool) → length value ≡ p.2 → are_given_sure (Some (λ number. test (p.1 + number))) (rests form.sizes form.type form.fill (Some value) (joined_runs runs)) ≡ true → all_pass test before ≡ true → all_pass test after ≡ true) (sym same) adds.rested in
    record {
      inside = ends (span.at + span.len) (omega (arith, fits));
      rested = λ value test long given h.
          let within : nat_le (place.0 + place.1) (length value) ≡ true = le_test (place.0 + place.1) (length value) (omega (arith, fits, long)) in
          let stored : are_given_sure (Some (λ number. test (span.at + number))) (span_rests true rests form.sizes form.type form.fill value place (joined_runs runs)) ≡ true = ap (λ (b : Bool). are_given_sure (Some (λ number. test (span.at + number))) (span_rests b rests form.sizes form.type form.fill value place (joined_runs runs))) (sym e) ∙ given in
          let mine = inner_sure rests form.sizes form.type form.fill value place (joined_runs runs) (Some (λ number. test (span.at + number))) within stored in
          passes (spanned_bytes value place) test (spanned_long place.0 place.1 value (from_le_test (place.0 + place.1) (length value) within))
          ((λ i. are_given_sure (Some (λ number. test (add_assoc span.at place.0 number i))) (rests form.sizes form.type form.fill (Some (spanned_bytes value place)) (joined_runs runs))) ∙ mine) h;
    }

-- ---- group by group

module _ {B : Type 0} {b : _} (taken : TakenChain B b) (span : ValueSpan) (numbers : List ℕ) (groups : List InnerRuns) where
  abbrev spans : List Span
  spans = spans_of numbers

  abbrev Given : List ℕ → (ℕ → Bool) → List InnerRuns → Type 0
  Given value test gs = are_given_sure (Some (λ number. test (span.at + number))) (groups_rest (taken_rests taken) (inner_form taken).sizes (inner_form taken).type (inner_form taken).fill value spans (map group gs)) ≡ true

  -- the ranges of so many groups
  pub record RangesTo (index : ℕ) (ranges : List ByteSpan) : Type 0 where
    pub inside : end_within (span.at + span.len) ranges ≡ true
    pub rested : (value : List ℕ) (test : ℕ → Bool) → length value ≡ span.len → Given value test groups → (all_pass test ranges ≡ true) × Given value test (drop index groups)

  pub ranges_go_on : (index : ℕ) (it : InnerRuns) (before after : List ByteSpan) → drop index groups ≡ it ∷ drop (index + 1) groups → RangesTo index before → AddsSpan taken span (get_or spans it.number (0, 0)) it.runs.items before after → RangesTo (index + 1) after
  ranges_go_on index it before after next walk adds = record {
    inside = adds.inside walk.inside;
    rested = λ value test long given.
        let so_far = walk.rested value test long given in
        let from : Given value test (it ∷ drop (index + 1) groups) = subst (Given value test) next so_far.1 in
        let parts = first_sure (taken_rests taken) (inner_form taken).sizes (inner_form taken).type (inner_form taken).fill value spans (group it) (map group (drop (index + 1) groups)) (Some (λ number. test (span.at + number))) from in
        (adds.rested value test long parts.0 so_far.0, parts.1);
  }

  pub ranges_end : (index : ℕ) (ranges : List ByteSpan) → RangesTo index ranges → AreGroupRanges taken span numbers groups ranges
  ranges_end index ranges walk = record { inside = walk.inside; rested = λ value test long given. (walk.rested value test long given).0 }

-- 64 bits count the places of one of them
pub one_counted : (groups : List InnerRuns) (index : ℕ) (it : InnerRuns) (rest : List InnerRuns) → drop index groups ≡ it ∷ rest → length (joined_runs it.runs.items) ≤ length (flat_map (λ it. joined_runs it.runs.items) groups)
one_counted groups index it rest next =
    let places : InnerRuns → List ℕ = λ it. joined_runs it.runs.items in
    let split = ap (λ (gs : List InnerRuns). length (flat_map places gs)) (sym (take-append-drop index groups)) ∙ ap length (flat_map-append places (take index groups) (drop index groups)) ∙ length-append (flat_map places (take index groups)) (flat_map places (drop index groups)) in
    let mine = ap (λ (gs : List InnerRuns). length (flat_map places gs)) next ∙ length-append (places it) (flat_map places rest) in
    omega (arith, split, mine)

-- ---- by one call

pub not_held : (span : ValueSpan) → is_some span.held ≡ false → span_held span ≡ None
not_held span e = by span.held e
  where
    by : (held : Option (Bor (List ℕ))) → is_some held ≡ false → option_map (λ bytes. bytes.now) held ≡ None
    by None e = refl
    by (Some bytes) e = absurd cc

module _ {B : Type 0} {b : _} (taken : TakenChain B b) (span : ValueSpan) (state : StorageState) (stands : StandsIn span state) (free : span_held span ≡ None) (numbers : List ℕ) (groups : List InnerRuns) (ranges : List ByteSpan) (are : AreGroupRanges taken span numbers groups ranges) where
  stands_below : is_span_of span.at span.len state.value ≡ true
  stands_below = ap (λ (h : Option (List ℕ)). is_span_of span.at span.len (held_state h state).value) (sym free) ∙ stands

  within_by : (whole : List ℕ) (rs : List ByteSpan) → span.at + span.len ≤ length whole → end_within (span.at + span.len) rs ≡ true → end_within (length whole) rs ≡ true
  within_by whole [] l h = refl
  within_by whole (range ∷ rs) l h =
      let here = from_le_test range.end (span.at + span.len) (first_true (nat_le range.end (span.at + span.len)) (end_within (span.at + span.len) rs) h) in
      let first = le_test range.end (length whole) (omega (arith, here, l)) in
      and_from (nat_le range.end (length whole)) (end_within (length whole) rs) first (within_by whole rs l (second_true (nat_le range.end (span.at + span.len)) (end_within (span.at + span.len) rs) h))

  read_by : (stored : Option (List ℕ)) → is_span_of span.at span.len stored ≡ true → (bytes : Option (List ℕ)) × (read_ranges stored ranges ≡ Ok bytes)
  read_by None h = absurd cc
  read_by (Some whole) h =
      let l = from_le_test (span.at + span.len) (length whole) h in
      (Some (bytes_in_ranges whole ranges), rw (within_by whole ranges l are.inside) refl)

  -- nothing but lack of memory or a failure of the handle comes in their place
  pub ahead_refused : (result : Result (Unit {0}) CodecError) → ReadsAhead result state.value ranges → IfErr result (λ error. memory_or_fault error ≡ true)
  ahead_refused (Ok u) h = tt
  ahead_refused (Err e) h = by (memory_or_fault e) refl
    where
      by : (test : Bool) → memory_or_fault e ≡ test → memory_or_fault e ≡ true
      by true is = is
      by false is =
          let read = read_by state.value stands_below in
          absurd (ok_no_err tt e (sym (ap (seen (λ _. tt)) read.1) ∙ h is))

  sure_by : (sure : Option (ℕ → Bool)) → are_given_sure (option_map (λ p number. p (span.at + number)) sure) (groups_rest (taken_rests taken) (inner_form taken).sizes (inner_form taken).type (inner_form taken).fill (stands_value span state stands).value (spans_of numbers) (map group groups)) ≡ true → are_sure sure (range_indices ranges) ≡ true
  sure_by None h = absurd (never (groups_rest (taken_rests taken) (inner_form taken).sizes (inner_form taken).type (inner_form taken).fill (stands_value span state stands).value (spans_of numbers) (map group groups)) h)
    where
      never : (r : Result (List ℕ) CodecError) → are_given_sure None r ≡ true → ⊥
      never (Ok numbers) e = cc
      never (Err error) e = cc
  sure_by (Some p) h = are.rested (stands_value span state stands).value p (stands_value span state stands).long h

  -- and no failure, where the bytes are sure that the reads rest on
  pub ahead_sure : are_given_sure (seen_state span state).sure (stored_groups_rest (taken_rests taken) (inner_form taken).sizes (inner_form taken).type (inner_form taken).fill (seen_state span state).value (spans_of numbers) (map group groups)) ≡ true → ranges_are_sure state ranges ≡ true
  ahead_sure h =
      sure_by state.sure
      (ap (λ (held : Option (List ℕ)). are_given_sure (span_state span.at span.len (held_state held state)).sure (groups_rest (taken_rests taken) (inner_form taken).sizes (inner_form taken).type (inner_form taken).fill (stands_value span state stands).value (spans_of numbers) (map group groups))) (sym free)
      ∙ ap (λ (v : Option (List ℕ)). are_given_sure (seen_state span state).sure (stored_groups_rest (taken_rests taken) (inner_form taken).sizes (inner_form taken).type (inner_form taken).fill v (spans_of numbers) (map group groups))) (sym (stands_value span state stands).is)
      ∙ h)
