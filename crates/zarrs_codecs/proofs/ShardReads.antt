-- Reads in part through chains and through `sharding_indexed` keep what is asked of them, where those of the inner chain do.
use Rattle.std.proofs.Common.{◌≡◌, ℕ, zero, suc, ◌+◌, ◌<◌, ◌&&◌, nat_eq, nat_le, Bool, true, false, Option, Some, None, get_or, List, [], ◌∷◌, ◌++◌, length, drop, map, Result, Ok, Err, arith, refl, ap, sym, ◌∙◌}
use Rattle.std.specs.List.{list_all}
use Rattle.std.specs.Result.{result_unwrap_or}
use Rattle.std.proofs.lemmas.Bool.{false≢true, true≢false}
use Rattle.std.proofs.lemmas.Bool.Decides.{nat_tests}
use Rattle.std.proofs.lemmas.List.Folds.{list_all-map}
use Rattle.zarrs_array_to_array.specs.ArrayToArrayCodec.{ArrayMapping}
use Rattle.zarrs_bytes.proofs.Coding.{ok}
use Rattle.zarrs_chain_meaning.specs.ArrayStages.{arrays_map}
use Rattle.zarrs_chain_meaning.specs.BytesStages.{outer_bytes}
use Rattle.zarrs_chain_meaning.specs.Meaning.{Measure, Decoder}
use Rattle.zarrs_chain_meaning.specs.sharding.InnerChunks.{inner_chunk_of, place_inside}
use Rattle.zarrs_chain_meaning.specs.sharding.Sharding.{index_part_of, index_shape, Span, is_stored, spanned_bytes, spans_in, spans_of}
use Rattle.zarrs_chain_meaning.specs.vlen.Vlen.{offset_type, offset_bytes, offsets_in_chunk}
use Rattle.zarrs_chunk.specs.Answer.{◌>>=◌, demand}
use Rattle.zarrs_chunk.specs.declared.codec_error.CodecError.{CodecError}
use Rattle.zarrs_chunk.specs.declared.codec_error.CodecError.TheVariants.{InvalidBytesLength, InvalidByteRange}
use Rattle.zarrs_codec.specs.BytesToBytesCodec.{BytesCodecs}
use Rattle.zarrs_codecs.specs.PartRead.{PlaceReader}
use Rattle.zarrs_codecs.specs.PlaceLaws.{read_through, Resting, SameMembers, ReadsEach}
use Rattle.zarrs_codecs.specs.ShardRead.{span_read, without_first, in_turn, spans_read, shard_read, span_rests, of_any, each_inner}
use Rattle.zarrs_data_type.specs.Element.{Element, absent, Chunk, fill_element}
use Rattle.zarrs_data_type.specs.ElementType.{ElementType}
use Rattle.zarrs_shard_runs.specs.PlacesInside.{places_of_inner}
use Rattle.zarrs_shard_runs.proofs.Grouping.{if_inside, inner_step}

-- ---- lists with the same members

pub members_mapped : (g : ℕ → ℕ) (ps qs : List ℕ) → SameMembers ps qs → SameMembers (map g ps) (map g qs)
members_mapped g ps qs same test = list_all-map test g ps ∙ same (λ p. test (g p)) ∙ sym (list_all-map test g qs)

-- a test of the places of one inner chunk alone
abbrev if_tested : Bool → Bool → Bool
if_tested true b = b
if_tested false b = true

all_if : (test : ℕ → Bool) (here : Bool) (inside : ℕ) (rest : List ℕ) (b : Bool) → list_all test rest ≡ b → list_all test (if_inside here inside rest) ≡ (if_tested here (test inside) && b)
all_if test true inside rest b e = ap (λ (x : Bool). test inside && x) e
all_if test false inside rest b e = e

all_inside : (test : ℕ → Bool) (shape sizes : List ℕ) (number : ℕ) (ps : List ℕ) → list_all test (places_of_inner shape sizes number ps) ≡ list_all (λ p. if_tested (nat_eq (inner_chunk_of shape sizes p) number) (test (place_inside shape sizes p))) ps
all_inside test shape sizes number [] = refl
all_inside test shape sizes number (p ∷ ps) =
    ap (list_all test) (inner_step shape sizes number p ps)
    ∙ all_if test (nat_eq (inner_chunk_of shape sizes p) number) (place_inside shape sizes p) (places_of_inner shape sizes number ps) _ (all_inside test shape sizes number ps)

pub members_inside : (shape sizes : List ℕ) (number : ℕ) (ps qs : List ℕ) → SameMembers ps qs → SameMembers (places_of_inner shape sizes number ps) (places_of_inner shape sizes number qs)
members_inside shape sizes number ps qs same test =
    all_inside test shape sizes number ps ∙ same (λ p. if_tested (nat_eq (inner_chunk_of shape sizes p) number) (test (place_inside shape sizes p))) ∙ sym (all_inside test shape sizes number qs)

-- ---- reads of places each by itself

abbrev pub no_refusal : List ℕ → Result (Unit {0}) CodecError
no_refusal places = Ok tt

pub same_element : (element : Element) → ReadsEach (λ places. Ok (map (λ _. element) places))
same_element element = record { element = λ _. element; refusal = no_refusal; same = λ ps qs same. refl; is = λ places. refl }

refused_each : (cause : CodecError) → ReadsEach (λ places. Err cause)
refused_each cause = record { element = λ _. absent; refusal = λ places. Err cause; same = λ ps qs same. refl; is = λ places. refl }

pub then_each : {A : Type 0} (first : Result A CodecError) (read : A → List ℕ → Result Chunk CodecError) → ((x : A) → ReadsEach (read x)) → ReadsEach (λ places. first >>= λ x. read x places)
then_each (Ok x) read each = each x
then_each (Err e) read each = refused_each e

map_twice : (e : ℕ → Element) (g : ℕ → ℕ) (ps : List ℕ) → map e (map g ps) ≡ map (λ p. e (g p)) ps
map_twice e g [] = refl
map_twice e g (p ∷ ps) = ap (λ (c : Chunk). e (g p) ∷ c) (map_twice e g ps)

mapped_each : (read : List ℕ → Result Chunk CodecError) (g : ℕ → ℕ) → ReadsEach read → ReadsEach (λ places. read (map g places))
mapped_each read g each = record {
  element = λ p. each.element (g p);
  refusal = λ places. each.refusal (map g places);
  same = λ ps qs same. each.same (map g ps) (map g qs) (members_mapped g ps qs same);
  is = λ places. each.is (map g places) ∙ ap (λ (c : Chunk). each.refusal (map g places) >>= λ _. ok c) (map_twice each.element g places);
}

tested : (test : Bool) (cause : CodecError) (refusal : Result (Unit {0}) CodecError) (read : Result Chunk CodecError) (chunk : Chunk) → read ≡ (refusal >>= λ _. ok chunk)
    → (demand test cause >>= λ _. read) ≡ ((demand test cause >>= λ _. refusal) >>= λ _. ok chunk)
tested true cause refusal read chunk e = e
tested false cause refusal read chunk e = refl

span_each : (stored : Bool) (read : PlaceReader) (shape : List ℕ) (type : ElementType) (fill value : List ℕ) (span : Span) → ((s : Option (List ℕ)) → ReadsEach (read shape type fill s)) → ReadsEach (span_read stored read shape type fill value span)
span_each false read shape type fill value span each = each None
span_each true read shape type fill value span each =
    let here = each (Some (spanned_bytes value span)) in
    record {
      element = here.element;
      refusal = λ ps. demand (nat_le (span.0 + span.1) (length value)) InvalidByteRange >>= λ _. here.refusal ps;
      same = λ ps qs same. ap (λ (r : Result (Unit {0}) CodecError). demand (nat_le (span.0 + span.1) (length value)) InvalidByteRange >>= λ _. r) (here.same ps qs same);
      is = λ ps. tested (nat_le (span.0 + span.1) (length value)) InvalidByteRange (here.refusal ps) (read shape type fill (Some (spanned_bytes value span)) ps) (map here.element ps) (here.is ps);
    }

-- no error of no places
abbrev unless_none : (List ℕ → Result (Unit {0}) CodecError) → List ℕ → Result (Unit {0}) CodecError
unless_none refusal [] = Ok tt
unless_none refusal (p ∷ ps) = refusal (p ∷ ps)

unless_same : (refusal : List ℕ → Result (Unit {0}) CodecError) → ((ps qs : List ℕ) → SameMembers ps qs → refusal ps ≡ refusal qs) → (ps qs : List ℕ) → SameMembers ps qs → unless_none refusal ps ≡ unless_none refusal qs
unless_same refusal law [] [] same = refl
unless_same refusal law [] (q ∷ qs) same = absurd (true≢false (same (λ _. false)))
unless_same refusal law (p ∷ ps) [] same = absurd (false≢true (same (λ _. false)))
unless_same refusal law (p ∷ ps) (q ∷ qs) same = law (p ∷ ps) (q ∷ qs) same

pub inner_each : (read : PlaceReader) (shape : List ℕ) (type : ElementType) (fill value : List ℕ) (span : Span) → ((s : Option (List ℕ)) → ReadsEach (read shape type fill s)) → ReadsEach (of_any (span_read (is_stored span) read shape type fill value span))
inner_each read shape type fill value span each =
    let here = span_each (is_stored span) read shape type fill value span each in
    record {
      element = here.element;
      refusal = unless_none here.refusal;
      same = unless_same here.refusal here.same;
      is = is here;
    }
  where
    is : (here : ReadsEach (span_read (is_stored span) read shape type fill value span)) (ps : List ℕ) → of_any (span_read (is_stored span) read shape type fill value span) ps ≡ (unless_none here.refusal ps >>= λ _. ok (map here.element ps))
    is here [] = refl
    is here (p ∷ ps) = here.is (p ∷ ps)

-- ---- the index, by how many bytes it has

-- where the inner chunks stand, by the index of a value whose index has so many bytes
abbrev pub spans_by : List ℕ → Bool → Decoder → List ℕ → List ℕ → ℕ → Result (List Span) CodecError
spans_by shape at_end index sizes value size = do
  _ ← demand (nat_le size (length value)) (InvalidBytesLength (length value) size)
  rows ← index (index_shape shape sizes) (offset_type true) (offset_bytes true 0) (index_part_of at_end size value)
  Ok (spans_of (offsets_in_chunk true rows))

-- what a read rests on behind the index, by where they stand
abbrev pub spans_rest : Resting → List ℕ → List ℕ → ElementType → List ℕ → List ℕ → List ℕ → Result (List Span) CodecError → Result (List ℕ) CodecError
spans_rest rests shape sizes type fill value places spans = each_inner ◌++◌ (λ span. span_rests (is_stored span) rests shape type fill value span) shape sizes places 0 (result_unwrap_or spans [])

-- ---- parts and turns

-- of each of some things its elements at the places in the inner chunk of its number
abbrev pub parts_of : {A : Type 0} → (A → ℕ → Element) → List ℕ → List ℕ → List ℕ → ℕ → List A → List Chunk
parts_of pick shape sizes places number [] = []
parts_of pick shape sizes places number (x ∷ xs) = map (pick x) (places_of_inner shape sizes number places) ∷ parts_of pick shape sizes places (suc number) xs

-- the element of the thing of a number
abbrev pub picked : {A : Type 0} → (A → ℕ → Element) → List A → ℕ → ℕ → Element
picked pick [] k inside = absent
picked pick (x ∷ xs) zero inside = pick x inside
picked pick (x ∷ xs) (suc k) inside = picked pick xs k inside

module _ {A : Type 0} (pick : A → ℕ → Element) (shape sizes : List ℕ) (place : ℕ) (places : List ℕ) where
  -- the first element of the place's inner chunk is the place's
  turn : (xs : List A) (number k : ℕ) → inner_chunk_of shape sizes place ≡ number + k → get_or (get_or (parts_of pick shape sizes (place ∷ places) number xs) k []) 0 absent ≡ picked pick xs k (place_inside shape sizes place)
  turn [] number zero e = refl
  turn [] number (suc k) e = refl
  turn (x ∷ xs) number zero e =
      let here : nat_eq (inner_chunk_of shape sizes place) number ≡ true = grind (arith, nat_tests) in
      rw here refl
  turn (x ∷ xs) number (suc k) e = turn xs (suc number) k (omega (arith, e))

  -- a place of an inner chunk before
  passed_by : (xs : List A) (number : ℕ) → inner_chunk_of shape sizes place < number → parts_of pick shape sizes (place ∷ places) number xs ≡ parts_of pick shape sizes places number xs
  passed_by [] number l = refl
  passed_by (x ∷ xs) number l =
      let other : nat_eq (inner_chunk_of shape sizes place) number ≡ false = grind (arith, nat_tests) in
      let first : map (pick x) (places_of_inner shape sizes number (place ∷ places)) ≡ map (pick x) (places_of_inner shape sizes number places) = rw other refl in
      let rest = passed_by xs (suc number) (omega (arith, l)) in
      λ i. first i ∷ rest i

  -- the others of its inner chunk are those of the places behind it
  taken : (xs : List A) (number k : ℕ) → inner_chunk_of shape sizes place ≡ number + k → without_first k (parts_of pick shape sizes (place ∷ places) number xs) ≡ parts_of pick shape sizes places number xs
  taken [] number zero e = refl
  taken [] number (suc k) e = refl
  taken (x ∷ xs) number zero e =
      let here : nat_eq (inner_chunk_of shape sizes place) number ≡ true = grind (arith, nat_tests) in
      let first : drop 1 (map (pick x) (places_of_inner shape sizes number (place ∷ places))) ≡ map (pick x) (places_of_inner shape sizes number places) = rw here refl in
      let rest = passed_by xs (suc number) (omega (arith, e)) in
      λ i. first i ∷ rest i
  taken (x ∷ xs) number (suc k) e =
      let other : nat_eq (inner_chunk_of shape sizes place) number ≡ false = grind (arith, nat_tests) in
      let first : map (pick x) (places_of_inner shape sizes number (place ∷ places)) ≡ map (pick x) (places_of_inner shape sizes number places) = rw other refl in
      let rest = taken xs (suc number) k (omega (arith, e)) in
      λ i. first i ∷ rest i

-- in turn each place gets its own
pub in_turn_is : {A : Type 0} (pick : A → ℕ → Element) (xs : List A) (shape sizes places : List ℕ) → in_turn shape sizes (parts_of pick shape sizes places 0 xs) places ≡ map (λ p. picked pick xs (inner_chunk_of shape sizes p) (place_inside shape sizes p)) places
in_turn_is pick xs shape sizes [] = refl
in_turn_is pick xs shape sizes (place ∷ places) =
    let k = inner_chunk_of shape sizes place in
    let at : k ≡ 0 + k = omega arith in
    let first = turn pick shape sizes place places xs 0 k at in
    let rest = ap (λ (parts : List Chunk). in_turn shape sizes parts places) (taken pick shape sizes place places xs 0 k at) ∙ in_turn_is pick xs shape sizes places in
    λ i. first i ∷ rest i

-- ---- a shard's places, each by itself

module _ (read : PlaceReader) (shape sizes : List ℕ) (type : ElementType) (fill value : List ℕ) (each : (s : Option (List ℕ)) → ReadsEach (read shape type fill s)) where
  abbrev pub each_at : (span : Span) → ReadsEach (of_any (span_read (is_stored span) read shape type fill value span))
  each_at span = inner_each read shape type fill value span each

  -- the element at a place of the inner chunk at a span
  abbrev pub pick_at : Span → ℕ → Element
  pick_at span = (each_at span).element

  abbrev pub refusals : List ℕ → ℕ → List Span → Result (Unit {0}) CodecError
  refusals places number [] = Ok tt
  refusals places number (span ∷ spans) = (each_at span).refusal (places_of_inner shape sizes number places) >>= λ _. refusals places (suc number) spans

  refusals_same : (ps qs : List ℕ) → SameMembers ps qs → (number : ℕ) (spans : List Span) → refusals ps number spans ≡ refusals qs number spans
  refusals_same ps qs same number [] = refl
  refusals_same ps qs same number (span ∷ spans) =
      let first = (each_at span).same (places_of_inner shape sizes number ps) (places_of_inner shape sizes number qs) (members_inside shape sizes number ps qs same) in
      let rest = refusals_same ps qs same (suc number) spans in
      λ i. first i >>= λ _. rest i

  joined_reads : (first second : Result (Unit {0}) CodecError) (part : Chunk) (parts : List Chunk) → ((first >>= λ _. ok part) >>= λ a. (second >>= λ _. ok parts) >>= λ b. ok (a ∷ b)) ≡ ((first >>= λ _. second) >>= λ _. ok (part ∷ parts))
  joined_reads (Ok x) (Ok y) part parts = refl
  joined_reads (Ok x) (Err e) part parts = refl
  joined_reads (Err e) second part parts = refl

  reads_are : (places : List ℕ) (number : ℕ) (spans : List Span) → each_inner ◌∷◌ (λ span. span_read (is_stored span) read shape type fill value span) shape sizes places number spans ≡ (refusals places number spans >>= λ _. ok (parts_of pick_at shape sizes places number spans))
  reads_are places number [] = refl
  reads_are places number (span ∷ spans) =
      let first = (each_at span).is (places_of_inner shape sizes number places) in
      let rest = reads_are places (suc number) spans in
      (λ i. first i >>= λ a. rest i >>= λ b. ok (a ∷ b))
      ∙ joined_reads ((each_at span).refusal (places_of_inner shape sizes number places)) (refusals places (suc number) spans) (map (pick_at span) (places_of_inner shape sizes number places)) (parts_of pick_at shape sizes places (suc number) spans)

  turned : (refusal : Result (Unit {0}) CodecError) (places : List ℕ) (parts : List Chunk) (chunk : Chunk) → in_turn shape sizes parts places ≡ chunk → ((refusal >>= λ _. ok parts) >>= λ p. ok (in_turn shape sizes p places)) ≡ (refusal >>= λ _. ok chunk)
  turned (Ok x) places parts chunk e = ap (λ (c : Chunk). ok c) e
  turned (Err c) places parts chunk e = refl

  -- what is read of the places: each its own, or the first error of an inner chunk
  pub spans_are : (places : List ℕ) (spans : List Span)
      → spans_read read shape sizes type fill value places spans ≡ (refusals places 0 spans >>= λ _. ok (map (λ p. picked pick_at spans (inner_chunk_of shape sizes p) (place_inside shape sizes p)) places))
  spans_are places spans =
      ap (λ (r : Result (List Chunk) CodecError). r >>= λ parts. ok (in_turn shape sizes parts places)) (reads_are places 0 spans)
      ∙ turned (refusals places 0 spans) places (parts_of pick_at shape sizes places 0 spans) (map (λ p. picked pick_at spans (inner_chunk_of shape sizes p) (place_inside shape sizes p)) places) (in_turn_is pick_at spans shape sizes places)

  -- a read of no places never fails
  pub none_refused : (span : Span) → (each_at span).refusal [] ≡ Ok tt
  unfolding inner_each
  none_refused span = refl

  spans_each : (spans : List Span) → ReadsEach (λ places. spans_read read shape sizes type fill value places spans)
  spans_each spans = record {
    element = λ p. picked pick_at spans (inner_chunk_of shape sizes p) (place_inside shape sizes p);
    refusal = λ places. refusals places 0 spans;
    same = λ ps qs same. refusals_same ps qs same 0 spans;
    is = λ places. spans_are places spans;
  }

pub shard_each : (shape : List ℕ) (at_end : Bool) (measure : Measure) (index : Decoder) (read : PlaceReader) → ((sizes : List ℕ) (type : ElementType) (fill : List ℕ) (stored : Option (List ℕ)) → ReadsEach (read sizes type fill stored))
    → (sizes : List ℕ) (type : ElementType) (fill : List ℕ) (stored : Option (List ℕ)) → ReadsEach (shard_read shape at_end measure index read sizes type fill stored)
shard_each shape at_end measure index read each sizes type fill None = same_element (fill_element type fill)
shard_each shape at_end measure index read each sizes type fill (Some value) =
    then_each (spans_in shape at_end measure index sizes value) (λ spans places. spans_read read shape sizes type fill value places spans)
    (λ spans. spans_each read shape sizes type fill value (each shape type fill) spans)

pub through_each : {B : Type 0} (f : BytesCodecs B) (arrays : List ArrayMapping) (measure : Measure) (read : PlaceReader) (outer : List B) → ((sizes : List ℕ) (type : ElementType) (fill : List ℕ) (stored : Option (List ℕ)) → ReadsEach (read sizes type fill stored))
    → (sizes : List ℕ) (type : ElementType) (fill : List ℕ) (stored : Option (List ℕ)) → ReadsEach (read_through f arrays measure read outer sizes type fill stored)
through_each f arrays measure read outer each sizes type fill None = same_element (fill_element type fill)
through_each f arrays measure read outer each sizes type fill (Some value) =
    then_each (arrays_map type arrays sizes) (λ m places. measure m.encoded type fill >>= λ r. outer_bytes f outer r value >>= λ below. read m.encoded type fill (Some below) (map m.to places))
    (λ m. then_each (measure m.encoded type fill) (λ r places. outer_bytes f outer r value >>= λ below. read m.encoded type fill (Some below) (map m.to places))
    (λ r. then_each (outer_bytes f outer r value) (λ below places. read m.encoded type fill (Some below) (map m.to places))
    (λ below. mapped_each (read m.encoded type fill (Some below)) m.to (each m.encoded type fill (Some below)))))
