-- A shard's read by groups: of the inner chunks with selected places, in the order of their numbers.
use Rattle.std.proofs.Common.{◌≡◌, ℕ, zero, suc, ◌+◌, ◌<◌, nat_le, Bool, true, false, if◌then◌else◌, Option, Some, None, get_or, List, [], ◌∷◌, ◌++◌, length, map, Result, Ok, Err, arith, refl, ap, sym, subst, ◌∙◌}
use Rattle.std.specs.List.{All, range_with_len}
use Rattle.std.specs.Option.{option_map}
use Rattle.std.proofs.lemmas.List.{length-map}
use Rattle.std.proofs.lemmas.List.Elements.{All-head, All-tail}
use Rattle.std.proofs.lemmas.List.Folds.{list_all-map}
use Rattle.zarrs_array_bytes.specs.Elements.{select}
use Rattle.zarrs_array_to_array.specs.ArrayToArrayCodec.{ArrayMapping}
use Rattle.zarrs_bytes.proofs.Coding.{bind_ok, ok}
use Rattle.zarrs_chain_meaning.proofs.ArraySteps.{ok_is}
use Rattle.zarrs_chain_meaning.proofs.ChainSteps.{around_long}
use Rattle.zarrs_chain_meaning.proofs.ShardNormal.{product_two}
use Rattle.zarrs_chain_meaning.proofs.ShardReads.{spans_long}
use Rattle.zarrs_chain_meaning.specs.CodecMeaning.{PlainCodec, meaning}
use Rattle.zarrs_chain_meaning.specs.Meaning.{Measure, Decoder, through}
use Rattle.zarrs_chain_meaning.specs.sharding.InnerChunks.{grid, inner_chunk_count, inner_chunk_of, place_inside, IsCut}
use Rattle.zarrs_chain_meaning.specs.sharding.Sharding.{index_shape, index_size, Span, is_stored, spans_of, index_part_of, spanned_bytes}
use Rattle.zarrs_chain_meaning.specs.vlen.Vlen.{offset_type, offset_bytes, offsets_in_chunk}
use Rattle.zarrs_chunk.specs.Answer.{◌>>=◌, demand, seen}
use Rattle.zarrs_chunk.specs.ChunkShape.{product}
use Rattle.zarrs_chunk.specs.declared.codec_error.CodecError.{CodecError}
use Rattle.zarrs_chunk.specs.declared.codec_error.CodecError.TheVariants.{InvalidBytesLength}
use Rattle.zarrs_codec.specs.BytesToBytesCodec.{BytesCodecs}
use Rattle.zarrs_codec.specs.StorageState.{are_sure}
use Rattle.zarrs_codecs.proofs.LawfulPart.{part_laws}
use Rattle.zarrs_codecs.proofs.ShardReads.{each_at, picked, none_refused, pick_at, refusals, spans_are, through_each, spans_by, spans_rest}
use Rattle.zarrs_codecs.specs.ChunkRead.{are_given_sure}
use Rattle.zarrs_codecs.specs.CodecPart.{codec_read}
use Rattle.zarrs_codecs.specs.PartRead.{PlaceReader}
use Rattle.zarrs_codecs.specs.PlaceLaws.{Resting, ReadsEach, read_through}
use Rattle.zarrs_codecs.specs.ShardRead.{spans_read, groups_read, index_bytes_at, span_rests, groups_rest, shard_rests, of_any, each_inner}
use Rattle.zarrs_data_type.specs.Element.{Chunk, Element}
use Rattle.zarrs_data_type.specs.ElementType.{ElementType}
use Rattle.zarrs_shard_runs.specs.GroupedRuns.{group_elements, IsReadingOrder}
use Rattle.zarrs_shard_runs.specs.PlacesInside.{if_any, places_of_inner, groups_among, groups_of}
use Rattle.zarrs_bytes.proofs.BytesAt.{sure_parts}
use Rattle.std.proofs.Math.Numerals.{suc-eq-add-one}

-- ---- inner chunks by their numbers

-- these spans are those from a number on
abbrev pub AreFrom : List Span → ℕ → List Span → Type 0
AreFrom spans number rest = (k : ℕ) → get_or spans (number + k) (0, 0) ≡ get_or rest k (0, 0)

are_head : (spans rest : List Span) (number : ℕ) (span : Span) → AreFrom spans number (span ∷ rest) → get_or spans number (0, 0) ≡ span
are_head spans rest number span are = ap (λ (n : ℕ). get_or spans n (0, 0)) (let e : number ≡ number + 0 = omega arith in e) ∙ are 0

are_tail : (spans rest : List Span) (number : ℕ) (span : Span) → AreFrom spans number (span ∷ rest) → AreFrom spans (suc number) rest
are_tail spans rest number span are = λ k. ap (λ (n : ℕ). get_or spans n (0, 0)) (let e : suc number + k ≡ number + suc k = omega arith in e) ∙ are (suc k)

pub are_all : (spans : List Span) → AreFrom spans 0 spans
are_all spans = λ k. ap (λ (n : ℕ). get_or spans n (0, 0)) (let e : 0 + k ≡ k = omega arith in e)

-- ---- what is read

module _ (read : PlaceReader) (shape sizes : List ℕ) (type : ElementType) (fill value places : List ℕ) (spans : List Span) (each : (stored : Option (List ℕ)) → ReadsEach (read shape type fill stored)) where
  -- the element at a place of the inner chunk of a number
  abbrev pub at_number : ℕ → ℕ → Element
  at_number number inside = pick_at read shape sizes type fill value each (get_or spans number (0, 0)) inside

  joined : (first second : Result (Unit {0}) CodecError) (one other : Chunk) → ((first >>= λ _. ok one) >>= λ a. (second >>= λ _. ok other) >>= λ b. ok (a ++ b)) ≡ ((first >>= λ _. second) >>= λ _. ok (one ++ other))
  joined (Ok x) (Ok y) one other = refl
  joined (Ok x) (Err e) one other = refl
  joined (Err e) second one other = refl

  -- a group before others, where it has any places
  one_more : (span : Span) (number : ℕ) (ps : List ℕ) (groups : List (ℕ × List ℕ)) (behind : Result (Unit {0}) CodecError) → get_or spans number (0, 0) ≡ span
      → groups_read read shape type fill value spans groups ≡ (behind >>= λ _. ok (group_elements at_number groups))
      → groups_read read shape type fill value spans (if_any number ps groups) ≡ (((each_at read shape sizes type fill value each span).refusal ps >>= λ _. behind) >>= λ _. ok (group_elements at_number (if_any number ps groups)))
  one_more span number [] groups behind is rest =
      rest
      ∙ ap (λ (r : Result (Unit {0}) CodecError). (r >>= λ _. behind) >>= λ _. ok (group_elements at_number groups)) (sym (none_refused read shape sizes type fill value each span))
  one_more span number (p ∷ ps) groups behind is rest =
      let here = each_at read shape sizes type fill value each (get_or spans number (0, 0)) in
      (λ i. here.is (p ∷ ps) i >>= λ part. rest i >>= λ others. ok (part ++ others))
      ∙ joined (here.refusal (p ∷ ps)) behind (map here.element (p ∷ ps)) (group_elements at_number groups)
      ∙ ap (λ (s : Span). ((each_at read shape sizes type fill value each s).refusal (p ∷ ps) >>= λ _. behind) >>= λ _. ok (group_elements at_number ((number, p ∷ ps) ∷ groups))) is

  -- what is read of the groups from a number on: each place's own element, or the first error of an inner chunk
  pub groups_are : (number : ℕ) (rest : List Span) → AreFrom spans number rest
      → groups_read read shape type fill value spans (groups_among shape sizes places (range_with_len number (length rest)))
      ≡ (refusals read shape sizes type fill value each places number rest >>= λ _. ok (group_elements at_number (groups_among shape sizes places (range_with_len number (length rest)))))
  groups_are number [] are = refl
  groups_are number (span ∷ rest) are =
      let behind = refusals read shape sizes type fill value each places (suc number) rest in
      one_more span number (places_of_inner shape sizes number places) (groups_among shape sizes places (range_with_len (number + 1) (length rest))) behind (are_head spans rest number span are)
      (subst (λ (n : ℕ). groups_read read shape type fill value spans (groups_among shape sizes places (range_with_len n (length rest))) ≡ (behind >>= λ _. ok (group_elements at_number (groups_among shape sizes places (range_with_len n (length rest)))))) (suc-eq-add-one number)
      (groups_are (suc number) rest (are_tail spans rest number span are)))

picked_at : (pick : Span → ℕ → Element) (spans : List Span) (number inside : ℕ) → number < length spans → picked pick spans number inside ≡ pick (get_or spans number (0, 0)) inside
picked_at pick [] number inside l = absurd (omega (arith, l))
picked_at pick (span ∷ spans) zero inside l = refl
picked_at pick (span ∷ spans) (suc number) inside l = picked_at pick spans number inside (omega (arith, l))

pub picked_all : (pick : Span → ℕ → Element) (spans : List Span) (shape sizes places : List ℕ) → ((place : ℕ) → place < product sizes → inner_chunk_of shape sizes place < length spans) → All (λ place. place < product sizes) places
    → map (λ p. picked pick spans (inner_chunk_of shape sizes p) (place_inside shape sizes p)) places ≡ map (λ p. pick (get_or spans (inner_chunk_of shape sizes p) (0, 0)) (place_inside shape sizes p)) places
picked_all pick spans shape sizes [] within below = refl
picked_all pick spans shape sizes (place ∷ places) within below =
    let first = picked_at pick spans (inner_chunk_of shape sizes place) (place_inside shape sizes place) (within place (All-head (λ place. place < product sizes) place places below)) in
    let rest = picked_all pick spans shape sizes places within (All-tail (λ place. place < product sizes) place places below) in
    λ i. first i ∷ rest i

ordered : (refusal : Result (Unit {0}) CodecError) (one joined : Chunk) (order : List ℕ) → one ≡ select joined order → (refusal >>= λ _. ok one) ≡ ((refusal >>= λ _. ok joined) >>= λ joined. ok (select joined order))
ordered (Ok x) one joined order e = ap (λ (c : Chunk). ok c) e
ordered (Err cause) one joined order e = refl

-- by groups, and then in this order, is what is read of the places
pub grouped_read : (read : PlaceReader) (shape sizes : List ℕ) (type : ElementType) (fill value places : List ℕ) (spans : List Span) (order : List ℕ) → ((stored : Option (List ℕ)) → ReadsEach (read shape type fill stored))
    → length spans ≡ inner_chunk_count shape sizes → IsCut shape sizes → All (λ place. place < product sizes) places → IsReadingOrder shape sizes places order
    → spans_read read shape sizes type fill value places spans ≡ (groups_read read shape type fill value spans (groups_of shape sizes places) >>= λ joined. Ok (select joined order))
grouped_read read shape sizes type fill value places spans order each count cut below is =
    let pick = pick_at read shape sizes type fill value each in
    let refusal = refusals read shape sizes type fill value each places 0 spans in
    let at = at_number read shape sizes type fill value places spans each in
    let groups = groups_of shape sizes places in
    let within : (place : ℕ) → place < product sizes → inner_chunk_of shape sizes place < length spans = λ place l. subst (λ (n : ℕ). inner_chunk_of shape sizes place < n) (sym count) (cut.chunk_below place l) in
    spans_are read shape sizes type fill value each places spans
    ∙ ordered refusal (map (λ p. picked pick spans (inner_chunk_of shape sizes p) (place_inside shape sizes p)) places) (group_elements at groups) order (picked_all pick spans shape sizes places within below ∙ sym (is at))
    ∙ ap (λ (r : Result Chunk CodecError). r >>= λ joined. ok (select joined order))
    (sym (subst (λ (n : ℕ). groups_read read shape type fill value spans (groups_among shape sizes places (range_with_len 0 n)) ≡ (refusal >>= λ _. ok (group_elements at (groups_among shape sizes places (range_with_len 0 n))))) count
    (groups_are read shape sizes type fill value places spans each 0 spans (are_all spans))))

-- ---- what it rests on

none_first : (r : Result (List ℕ) CodecError) → (r >>= λ behind. ok ([] ++ behind)) ≡ r
none_first (Ok numbers) = refl
none_first (Err cause) = refl

module _ (rests : Resting) (shape sizes : List ℕ) (type : ElementType) (fill value places : List ℕ) (spans : List Span) where
  one_rests : (span : Span) (number : ℕ) (ps : List ℕ) (groups : List (ℕ × List ℕ)) → get_or spans number (0, 0) ≡ span
      → (of_any (span_rests (is_stored span) rests shape type fill value span) ps >>= λ here. groups_rest rests shape type fill value spans groups >>= λ behind. ok (here ++ behind)) ≡ groups_rest rests shape type fill value spans (if_any number ps groups)
  one_rests span number [] groups is = none_first (groups_rest rests shape type fill value spans groups)
  one_rests span number (p ∷ ps) groups is =
      ap (λ (s : Span). span_rests (is_stored s) rests shape type fill value s (p ∷ ps) >>= λ here. groups_rest rests shape type fill value spans groups >>= λ behind. ok (here ++ behind)) (sym is)

  chunks_are : (number : ℕ) (rest : List Span) → AreFrom spans number rest
      → each_inner ◌++◌ (λ span. span_rests (is_stored span) rests shape type fill value span) shape sizes places number rest ≡ groups_rest rests shape type fill value spans (groups_among shape sizes places (range_with_len number (length rest)))
  chunks_are number [] are = refl
  chunks_are number (span ∷ rest) are =
      ap (λ (r : Result (List ℕ) CodecError). of_any (span_rests (is_stored span) rests shape type fill value span) (places_of_inner shape sizes number places) >>= λ here. r >>= λ behind. ok (here ++ behind))
      (chunks_are (suc number) rest (are_tail spans rest number span are) ∙ ap (λ (n : ℕ). groups_rest rests shape type fill value spans (groups_among shape sizes places (range_with_len n (length rest)))) (suc-eq-add-one number))
      ∙ one_rests span number (places_of_inner shape sizes number places) (groups_among shape sizes places (range_with_len (number + 1) (length rest))) (are_head spans rest number span are)

-- group by group is what the reads of the inner chunks rest on
pub grouped_rests : (rests : Resting) (shape sizes : List ℕ) (type : ElementType) (fill value places : List ℕ) (spans : List Span) → length spans ≡ inner_chunk_count shape sizes
    → each_inner ◌++◌ (λ span. span_rests (is_stored span) rests shape type fill value span) shape sizes places 0 spans ≡ groups_rest rests shape type fill value spans (groups_of shape sizes places)
grouped_rests rests shape sizes type fill value places spans count =
    chunks_are rests shape sizes type fill value places spans 0 spans (are_all spans)
    ∙ ap (λ (n : ℕ). groups_rest rests shape type fill value spans (groups_among shape sizes places (range_with_len 0 n))) count

-- ---- sure bytes

-- what is sure of a span's bytes, by their numbers in it
abbrev pub moved_sure : ℕ → Option (ℕ → Bool) → Option (ℕ → Bool)
moved_sure at sure = option_map (λ sure number. sure (at + number)) sure

two_sure : (sure : Option (ℕ → Bool)) (one other : Result (List ℕ) CodecError) → are_given_sure sure (one >>= λ here. other >>= λ behind. ok (here ++ behind)) ≡ true → (are_given_sure sure one ≡ true) × (are_given_sure sure other ≡ true)
two_sure sure (Ok here) (Ok behind) e = sure_parts sure here behind e
two_sure sure (Ok here) (Err cause) e = absurd cc
two_sure sure (Err cause) other e = absurd cc

-- where what groups' reads rest on is sure, it is for the first, and for the others
pub first_sure : (rests : Resting) (shape : List ℕ) (type : ElementType) (fill value : List ℕ) (spans : List Span) (group : ℕ × List ℕ) (groups : List (ℕ × List ℕ)) (sure : Option (ℕ → Bool))
    → are_given_sure sure (groups_rest rests shape type fill value spans (group ∷ groups)) ≡ true
    → (are_given_sure sure (span_rests (is_stored (get_or spans group.0 (0, 0))) rests shape type fill value (get_or spans group.0 (0, 0)) group.1) ≡ true) × (are_given_sure sure (groups_rest rests shape type fill value spans groups) ≡ true)
first_sure rests shape type fill value spans group groups sure e =
    two_sure sure (span_rests (is_stored (get_or spans group.0 (0, 0))) rests shape type fill value (get_or spans group.0 (0, 0)) group.1) (groups_rest rests shape type fill value spans groups) e

then_given : (sure : Option (ℕ → Bool)) (test : Bool) (at : ℕ) (r : Result (List ℕ) CodecError) → test ≡ true → are_given_sure sure (if test then seen (map (λ number. at + number)) r else ok []) ≡ true → are_given_sure (moved_sure at sure) r ≡ true
then_given None true at (Ok numbers) t e = absurd cc
then_given (Some sure) true at (Ok numbers) t e = sym (list_all-map sure (λ number. at + number) numbers) ∙ e
then_given sure true at (Err cause) t e = absurd cc
then_given sure false at r t e = absurd cc

-- of a stored span, as its own handle has it
pub span_sure : (rests : Resting) (shape : List ℕ) (type : ElementType) (fill value : List ℕ) (span : Span) (places : List ℕ) (sure : Option (ℕ → Bool)) → nat_le (span.0 + span.1) (length value) ≡ true
    → are_given_sure sure (span_rests true rests shape type fill value span places) ≡ true → are_given_sure (moved_sure span.0 sure) (rests shape type fill (Some (spanned_bytes value span)) places) ≡ true
span_sure rests shape type fill value span places sure inside e =
    then_given sure (nat_le (span.0 + span.1) (length value)) span.0 (rests shape type fill (Some (spanned_bytes value span)) places) inside e

-- where what a shard's read rests on is sure, the index's bytes are
pub shard_sure : (shape : List ℕ) (at_end : Bool) (measure : Measure) (index : Decoder) (rests : Resting) (sizes : List ℕ) (type : ElementType) (fill value places numbers : List ℕ) (sure : Option (ℕ → Bool)) (size : ℕ)
    → index_size measure shape sizes ≡ Ok size → shard_rests shape at_end measure index rests sizes type fill (Some value) places ≡ Ok numbers → are_sure sure numbers ≡ true → are_sure sure (index_bytes_at at_end size value) ≡ true
shard_sure shape at_end measure index rests sizes type fill value places numbers sure size sized e h =
    let a = bind_ok (index_size measure shape sizes) _ numbers e in
    let same : a.0 ≡ size = ok_is a.0 size (sym a.1 ∙ sized) in
    let there = subst (λ (s : Result ℕ CodecError). (spans_rest rests shape sizes type fill value places (s >>= spans_by shape at_end index sizes value) >>= λ behind. ok (index_bytes_at at_end a.0 value ++ behind)) ≡ Ok numbers) a.1 a.2 in
    let here = subst (λ (n : ℕ). (spans_rest rests shape sizes type fill value places (spans_by shape at_end index sizes value n) >>= λ behind. ok (index_bytes_at at_end n value ++ behind)) ≡ Ok numbers) same there in
    let b = bind_ok (spans_rest rests shape sizes type fill value places (spans_by shape at_end index sizes value size)) _ numbers here in
    (sure_parts sure (index_bytes_at at_end size value) b.0 (subst (λ (ns : List ℕ). are_sure sure ns ≡ true) (sym (ok_is (index_bytes_at at_end size value ++ b.0) numbers b.2)) h)).0

-- ---- an inner chain's reads

-- an inner chunk's places are read each by itself
pub chain_each : {B : Type 0} (f : BytesCodecs B) (arrays : List ArrayMapping) (codec : PlainCodec B) (outer : List B) (sizes : List ℕ) (type : ElementType) (fill : List ℕ) (stored : Option (List ℕ))
    → ReadsEach (read_through f arrays ((meaning codec).representation f) (codec_read f codec) outer sizes type fill stored)
chain_each f arrays codec outer = through_each f arrays ((meaning codec).representation f) (codec_read f codec) outer ((part_laws codec).places f).each

-- of a value whose index is read, there are as many spans as inner chunks
pub spans_counted : {B : Type 0} (f : BytesCodecs B) (arrays : List ArrayMapping) (codec : PlainCodec B) (outer : List B) (shape : List ℕ) (at_end : Bool) (sizes value : List ℕ) (size : ℕ) (spans : List Span)
    → spans_by shape at_end ((through arrays (meaning codec) outer).chunk f) sizes value size ≡ Ok spans → length spans ≡ inner_chunk_count shape sizes
spans_counted f arrays codec outer shape at_end sizes value size spans e =
    let a = bind_ok (demand (nat_le size (length value)) (InvalidBytesLength (length value) size)) _ spans e in
    let b = bind_ok ((through arrays (meaning codec) outer).chunk f (index_shape shape sizes) (offset_type true) (offset_bytes true 0) (index_part_of at_end size value)) _ spans a.2 in
    let rows : length b.0 ≡ product (index_shape shape sizes) = around_long f arrays ((meaning codec).representation f) ((meaning codec).chunk f) outer (index_shape shape sizes) (offset_type true) (offset_bytes true 0) (index_part_of at_end size value) b.0 b.1 in
    let numbers = offsets_in_chunk true b.0 in
    ap length (sym (ok_is (spans_of numbers) spans b.2)) ∙ spans_long (inner_chunk_count shape sizes) numbers (length-map b.0 _ ∙ rows ∙ product_two (grid shape sizes))
