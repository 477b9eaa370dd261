-- What is read of a shard, band by band.
use Rattle.std.proofs.Common.{◌≡◌, ℕ, zero, suc, ◌+◌, ◌*◌, ◌/◌, ◌<◌, ◌≤◌, Bool, true, false, List, [], ◌∷◌, ◌++◌, length, take, drop, get_or, Result, Ok, Err, IfOk, arith, refl, ap, ap₂, sym, subst, ◌∙◌, length-drop}
use Rattle.std.specs.List.{All, flat_map, range_with_len}
use Rattle.std.proofs.lemmas.List.{append_assoc, drop-drop, get_or-append-add, get_or_append_left, length-append, length-replicate, length-take}
use Rattle.std.proofs.lemmas.List.Concat.{flat_map_single}
use Rattle.std.proofs.lemmas.Nat.{row_fits}
use Rattle.zarrs_array_bytes.specs.Elements.{elements}
use Rattle.zarrs_array_bytes.specs.Held.{Held}
use Rattle.zarrs_array_bytes.specs.Validity.{Holds, validity}
use Rattle.zarrs_array_bytes.proofs.UpdatedLemmas.{length-elements}
use Rattle.zarrs_chunk.specs.Answer.{◌>>=◌, Answers, AnswersBy, Gives, memory}
use Rattle.zarrs_chunk.specs.ChunkShape.{product}
use Rattle.zarrs_chunk.specs.declared.codec_error.CodecError.{CodecError}
use Rattle.zarrs_data_type.specs.Element.{Chunk, absent, fill_element}
use Rattle.zarrs_data_type.specs.ElementType.{ElementType}
use Rattle.zarrs_chain_meaning.specs.sharding.InnerChunks.{inner_chunk_count, inner_chunk_of, is_divided, joined_inner_chunks, place_inside, IsCut}
use Rattle.zarrs_chain_meaning.specs.Meaning.{Decoder}
use Rattle.zarrs_chain_meaning.specs.sharding.ShardSteps.{inner_chunks_at}
use Rattle.zarrs_chain_meaning.specs.sharding.Sharding.{Span, inner_chunk_at, is_stored, spans_of}
use Rattle.zarrs_bytes.proofs.Coding.{ok}
use Rattle.zarrs_array_bytes.specs.Tight.{IsTight}
use Rattle.zarrs_array_to_array.proofs.Refusals.{no_fault_from}
use Rattle.zarrs_chain_meaning.proofs.ArraySteps.{ok_is, ok_no_err}
use Rattle.zarrs_chain_meaning.proofs.NestedStages.{is_positive}
use Rattle.zarrs_chain.specs.sharding.ShardingCalls.{IsShardForm}
use Rattle.zarrs_shard_bytes.specs.Bands.{IsBandForm, band_count, band_of, inner_element, part_elements}
use Rattle.zarrs_chain.proofs.InnerBytes.{ReadsTo, halved, reads_begin, reads_end}
use Rattle.zarrs_shard_bytes.proofs.Rows.{more_rows, same_along}
use Rattle.zarrs_bytes.specs.PartialWrite.{filled_chunk}
use Rattle.zarrs_shard_bytes.proofs.Bands.{bands_counted, bands_found, length_part}

-- ---- reading

-- the spans of so many numbers, and those of the others
spans_apart : (count : ℕ) (numbers : List ℕ) → count * 2 ≤ length numbers → spans_of numbers ≡ spans_of (take (count * 2) numbers) ++ spans_of (drop (count * 2) numbers)
spans_apart zero numbers l = refl
spans_apart (suc count) [] l = absurd (omega (arith, l))
spans_apart (suc count) (at ∷ []) l = absurd (omega (arith, l))
spans_apart (suc count) (at ∷ size ∷ numbers) l =
    let next : suc (suc (count * 2)) ≡ suc count * 2 = omega arith in
    ap (λ (ss : List Span). (at, size) ∷ ss) (spans_apart count numbers (omega (arith, l)))
    ∙ ap (λ n. spans_of (take n (at ∷ size ∷ numbers)) ++ spans_of (drop n (at ∷ size ∷ numbers))) next

-- the inner chunks at spans, and those at others
chunks_apart : (decode : Decoder) (shape : List ℕ) (type : ElementType) (fill value : List ℕ) (some others : List Span)
    → inner_chunks_at decode shape type fill value (some ++ others) ≡ inner_chunks_at decode shape type fill value some >>= (λ first. inner_chunks_at decode shape type fill value others >>= (λ rest. ok (first ++ rest)))
chunks_apart decode shape type fill value [] others = with_none (inner_chunks_at decode shape type fill value others)
  where
    with_none : (r : Result (List Chunk) CodecError) → r ≡ r >>= (λ rest. ok ([] ++ rest))
    with_none (Ok rest) = refl
    with_none (Err cause) = refl
chunks_apart decode shape type fill value (span ∷ spans) others =
    ap (λ (r : Result (List Chunk) CodecError). inner_chunk_at (is_stored span) decode shape type fill value span >>= (λ one. r >>= (λ rest. ok (one ∷ rest)))) (chunks_apart decode shape type fill value spans others)
    ∙ by_first (inner_chunk_at (is_stored span) decode shape type fill value span) (inner_chunks_at decode shape type fill value spans) (inner_chunks_at decode shape type fill value others)
  where
    by_first : (r : Result Chunk CodecError) (some others : Result (List Chunk) CodecError)
        → r >>= (λ one. some >>= (λ first. others >>= (λ rest. ok (first ++ rest))) >>= (λ rest. ok (one ∷ rest))) ≡ r >>= (λ one. some >>= (λ rest. ok (one ∷ rest))) >>= (λ first. others >>= (λ rest. ok (first ++ rest)))
    by_first (Ok one) (Ok first) (Ok rest) = refl
    by_first (Ok one) (Ok first) (Err cause) = refl
    by_first (Ok one) (Err cause) others = refl
    by_first (Err cause) some others = refl

-- what is known where some bands are read, and their elements are in a container of so many
pub record BandsTo (decode : Decoder) (shape band : List ℕ) (per : ℕ) (type : ElementType) (fill value numbers : List ℕ) (number done : ℕ) (held : Held) : Type 0 where
  pub found : List Chunk
  pub read : ReadsTo decode shape type fill value numbers (number * per) found
  pub long : length found ≡ number * per
  pub counted : done ≡ number * (per * product shape)
  pub valid : validity type done held ≡ Ok tt
  pub are : elements type done held ≡ flat_map (λ index. part_elements found (index * per) 0 shape band) (range_with_len 0 number)

pub bands_begin : (decode : Decoder) (shape band : List ℕ) (per : ℕ) (type : ElementType) (fill value numbers : List ℕ) (held : Held) → AnswersBy {E = CodecError} memory (Holds type) (Ok held) (Ok []) → BandsTo decode shape band per type fill value numbers 0 0 held
bands_begin decode shape band per type fill value numbers held h =
    let none : List Chunk = [] in
    let at : 0 * per ≡ 0 = omega arith in
    record {
      found = none;
      read = subst (λ n. ReadsTo decode shape type fill value numbers n none) (sym at) (reads_begin decode shape type fill value numbers none refl);
      long = sym at;
      counted = omega arith;
      valid = h.valid;
      are = refl;
    }

-- bands that are read stay what they are where more are read
bands_stay : (found more : List Chunk) (per number : ℕ) (shape band : List ℕ) → IsCut shape band → per ≡ inner_chunk_count shape band → length found ≡ number * per
    → flat_map (λ index. part_elements found (index * per) 0 shape band) (range_with_len 0 number) ≡ flat_map (λ index. part_elements (found ++ more) (index * per) 0 shape band) (range_with_len 0 number)
bands_stay found more per number shape band cut is long =
    same_along _ _ 0 0 number (λ index l.
    same_along (λ place. inner_element found ((0 + index) * per + inner_chunk_of shape band place) (0 + place_inside shape band place)) (λ place. inner_element (found ++ more) ((0 + index) * per + inner_chunk_of shape band place) (0 + place_inside shape band place)) 0 0 (product band) (λ place m.
    let at : (0 + index) * per + inner_chunk_of shape band (0 + place) < length found =
    there index (0 + place) l (omega (arith, m)) in
    ap (λ (c : Chunk). get_or c (0 + place_inside shape band (0 + place)) absent ∷ []) (sym (get_or_append_left found more [] ((0 + index) * per + inner_chunk_of shape band (0 + place)) at))))
  where
    there : (index place : ℕ) → index < number → place < product band → (0 + index) * per + inner_chunk_of shape band place < length found
    there index place l m =
        let below : inner_chunk_of shape band place < per = omega (arith, cut.chunk_below place m, is) in
        let room : index * per + per ≤ number * per = row_fits index per number per l (omega arith) in
        omega (arith, below, room, long)

-- and the next one is what its own inner chunks make
band_next : (found more : List Chunk) (at : ℕ) (shape band : List ℕ) → length found ≡ at → part_elements more 0 0 shape band ≡ part_elements (found ++ more) at 0 shape band
band_next found more at shape band long =
    same_along (λ place. inner_element more (0 + inner_chunk_of shape band place) (0 + place_inside shape band place)) (λ place. inner_element (found ++ more) (at + inner_chunk_of shape band place) (0 + place_inside shape band place)) 0 0 (product band) (λ place m.
    let zero_first : 0 + inner_chunk_of shape band (0 + place) ≡ inner_chunk_of shape band (0 + place) = omega arith in
    ap (λ (c : Chunk). get_or c (0 + place_inside shape band (0 + place)) absent ∷ [])
    (ap (λ n. get_or more n []) zero_first ∙ sym (get_or-append-add found more (inner_chunk_of shape band (0 + place)) []) ∙ ap (λ n. get_or (found ++ more) (n + inner_chunk_of shape band (0 + place)) []) long))

module _ (decode : Decoder) (shape band : List ℕ) (per : ℕ) (type : ElementType) (fill value numbers : List ℕ) (number done : ℕ) (held : Held) (so_far : BandsTo decode shape band per type fill value numbers number done held) (inside : number * per * 2 + per * 2 ≤ length numbers) (part : List ℕ) (part_is : part ≡ take (per * 2) (drop (number * per * 2) numbers)) where
  bands_opened : (r : Result (List Chunk) CodecError) → inner_chunks_at decode shape type fill value (spans_of part) ≡ r
      → r >>= (λ first. inner_chunks_at decode shape type fill value (spans_of (drop ((number + 1) * per * 2) numbers)) >>= (λ rest. ok (first ++ rest))) >>= (λ chunks. ok (so_far.found ++ chunks)) ≡ inner_chunks_at decode shape type fill value (spans_of numbers)
  bands_opened r e =
      let behind : List ℕ = drop (number * per * 2) numbers in
      let enough : per * 2 ≤ length behind = omega (arith, inside, length-drop (number * per * 2) numbers) in
      let next : number * per * 2 + per * 2 ≡ (number + 1) * per * 2 = omega arith in
      let others : drop (per * 2) behind ≡ drop ((number + 1) * per * 2) numbers = drop-drop (per * 2) (number * per * 2) numbers ∙ ap (λ n. drop n numbers) next in
      ap (λ (x : Result (List Chunk) CodecError). x >>= (λ first. inner_chunks_at decode shape type fill value (spans_of (drop ((number + 1) * per * 2) numbers)) >>= (λ rest. ok (first ++ rest))) >>= (λ chunks. ok (so_far.found ++ chunks))) (sym e ∙ ap (λ (ns : List ℕ). inner_chunks_at decode shape type fill value (spans_of ns)) part_is)
      ∙ ap (λ (ns : List ℕ). inner_chunks_at decode shape type fill value (spans_of (take (per * 2) behind)) >>= (λ first. inner_chunks_at decode shape type fill value (spans_of ns) >>= (λ rest. ok (first ++ rest))) >>= (λ chunks. ok (so_far.found ++ chunks))) (sym others)
      ∙ ap (λ (x : Result (List Chunk) CodecError). x >>= (λ chunks. ok (so_far.found ++ chunks))) (sym (ap (inner_chunks_at decode shape type fill value) (spans_apart per behind enough) ∙ chunks_apart decode shape type fill value (spans_of (take (per * 2) behind)) (spans_of (drop (per * 2) behind))))
      ∙ so_far.read.rest

  pub bands_refused : (cause : CodecError) → inner_chunks_at decode shape type fill value (spans_of part) ≡ Err cause → inner_chunks_at decode shape type fill value (spans_of numbers) ≡ Err cause
  bands_refused cause e = sym (bands_opened (Err cause) e)

  pub bands_on : (chunks : List Chunk) (next : Held) → inner_chunks_at decode shape type fill value (spans_of part) ≡ Ok chunks → length chunks ≡ per → IsCut shape band → per ≡ inner_chunk_count shape band → product band ≡ per * product shape
      → AnswersBy {E = CodecError} memory (Holds type) (Ok next) (Ok (elements type done held ++ part_elements chunks 0 0 shape band)) → BandsTo decode shape band per type fill value numbers (number + 1) (done + per * product shape) next
  bands_on chunks next e many cut is size h =
      let more : Chunk = part_elements chunks 0 0 shape band in
      let found : List Chunk = so_far.found ++ chunks in
      let total : (number + 1) * per ≡ number * per + per = omega arith in
      let long : length (elements type done held ++ more) ≡ done + per * product shape = length-append (elements type done held) more ∙ ap₂ (λ a b. a + b) (length-elements type done held) (length_part chunks 0 0 shape band ∙ size) in
      record {
        found = found;
        read = record {
          rest = joined (inner_chunks_at decode shape type fill value (spans_of (drop ((number + 1) * per * 2) numbers))) so_far.found chunks ∙ bands_opened (Ok chunks) e;
        };
        long = length-append so_far.found chunks ∙ ap₂ (λ a b. a + b) so_far.long many ∙ sym total;
        counted = ap (λ n. n + per * product shape) so_far.counted ∙ (let t : number * (per * product shape) + per * product shape ≡ (number + 1) * (per * product shape) = omega arith in t);
        valid = ap (λ n. validity type n next) (sym long) ∙ h.valid;
        are = ap (λ n. elements type n next) (sym long) ∙ h.elements_are
            ∙ more_rows (λ index. part_elements found (index * per) 0 shape band) [] (elements type done held) (elements type done held ++ more) number
            (so_far.are ∙ bands_stay so_far.found chunks per number shape band cut is so_far.long)
            (ap (λ (xs : Chunk). elements type done held ++ xs) (band_next so_far.found chunks (number * per) shape band so_far.long));
      }
    where
      joined : (r : Result (List Chunk) CodecError) (first second : List Chunk) → r >>= (λ rest. ok ((first ++ second) ++ rest)) ≡ r >>= (λ rest. ok (second ++ rest)) >>= (λ chunks. ok (first ++ chunks))
      joined (Ok rest) first second = ap ok (append_assoc first second rest)
      joined (Err cause) first second = refl

-- the chunk is what is found for all of its places
joined_is : (shape sizes : List ℕ) (inner_chunks : List Chunk) → joined_inner_chunks shape sizes inner_chunks ≡ part_elements inner_chunks 0 0 shape sizes
joined_is shape sizes inner_chunks =
    sym (flat_map_single (λ place. get_or (get_or inner_chunks (inner_chunk_of shape sizes place) []) (place_inside shape sizes place) absent) (range_with_len 0 (product sizes)))
    ∙ same_along (λ place. get_or (get_or inner_chunks (inner_chunk_of shape sizes place) []) (place_inside shape sizes place) absent ∷ []) (λ place. inner_element inner_chunks (0 + inner_chunk_of shape sizes place) (0 + place_inside shape sizes place)) 0 0 (product sizes) (λ place l.
    let a : inner_chunk_of shape sizes (0 + place) ≡ 0 + inner_chunk_of shape sizes (0 + place) = omega arith in
    let b : place_inside shape sizes (0 + place) ≡ 0 + place_inside shape sizes (0 + place) = omega arith in
    ap₂ (λ n k. get_or (get_or inner_chunks n []) k absent ∷ []) a b)

-- where all bands are read, the container has the chunk
pub bands_end : (decode : Decoder) (shape sizes : List ℕ) (per : ℕ) (type : ElementType) (fill value numbers : List ℕ) (number done : ℕ) (held : Held) → BandsTo decode shape (band_of shape sizes) per type fill value numbers number done held
    → All is_positive shape → is_divided shape sizes ≡ true → per ≡ inner_chunk_count shape (band_of shape sizes) → number ≡ band_count shape sizes → length numbers ≡ inner_chunk_count shape sizes * 2
    → AnswersBy memory (Holds type) (Ok held) (inner_chunks_at decode shape type fill value (spans_of numbers) >>= (λ inner_chunks. ok (joined_inner_chunks shape sizes inner_chunks)))
bands_end decode shape sizes per type fill value numbers number done held w p d is last many =
    let counted = bands_counted shape sizes p d in
    let all : number * per ≡ inner_chunk_count shape sizes = ap₂ (λ a b. a * b) last is ∙ sym counted in
    let end : number * per ≡ length numbers / 2 = all ∙ sym (halved (inner_chunk_count shape sizes) (length numbers) many) in
    let read = reads_end decode shape type fill value numbers (number * per) w.found w.read end in
    let whole : elements type done held ≡ joined_inner_chunks shape sizes w.found =
    w.are
    ∙ same_along _ _ 0 0 number (λ index l.
    let at : (0 + index) * per ≡ 0 + (0 + index) * inner_chunk_count shape (band_of shape sizes) = ap (λ n. (0 + index) * n) is ∙ (let z : (0 + index) * inner_chunk_count shape (band_of shape sizes) ≡ 0 + (0 + index) * inner_chunk_count shape (band_of shape sizes) = omega arith in z) in
    ap (λ n. part_elements w.found n 0 shape (band_of shape sizes)) at)
    ∙ ap (λ n. flat_map (λ index. part_elements w.found (0 + index * inner_chunk_count shape (band_of shape sizes)) 0 shape (band_of shape sizes)) (range_with_len 0 n)) last
    ∙ bands_found (inner_element w.found) 0 0 shape sizes p d
    ∙ sym (joined_is shape sizes w.found) in
    let long : length (joined_inner_chunks shape sizes w.found) ≡ done = ap (λ (xs : Chunk). length xs) (sym whole) ∙ length-elements type done held in
    subst (λ (r : Result (List Chunk) CodecError). AnswersBy memory (Holds type) (Ok held) (r >>= (λ inner_chunks. ok (joined_inner_chunks shape sizes inner_chunks)))) (sym read)
    record {
      valid = ap (λ n. validity type n held) long ∙ w.valid;
      elements_are = ap (λ n. elements type n held) long ∙ whole;
    }

-- ---- one inner chunk

-- what is known of the container of an inner chunk that was read
pub record IsRead (decode : Decoder) (shape : List ℕ) (type : ElementType) (fill value : List ℕ) (span : Span) (stored : Bool) (result : Result Held CodecError) : Type 0 where
  pub answer : Gives (λ content. elements type (product shape) content) result (inner_chunk_at stored decode shape type fill value span)
  pub whole : IfOk result (λ content. validity type (product shape) content ≡ Ok tt)
  pub tight : IfOk result (IsTight type)

-- the blank inner chunk, copied
pub blank_cloned : (decode : Decoder) (shape : List ℕ) (type : ElementType) (fill value : List ℕ) (span : Span) (stored : Bool) (blank : Held) (result : Result Held CodecError) → stored ≡ false → Holds type blank (filled_chunk shape type fill) → IsTight type blank → Answers memory (λ (x : Held). x) result (Ok blank)
    → IsRead decode shape type fill value span stored result
blank_cloned decode shape type fill value span stored blank (Ok made) e h t given =
    let same : blank ≡ made = ok_is blank made given in
    let long : length (filled_chunk shape type fill) ≡ product shape = length-replicate (product shape) (fill_element type fill) in
    record {
      answer = record {
        is = ap (λ b. inner_chunk_at b decode shape type fill value span) e ∙ ap ok (sym h.elements_are ∙ ap (λ n. elements type n blank) long ∙ ap (elements type (product shape)) same);
        no_fault = refl;
      };
      whole = ap (validity type (product shape)) (sym same) ∙ ap (λ n. validity type n blank) (sym long) ∙ h.valid;
      tight = subst (IsTight type) same t;
    }
blank_cloned decode shape type fill value span stored blank (Err cause) e h t given = record {
  answer = record {
    is = λ n. absurd (ok_no_err blank cause (given n));
    no_fault = no_fault_from (λ (x : Held). x) (Err cause) (ok blank) given refl;
  };
  whole = tt;
  tight = tt;
}

-- ---- what bands are like

-- a chunk of this form is read band by band
pub band_form : (shape sizes band : List ℕ) (type : ElementType) (fill : List ℕ) → IsShardForm shape sizes type fill → band ≡ band_of shape sizes → IsBandForm shape sizes band
band_form shape sizes band type fill form is = record {
  divided = form.divided;
  counted = form.counted;
  inner_counted = form.inner_counted;
  small = form.small;
  band_is = is;
}

-- ---- band by band

-- the numbers of a band are there
pub band_inside : (number per bands total : ℕ) (numbers : List ℕ) → number < bands → total ≡ bands * per → length numbers ≡ total * 2 → number * per * 2 + per * 2 ≤ length numbers
band_inside number per bands total numbers l e long =
    let fits : number * per + per ≤ bands * per = row_fits number per bands per l (omega arith) in
    omega (arith, fits, e, long)

-- a band has so many
pub band_long : (number per : ℕ) (numbers part : List ℕ) → number * per * 2 + per * 2 ≤ length numbers → part ≡ take (per * 2) (drop (number * per * 2) numbers) → length part / 2 ≡ per
band_long number per numbers part inside e =
    let long : length part ≡ per * 2 = ap (λ (xs : List ℕ). length xs) e ∙ (let t : length (take (per * 2) (drop (number * per * 2) numbers)) ≡ per * 2 = omega (arith, length-take (per * 2) (drop (number * per * 2) numbers), length-drop (number * per * 2) numbers, inside) in t) in
    halved per (length part) long
