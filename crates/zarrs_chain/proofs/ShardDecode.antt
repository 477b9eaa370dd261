-- What is read of a shard, inner chunk by inner chunk.
use Rattle.std.proofs.Common.{◌≡◌, ◌≢◌, ℕ, zero, suc, ◌+◌, ◌*◌, ◌-◌, ◌<◌, nat_eq, nat_le, Bool, true, false, List, [], ◌∷◌, ◌++◌, length, drop, get_or, replicate, Result, Ok, Err, arith, refl, ap, sym, subst, ◌∙◌}
use Rattle.std.proofs.lemmas.Bool.{eq-eqb, eqb-true}
use Rattle.std.proofs.lemmas.List.{append_assoc, ext_get_or, get_or-append_right, get_or-replicate, length-append, length-replicate, drop_more}
use Rattle.std.proofs.lemmas.List.FromFn.{get_or-map-range_with_len}
use Rattle.zarrs_chunk.specs.Answer.{◌>>=◌, demand}
use Rattle.zarrs_chunk.specs.ChunkShape.{product}
use Rattle.zarrs_chunk.specs.declared.codec_error.CodecError.{CodecError}
use Rattle.zarrs_chunk.specs.declared.codec_error.CodecError.TheVariants.{InvalidByteRange}
use Rattle.zarrs_data_type.specs.Element.{absent, Chunk, fill_element}
use Rattle.zarrs_data_type.specs.ElementType.{ElementType}
use Rattle.zarrs_array_bytes.specs.Update.{update}
use Rattle.zarrs_array_bytes.proofs.UpdateLaw.{untouched, written}
use Rattle.zarrs_array_bytes.proofs.WriteLemmas.{length-update}
use Rattle.zarrs_bytes.proofs.Coding.{ok}
use Rattle.zarrs_chain_meaning.specs.Meaning.{Decoder}
use Rattle.zarrs_chain_meaning.specs.sharding.InnerChunks.{IsCut, inner_chunk_count, inner_chunk_of, inner_chunk_places, joined_inner_chunks, place_in_shard, place_inside}
use Rattle.zarrs_chain_meaning.specs.sharding.ShardSteps.{inner_chunks_at}
use Rattle.zarrs_chain_meaning.specs.sharding.Sharding.{Span, inner_chunk_at, is_stored, spans_of, spanned_bytes}
use Rattle.zarrs_chain_meaning.proofs.InnerChunks.{joined_at, joined_long, places_long}
use Rattle.zarrs_chain.specs.sharding.ShardWalk.{chunk_behind, chunk_with}
use Rattle.zarrs_bytes.specs.PartialWrite.{filled_chunk}

-- ---- one inner chunk of a chunk

joined_there : (shape sizes : List ℕ) (inner_chunks : List Chunk) (place : ℕ) → place < product sizes → get_or (joined_inner_chunks shape sizes inner_chunks) place absent ≡ joined_at shape sizes inner_chunks place
joined_there shape sizes inner_chunks place l = get_or-map-range_with_len (joined_at shape sizes inner_chunks) 0 (product sizes) place place absent l (omega arith)

place_there : (shape sizes : List ℕ) (number inside : ℕ) → inside < product shape → get_or (inner_chunk_places shape sizes number) inside 0 ≡ place_in_shard shape sizes number inside
place_there shape sizes number inside l = get_or-map-range_with_len (place_in_shard shape sizes number) 0 (product shape) inside inside 0 l (omega arith)

-- the one between the others
this_one : (done : List Chunk) (one : Chunk) (rest : List Chunk) (number : ℕ) → length done ≡ number → get_or (done ++ one ∷ rest) number [] ≡ one
this_one done one rest number e =
    get_or-append_right done (one ∷ rest) number number [] e (omega arith) ∙ (let z : number - number ≡ 0 = omega arith in ap (λ n. get_or (one ∷ rest) n []) z)

other_ones : (done : List Chunk) (one other : Chunk) (rest : List Chunk) (number : ℕ) → number ≢ length done → get_or (done ++ one ∷ rest) number [] ≡ get_or (done ++ other ∷ rest) number []
other_ones [] one other rest zero h = absurd (h refl)
other_ones [] one other rest (suc number) h = refl
other_ones (first ∷ done) one other rest zero h = refl
other_ones (first ∷ done) one other rest (suc number) h = other_ones done one other rest number (λ e. h (ap suc e))

-- an inner chunk is replaced
module _ (shape sizes : List ℕ) (cut : IsCut shape sizes) (done rest : List Chunk) (old new : Chunk) (number : ℕ) (count : length done ≡ number) (below : number < inner_chunk_count shape sizes) (long : length new ≡ product shape) where
  abbrev pub before : Chunk
  before = joined_inner_chunks shape sizes (done ++ old ∷ rest)

  here : (place : ℕ) → place < product sizes → inner_chunk_of shape sizes place ≡ number → get_or (update before (inner_chunk_places shape sizes number) new) place absent ≡ joined_at shape sizes (done ++ new ∷ rest) place
  here place l is =
      let inside = place_inside shape sizes place in
      let small = cut.inside_below place l in
      let at : get_or (inner_chunk_places shape sizes number) inside 0 ≡ place = place_there shape sizes number inside small ∙ ap (λ n. place_in_shard shape sizes n inside) (sym is) ∙ cut.back place l in
      let found : get_or (update before (inner_chunk_places shape sizes number) new) place absent ≡ get_or new inside absent =
      written before new (inner_chunk_places shape sizes number) place absent inside (omega (arith, l, joined_long shape sizes (done ++ old ∷ rest))) (places_long shape sizes number ∙ sym long) (omega (arith, small, places_long shape sizes number)) at
      (λ j more under same.
      let m : j < product shape = omega (arith, under, places_long shape sizes number) in
      let again : inside ≡ j = ap (place_inside shape sizes) (sym (sym (place_there shape sizes number j m) ∙ same)) ∙ cut.inside_again number j below m in
      omega (arith, more, again)) in
      found ∙ sym (ap (λ (c : Chunk). get_or c inside absent) (ap (λ n. get_or (done ++ new ∷ rest) n []) is ∙ this_one done new rest number count))

  there : (place : ℕ) → place < product sizes → inner_chunk_of shape sizes place ≢ number → get_or (update before (inner_chunk_places shape sizes number) new) place absent ≡ joined_at shape sizes (done ++ new ∷ rest) place
  there place l other =
      untouched before new (inner_chunk_places shape sizes number) place absent (λ k under same.
      let m : k < product shape = omega (arith, under, places_long shape sizes number) in
      other (ap (inner_chunk_of shape sizes) (sym (sym (place_there shape sizes number k m) ∙ same)) ∙ cut.chunk_again number k below m))
      ∙ joined_there shape sizes (done ++ old ∷ rest) place l
      ∙ ap (λ (c : Chunk). get_or c (place_inside shape sizes place) absent) (other_ones done old new rest (inner_chunk_of shape sizes place) (λ e. other (e ∙ count)))

  by_number : (test : Bool) (place : ℕ) → place < product sizes → nat_eq (inner_chunk_of shape sizes place) number ≡ test → get_or (update before (inner_chunk_places shape sizes number) new) place absent ≡ joined_at shape sizes (done ++ new ∷ rest) place
  by_number true place l e = here place l (eqb-true (inner_chunk_of shape sizes place) number e)
  by_number false place l e = there place l (λ is. false_not_true (sym e ∙ eq-eqb (inner_chunk_of shape sizes place) number is))
    where
      false_not_true : false ≡ true → ⊥
      false_not_true h = cc

  pub replaced : update before (inner_chunk_places shape sizes number) new ≡ joined_inner_chunks shape sizes (done ++ new ∷ rest)
  replaced =
      let after = joined_inner_chunks shape sizes (done ++ new ∷ rest) in
      let size : length (update before (inner_chunk_places shape sizes number) new) ≡ product sizes = length-update before (inner_chunk_places shape sizes number) new ∙ joined_long shape sizes (done ++ old ∷ rest) in
      ext_get_or absent (update before (inner_chunk_places shape sizes number) new) after (size ∙ sym (joined_long shape sizes (done ++ new ∷ rest)))
      (λ place under.
      let l : place < product sizes = omega (arith, under, size) in
      by_number (nat_eq (inner_chunk_of shape sizes place) number) place l refl ∙ sym (joined_there shape sizes (done ++ new ∷ rest) place l))

-- a chunk of fill elements has inner chunks of them
pub all_filled : (shape sizes : List ℕ) (type : ElementType) (fill : List ℕ) → IsCut shape sizes → joined_inner_chunks shape sizes (replicate (inner_chunk_count shape sizes) (filled_chunk shape type fill)) ≡ replicate (product sizes) (fill_element type fill)
all_filled shape sizes type fill cut =
    let count = inner_chunk_count shape sizes in
    let one = filled_chunk shape type fill in
    ext_get_or absent (joined_inner_chunks shape sizes (replicate count one)) (replicate (product sizes) (fill_element type fill)) (joined_long shape sizes (replicate count one) ∙ sym (length-replicate (product sizes) (fill_element type fill)))
    (λ place under.
    let l : place < product sizes = omega (arith, under, joined_long shape sizes (replicate count one)) in
    joined_there shape sizes (replicate count one) place l
    ∙ ap (λ (c : Chunk). get_or c (place_inside shape sizes place) absent) (get_or-replicate count (inner_chunk_of shape sizes place) one [] (cut.chunk_below place l))
    ∙ get_or-replicate (product shape) (place_inside shape sizes place) (fill_element type fill) absent (cut.inside_below place l)
    ∙ sym (get_or-replicate (product sizes) place (fill_element type fill) absent l))

-- ---- all of them

-- a decoder answers chunks of so many elements
abbrev pub AnswersLong : Decoder → List ℕ → ElementType → List ℕ → Type 0
AnswersLong decode shape type fill = (value : List ℕ) (chunk : Chunk) → decode shape type fill value ≡ Ok chunk → length chunk ≡ product shape

behind : (decode : Decoder) (shape sizes : List ℕ) (type : ElementType) (fill value : List ℕ) → IsCut shape sizes → AnswersLong decode shape type fill → (number : ℕ) (spans : List Span) (done : List Chunk) → length done ≡ number → number + length spans ≡ inner_chunk_count shape sizes
    → chunk_behind decode shape sizes type fill value number spans (joined_inner_chunks shape sizes (done ++ replicate (length spans) (filled_chunk shape type fill)))
    ≡ inner_chunks_at decode shape type fill value spans >>= (λ inner_chunks. ok (joined_inner_chunks shape sizes (done ++ inner_chunks)))
behind decode shape sizes type fill value cut law number [] done e total = refl
behind decode shape sizes type fill value cut law number (span ∷ spans) done e total =
    by_span (λ one. behind decode shape sizes type fill value cut law (suc number) spans (done ++ one ∷ []) (omega (arith, length-append done (one ∷ []), e)) (omega (arith, total))) (is_stored span)
  where
    rest : List Chunk
    rest = replicate (length spans) (filled_chunk shape type fill)

    Next : Type 0
    Next = (one : Chunk) → chunk_behind decode shape sizes type fill value (suc number) spans (joined_inner_chunks shape sizes ((done ++ one ∷ []) ++ rest))
        ≡ inner_chunks_at decode shape type fill value spans >>= (λ inner_chunks. ok (joined_inner_chunks shape sizes ((done ++ one ∷ []) ++ inner_chunks)))

    moved : (one : Chunk) (r : Result (List Chunk) CodecError) → r >>= (λ inner_chunks. ok (joined_inner_chunks shape sizes ((done ++ one ∷ []) ++ inner_chunks)))
        ≡ r >>= (λ inner_chunks. ok (one ∷ inner_chunks)) >>= (λ inner_chunks. ok (joined_inner_chunks shape sizes (done ++ inner_chunks)))
    moved one (Ok inner_chunks) = ap (λ cs. ok (joined_inner_chunks shape sizes cs)) (append_assoc done (one ∷ []) inner_chunks)
    moved one (Err cause) = refl

    next : Next → (one : Chunk) → chunk_behind decode shape sizes type fill value (suc number) spans (joined_inner_chunks shape sizes (done ++ one ∷ rest))
        ≡ inner_chunks_at decode shape type fill value spans >>= (λ inner_chunks. ok (one ∷ inner_chunks)) >>= (λ inner_chunks. ok (joined_inner_chunks shape sizes (done ++ inner_chunks)))
    next law one =
        ap (λ cs. chunk_behind decode shape sizes type fill value (suc number) spans (joined_inner_chunks shape sizes cs)) (sym (append_assoc done (one ∷ []) rest))
        ∙ law one
        ∙ moved one (inner_chunks_at decode shape type fill value spans)

    stored : Next → (r : Result Chunk CodecError) → ((chunk : Chunk) → r ≡ Ok chunk → length chunk ≡ product shape)
        → r >>= (λ one. ok (update (joined_inner_chunks shape sizes (done ++ filled_chunk shape type fill ∷ rest)) (inner_chunk_places shape sizes number) one)) >>= (λ more. chunk_behind decode shape sizes type fill value (suc number) spans more)
        ≡ r >>= (λ one. inner_chunks_at decode shape type fill value spans >>= (λ inner_chunks. ok (one ∷ inner_chunks))) >>= (λ inner_chunks. ok (joined_inner_chunks shape sizes (done ++ inner_chunks)))
    stored law (Ok one) long =
        ap (chunk_behind decode shape sizes type fill value (suc number) spans) (replaced shape sizes cut done rest (filled_chunk shape type fill) one number e (omega (arith, total)) (long one refl))
        ∙ next law one
    stored law (Err cause) long = refl

    by_test : (inside : Bool) → AnswersLong decode shape type fill → (chunk : Chunk) → demand inside InvalidByteRange >>= (λ _. decode shape type fill (spanned_bytes value span)) ≡ Ok chunk → length chunk ≡ product shape
    by_test true law chunk h = law (spanned_bytes value span) chunk h
    by_test false law chunk h = absurd cc

    by_span : Next → (test : Bool) → chunk_with decode shape sizes type fill value number test span (joined_inner_chunks shape sizes (done ++ filled_chunk shape type fill ∷ rest)) >>= (λ more. chunk_behind decode shape sizes type fill value (suc number) spans more)
        ≡ inner_chunk_at test decode shape type fill value span >>= (λ one. inner_chunks_at decode shape type fill value spans >>= (λ inner_chunks. ok (one ∷ inner_chunks))) >>= (λ inner_chunks. ok (joined_inner_chunks shape sizes (done ++ inner_chunks)))
    by_span go false = next go (filled_chunk shape type fill)
    by_span go true = stored go (inner_chunk_at true decode shape type fill value span) (by_test (nat_le (span.0 + span.1) (length value)) law)

pub all_read : (decode : Decoder) (shape sizes : List ℕ) (type : ElementType) (fill value : List ℕ) (spans : List Span) → IsCut shape sizes → AnswersLong decode shape type fill → length spans ≡ inner_chunk_count shape sizes
    → chunk_behind decode shape sizes type fill value 0 spans (replicate (product sizes) (fill_element type fill)) ≡ inner_chunks_at decode shape type fill value spans >>= (λ inner_chunks. ok (joined_inner_chunks shape sizes inner_chunks))
all_read decode shape sizes type fill value spans cut law long =
    ap (chunk_behind decode shape sizes type fill value 0 spans) (sym (all_filled shape sizes type fill cut) ∙ ap (λ n. joined_inner_chunks shape sizes (replicate n (filled_chunk shape type fill))) (sym long))
    ∙ behind decode shape sizes type fill value cut law 0 spans [] refl (omega (arith, long))

-- ---- number by number

-- the spans from that of a number on
pub spans_behind : (numbers : List ℕ) (number : ℕ) → number * 2 + 1 < length numbers
    → spans_of (drop (number * 2) numbers) ≡ (get_or numbers (number * 2) 0, get_or numbers (number * 2 + 1) 0) ∷ spans_of (drop ((number + 1) * 2) numbers)
spans_behind numbers number l =
    let first = drop_more numbers (number * 2) 0 (omega (arith, l)) in
    let second = drop_more numbers (number * 2 + 1) 0 l in
    let next : number * 2 + 1 + 1 ≡ (number + 1) * 2 = omega arith in
    ap spans_of (first ∙ ap (λ (xs : List ℕ). get_or numbers (number * 2) 0 ∷ xs) (second ∙ ap (λ n. get_or numbers (number * 2 + 1) 0 ∷ drop n numbers) next))

pub one_read : (decode : Decoder) (shape sizes : List ℕ) (type : ElementType) (fill value numbers : List ℕ) (number : ℕ) (chunk more : Chunk) (span : Span) → number * 2 + 1 < length numbers → span ≡ (get_or numbers (number * 2) 0, get_or numbers (number * 2 + 1) 0)
    → chunk_with decode shape sizes type fill value number (is_stored span) span chunk ≡ Ok more
    → chunk_behind decode shape sizes type fill value number (spans_of (drop (number * 2) numbers)) chunk ≡ chunk_behind decode shape sizes type fill value (number + 1) (spans_of (drop ((number + 1) * 2) numbers)) more
one_read decode shape sizes type fill value numbers number chunk more span l is e =
    let found = subst (λ (s : Span). chunk_with decode shape sizes type fill value number (is_stored s) s chunk ≡ Ok more) is e in
    let next : suc number ≡ number + 1 = omega arith in
    ap (λ ss. chunk_behind decode shape sizes type fill value number ss chunk) (spans_behind numbers number l)
    ∙ rw found (ap (λ n. chunk_behind decode shape sizes type fill value n (spans_of (drop ((number + 1) * 2) numbers)) more) next)
