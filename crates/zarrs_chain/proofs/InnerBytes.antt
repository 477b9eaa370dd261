-- What is read of the inner chunks of a shard, as the bytes of their elements.
use Rattle.std.proofs.Common.{◌≡◌, ℕ, ◌+◌, ◌*◌, ◌/◌, ◌<◌, Bool, true, false, List, [], ◌∷◌, ◌++◌, length, drop, get_or, Result, Ok, Err, IfOk, arith, refl, ap, sym, subst, ◌∙◌, length-drop}
use Rattle.std.specs.List.{All}
use Rattle.std.specs.Prelude.{is_none}
use Rattle.std.specs.declared.alloc.Global.{Global}
use Rattle.std.specs.declared.borrow.CowSlice.{CowSlice}
use Rattle.std.proofs.lemmas.List.{append-nil, append_assoc, length-append, length-replicate, map-append}
use Rattle.std.proofs.lemmas.List.Elements.{All-append, All-cons, All-nil}
use Rattle.std.proofs.lemmas.Nat.{div-add-mod', div-mul-add, mod_below}
use Rattle.zarrs_chunk.specs.Answer.{◌>>=◌, Gives, GivesBy, seen}
use Rattle.zarrs_chunk.specs.ChunkShape.{product}
use Rattle.zarrs_chunk.specs.declared.codec_error.CodecError.{CodecError}
use Rattle.zarrs_chunk.specs.declared.codec_error.CodecError.TheVariants.{ArrayBytesKind, InvalidBytesLength}
use Rattle.zarrs_data_type.specs.Element.{Chunk, fill_element}
use Rattle.zarrs_data_type.specs.ElementType.{ElementType, fixed, text, bytes, optional, fixed_size_of}
use Rattle.zarrs_data_type.specs.FillValue.{fill_fits}
use Rattle.zarrs_array_bytes.specs.Chunks.{fill_chunk}
use Rattle.zarrs_array_bytes.specs.Elements.{elements}
use Rattle.zarrs_array_bytes.specs.Held.{Raw, Held, flen, vlen, masked, raw_of}
use Rattle.zarrs_array_bytes.specs.Parts.{fixed_items, fixed_part}
use Rattle.zarrs_array_bytes.specs.Validity.{Holds, levels_fit, sizes_fit, validity}
use Rattle.zarrs_array_bytes.proofs.ValidLemmas.{both_ok}
use Rattle.zarrs_bytes.proofs.Coding.{ok}
use Rattle.zarrs_chain_meaning.specs.Meaning.{Decoder}
use Rattle.zarrs_chain_meaning.specs.sharding.ShardSteps.{inner_chunks_at}
use Rattle.zarrs_chain_meaning.specs.sharding.Sharding.{Span, inner_chunk_at, is_stored, spans_of}
use Rattle.zarrs_chain_meaning.specs.vlen.VlenSteps.{lent_bytes}
use Rattle.zarrs_chain_meaning.proofs.ArraySteps.{ok_is}
use Rattle.zarrs_chain_meaning.proofs.VlenOffsets.{fixed_held}
use Rattle.zarrs_shard_bytes.specs.Rows.{chunks_in}
use Rattle.zarrs_chain.proofs.ShardDecode.{spans_behind}
use Rattle.zarrs_chain.proofs.ShardReading.{filled_is}
use Rattle.zarrs_bytes.specs.PartialWrite.{filled_chunk}

-- ---- the bytes of a container

pub no_other : (type : ElementType) (count : ℕ) (held : Held) (cause : CodecError) → is_none (fixed_size_of type) ≡ false → validity type count held ≡ Ok tt → fixed_part held ≡ Err cause → ⊥
no_other (fixed width components sign) count (flen raw) cause s v e = cc
no_other (fixed width components sign) count (vlen raw offsets) cause s v e =
    let fits = (both_ok (sizes_fit (fixed width components sign) count) (levels_fit InvalidBytesLength (fixed width components sign) count (vlen raw offsets)) v).1 in
    cc
no_other (fixed width components sign) count (masked inner mask) cause s v e =
    let fits = (both_ok (sizes_fit (fixed width components sign) count) (levels_fit InvalidBytesLength (fixed width components sign) count (masked inner mask)) v).1 in
    cc
no_other text count held cause s v e = cc
no_other bytes count held cause s v e = cc
no_other (optional type) count held cause s v e = cc

-- an owner's bytes, lent, hold the same chunk
holds_lent : (type : ElementType) (raw : Raw) (chunk : Chunk) → Holds type (flen raw) chunk → Holds type (flen (lent_bytes raw.items)) chunk
holds_lent (fixed width components sign) raw chunk h = record { valid = h.valid; elements_are = h.elements_are }
holds_lent text raw chunk h = record { valid = h.valid; elements_are = h.elements_are }
holds_lent bytes raw chunk h = record { valid = h.valid; elements_are = h.elements_are }
holds_lent (optional type) raw chunk h = record { valid = h.valid; elements_are = h.elements_are }

-- ---- one inner chunk

pub content_read : (type : ElementType) (count : ℕ) (held : Held) (expected : Result Chunk CodecError) (result : Result (CowSlice ℕ Global) CodecError) → is_none (fixed_size_of type) ≡ false → expected ≡ Ok (elements type count held) → validity type count held ≡ Ok tt → seen raw_of result ≡ fixed_part held
    → Gives (λ content. elements type count (flen (raw_of content))) result expected
content_read type count held expected (Ok raw) s e v h = record { is = e ∙ ap (λ x. ok (elements type count x)) (fixed_held held (raw_of raw) (sym h)); no_fault = refl }
content_read type count held expected (Err cause) s e v h = absurd (no_other type count held cause s v (sym h))

pub content_whole : (type : ElementType) (count : ℕ) (held : Held) (result : Result (CowSlice ℕ Global) CodecError) → validity type count held ≡ Ok tt → seen raw_of result ≡ fixed_part held → IfOk result (λ content. validity type count (flen (raw_of content)) ≡ Ok tt)
content_whole type count held (Ok raw) v h = subst (λ (x : Held). validity type count x ≡ Ok tt) (fixed_held held (raw_of raw) (sym h)) v
content_whole type count held (Err cause) v h = tt

-- the blank inner chunk
pub blank_read : (decode : Decoder) (shape : List ℕ) (type : ElementType) (fill value items : List ℕ) (span : Span) (stored : Bool) → stored ≡ false → Holds type (flen (lent_bytes items)) (filled_chunk shape type fill)
    → (inner_chunk_at stored decode shape type fill value span ≡ Ok (elements type (product shape) (flen (lent_bytes items)))) × (validity type (product shape) (flen (lent_bytes items)) ≡ Ok tt)
blank_read decode shape type fill value items span stored e h =
    let long : length (filled_chunk shape type fill) ≡ product shape = length-replicate (product shape) (fill_element type fill) in (
      ap (λ b. inner_chunk_at b decode shape type fill value span) e ∙ ap ok (sym h.elements_are ∙ ap (λ n. elements type n (flen (lent_bytes items))) long),
      ap (λ n. validity type n (flen (lent_bytes items))) (sym long) ∙ h.valid,
    )

pub blank_given : (type : ElementType) (shape fill : List ℕ) (count : ℕ) (result : Result Held CodecError) → count ≡ product shape → fill_fits type fill ≡ true → sizes_fit type (product shape) ≡ Ok tt → GivesBy (Holds type) result (fill_chunk type count fill)
    → GivesBy (Holds type) result (Ok (filled_chunk shape type fill))
blank_given type shape fill count result same fits room h = subst (λ (r : Result Chunk CodecError). GivesBy (Holds type) result r) (filled_is type fill (product shape) count same fits room) h

-- a container of elements of one size has their bytes
pub items_there : (type : ElementType) (held : Held) (chunk : Chunk) (cause : CodecError) → is_none (fixed_size_of type) ≡ false → Holds type held chunk → fixed_items held ≡ Err cause → ⊥
items_there type (flen raw) chunk cause s h e = cc
items_there type (vlen raw offsets) chunk cause s h e = no_other type (length chunk) (vlen raw offsets) ArrayBytesKind s h.valid refl
items_there type (masked inner mask) chunk cause s h e = no_other type (length chunk) (masked inner mask) ArrayBytesKind s h.valid refl

-- and these, lent, hold the same chunk
pub lent_holds : (type : ElementType) (held : Held) (items : List ℕ) (chunk : Chunk) → fixed_items held ≡ Ok items → Holds type held chunk → Holds type (flen (lent_bytes items)) chunk
lent_holds type (flen raw) items chunk e h = subst (λ (xs : List ℕ). Holds type (flen (lent_bytes xs)) chunk) (ok_is raw.items items e) (holds_lent type raw chunk h)
lent_holds type (vlen raw offsets) items chunk e h = absurd cc
lent_holds type (masked inner mask) items chunk e h = absurd cc

-- ---- all of them

-- what is read so far, and what is left to read
pub record ReadsTo (decode : Decoder) (shape : List ℕ) (type : ElementType) (fill value numbers : List ℕ) (number : ℕ) (done : List Chunk) : Type 0 where
  pub rest : inner_chunks_at decode shape type fill value (spans_of (drop (number * 2) numbers)) >>= (λ inner_chunks. ok (done ++ inner_chunks)) ≡ inner_chunks_at decode shape type fill value (spans_of numbers)

with_none : (r : Result (List Chunk) CodecError) → r >>= (λ inner_chunks. ok ([] ++ inner_chunks)) ≡ r
with_none (Ok inner_chunks) = refl
with_none (Err cause) = refl

pub reads_begin : (decode : Decoder) (shape : List ℕ) (type : ElementType) (fill value numbers : List ℕ) (done : List Chunk) → done ≡ [] → ReadsTo decode shape type fill value numbers 0 done
reads_begin decode shape type fill value numbers done none = record {
  rest = ap (λ (cs : List Chunk). inner_chunks_at decode shape type fill value (spans_of numbers) >>= (λ inner_chunks. ok (cs ++ inner_chunks))) none ∙ with_none (inner_chunks_at decode shape type fill value (spans_of numbers));
}

one_more : (done : List Chunk) (one : Chunk) (r : Result (List Chunk) CodecError)
    → r >>= (λ inner_chunks. ok ((done ++ one ∷ []) ++ inner_chunks)) ≡ r >>= (λ inner_chunks. ok (one ∷ inner_chunks)) >>= (λ inner_chunks. ok (done ++ inner_chunks))
one_more done one (Ok inner_chunks) = ap ok (append_assoc done (one ∷ []) inner_chunks)
one_more done one (Err cause) = refl

module _ (decode : Decoder) (shape : List ℕ) (type : ElementType) (fill value numbers : List ℕ) (number : ℕ) (span : Span) (done : List Chunk) (so_far : ReadsTo decode shape type fill value numbers number done) (inside : number * 2 + 1 < length numbers) (is : span ≡ (get_or numbers (number * 2) 0, get_or numbers (number * 2 + 1) 0)) where
  opened : (r : Result Chunk CodecError) → inner_chunk_at (is_stored span) decode shape type fill value span ≡ r
      → r >>= (λ one. inner_chunks_at decode shape type fill value (spans_of (drop ((number + 1) * 2) numbers)) >>= (λ inner_chunks. ok (one ∷ inner_chunks))) >>= (λ inner_chunks. ok (done ++ inner_chunks)) ≡ inner_chunks_at decode shape type fill value (spans_of numbers)
  opened r e =
      ap (λ x. x >>= (λ one. inner_chunks_at decode shape type fill value (spans_of (drop ((number + 1) * 2) numbers)) >>= (λ inner_chunks. ok (one ∷ inner_chunks))) >>= (λ inner_chunks. ok (done ++ inner_chunks)))
      (sym e ∙ ap (λ (s : Span). inner_chunk_at (is_stored s) decode shape type fill value s) is)
      ∙ ap (λ ss. inner_chunks_at decode shape type fill value ss >>= (λ inner_chunks. ok (done ++ inner_chunks))) (sym (spans_behind numbers number inside))
      ∙ so_far.rest

  pub reads_on : (one : Chunk) (more : List Chunk) → inner_chunk_at (is_stored span) decode shape type fill value span ≡ Ok one → more ≡ done ++ one ∷ [] → ReadsTo decode shape type fill value numbers (number + 1) more
  reads_on one more found all = record {
    rest = ap (λ (cs : List Chunk). inner_chunks_at decode shape type fill value (spans_of (drop ((number + 1) * 2) numbers)) >>= (λ inner_chunks. ok (cs ++ inner_chunks))) all
        ∙ one_more done one (inner_chunks_at decode shape type fill value (spans_of (drop ((number + 1) * 2) numbers))) ∙ opened (Ok one) found;
  }

  pub reads_refused : (cause : CodecError) → inner_chunk_at (is_stored span) decode shape type fill value span ≡ Err cause → inner_chunks_at decode shape type fill value (spans_of numbers) ≡ Err cause
  reads_refused cause found = sym (opened (Err cause) found)

none_left : (numbers : List ℕ) → length numbers < 2 → spans_of numbers ≡ []
none_left [] l = refl
none_left (at ∷ []) l = refl
none_left (at ∷ size ∷ numbers) l = absurd (omega (arith, l))

pub reads_end : (decode : Decoder) (shape : List ℕ) (type : ElementType) (fill value numbers : List ℕ) (number : ℕ) (done : List Chunk) → ReadsTo decode shape type fill value numbers number done → number ≡ length numbers / 2
    → inner_chunks_at decode shape type fill value (spans_of numbers) ≡ Ok done
reads_end decode shape type fill value numbers number done so_far end =
    let few : length (drop (number * 2) numbers) < 2 = omega (arith, length-drop (number * 2) numbers, end, div-add-mod' (length numbers) 2, mod_below (length numbers) 2 (omega arith)) in
    sym so_far.rest ∙ ap (λ ss. inner_chunks_at decode shape type fill value ss >>= (λ inner_chunks. ok (done ++ inner_chunks))) (none_left (drop (number * 2) numbers) few) ∙ ap ok (append-nil done)

-- one content more
pub chunks_more : (type : ElementType) (count : ℕ) (contents more : List (CowSlice ℕ Global)) (content : CowSlice ℕ Global) → more ≡ contents ++ content ∷ [] → chunks_in type count more ≡ chunks_in type count contents ++ elements type count (flen (raw_of content)) ∷ []
chunks_more type count contents more content e =
    ap (chunks_in type count) e ∙ map-append (λ (content : CowSlice ℕ Global). elements type count (flen (raw_of content))) contents (content ∷ [])

pub long_more : {A : Type 0} (old more : List A) (one : A) (number : ℕ) → more ≡ old ++ one ∷ [] → length old ≡ number → length more ≡ number + 1
long_more old more one number e h = omega (arith, ap (λ xs. length xs) e, length-append old (one ∷ []), h)

pub whole_more : {A : Type 0} (P : A → Type 0) (old more : List A) (one : A) → more ≡ old ++ one ∷ [] → All P old → P one → All P more
whole_more P old more one e h w = subst (All P) (sym e) (All-append P old (one ∷ []) h (All-cons P one [] w (All-nil P)))

pub halved : (count all : ℕ) → all ≡ count * 2 → all / 2 ≡ count
halved count all e =
    let twice : all ≡ count * 2 + 0 = omega (arith, e) in
    ap (λ n. n / 2) twice ∙ div-mul-add count 2 0 (omega arith)

-- ---- the chunk of them

pub chunk_joined : {V : Type 0} (join : List Chunk → V) (R : Held → V → Type 0) (inner_chunks : Result (List Chunk) CodecError) (all : List Chunk) (result : Result Held CodecError) → inner_chunks ≡ Ok all → GivesBy R result (Ok (join all)) → GivesBy R result (inner_chunks >>= λ cs. Ok (join cs))
chunk_joined join R inner_chunks all result e given = subst (λ (r : Result (List Chunk) CodecError). GivesBy R result (r >>= λ cs. Ok (join cs))) (sym e) given
