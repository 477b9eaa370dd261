-- What the code reads of one inner chunk, and of all of a shard.
use Rattle.std.proofs.Common.{◌≡◌, ℕ, ◌+◌, ◌*◌, nat_le, Bool, true, false, List, length, replicate, Result, Ok, Err, refl, ap, sym, ◌∙◌}
use Rattle.std.specs.List.{All}
use Rattle.std.specs.Prelude.{IsOkAnd}
use Rattle.zarrs_chunk.specs.Answer.{◌>>=◌, demand, seen}
use Rattle.zarrs_chunk.specs.ChunkShape.{product}
use Rattle.zarrs_chunk.specs.declared.codec_error.CodecError.{CodecError}
use Rattle.zarrs_chunk.specs.declared.codec_error.CodecError.TheVariants.{InvalidByteRange, InvalidBytesLength}
use Rattle.zarrs_data_type.specs.Element.{Chunk, fill_element}
use Rattle.zarrs_data_type.specs.ElementType.{ElementType, fixed, text, bytes, optional, element_size}
use Rattle.zarrs_array_bytes.specs.Chunks.{update_at_places}
use Rattle.zarrs_array_bytes.specs.Elements.{elements}
use Rattle.zarrs_array_bytes.specs.Held.{Held, flen, vlen, masked}
use Rattle.zarrs_array_bytes.specs.Update.{update}
use Rattle.zarrs_array_bytes.specs.Validity.{Holds, data_fit, data_mismatch, length_is, levels_fit, sizes_fit, validity}
use Rattle.zarrs_array_bytes.proofs.ValidLemmas.{both_ok, then_ok, length_found, length_due}
use Rattle.zarrs_bytes.proofs.Coding.{ok}
use Rattle.zarrs_codec.specs.BytesToBytesCodec.{BytesCodecs}
use Rattle.zarrs_chain_meaning.specs.CodecMeaning.{PlainChain, chain_representation, chain_chunk}
use Rattle.zarrs_chain_meaning.specs.Meaning.{Decoder}
use Rattle.zarrs_chain_meaning.specs.sharding.InnerChunks.{inner_chunk_count, inner_chunk_places, is_divided, joined_inner_chunks}
use Rattle.zarrs_chain_meaning.specs.sharding.Sharding.{Span, spanned_bytes, index_part_of, index_shape, index_size, inner_chunk_at, shard_chunk, spans_of}
use Rattle.zarrs_chain_meaning.specs.sharding.ShardSteps.{index_bytes, stored_span, inner_chunks_at}
use Rattle.zarrs_chain_meaning.specs.vlen.Vlen.{offset_bytes, offset_type, offsets_in_chunk}
use Rattle.zarrs_chain_meaning.proofs.ArraySteps.{ok_is}
use Rattle.zarrs_chain_meaning.proofs.ChainSteps.{held_chunk}
use Rattle.zarrs_chain_meaning.proofs.InnerChunks.{is_cut, places_long}
use Rattle.zarrs_chain_meaning.proofs.NestedStages.{is_positive}
use Rattle.zarrs_chain_meaning.proofs.OptionalSteps.{chunk_long}
use Rattle.zarrs_chain_meaning.proofs.ShardReads.{spans_long}
use Rattle.zarrs_chain.specs.sharding.ShardWalk.{chunk_behind, chunk_with}
use Rattle.zarrs_chain.proofs.ShardDecode.{AnswersLong, all_read}

-- ---- an inner chunk is replaced

new_fits : (type : ElementType) (count : ℕ) (held : Held) → levels_fit InvalidBytesLength type count held ≡ Ok tt → levels_fit data_mismatch type count held ≡ Ok tt
new_fits (fixed width components sign) count (flen raw) e = length_due data_mismatch (length raw.items) (count * element_size width components) (length_found InvalidBytesLength (length raw.items) (count * element_size width components) e)
new_fits text count (vlen raw offsets) e = length_due data_mismatch (length offsets) (count + 1) (length_found InvalidBytesLength (length offsets) (count + 1) e)
new_fits bytes count (vlen raw offsets) e = length_due data_mismatch (length offsets) (count + 1) (length_found InvalidBytesLength (length offsets) (count + 1) e)
new_fits (optional type) count (masked inner mask) e =
    let parts = both_ok (length_is InvalidBytesLength (length mask.items) count) (levels_fit InvalidBytesLength type count inner) e in
    then_ok (length_is data_mismatch (length mask.items) count) (levels_fit data_mismatch type count inner) (length_due data_mismatch (length mask.items) count (length_found InvalidBytesLength (length mask.items) count parts.0)) (new_fits type count inner parts.1)
new_fits _ count held e = absurd cc

-- new elements, one for each place, are written
pub written_at : (type : ElementType) (count : ℕ) (places : List ℕ) (held new : Held) → validity type count held ≡ Ok tt → validity type (length places) new ≡ Ok tt
    → update_at_places type count places held new ≡ Ok (update (elements type count held) places (elements type (length places) new))
written_at type count places held new valid new_valid =
    asked (new_fits type (length places) new (both_ok (sizes_fit type (length places)) (levels_fit InvalidBytesLength type (length places) new) new_valid).1)
  where
    asked : data_fit type (length places) new ≡ Ok tt → update_at_places type count places held new ≡ Ok (update (elements type count held) places (elements type (length places) new))
    asked fits = rw (valid, fits) refl

pub inner_updated : (type : ElementType) (shape sizes places : List ℕ) (number count : ℕ) (held content : Held) → count ≡ product sizes → places ≡ inner_chunk_places shape sizes number → validity type (product sizes) held ≡ Ok tt → validity type (product shape) content ≡ Ok tt
    → update_at_places type count places held content ≡ Ok (update (elements type (product sizes) held) (inner_chunk_places shape sizes number) (elements type (product shape) content))
inner_updated type shape sizes places number count held content n p valid new =
    let long : length places ≡ product shape = ap length p ∙ places_long shape sizes number in
    written_at type count places held content (ap (λ k. validity type k held) n ∙ valid) (ap (λ k. validity type k content) long ∙ new)
    ∙ ap ok (λ i. update (elements type (n i) held) (p i) (elements type (long i) content))

-- ---- one inner chunk

span_inside : (value : List ℕ) (at size : ℕ) (part : List ℕ) (test : Bool) → nat_le (at + size) (length value) ≡ test → stored_span value at size ≡ Ok part → (test ≡ true) × (part ≡ spanned_bytes value (at, size))
span_inside value at size part true e h = (refl, sym (ok_is (spanned_bytes value (at, size)) part (ap (λ b. demand b InvalidByteRange >>= λ _. ok (spanned_bytes value (at, size))) (sym e) ∙ h)))
span_inside value at size part false e h = absurd (no_part (ap (λ b. demand b InvalidByteRange >>= λ _. ok (spanned_bytes value (at, size))) (sym e) ∙ h))
  where
    no_part : ◌≡◌ {A = Result (List ℕ) CodecError} (Err InvalidByteRange) (Ok part) → ⊥
    no_part h = cc

-- what a decoder answered of the bytes at a span
pub inner_read : {B : Type 0} (f : BytesCodecs B) (chain : PlainChain B) (shape : List ℕ) (type : ElementType) (fill value part : List ℕ) (span : Span) (content : Held) → stored_span value span.0 span.1 ≡ Ok part
    → IsOkAnd (chain_chunk f chain shape type fill part) (Holds type content)
    → (inner_chunk_at true (chain_chunk f chain) shape type fill value span ≡ Ok (elements type (product shape) content)) × (validity type (product shape) content ≡ Ok tt)
inner_read f chain shape type fill value part span content s h =
    let c = held_chunk type content (chain_chunk f chain shape type fill part) h in
    let long = chunk_long f chain shape type fill part c.0 c.1 in
    let inside = span_inside value span.0 span.1 part (nat_le (span.0 + span.1) (length value)) refl s in
    let found : chain_chunk f chain shape type fill (spanned_bytes value span) ≡ Ok c.0 = ap (chain_chunk f chain shape type fill) (sym inside.1) ∙ c.1 in
    let items : c.0 ≡ elements type (product shape) content = sym c.2.elements_are ∙ ap (λ n. elements type n content) long in (
      (λ i. demand (inside.0 i) InvalidByteRange >>= λ _. chain_chunk f chain shape type fill (spanned_bytes value span)) ∙ found ∙ ap ok items,
      ap (λ n. validity type n content) (sym long) ∙ c.2.valid,
    )

pub chunk_replaced : (decode : Decoder) (shape sizes : List ℕ) (type : ElementType) (fill value : List ℕ) (number : ℕ) (span : Span) (chunk inner_chunk : Chunk) → inner_chunk_at true decode shape type fill value span ≡ Ok inner_chunk
    → chunk_with decode shape sizes type fill value number true span chunk ≡ Ok (update chunk (inner_chunk_places shape sizes number) inner_chunk)
chunk_replaced decode shape sizes type fill value number span chunk inner_chunk e = ap (λ r. r >>= λ c. ok (update chunk (inner_chunk_places shape sizes number) c)) e

-- ---- all of them

pub answers_long : {B : Type 0} (f : BytesCodecs B) (chain : PlainChain B) (shape : List ℕ) (type : ElementType) (fill : List ℕ) → AnswersLong (chain_chunk f chain) shape type fill
answers_long f chain shape type fill = λ value chunk e. chunk_long f chain shape type fill value chunk e

-- the walk over the numbers of an index
pub walk_is : {B : Type 0} (f : BytesCodecs B) (chain : PlainChain B) (shape sizes : List ℕ) (type : ElementType) (fill value numbers : List ℕ) → All is_positive shape → is_divided shape sizes ≡ true → length numbers ≡ inner_chunk_count shape sizes * 2
    → chunk_behind (chain_chunk f chain) shape sizes type fill value 0 (spans_of numbers) (replicate (product sizes) (fill_element type fill))
    ≡ inner_chunks_at (chain_chunk f chain) shape type fill value (spans_of numbers) >>= (λ inner_chunks. ok (joined_inner_chunks shape sizes inner_chunks))
walk_is f chain shape sizes type fill value numbers p d long =
    all_read (chain_chunk f chain) shape sizes type fill value (spans_of numbers) (is_cut shape sizes p d) (answers_long f chain shape type fill) (spans_long (inner_chunk_count shape sizes) numbers long)

-- the chunk of a value, by the parts that the code found
pub shard_read : {B : Type 0} (f : BytesCodecs B) (inner index : PlainChain B) (shape : List ℕ) (at_end : Bool) (sizes : List ℕ) (type : ElementType) (fill value part numbers : List ℕ) (size : ℕ)
    → index_size (chain_representation f index) shape sizes ≡ Ok size → index_bytes value size at_end ≡ Ok part
    → seen (offsets_in_chunk true) (chain_chunk f index (index_shape shape sizes) (offset_type true) (offset_bytes true 0) part) ≡ Ok numbers
    → shard_chunk shape at_end (chain_representation f index) (chain_chunk f inner) (chain_chunk f index) sizes type fill value
    ≡ inner_chunks_at (chain_chunk f inner) shape type fill value (spans_of numbers) >>= (λ inner_chunks. ok (joined_inner_chunks shape sizes inner_chunks))
shard_read f inner index shape at_end sizes type fill value part numbers size sized there found =
    ap (λ r. r >>= rest >>= tail) sized ∙ by_size (nat_le size (length value)) there
  where
    tail : List Span → Result Chunk CodecError
    tail spans = inner_chunks_at (chain_chunk f inner) shape type fill value spans >>= (λ inner_chunks. ok (joined_inner_chunks shape sizes inner_chunks))

    spans_at : Result Chunk CodecError → Result (List Span) CodecError
    spans_at r = r >>= λ rows. ok (spans_of (offsets_in_chunk true rows))

    read : List ℕ → Result (List Span) CodecError
    read part = spans_at (chain_chunk f index (index_shape shape sizes) (offset_type true) (offset_bytes true 0) part)

    rest : ℕ → Result (List Span) CodecError
    rest size = demand (nat_le size (length value)) (InvalidBytesLength (length value) size) >>= λ _. read (index_part_of at_end size value)

    seen_then : (r : Result Chunk CodecError) → seen (offsets_in_chunk true) r ≡ Ok numbers → spans_at r >>= tail ≡ tail (spans_of numbers)
    seen_then (Ok rows) e = ap (λ (ns : List ℕ). tail (spans_of ns)) (ok_is (offsets_in_chunk true rows) numbers e)
    seen_then (Err cause) e = absurd cc

    by_size : (test : Bool) → demand test (InvalidBytesLength (length value) size) >>= (λ _. ok (index_part_of at_end size value)) ≡ Ok part
        → demand test (InvalidBytesLength (length value) size) >>= (λ _. read (index_part_of at_end size value)) >>= tail ≡ tail (spans_of numbers)
    by_size true e = ap (λ (p : List ℕ). read p >>= tail) (ok_is (index_part_of at_end size value) part e) ∙ seen_then (chain_chunk f index (index_shape shape sizes) (offset_type true) (offset_bytes true 0) part) found
    by_size false e = absurd cc
