-- What `sharding_indexed` answers of a value stands.
use Rattle.std.proofs.Common.{◌≡◌, ℕ, zero, suc, ◌+◌, ◌-◌, ◌*◌, ◌<◌, ◌≤◌, nat_le, Bool, true, false, get_or, List, [], ◌∷◌, length, take, drop, replicate, Ok, arith, refl, ap, sym, subst, ◌∙◌}
use Rattle.std.specs.List.{All, AllZip}
use Rattle.std.proofs.lemmas.List.{length-map, length-drop, length-take-le, take-append-drop, length-replicate}
use Rattle.std.proofs.lemmas.List.Elements.{All-nil, All-cons}
use Rattle.std.proofs.lemmas.List.FromFn.{get_or-map-range_with_len}
use Rattle.zarrs_bytes.proofs.Coding.{demand_ok, bind_ok}
use Rattle.zarrs_bytes.specs.BytesCodec.{IsChunk}
use Rattle.zarrs_chain_meaning.proofs.ArraySteps.{ok_is}
use Rattle.zarrs_chain_meaning.proofs.InnerChunks.{is_cut, joined_long, inner_chunks_again, index_positive}
use Rattle.zarrs_chain_meaning.proofs.NestedRead.{Reads}
use Rattle.zarrs_chain_meaning.proofs.NestedRoom.{HasFill}
use Rattle.zarrs_chain_meaning.proofs.NestedStages.{is_positive}
use Rattle.zarrs_chain_meaning.specs.Meaning.{Measure, Decoder, Standing, Keeping}
use Rattle.zarrs_chain_meaning.specs.sharding.InnerChunks.{grid, inner_chunk_count, inner_chunk_of, place_inside, inner_chunks_of, joined_inner_chunks, IsCut}
use Rattle.zarrs_chain_meaning.specs.sharding.ShardSteps.{inner_chunks_at}
use Rattle.zarrs_chain_meaning.specs.sharding.Sharding.{index_shape, index_size, Span, is_stored, spans_of, shard_representation, shard_layout, index_part_of, spans_in, spanned_bytes, inner_chunk_at, shard_chunk, InnerChunkStands, ShardStands}
use Rattle.zarrs_chain_meaning.specs.vlen.Vlen.{offset_type, offset_bytes, offsets_in_chunk}
use Rattle.zarrs_chunk.proofs.Inside.{from_le_test}
use Rattle.zarrs_chunk.specs.Answer.{demand}
use Rattle.zarrs_chunk.specs.ChunkShape.{product}
use Rattle.zarrs_chunk.specs.declared.codec_error.CodecError.TheVariants.{InvalidBytesLength, InvalidByteRange}
use Rattle.zarrs_codec.specs.declared.bytes_representation.BytesRepresentation.{BytesRepresentation}
use Rattle.zarrs_data_type.proofs.FillLemmas.{fill_element-IsElement}
use Rattle.zarrs_data_type.specs.Element.{absent, Chunk, IsElement, AreElements, fill_element}
use Rattle.zarrs_data_type.specs.ElementType.{ElementType}
use Rattle.zarrs_data_type.specs.FillValue.{fill_fits}
use Rattle.zarrs_chain_meaning.proofs.ShardNormal.{shard_taken, product_two}
use Rattle.zarrs_bytes.specs.PartialWrite.{filled_chunk}

-- ---- a chunk that is answered

-- its steps: the index, and the inner chunks
pub record ChunkOpened (shape : List ℕ) (at_end : Bool) (measure : Measure) (inner index : Decoder) (sizes : List ℕ) (type : ElementType) (fill value : List ℕ) (chunk : Chunk) : Type 0 where
  pub size : ℕ
  pub rows : Chunk
  pub inner_chunks : List Chunk
  pub sized : index_size measure shape sizes ≡ Ok size
  pub enough : nat_le size (length value) ≡ true
  pub found : index (index_shape shape sizes) (offset_type true) (offset_bytes true 0) (index_part_of at_end size value) ≡ Ok rows
  pub read : inner_chunks_at inner shape type fill value (spans_of (offsets_in_chunk true rows)) ≡ Ok inner_chunks
  pub joined : joined_inner_chunks shape sizes inner_chunks ≡ chunk

pub chunk_opened : (shape : List ℕ) (at_end : Bool) (measure : Measure) (inner index : Decoder) (sizes : List ℕ) (type : ElementType) (fill value : List ℕ) (chunk : Chunk)
    → shard_chunk shape at_end measure inner index sizes type fill value ≡ Ok chunk → ChunkOpened shape at_end measure inner index sizes type fill value chunk
chunk_opened shape at_end measure inner index sizes type fill value chunk e =
    let s = bind_ok (spans_in shape at_end measure index sizes value) _ chunk e in
    let a = bind_ok (index_size measure shape sizes) _ s.0 s.1 in
    let b = bind_ok (demand (nat_le a.0 (length value)) (InvalidBytesLength (length value) a.0)) _ s.0 a.2 in
    let c = bind_ok (index (index_shape shape sizes) (offset_type true) (offset_bytes true 0) (index_part_of at_end a.0 value)) _ s.0 b.2 in
    let g = bind_ok (inner_chunks_at inner shape type fill value s.0) _ chunk s.2 in
    let same : spans_of (offsets_in_chunk true c.0) ≡ s.0 = ok_is (spans_of (offsets_in_chunk true c.0)) s.0 c.2 in
    record {
      size = a.0;
      rows = c.0;
      inner_chunks = g.0;
      sized = a.1;
      enough = demand_ok (nat_le a.0 (length value)) (InvalidBytesLength (length value) a.0) b.0 b.1;
      found = c.1;
      read = ap (inner_chunks_at inner shape type fill value) same ∙ g.1;
      joined = ok_is (joined_inner_chunks shape sizes g.0) chunk g.2;
    }

-- ---- what is answered stands

fill_chunk_is : (type : ElementType) (fill : List ℕ) (count : ℕ) → fill_fits type fill ≡ true → AreElements type (replicate count (fill_element type fill))
fill_chunk_is type fill zero h = All-nil (IsElement type)
fill_chunk_is type fill (suc count) h = All-cons (IsElement type) (fill_element type fill) (replicate count (fill_element type fill)) (fill_element-IsElement type fill h) (fill_chunk_is type fill count h)

-- an inner chunk that stands, of elements of the type
abbrev InnerChunkReads : Bool → Standing → List ℕ → ElementType → List ℕ → List ℕ → Span → Chunk → Type 0
InnerChunkReads stored inner shape type fill value span inner_chunk = InnerChunkStands stored inner shape type fill value span inner_chunk × IsChunk type (product shape) inner_chunk

chunk_read : (inner : Standing) (decode : Decoder) → Reads inner decode → (stored : Bool) (shape : List ℕ) (type : ElementType) (fill value : List ℕ) (span : Span) (inner_chunk : Chunk) → All is_positive shape → fill_fits type fill ≡ true
    → inner_chunk_at stored decode shape type fill value span ≡ Ok inner_chunk → InnerChunkReads stored inner shape type fill value span inner_chunk
chunk_read inner decode law false shape type fill value span inner_chunk p h e =
    subst (InnerChunkReads false inner shape type fill value span) (ok_is (filled_chunk shape type fill) inner_chunk e)
    (refl, record { count_is = length-replicate (product shape) (fill_element type fill); each = fill_chunk_is type fill (product shape) h })
chunk_read inner decode law true shape type fill value span inner_chunk p h e =
    let a = bind_ok (demand (nat_le (span.0 + span.1) (length value)) InvalidByteRange) _ inner_chunk e in
    let inside = from_le_test (span.0 + span.1) (length value) (demand_ok (nat_le (span.0 + span.1) (length value)) InvalidByteRange a.0 a.1) in
    let read = law shape type fill (spanned_bytes value span) inner_chunk p a.2 in
    ((inside, read.0), read.1)

record InnerChunksRead (inner : Standing) (shape : List ℕ) (type : ElementType) (fill value : List ℕ) (spans : List Span) (inner_chunks : List Chunk) : Type 0 where
  pub stand : AllZip (λ span inner_chunk. InnerChunkStands (is_stored span) inner shape type fill value span inner_chunk) spans inner_chunks
  pub are : All (IsChunk type (product shape)) inner_chunks
  pub long : length inner_chunks ≡ length spans

chunks_read : (inner : Standing) (decode : Decoder) → Reads inner decode → (shape : List ℕ) (type : ElementType) (fill value : List ℕ) (spans : List Span) (inner_chunks : List Chunk) → All is_positive shape → fill_fits type fill ≡ true
    → inner_chunks_at decode shape type fill value spans ≡ Ok inner_chunks → InnerChunksRead inner shape type fill value spans inner_chunks
chunks_read inner decode law shape type fill value [] inner_chunks p h e =
    subst (InnerChunksRead inner shape type fill value []) (ok_is [] inner_chunks e) (record { stand = tt; are = All-nil (IsChunk type (product shape)); long = refl })
chunks_read inner decode law shape type fill value (span ∷ spans) inner_chunks p h e =
    let a = bind_ok (inner_chunk_at (is_stored span) decode shape type fill value span) _ inner_chunks e in
    let b = bind_ok (inner_chunks_at decode shape type fill value spans) _ inner_chunks a.2 in
    let first = chunk_read inner decode law (is_stored span) shape type fill value span a.0 p h a.1 in
    let rest = chunks_read inner decode law shape type fill value spans b.0 p h b.1 in
    subst (InnerChunksRead inner shape type fill value (span ∷ spans)) (ok_is (a.0 ∷ b.0) inner_chunks b.2)
    (record { stand = (first.0, rest.stand); are = All-cons (IsChunk type (product shape)) a.0 b.0 first.1 rest.are; long = ap suc rest.long })

pub spans_long : (count : ℕ) (numbers : List ℕ) → length numbers ≡ count * 2 → length (spans_of numbers) ≡ count
spans_long zero [] e = refl
spans_long zero (at ∷ numbers) e = absurd (omega (arith, e))
spans_long (suc count) [] e = absurd (omega (arith, e))
spans_long (suc count) (at ∷ []) e = absurd (omega (arith, e))
spans_long (suc count) (at ∷ size ∷ numbers) e = ap suc (spans_long count numbers (omega (arith, e)))

index_cut : (at_end : Bool) (size : ℕ) (value : List ℕ) → size ≤ length value → (others : List ℕ) × (value ≡ shard_layout at_end (index_part_of at_end size value) others) × (length (index_part_of at_end size value) ≡ size)
index_cut false size value l = (drop size value, sym (take-append-drop size value), length-take-le size value l)
index_cut true size value l = (take (length value - size) value, sym (take-append-drop (length value - size) value), omega (arith, length-drop (length value - size) value, l))

joined_are : (shape sizes : List ℕ) (type : ElementType) (inner_chunks : List Chunk) → IsCut shape sizes → length inner_chunks ≡ inner_chunk_count shape sizes → All (IsChunk type (product shape)) inner_chunks → IsChunk type (product sizes) (joined_inner_chunks shape sizes inner_chunks)
joined_are shape sizes type inner_chunks cut long are = record {
  count_is = joined_long shape sizes inner_chunks;
  each = λ place d l.
      let p : place < product sizes = omega (arith, l, joined_long shape sizes inner_chunks) in
      let b : inner_chunk_of shape sizes place < length inner_chunks = let x = cut.chunk_below place p in omega (arith, x, long) in
      let inner_chunk = are (inner_chunk_of shape sizes place) [] b in
      let inside : place_inside shape sizes place < length (get_or inner_chunks (inner_chunk_of shape sizes place) []) = let x = cut.inside_below place p in omega (arith, x, inner_chunk.count_is) in
      subst (IsElement type) (sym (get_or-map-range_with_len (λ at. get_or (get_or inner_chunks (inner_chunk_of shape sizes at) []) (place_inside shape sizes at) absent) 0 (product sizes) place place d p (omega arith))) (inner_chunk.each (place_inside shape sizes place) absent inside);
}

pub shard_reads : (shape : List ℕ) (at_end : Bool) (keep : Keeping) (im measure : Measure) (inner index : Standing) (decode index_decode : Decoder) → All is_positive shape → HasFill im → Reads inner decode → Reads index index_decode
    → (sizes : List ℕ) (type : ElementType) (fill value : List ℕ) (chunk : Chunk) (r : BytesRepresentation) → All is_positive sizes → shard_representation shape keep im measure sizes type fill ≡ Ok r
    → shard_chunk shape at_end measure decode index_decode sizes type fill value ≡ Ok chunk → ShardStands shape at_end measure inner index sizes type fill value chunk × IsChunk type (product sizes) chunk
shard_reads shape at_end keep im measure inner index decode index_decode p fills i d sizes type fill value chunk r positive t e =
    let taken = shard_taken shape keep im measure sizes type fill r t in
    let cut = is_cut shape sizes p taken.divided in
    let h = fills shape type fill taken.inner_size taken.inner_is in
    let o = chunk_opened shape at_end measure decode index_decode sizes type fill value chunk e in
    let part = index_part_of at_end o.size value in
    let numbers = offsets_in_chunk true o.rows in
    let split = index_cut at_end o.size value (from_le_test o.size (length value) o.enough) in
    let rows = d (index_shape shape sizes) (offset_type true) (offset_bytes true 0) part o.rows (index_positive shape sizes positive cut) o.found in
    let read = chunks_read inner decode i shape type fill value (spans_of numbers) o.inner_chunks p h o.read in
    let twice : length numbers ≡ inner_chunk_count shape sizes * 2 = length-map o.rows _ ∙ rows.1.count_is ∙ product_two (grid shape sizes) in
    let count : length o.inner_chunks ≡ inner_chunk_count shape sizes = read.long ∙ spans_long (inner_chunk_count shape sizes) numbers twice in
    let is : IsChunk type (product sizes) chunk = subst (IsChunk type (product sizes)) o.joined (joined_are shape sizes type o.inner_chunks cut count read.are) in
    let again : inner_chunks_of shape sizes chunk ≡ o.inner_chunks = ap (inner_chunks_of shape sizes) (sym o.joined) ∙ inner_chunks_again shape sizes o.inner_chunks cut count (λ k l. (read.are k [] l).count_is) in (
      record {
        divided = taken.divided;
        size = o.size;
        index_part = part;
        others = split.0;
        rows = o.rows;
        sized = o.sized;
        parts = split.1;
        index_long = split.2;
        index_stands = rows.0;
        elements = is;
        inner_chunks = subst (AllZip (λ span inner_chunk. InnerChunkStands (is_stored span) inner shape type fill value span inner_chunk) (spans_of numbers)) (sym again) read.stand;
      },
      is,
    )
