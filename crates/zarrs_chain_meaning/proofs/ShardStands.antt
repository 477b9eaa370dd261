-- A value of `sharding_indexed` stands for one chunk, and for a chunk one value is written, which stands for the normal form.
use Rattle.std.proofs.Common.{◌≡◌, ℕ, ◌+◌, ◌-◌, ◌<◌, ◌≤◌, ◌^◌, nat_eq, nat_lt, nat_le, not, ◌&&◌, Bool, true, false, Option, Some, None, List, [], ◌∷◌, ◌++◌, length, take, drop, map, replicate, Ok, arith, refl, ap, sym, subst, ◌∙◌}
use Rattle.std.specs.List.{All, list_all, AllZip}
use Rattle.std.proofs.lemmas.Bool.{eqb-true, eq-eqb}
use Rattle.std.proofs.lemmas.List.{append_assoc, length-append, take_at, drop_at}
use Rattle.std.proofs.lemmas.List.Elements.{All-head, All-tail}
use Rattle.zarrs_array_bytes.specs.SameBytesLaws.{same_numbers}
use Rattle.zarrs_bytes.proofs.Coding.{bind_ok, ok}
use Rattle.zarrs_bytes.specs.BytesCodec.{IsChunk}
use Rattle.zarrs_chain_meaning.proofs.ArraySteps.{ok_is}
use Rattle.zarrs_chain_meaning.proofs.InnerChunks.{is_cut, joined_again, index_positive, inner_chunks_are, inner_chunks_have, inner_chunks_kept}
use Rattle.zarrs_chain_meaning.proofs.NestedDecode.{Decodes}
use Rattle.zarrs_chain_meaning.proofs.NestedEncode.{Encodes, memory_so, same_bytes}
use Rattle.zarrs_chain_meaning.proofs.NestedKept.{WritesMeasured, offsets_have}
use Rattle.zarrs_chain_meaning.proofs.NestedNormal.{KeepsTypes, KeepsAbsent, kept_elements}
use Rattle.zarrs_chain_meaning.proofs.NestedRows.{offset_again}
use Rattle.zarrs_vlen_v2.proofs.Rows.{front_same}
use Rattle.zarrs_chain_meaning.proofs.NestedStands.{StandsOnce, back_same}
use Rattle.zarrs_chain_meaning.proofs.NestedWritten.{WritesOnce}
use Rattle.zarrs_chain_meaning.proofs.NestedWrittenStands.{StandsKept}
use Rattle.zarrs_chain_meaning.specs.BytesStages.{in_memory}
use Rattle.zarrs_chain_meaning.proofs.NestedStages.{is_positive}
use Rattle.zarrs_chain_meaning.specs.Meaning.{Measure, Encoder, Decoder, Standing, Keeping}
use Rattle.zarrs_chain_meaning.specs.sharding.InnerChunks.{inner_chunks_of, joined_inner_chunks}
use Rattle.zarrs_chain_meaning.specs.sharding.ShardSteps.{inner_value, inner_chunks_at}
use Rattle.zarrs_chain_meaning.specs.sharding.Sharding.{index_shape, fixed_size, index_size, missing, Span, is_stored, spans_of, is_same_element, is_kept_as_fill, is_left_out, joined_values, index_numbers, first_offset, shard_layout, shard_value, index_part_of, spanned_bytes, inner_chunk_at, shard_chunk, InnerChunkStands, ShardStands, InnerChunkWritten, ShardWritten}
use Rattle.zarrs_chain_meaning.specs.vlen.Vlen.{offset_type, offset_bytes, offset_of, offset_elements, offsets_in_chunk, is_same_bytes}
use Rattle.zarrs_chunk.proofs.Inside.{le_test, lt_test}
use Rattle.zarrs_chunk.specs.ChunkShape.{product}
use Rattle.zarrs_codec.proofs.Fences.{second_true, first_true}
use Rattle.zarrs_codec.specs.BytesToBytesCodec.{KeepsTo}
use Rattle.zarrs_codec.specs.declared.bytes_representation.BytesRepresentation.{BytesRepresentation}
use Rattle.zarrs_codec.specs.declared.bytes_representation.BytesRepresentation.TheVariants.{FixedSize, BoundedSize, UnboundedSize}
use Rattle.zarrs_data_type.specs.Element.{Element, plain, absent, present, Chunk, fill_element}
use Rattle.zarrs_data_type.specs.ElementType.{ElementType}
use Rattle.zarrs_packbits.specs.Laws.{HasBytes}
use Rattle.zarrs_bytes.specs.PartialWrite.{filled_chunk}
use Rattle.zarrs_chain_meaning.specs.Parts.{for_each}

-- ---- a value stands for one chunk

chunk_once : (inner : Standing) → StandsOnce inner → (stored : Bool) (shape : List ℕ) (type : ElementType) (fill value : List ℕ) (span : Span) (inner_chunk other : Chunk) → All is_positive shape
    → InnerChunkStands stored inner shape type fill value span inner_chunk → InnerChunkStands stored inner shape type fill value span other → inner_chunk ≡ other
chunk_once inner law false shape type fill value span inner_chunk other p a b = a ∙ sym b
chunk_once inner law true shape type fill value span inner_chunk other p a b = law shape type fill (spanned_bytes value span) inner_chunk other p a.1 b.1

chunks_once : (inner : Standing) → StandsOnce inner → (shape : List ℕ) (type : ElementType) (fill value : List ℕ) (spans : List Span) (inner_chunks others : List Chunk) → All is_positive shape
    → AllZip (λ span inner_chunk. InnerChunkStands (is_stored span) inner shape type fill value span inner_chunk) spans inner_chunks → AllZip (λ span inner_chunk. InnerChunkStands (is_stored span) inner shape type fill value span inner_chunk) spans others → inner_chunks ≡ others
chunks_once inner law shape type fill value [] [] [] p a b = refl
chunks_once inner law shape type fill value [] [] (other ∷ others) p a b = absurd b
chunks_once inner law shape type fill value [] (inner_chunk ∷ inner_chunks) others p a b = absurd a
chunks_once inner law shape type fill value (span ∷ spans) [] others p a b = absurd a
chunks_once inner law shape type fill value (span ∷ spans) (inner_chunk ∷ inner_chunks) [] p a b = absurd b
chunks_once inner law shape type fill value (span ∷ spans) (inner_chunk ∷ inner_chunks) (other ∷ others) p a b =
    let first = chunk_once inner law (is_stored span) shape type fill value span inner_chunk other p a.0 b.0 in
    let rest = chunks_once inner law shape type fill value spans inner_chunks others p a.1 b.1 in
    λ i. first i ∷ rest i

layout_once : (at_end : Bool) (index others index' others' : List ℕ) → length index ≡ length index' → shard_layout at_end index others ≡ shard_layout at_end index' others' → index ≡ index'
layout_once false index others index' others' l e = (front_same index others index' others' l e).0
layout_once true index others index' others' l e = (back_same others index others' index' l e).1

pub shard_once : (shape : List ℕ) (at_end : Bool) (measure : Measure) (inner index : Standing) → All is_positive shape → StandsOnce inner → StandsOnce index → StandsOnce (ShardStands shape at_end measure inner index)
shard_once shape at_end measure inner index p i d sizes type fill value chunk other positive a b =
    let size : a.size ≡ b.size = ok_is a.size b.size (sym a.sized ∙ b.sized) in
    let part : a.index_part ≡ b.index_part = layout_once at_end a.index_part a.others b.index_part b.others (a.index_long ∙ size ∙ sym b.index_long) (sym a.parts ∙ b.parts) in
    let rows : a.rows ≡ b.rows =
    d (index_shape shape sizes) (offset_type true) (offset_bytes true 0) a.index_part a.rows b.rows (index_positive shape sizes positive (is_cut shape sizes p a.divided)) a.index_stands
    (subst (λ (x : List ℕ). index (index_shape shape sizes) (offset_type true) (offset_bytes true 0) x b.rows) (sym part) b.index_stands) in
    let inner_chunks : inner_chunks_of shape sizes chunk ≡ inner_chunks_of shape sizes other =
    chunks_once inner i shape type fill value (spans_of (offsets_in_chunk true a.rows)) (inner_chunks_of shape sizes chunk) (inner_chunks_of shape sizes other) p a.inner_chunks
    (subst (λ (x : Chunk). AllZip (λ span inner_chunk. InnerChunkStands (is_stored span) inner shape type fill value span inner_chunk) (spans_of (offsets_in_chunk true x)) (inner_chunks_of shape sizes other)) (sym rows) b.inner_chunks) in
    sym (joined_again shape sizes chunk (is_cut shape sizes p a.divided) a.elements.count_is) ∙ ap (joined_inner_chunks shape sizes) inner_chunks ∙ joined_again shape sizes other (is_cut shape sizes p b.divided) b.elements.count_is

-- ---- for a chunk one value is written

chunk_written_once : (inner : Standing) → WritesOnce inner → (left_out : Bool) (shape : List ℕ) (type : ElementType) (fill : List ℕ) (inner_chunk : Chunk) (part other : Option (List ℕ))
    → InnerChunkWritten left_out inner shape type fill inner_chunk part → InnerChunkWritten left_out inner shape type fill inner_chunk other → part ≡ other
chunk_written_once inner law true shape type fill inner_chunk None None a b = refl
chunk_written_once inner law true shape type fill inner_chunk None (Some other) a b = absurd b
chunk_written_once inner law true shape type fill inner_chunk (Some part) other a b = absurd a
chunk_written_once inner law false shape type fill inner_chunk None other a b = absurd a
chunk_written_once inner law false shape type fill inner_chunk (Some part) None a b = absurd b
chunk_written_once inner law false shape type fill inner_chunk (Some part) (Some other) a b = ap (λ (x : List ℕ). Some x) (law shape type fill part other inner_chunk a b)

chunks_written_once : (keep : Keeping) (inner : Standing) → WritesOnce inner → (shape : List ℕ) (type : ElementType) (fill : List ℕ) (inner_chunks : List Chunk) (parts others : List (Option (List ℕ)))
    → AllZip (λ inner_chunk part. InnerChunkWritten (is_left_out keep type fill inner_chunk) inner shape type fill inner_chunk part) inner_chunks parts → AllZip (λ inner_chunk part. InnerChunkWritten (is_left_out keep type fill inner_chunk) inner shape type fill inner_chunk part) inner_chunks others → parts ≡ others
chunks_written_once keep inner law shape type fill [] [] [] a b = refl
chunks_written_once keep inner law shape type fill [] [] (other ∷ others) a b = absurd b
chunks_written_once keep inner law shape type fill [] (part ∷ parts) others a b = absurd a
chunks_written_once keep inner law shape type fill (inner_chunk ∷ inner_chunks) [] others a b = absurd a
chunks_written_once keep inner law shape type fill (inner_chunk ∷ inner_chunks) (part ∷ parts) [] a b = absurd b
chunks_written_once keep inner law shape type fill (inner_chunk ∷ inner_chunks) (part ∷ parts) (other ∷ others) a b =
    let first = chunk_written_once inner law (is_left_out keep type fill inner_chunk) shape type fill inner_chunk part other a.0 b.0 in
    let rest = chunks_written_once keep inner law shape type fill inner_chunks parts others a.1 b.1 in
    λ i. first i ∷ rest i

pub shard_written_once : (shape : List ℕ) (at_end : Bool) (keep index_keep : Keeping) (measure : Measure) (inner index : Standing) → WritesOnce inner → WritesOnce index
    → WritesOnce (ShardWritten shape at_end keep index_keep measure inner index)
shard_written_once shape at_end keep index_keep measure inner index i d sizes type fill value other chunk a b =
    let size : a.size ≡ b.size = ok_is a.size b.size (sym a.sized ∙ b.sized) in
    let values : a.values ≡ b.values = chunks_written_once keep inner i shape type fill (inner_chunks_of shape sizes chunk) a.values b.values a.inner_chunks b.inner_chunks in
    let rows : List ℕ → Chunk → Type 0 = λ part rows. index (index_shape shape sizes) (offset_type true) (offset_bytes true 0) part rows in
    let second : rows b.index_part (offset_elements true (index_numbers (first_offset at_end a.size) a.values)) =
    subst (λ (x : List (Option (List ℕ))). rows b.index_part (offset_elements true (index_numbers (first_offset at_end a.size) x))) (sym values)
    (subst (λ (n : ℕ). rows b.index_part (offset_elements true (index_numbers (first_offset at_end n) b.values))) (sym size) b.index_written) in
    let part : a.index_part ≡ b.index_part = d (index_shape shape sizes) (offset_type true) (offset_bytes true 0) a.index_part b.index_part (offset_elements true (index_numbers (first_offset at_end a.size) a.values)) a.index_written second in
    a.parts ∙ (λ k. shard_layout at_end (part k) (joined_values (values k))) ∙ sym b.parts

-- ---- what is written is answered

chunk_only : (inner : Standing) (encode : Encoder) → Encodes inner encode → (left_out : Bool) (shape : List ℕ) (type : ElementType) (fill : List ℕ) (inner_chunk : Chunk) (part : Option (List ℕ))
    → InnerChunkWritten left_out inner shape type fill inner_chunk part → inner_value left_out (encode shape type fill inner_chunk) ≡ Ok part
chunk_only inner encode law true shape type fill inner_chunk None w = refl
chunk_only inner encode law true shape type fill inner_chunk (Some part) w = absurd w
chunk_only inner encode law false shape type fill inner_chunk None w = absurd w
chunk_only inner encode law false shape type fill inner_chunk (Some part) w = rw (law shape type fill part inner_chunk w) refl

chunks_only : (keep : Keeping) (inner : Standing) (encode : Encoder) → Encodes inner encode → (shape : List ℕ) (type : ElementType) (fill : List ℕ) (inner_chunks : List Chunk) (parts : List (Option (List ℕ)))
    → AllZip (λ inner_chunk part. InnerChunkWritten (is_left_out keep type fill inner_chunk) inner shape type fill inner_chunk part) inner_chunks parts → for_each (λ inner_chunk. inner_value (is_left_out keep type fill inner_chunk) (encode shape type fill inner_chunk)) inner_chunks ≡ Ok parts
chunks_only keep inner encode law shape type fill [] [] w = refl
chunks_only keep inner encode law shape type fill [] (part ∷ parts) w = absurd w
chunks_only keep inner encode law shape type fill (inner_chunk ∷ inner_chunks) [] w = absurd w
chunks_only keep inner encode law shape type fill (inner_chunk ∷ inner_chunks) (part ∷ parts) w =
    rw (chunk_only inner encode law (is_left_out keep type fill inner_chunk) shape type fill inner_chunk part w.0, chunks_only keep inner encode law shape type fill inner_chunks parts w.1) refl

value_steps : (shape : List ℕ) (at_end : Bool) (keep index_keep : Keeping) (measure : Measure) (inner index : Encoder) (sizes : List ℕ) (type : ElementType) (fill : List ℕ) (chunk : Chunk) (size : ℕ) (parts : List (Option (List ℕ))) (part : List ℕ)
    → index_size measure shape sizes ≡ Ok size → for_each (λ inner_chunk. inner_value (is_left_out keep type fill inner_chunk) (inner shape type fill inner_chunk)) (inner_chunks_of shape sizes chunk) ≡ Ok parts → nat_lt (first_offset at_end size + length (joined_values parts)) (2 ^ 64) ≡ true
    → index (index_shape shape sizes) (offset_type true) (offset_bytes true 0) (offset_elements true (index_numbers (first_offset at_end size) parts)) ≡ Ok part
    → is_same_bytes (map (index_keep (offset_type true)) (offset_elements true (index_numbers (first_offset at_end size) parts))) (offset_elements true (index_numbers (first_offset at_end size) parts)) ≡ true
    → shard_value shape at_end keep index_keep measure inner index sizes type fill chunk ≡ in_memory (shard_layout at_end part (joined_values parts))
value_steps shape at_end keep index_keep measure inner index sizes type fill chunk size parts part a b c d e = rw (a, b, c, d, e) refl

pub shard_encodes : (shape : List ℕ) (at_end : Bool) (keep index_keep : Keeping) (measure : Measure) (inner index : Standing) (encode index_encode : Encoder) → Encodes inner encode → Encodes index index_encode
    → Encodes (ShardWritten shape at_end keep index_keep measure inner index) (shard_value shape at_end keep index_keep measure encode index_encode)
shard_encodes shape at_end keep index_keep measure inner index encode index_encode i d sizes type fill value chunk w =
    let rows = offset_elements true (index_numbers (first_offset at_end w.size) w.values) in
    value_steps shape at_end keep index_keep measure encode index_encode sizes type fill chunk w.size w.values w.index_part w.sized
    (chunks_only keep inner encode i shape type fill (inner_chunks_of shape sizes chunk) w.values w.inner_chunks)
    (lt_test (first_offset at_end w.size + length (joined_values w.values)) (2 ^ 64) w.counted)
    (d (index_shape shape sizes) (offset_type true) (offset_bytes true 0) w.index_part rows w.index_written)
    (ap (λ (c : Chunk). is_same_bytes c rows) w.kept ∙ same_bytes rows)
    ∙ memory_so (shard_layout at_end w.index_part (joined_values w.values)) (subst (λ (x : List ℕ). length x < 2 ^ 64) w.parts w.small) ∙ ap ok (sym w.parts)

-- ---- what stands is answered

chunk_found : (inner : Standing) (decode : Decoder) → Decodes inner decode → (stored : Bool) (shape : List ℕ) (type : ElementType) (fill value : List ℕ) (span : Span) (inner_chunk : Chunk) → All is_positive shape
    → InnerChunkStands stored inner shape type fill value span inner_chunk → inner_chunk_at stored decode shape type fill value span ≡ Ok inner_chunk
chunk_found inner decode law false shape type fill value span inner_chunk p s = ap (λ (c : Chunk). ok c) (sym s)
chunk_found inner decode law true shape type fill value span inner_chunk p s = rw (le_test (span.0 + span.1) (length value) s.0) (law shape type fill (spanned_bytes value span) inner_chunk p s.1)

chunks_found : (inner : Standing) (decode : Decoder) → Decodes inner decode → (shape : List ℕ) (type : ElementType) (fill value : List ℕ) (spans : List Span) (inner_chunks : List Chunk) → All is_positive shape
    → AllZip (λ span inner_chunk. InnerChunkStands (is_stored span) inner shape type fill value span inner_chunk) spans inner_chunks → inner_chunks_at decode shape type fill value spans ≡ Ok inner_chunks
chunks_found inner decode law shape type fill value [] [] p s = refl
chunks_found inner decode law shape type fill value [] (inner_chunk ∷ inner_chunks) p s = absurd s
chunks_found inner decode law shape type fill value (span ∷ spans) [] p s = absurd s
chunks_found inner decode law shape type fill value (span ∷ spans) (inner_chunk ∷ inner_chunks) p s =
    rw (chunk_found inner decode law (is_stored span) shape type fill value span inner_chunk p s.0, chunks_found inner decode law shape type fill value spans inner_chunks p s.1) refl

pub index_found : (at_end : Bool) (index others : List ℕ) (size : ℕ) → length index ≡ size → (size ≤ length (shard_layout at_end index others)) × (index_part_of at_end size (shard_layout at_end index others) ≡ index)
index_found false index others size l = (omega (arith, l, length-append index others), take_at index others size l)
index_found true index others size l =
    let long = length-append others index in
    let at : length others ≡ length (others ++ index) - size = omega (arith, l, long) in
    (omega (arith, l, long), drop_at others index (length (others ++ index) - size) at)

chunk_steps : (shape : List ℕ) (at_end : Bool) (measure : Measure) (inner index : Decoder) (sizes : List ℕ) (type : ElementType) (fill value : List ℕ) (size : ℕ) (part : List ℕ) (rows : Chunk) (inner_chunks : List Chunk)
    → index_size measure shape sizes ≡ Ok size → nat_le size (length value) ≡ true → index_part_of at_end size value ≡ part
    → index (index_shape shape sizes) (offset_type true) (offset_bytes true 0) part ≡ Ok rows → inner_chunks_at inner shape type fill value (spans_of (offsets_in_chunk true rows)) ≡ Ok inner_chunks
    → shard_chunk shape at_end measure inner index sizes type fill value ≡ Ok (joined_inner_chunks shape sizes inner_chunks)
chunk_steps shape at_end measure inner index sizes type fill value size part rows inner_chunks a b c d e = rw (a, b, c, d, e) refl

pub shard_decodes : (shape : List ℕ) (at_end : Bool) (measure : Measure) (inner index : Standing) (decode index_decode : Decoder) → All is_positive shape → Decodes inner decode → Decodes index index_decode
    → Decodes (ShardStands shape at_end measure inner index) (shard_chunk shape at_end measure decode index_decode)
shard_decodes shape at_end measure inner index decode index_decode p i d sizes type fill value chunk positive s =
    let found = index_found at_end s.index_part s.others s.size s.index_long in
    let enough : s.size ≤ length value = subst (λ (v : List ℕ). s.size ≤ length v) (sym s.parts) found.0 in
    chunk_steps shape at_end measure decode index_decode sizes type fill value s.size s.index_part s.rows (inner_chunks_of shape sizes chunk) s.sized
    (le_test s.size (length value) enough)
    (ap (index_part_of at_end s.size) s.parts ∙ found.1)
    (d (index_shape shape sizes) (offset_type true) (offset_bytes true 0) s.index_part s.rows (index_positive shape sizes positive (is_cut shape sizes p s.divided)) s.index_stands)
    (chunks_found inner decode i shape type fill value (spans_of (offsets_in_chunk true s.rows)) (inner_chunks_of shape sizes chunk) p s.inner_chunks)
    ∙ ap (λ (c : Chunk). ok c) (joined_again shape sizes chunk (is_cut shape sizes p s.divided) s.elements.count_is)

-- ---- what is written stands for the normal form

missing_small : missing < 2 ^ 64
unfolding missing
missing_small = omega arith

missing_not_stored : is_stored (missing, missing) ≡ false
missing_not_stored = let e = eq-eqb missing missing refl in rw e refl

both_large : (at size : ℕ) → at ≡ missing → size ≡ missing → at + size < 2 ^ 64 → ⊥
unfolding missing
both_large at size e g l = omega (arith, e, g, l)

stored_by : (first second : Bool) (at size : ℕ) → nat_eq at missing ≡ first → nat_eq size missing ≡ second → at + size < 2 ^ 64 → not (first && second) ≡ true
stored_by false second at size a b l = refl
stored_by true false at size a b l = refl
stored_by true true at size a b l =
    let e = eqb-true at missing a in
    let g = eqb-true size missing b in
    absurd (both_large at size e g l)

stored_so : (at size : ℕ) → at + size < 2 ^ 64 → is_stored (at, size) ≡ true
stored_so at size l = stored_by (nat_eq at missing) (nat_eq size missing) at size refl refl l

number_again : (n : ℕ) → n < 2 ^ 64 → offset_of true (offset_bytes true n) ≡ n
number_again n l = offset_again true n l refl

-- the numbers of an index are found again
numbers_again : (at : ℕ) (parts : List (Option (List ℕ))) → at + length (joined_values parts) < 2 ^ 64 → offsets_in_chunk true (offset_elements true (index_numbers at parts)) ≡ index_numbers at parts
numbers_again at [] l = refl
numbers_again at (None ∷ parts) l =
    let one = number_again missing missing_small in
    λ i. one i ∷ one i ∷ numbers_again at parts l i
numbers_again at (Some part ∷ parts) l =
    let long = length-append part (joined_values parts) in
    let first = number_again at (omega (arith, l, long)) in
    let second = number_again (length part) (omega (arith, l, long)) in
    let rest = numbers_again (at + length part) parts (omega (arith, l, long)) in
    λ i. first i ∷ second i ∷ rest i

pub same_element : (one other : Element) → is_same_element one other ≡ true → one ≡ other
same_element (plain items) (plain others) h = ap plain (same_numbers items others h)
same_element (plain items) absent h = absurd cc
same_element (plain items) (present other) h = absurd cc
same_element absent (plain others) h = absurd cc
same_element absent absent h = refl
same_element absent (present other) h = absurd cc
same_element (present one) (plain others) h = absurd cc
same_element (present one) absent h = absurd cc
same_element (present one) (present other) h = ap present (same_element one other h)

-- an inner chunk that is left out is kept as fill elements
left_out_kept : (keep : Keeping) (type : ElementType) (fill : List ℕ) (inner_chunk : Chunk) → is_left_out keep type fill inner_chunk ≡ true → map (keep type) inner_chunk ≡ replicate (length inner_chunk) (fill_element type fill)
left_out_kept keep type fill [] h = refl
left_out_kept keep type fill (element ∷ inner_chunk) h =
    let first = same_element (keep type element) (fill_element type fill) (first_true (is_kept_as_fill keep type fill element) (list_all (is_kept_as_fill keep type fill) inner_chunk) h) in
    let rest = left_out_kept keep type fill inner_chunk (second_true (is_kept_as_fill keep type fill element) (list_all (is_kept_as_fill keep type fill) inner_chunk) h) in
    λ i. first i ∷ rest i

-- at a span that is stored, or not
at_span : (inner : Standing) (shape : List ℕ) (type : ElementType) (fill value : List ℕ) (span : Span) (inner_chunk : Chunk) (stored : Bool) → is_stored span ≡ stored → InnerChunkStands stored inner shape type fill value span inner_chunk → InnerChunkStands (is_stored span) inner shape type fill value span inner_chunk
at_span inner shape type fill value span inner_chunk stored e s = subst (λ (b : Bool). InnerChunkStands b inner shape type fill value span inner_chunk) (sym e) s

-- the value's bytes before the inner values, they, and the bytes behind them
chunks_stand : (keep : Keeping) (write stand : Standing) → StandsKept write stand keep → (shape : List ℕ) (type : ElementType) (fill value front tail : List ℕ) (at : ℕ) (inner_chunks : List Chunk) (parts : List (Option (List ℕ))) → All is_positive shape
    → All (IsChunk type (product shape)) inner_chunks → All (All HasBytes) inner_chunks → length front ≡ at → value ≡ front ++ (joined_values parts ++ tail) → at + length (joined_values parts) < 2 ^ 64
    → AllZip (λ inner_chunk part. InnerChunkWritten (is_left_out keep type fill inner_chunk) write shape type fill inner_chunk part) inner_chunks parts → AllZip (λ span inner_chunk. InnerChunkStands (is_stored span) stand shape type fill value span inner_chunk) (spans_of (index_numbers at parts)) (map (map (keep type)) inner_chunks)
chunks_stand keep write stand law shape type fill value front tail at [] [] p are have f v l w = tt
chunks_stand keep write stand law shape type fill value front tail at [] (part ∷ parts) p are have f v l w = absurd w
chunks_stand keep write stand law shape type fill value front tail at (inner_chunk ∷ inner_chunks) [] p are have f v l w = absurd w
chunks_stand keep write stand law shape type fill value front tail at (inner_chunk ∷ inner_chunks) (None ∷ parts) p are have f v l w =
    let is = All-head (IsChunk type (product shape)) inner_chunk inner_chunks are in (
      at_span stand shape type fill value (missing, missing) (map (keep type) inner_chunk) false missing_not_stored (left (is_left_out keep type fill inner_chunk) refl is w.0),
      chunks_stand keep write stand law shape type fill value front tail at inner_chunks parts p (All-tail (IsChunk type (product shape)) inner_chunk inner_chunks are) (All-tail (All HasBytes) inner_chunk inner_chunks have) f v l w.1,
    )
  where
    left : (left_out : Bool) → is_left_out keep type fill inner_chunk ≡ left_out → IsChunk type (product shape) inner_chunk → InnerChunkWritten left_out write shape type fill inner_chunk None → map (keep type) inner_chunk ≡ filled_chunk shape type fill
    left true e is w = left_out_kept keep type fill inner_chunk e ∙ ap (λ (n : ℕ). replicate n (fill_element type fill)) is.count_is
    left false e is w = absurd w
chunks_stand keep write stand law shape type fill value front tail at (inner_chunk ∷ inner_chunks) (Some part ∷ parts) p are have f v l w =
    let more = joined_values parts in
    let long = length-append part more in
    let next : value ≡ (front ++ part) ++ (more ++ tail) = v ∙ ap (λ (x : List ℕ). front ++ x) (append_assoc part more tail) ∙ sym (append_assoc front part (more ++ tail)) in
    let total : length value ≡ (at + length part) + length (more ++ tail) = ap length next ∙ omega (arith, length-append (front ++ part) (more ++ tail), length-append front part, f) in
    let behind : drop at value ≡ part ++ (more ++ tail) = ap (drop at) (next ∙ append_assoc front part (more ++ tail)) ∙ drop_at front (part ++ (more ++ tail)) at f in
    let here : spanned_bytes value (at, length part) ≡ part = ap (take (length part)) behind ∙ take_at part (more ++ tail) (length part) refl in
    let inside : at + length part ≤ length value = omega (arith, total) in
    let small : at + length part < 2 ^ 64 = omega (arith, l, long) in
    let has = All-head (All HasBytes) inner_chunk inner_chunks have in (
      at_span stand shape type fill value (at, length part) (map (keep type) inner_chunk) true (stored_so at (length part) small)
          (inside, subst (λ (x : List ℕ). stand shape type fill x (map (keep type) inner_chunk)) (sym here) (law shape type fill part inner_chunk p has (kept (is_left_out keep type fill inner_chunk) w.0))),
      chunks_stand keep write stand law shape type fill value (front ++ part) tail (at + length part) inner_chunks parts p (All-tail (IsChunk type (product shape)) inner_chunk inner_chunks are) (All-tail (All HasBytes) inner_chunk inner_chunks have)
          (length-append front part ∙ ap (λ (n : ℕ). n + length part) f) next (omega (arith, l, long)) w.1,
    )
  where
    kept : (left_out : Bool) → InnerChunkWritten left_out write shape type fill inner_chunk (Some part) → write shape type fill part inner_chunk
    kept true w = absurd w
    kept false w = w

-- the index has as many bytes as was declared
pub fixed_so : (r : BytesRepresentation) (size : ℕ) (part : List ℕ) → fixed_size r ≡ Ok size → KeepsTo r part → length part ≡ size
fixed_so (FixedSize n) size part e k = k ∙ ok_is n size e
fixed_so (BoundedSize n) size part e k = absurd cc
fixed_so UnboundedSize size part e k = absurd cc

pub index_is_long : (measure : Measure) (index : Standing) → WritesMeasured index measure → (shape sizes : List ℕ) (size : ℕ) (part : List ℕ) (numbers : List ℕ) → All is_positive (index_shape shape sizes) → index_size measure shape sizes ≡ Ok size
    → index (index_shape shape sizes) (offset_type true) (offset_bytes true 0) part (offset_elements true numbers) → length part ≡ size
index_is_long measure index law shape sizes size part numbers p e w =
    let r = bind_ok (measure (index_shape shape sizes) (offset_type true) (offset_bytes true 0)) fixed_size size e in
    let m = law (index_shape shape sizes) (offset_type true) (offset_bytes true 0) part (offset_elements true numbers) p (offsets_have true numbers) w in
    fixed_so r.0 size part r.2 (subst (λ (x : BytesRepresentation). KeepsTo x part) (ok_is m.size r.0 (sym m.measured ∙ r.1)) m.kept.keeps)

-- where the inner values stand
record IsLaid (at_end : Bool) (size : ℕ) (index values value : List ℕ) : Type 0 where
  pub front : List ℕ
  pub tail : List ℕ
  pub long : length front ≡ first_offset at_end size
  pub is : value ≡ front ++ (values ++ tail)

append_nil : (xs : List ℕ) → xs ++ [] ≡ xs
append_nil [] = refl
append_nil (x ∷ xs) = λ i. x ∷ append_nil xs i

laid : (at_end : Bool) (size : ℕ) (index values value : List ℕ) → length index ≡ size → value ≡ shard_layout at_end index values → IsLaid at_end size index values value
laid false size index values value l e = record { front = index; tail = []; long = l; is = e ∙ ap (λ (x : List ℕ). index ++ x) (sym (append_nil values)) }
laid true size index values value l e = record { front = []; tail = index; long = refl; is = e }

pub shard_stands : (shape : List ℕ) (at_end : Bool) (keep index_keep : Keeping) (measure : Measure) (iw is dw ds : Standing) → All is_positive shape → KeepsTypes keep → KeepsAbsent keep → StandsKept iw is keep → StandsKept dw ds index_keep → WritesMeasured dw measure
    → (sizes : List ℕ) (type : ElementType) (fill value : List ℕ) (chunk : Chunk) → All is_positive sizes → All HasBytes chunk → ShardWritten shape at_end keep index_keep measure iw dw sizes type fill value chunk
    → ShardStands shape at_end measure is ds sizes type fill value (map (keep type) chunk)
shard_stands shape at_end keep index_keep measure iw is dw ds p types absents i d measured sizes type fill value chunk positive each w =
    let numbers = index_numbers (first_offset at_end w.size) w.values in
    let rows = offset_elements true numbers in
    let inside = index_positive shape sizes positive (is_cut shape sizes p w.divided) in
    let long : length w.index_part ≡ w.size = index_is_long measure dw measured shape sizes w.size w.index_part numbers inside w.sized w.index_written in
    let at = laid at_end w.size w.index_part (joined_values w.values) value long w.parts in
    let found : ds (index_shape shape sizes) (offset_type true) (offset_bytes true 0) w.index_part rows =
    subst (ds (index_shape shape sizes) (offset_type true) (offset_bytes true 0) w.index_part) w.kept
    (d (index_shape shape sizes) (offset_type true) (offset_bytes true 0) w.index_part rows inside (offsets_have true numbers) w.index_written) in
    let stand : AllZip (λ span inner_chunk. InnerChunkStands (is_stored span) is shape type fill value span inner_chunk) (spans_of numbers) (map (map (keep type)) (inner_chunks_of shape sizes chunk)) =
    chunks_stand keep iw is i shape type fill value at.front at.tail (first_offset at_end w.size) (inner_chunks_of shape sizes chunk) w.values p (inner_chunks_are shape sizes type chunk w.divided w.elements) (inner_chunks_have shape sizes chunk each) at.long at.is w.counted w.inner_chunks in
    record {
      divided = w.divided;
      size = w.size;
      index_part = w.index_part;
      others = joined_values w.values;
      rows = rows;
      sized = w.sized;
      parts = w.parts;
      index_long = long;
      index_stands = found;
      elements = kept_elements keep types type (product sizes) chunk w.elements;
      inner_chunks = subst (λ (x : List ℕ). AllZip (λ span inner_chunk. InnerChunkStands (is_stored span) is shape type fill value span inner_chunk) (spans_of x) (inner_chunks_of shape sizes (map (keep type) chunk))) (sym (numbers_again (first_offset at_end w.size) w.values w.counted))
          (subst (AllZip (λ span inner_chunk. InnerChunkStands (is_stored span) is shape type fill value span inner_chunk) (spans_of numbers)) (inner_chunks_kept shape sizes keep absents type chunk) stand);
    }
