-- What `sharding_indexed` writes is what it writes of the normal form; and what it answers is written.
use Rattle.std.proofs.Common.{◌≡◌, ℕ, zero, suc, ◌+◌, ◌*◌, ◌<◌, ◌^◌, nat_eq, nat_lt, ◌&&◌, Bool, true, false, Option, Some, None, get_or, List, [], ◌∷◌, ◌++◌, length, map, Ok, arith, refl, ap, sym, subst, ◌∙◌}
use Rattle.std.specs.List.{All, AllZip}
use Rattle.std.proofs.lemmas.List.{length-map}
use Rattle.std.proofs.lemmas.List.Elements.{All-nil, All-cons, All-head, All-tail}
use Rattle.std.proofs.Math.Nat.{mul_assoc}
use Rattle.zarrs_array_bytes.specs.Elements.{select}
use Rattle.zarrs_array_bytes.specs.Validity.{sizes_fit}
use Rattle.zarrs_bytes.proofs.Coding.{demand_ok, bind_ok}
use Rattle.zarrs_bytes.specs.BytesCodec.{IsChunk}
use Rattle.zarrs_chain_meaning.proofs.ArraySteps.{ok_is, counted_so}
use Rattle.zarrs_chain_meaning.proofs.InnerChunks.{is_cut, inner_chunks_long, index_positive, inner_chunks_are, inner_chunks_kept}
use Rattle.zarrs_chain_meaning.proofs.NestedFound.{Founds, offsets_are, offsets_same}
use Rattle.zarrs_chain_meaning.proofs.NestedForNormal.{WrittenKept, KeptWritten}
use Rattle.zarrs_chain_meaning.proofs.NestedNormal.{KeepsTypes, KeepsTwice, KeepsAbsent, kept_elements}
use Rattle.zarrs_chain_meaning.proofs.NestedStages.{in_memory_so, is_positive}
use Rattle.zarrs_chain_meaning.specs.Meaning.{Measure, Encoder, Standing, Keeping}
use Rattle.zarrs_chain_meaning.specs.sharding.InnerChunks.{is_divided, grid, inner_chunk_count, inner_chunks_of}
use Rattle.zarrs_chain_meaning.specs.sharding.ShardSteps.{inner_value}
use Rattle.zarrs_chain_meaning.specs.sharding.Sharding.{index_shape, index_size, shard_representation, is_same_element, is_kept_as_fill, is_left_out, joined_values, index_numbers, first_offset, shard_layout, shard_value, InnerChunkWritten, ShardWritten}
use Rattle.zarrs_chain_meaning.specs.vlen.Vlen.{offset_type, offset_bytes, offset_elements, is_same_bytes}
use Rattle.zarrs_chunk.proofs.Inside.{from_lt_test}
use Rattle.zarrs_chunk.specs.Answer.{demand, checked_u64}
use Rattle.zarrs_chunk.specs.ChunkShape.{product}
use Rattle.zarrs_chunk.specs.declared.codec_error.CodecError.TheVariants.{IncompatibleDimensionality, IndivisibleShape, InvalidFillValue, Overflow, OffsetNotKept}
use Rattle.zarrs_codec.specs.declared.bytes_representation.BytesRepresentation.{BytesRepresentation}
use Rattle.zarrs_data_type.specs.Element.{plain, absent, Chunk, IsElement, AreElements, fill_element}
use Rattle.zarrs_data_type.specs.ElementType.{ElementType}
use Rattle.zarrs_chain_meaning.specs.Parts.{for_each}
use Rattle.zarrs_chain_meaning.specs.optional.Optional.{bounded_total}
use Rattle.zarrs_codec.specs.declared.bytes_representation.BytesRepresentation.TheVariants.{FixedSize}

-- ---- what the representation says

pub record IsShardTaken (shape : List ℕ) (keep : Keeping) (inner index : Measure) (sizes : List ℕ) (type : ElementType) (fill : List ℕ) (r : BytesRepresentation) : Type 0 where
  pub divided : is_divided shape sizes ≡ true
  pub counted : checked_u64 (product sizes) ≡ Ok (product sizes)
  pub fitting : sizes_fit type (product sizes) ≡ Ok tt
  pub inner_size : BytesRepresentation
  pub inner_is : inner shape type fill ≡ Ok inner_size
  pub filled : is_kept_as_fill keep type fill (fill_element type fill) ≡ true
  pub size : ℕ
  pub sized : index_size index shape sizes ≡ Ok size
  pub is : bounded_total (λ inner index. inner_chunk_count shape sizes * inner + index) inner_size (FixedSize size) ≡ r

pub shard_taken : (shape : List ℕ) (keep : Keeping) (inner index : Measure) (sizes : List ℕ) (type : ElementType) (fill : List ℕ) (r : BytesRepresentation) → shard_representation shape keep inner index sizes type fill ≡ Ok r → IsShardTaken shape keep inner index sizes type fill r
shard_taken shape keep inner index sizes type fill r e =
    let a = bind_ok (demand (nat_eq (length shape) (length sizes)) IncompatibleDimensionality) _ r e in
    let b = bind_ok (demand (is_divided shape sizes) IndivisibleShape) _ r a.2 in
    let c = bind_ok (checked_u64 (product sizes)) _ r b.2 in
    let g = bind_ok (sizes_fit type (product sizes)) _ r c.2 in
    let d = bind_ok (inner shape type fill) _ r g.2 in
    let h = bind_ok (demand (is_kept_as_fill keep type fill (fill_element type fill)) InvalidFillValue) _ r d.2 in
    let s = bind_ok (index_size index shape sizes) _ r h.2 in
    record {
      divided = demand_ok (is_divided shape sizes) IndivisibleShape b.0 b.1;
      counted = counted_so (product sizes) c.0 c.1;
      fitting = g.1;
      inner_size = d.0;
      inner_is = d.1;
      filled = demand_ok (is_kept_as_fill keep type fill (fill_element type fill)) InvalidFillValue h.0 h.1;
      size = s.0;
      sized = s.1;
      is = ok_is (bounded_total (λ inner index. inner_chunk_count shape sizes * inner + index) d.0 (FixedSize s.0)) r s.2;
    }

-- ---- normal forms

-- of what is kept the same inner chunks are left out
pub left_out_again : (keep : Keeping) → KeepsTwice keep → (type : ElementType) (fill : List ℕ) (inner_chunk : Chunk) → AreElements type inner_chunk → is_left_out keep type fill (map (keep type) inner_chunk) ≡ is_left_out keep type fill inner_chunk
left_out_again keep t type fill [] h = refl
left_out_again keep t type fill (element ∷ inner_chunk) h =
    let one = t type element (All-head (IsElement type) element inner_chunk h) in
    let rest = left_out_again keep t type fill inner_chunk (All-tail (IsElement type) element inner_chunk h) in
    λ i. is_same_element (one i) (fill_element type fill) && rest i

chunk_kept : (inner : Standing) (keep : Keeping) → WrittenKept inner keep → (left_out : Bool) (shape : List ℕ) (type : ElementType) (fill : List ℕ) (inner_chunk : Chunk) (part : Option (List ℕ))
    → InnerChunkWritten left_out inner shape type fill inner_chunk part → InnerChunkWritten left_out inner shape type fill (map (keep type) inner_chunk) part
chunk_kept inner keep law true shape type fill inner_chunk None w = tt
chunk_kept inner keep law true shape type fill inner_chunk (Some part) w = absurd w
chunk_kept inner keep law false shape type fill inner_chunk None w = absurd w
chunk_kept inner keep law false shape type fill inner_chunk (Some part) w = law shape type fill part inner_chunk w

kept_chunk : (inner : Standing) (keep : Keeping) → KeptWritten inner keep → (left_out : Bool) (shape : List ℕ) (type : ElementType) (fill : List ℕ) (inner_chunk : Chunk) (part : Option (List ℕ)) → IsChunk type (product shape) inner_chunk
    → InnerChunkWritten left_out inner shape type fill (map (keep type) inner_chunk) part → InnerChunkWritten left_out inner shape type fill inner_chunk part
kept_chunk inner keep law true shape type fill inner_chunk None is w = tt
kept_chunk inner keep law true shape type fill inner_chunk (Some part) is w = absurd w
kept_chunk inner keep law false shape type fill inner_chunk None is w = absurd w
kept_chunk inner keep law false shape type fill inner_chunk (Some part) is w = law shape type fill part inner_chunk is w

each_kept : (inner : Standing) (keep : Keeping) → KeepsTwice keep → WrittenKept inner keep → (shape : List ℕ) (type : ElementType) (fill : List ℕ) (inner_chunks : List Chunk) (parts : List (Option (List ℕ))) → All (IsChunk type (product shape)) inner_chunks
    → AllZip (λ inner_chunk part. InnerChunkWritten (is_left_out keep type fill inner_chunk) inner shape type fill inner_chunk part) inner_chunks parts → AllZip (λ inner_chunk part. InnerChunkWritten (is_left_out keep type fill inner_chunk) inner shape type fill inner_chunk part) (map (map (keep type)) inner_chunks) parts
each_kept inner keep t law shape type fill [] [] are w = tt
each_kept inner keep t law shape type fill [] (part ∷ parts) are w = absurd w
each_kept inner keep t law shape type fill (inner_chunk ∷ inner_chunks) [] are w = absurd w
each_kept inner keep t law shape type fill (inner_chunk ∷ inner_chunks) (part ∷ parts) are w =
    let is = All-head (IsChunk type (product shape)) inner_chunk inner_chunks are in (
      subst (λ (b : Bool). InnerChunkWritten b inner shape type fill (map (keep type) inner_chunk) part) (sym (left_out_again keep t type fill inner_chunk is.each)) (chunk_kept inner keep law (is_left_out keep type fill inner_chunk) shape type fill inner_chunk part w.0),
      each_kept inner keep t law shape type fill inner_chunks parts (All-tail (IsChunk type (product shape)) inner_chunk inner_chunks are) w.1,
    )

kept_each : (inner : Standing) (keep : Keeping) → KeepsTwice keep → KeptWritten inner keep → (shape : List ℕ) (type : ElementType) (fill : List ℕ) (inner_chunks : List Chunk) (parts : List (Option (List ℕ))) → All (IsChunk type (product shape)) inner_chunks
    → AllZip (λ inner_chunk part. InnerChunkWritten (is_left_out keep type fill inner_chunk) inner shape type fill inner_chunk part) (map (map (keep type)) inner_chunks) parts → AllZip (λ inner_chunk part. InnerChunkWritten (is_left_out keep type fill inner_chunk) inner shape type fill inner_chunk part) inner_chunks parts
kept_each inner keep t law shape type fill [] [] are w = tt
kept_each inner keep t law shape type fill [] (part ∷ parts) are w = absurd w
kept_each inner keep t law shape type fill (inner_chunk ∷ inner_chunks) [] are w = absurd w
kept_each inner keep t law shape type fill (inner_chunk ∷ inner_chunks) (part ∷ parts) are w =
    let is = All-head (IsChunk type (product shape)) inner_chunk inner_chunks are in (
      kept_chunk inner keep law (is_left_out keep type fill inner_chunk) shape type fill inner_chunk part is (subst (λ (b : Bool). InnerChunkWritten b inner shape type fill (map (keep type) inner_chunk) part) (left_out_again keep t type fill inner_chunk is.each) w.0),
      kept_each inner keep t law shape type fill inner_chunks parts (All-tail (IsChunk type (product shape)) inner_chunk inner_chunks are) w.1,
    )

-- with the same inner values another chunk is written alike
shard_with : (shape : List ℕ) (at_end : Bool) (keep index_keep : Keeping) (measure : Measure) (inner index : Standing) (sizes : List ℕ) (type : ElementType) (fill value : List ℕ) (chunk other : Chunk) → (w : ShardWritten shape at_end keep index_keep measure inner index sizes type fill value chunk)
    → IsChunk type (product sizes) other → AllZip (λ inner_chunk part. InnerChunkWritten (is_left_out keep type fill inner_chunk) inner shape type fill inner_chunk part) (inner_chunks_of shape sizes other) w.values → ShardWritten shape at_end keep index_keep measure inner index sizes type fill value other
shard_with shape at_end keep index_keep measure inner index sizes type fill value chunk other w is inner_chunks = record {
  divided = w.divided;
  size = w.size;
  values = w.values;
  index_part = w.index_part;
  sized = w.sized;
  elements = is;
  inner_chunks = inner_chunks;
  counted = w.counted;
  index_written = w.index_written;
  kept = w.kept;
  parts = w.parts;
  small = w.small;
}

pub shard_kept : (shape : List ℕ) (at_end : Bool) (keep index_keep : Keeping) (measure : Measure) (inner index : Standing) → KeepsTypes keep → KeepsTwice keep → KeepsAbsent keep → WrittenKept inner keep
    → WrittenKept (ShardWritten shape at_end keep index_keep measure inner index) keep
shard_kept shape at_end keep index_keep measure inner index types twice absents law sizes type fill value chunk w =
    shard_with shape at_end keep index_keep measure inner index sizes type fill value chunk (map (keep type) chunk) w (kept_elements keep types type (product sizes) chunk w.elements)
    (subst (λ (b : List Chunk). AllZip (λ inner_chunk part. InnerChunkWritten (is_left_out keep type fill inner_chunk) inner shape type fill inner_chunk part) b w.values) (inner_chunks_kept shape sizes keep absents type chunk)
    (each_kept inner keep twice law shape type fill (inner_chunks_of shape sizes chunk) w.values (inner_chunks_are shape sizes type chunk w.divided w.elements) w.inner_chunks))

-- a selected element is of the type where it is kept as one
at_place : (keep : Keeping) → KeepsAbsent keep → (type : ElementType) (chunk : Chunk) (place : ℕ) → AreElements type chunk → IsElement type (keep type (get_or chunk place absent)) → IsElement type (get_or chunk place absent)
at_place keep a type [] place h is = subst (IsElement type) (a type) is
at_place keep a type (element ∷ chunk) zero h is = All-head (IsElement type) element chunk h
at_place keep a type (element ∷ chunk) (suc place) h is = at_place keep a type chunk place (All-tail (IsElement type) element chunk h) is

selected_elements : (keep : Keeping) → KeepsAbsent keep → (type : ElementType) (chunk : Chunk) (places : List ℕ) → AreElements type chunk → AreElements type (map (keep type) (select chunk places)) → AreElements type (select chunk places)
selected_elements keep a type chunk [] h are = All-nil (IsElement type)
selected_elements keep a type chunk (place ∷ places) h are =
    let first = keep type (get_or chunk place absent) in
    let rest = map (keep type) (select chunk places) in
    All-cons (IsElement type) (get_or chunk place absent) (select chunk places) (at_place keep a type chunk place h (All-head (IsElement type) first rest are)) (selected_elements keep a type chunk places h (All-tail (IsElement type) first rest are))

pub kept_shard : (shape : List ℕ) (at_end : Bool) (keep index_keep : Keeping) (measure : Measure) (inner index : Standing) → KeepsTwice keep → KeepsAbsent keep → KeptWritten inner keep
    → (sizes : List ℕ) (type : ElementType) (fill value : List ℕ) (chunk : Chunk) (places : List ℕ) → AreElements type chunk
    → ShardWritten shape at_end keep index_keep measure inner index sizes type fill value (map (keep type) (select chunk places)) → ShardWritten shape at_end keep index_keep measure inner index sizes type fill value (select chunk places)
kept_shard shape at_end keep index_keep measure inner index twice absents law sizes type fill value chunk places each w =
    let other = select chunk places in
    let is : IsChunk type (product sizes) other = record { count_is = sym (length-map other (keep type)) ∙ w.elements.count_is; each = selected_elements keep absents type chunk places each w.elements.each } in
    shard_with shape at_end keep index_keep measure inner index sizes type fill value (map (keep type) other) other w is
    (kept_each inner keep twice law shape type fill (inner_chunks_of shape sizes other) w.values (inner_chunks_are shape sizes type other w.divided is)
    (subst (λ (b : List Chunk). AllZip (λ inner_chunk part. InnerChunkWritten (is_left_out keep type fill inner_chunk) inner shape type fill inner_chunk part) b w.values) (sym (inner_chunks_kept shape sizes keep absents type other)) w.inner_chunks))

-- ---- what is answered is written

chunk_by : (inner : Standing) (encode : Encoder) → Founds inner encode → (left_out : Bool) (shape : List ℕ) (type : ElementType) (fill : List ℕ) (inner_chunk : Chunk) (part : Option (List ℕ)) → All is_positive shape → IsChunk type (product shape) inner_chunk
    → inner_value left_out (encode shape type fill inner_chunk) ≡ Ok part → InnerChunkWritten left_out inner shape type fill inner_chunk part
chunk_by inner encode law true shape type fill inner_chunk part p is e = subst (InnerChunkWritten true inner shape type fill inner_chunk) (ok_is None part e) tt
chunk_by inner encode law false shape type fill inner_chunk part p is e =
    let a = bind_ok (encode shape type fill inner_chunk) _ part e in
    subst (InnerChunkWritten false inner shape type fill inner_chunk) (ok_is (Some a.0) part a.2) (law shape type fill a.0 inner_chunk p is a.1)

chunks_by : (keep : Keeping) (inner : Standing) (encode : Encoder) → Founds inner encode → (shape : List ℕ) (type : ElementType) (fill : List ℕ) (inner_chunks : List Chunk) (parts : List (Option (List ℕ))) → All is_positive shape → All (IsChunk type (product shape)) inner_chunks
    → for_each (λ inner_chunk. inner_value (is_left_out keep type fill inner_chunk) (encode shape type fill inner_chunk)) inner_chunks ≡ Ok parts → AllZip (λ inner_chunk part. InnerChunkWritten (is_left_out keep type fill inner_chunk) inner shape type fill inner_chunk part) inner_chunks parts × (length parts ≡ length inner_chunks)
chunks_by keep inner encode law shape type fill [] parts p are e = subst (λ (ps : List (Option (List ℕ))). AllZip (λ inner_chunk part. InnerChunkWritten (is_left_out keep type fill inner_chunk) inner shape type fill inner_chunk part) [] ps × (length ps ≡ 0)) (ok_is [] parts e) (tt, refl)
chunks_by keep inner encode law shape type fill (inner_chunk ∷ inner_chunks) parts p are e =
    let a = bind_ok (inner_value (is_left_out keep type fill inner_chunk) (encode shape type fill inner_chunk)) _ parts e in
    let b = bind_ok (for_each (λ inner_chunk. inner_value (is_left_out keep type fill inner_chunk) (encode shape type fill inner_chunk)) inner_chunks) _ parts a.2 in
    let first = chunk_by inner encode law (is_left_out keep type fill inner_chunk) shape type fill inner_chunk a.0 p (All-head (IsChunk type (product shape)) inner_chunk inner_chunks are) a.1 in
    let rest = chunks_by keep inner encode law shape type fill inner_chunks b.0 p (All-tail (IsChunk type (product shape)) inner_chunk inner_chunks are) b.1 in
    subst (λ (ps : List (Option (List ℕ))). AllZip (λ inner_chunk part. InnerChunkWritten (is_left_out keep type fill inner_chunk) inner shape type fill inner_chunk part) (inner_chunk ∷ inner_chunks) ps × (length ps ≡ suc (length inner_chunks))) (ok_is (a.0 ∷ b.0) parts b.2) ((first, rest.0), ap suc rest.1)

pub numbers_long : (at : ℕ) (parts : List (Option (List ℕ))) → length (index_numbers at parts) ≡ length parts * 2
numbers_long at [] = refl
numbers_long at (None ∷ parts) = let l = numbers_long at parts in omega (arith, l)
numbers_long at (Some part ∷ parts) = let l = numbers_long (at + length part) parts in omega (arith, l)

pub product_two : (sizes : List ℕ) → product (sizes ++ 2 ∷ []) ≡ product sizes * 2
product_two [] = refl
product_two (size ∷ sizes) = ap (λ (n : ℕ). size * n) (product_two sizes) ∙ sym (mul_assoc size (product sizes) 2)

pub elements_long : (offsets : List ℕ) → length (offset_elements true offsets) ≡ length offsets
elements_long offsets = length-map offsets (λ offset. plain (offset_bytes true offset))

pub shard_founds : (shape : List ℕ) (at_end : Bool) (keep index_keep : Keeping) (im measure : Measure) (inner index : Standing) (encode index_encode : Encoder) → All is_positive shape → KeepsTypes index_keep → Founds inner encode → Founds index index_encode
    → (sizes : List ℕ) (type : ElementType) (fill value : List ℕ) (chunk : Chunk) (r : BytesRepresentation) → All is_positive sizes → IsChunk type (product sizes) chunk → shard_representation shape keep im measure sizes type fill ≡ Ok r
    → shard_value shape at_end keep index_keep measure encode index_encode sizes type fill chunk ≡ Ok value → ShardWritten shape at_end keep index_keep measure inner index sizes type fill value chunk
shard_founds shape at_end keep index_keep im measure inner index encode index_encode p types i d sizes type fill value chunk r positive is t e =
    let taken = shard_taken shape keep im measure sizes type fill r t in
    let cut = is_cut shape sizes p taken.divided in
    let a = bind_ok (index_size measure shape sizes) _ value e in
    let b = bind_ok (for_each (λ inner_chunk. inner_value (is_left_out keep type fill inner_chunk) (encode shape type fill inner_chunk)) (inner_chunks_of shape sizes chunk)) _ value a.2 in
    let at = first_offset at_end a.0 in
    let c = bind_ok (demand (nat_lt (at + length (joined_values b.0)) (2 ^ 64)) Overflow) _ value b.2 in
    let numbers = index_numbers at b.0 in
    let rows = offset_elements true numbers in
    let g = bind_ok (index_encode (index_shape shape sizes) (offset_type true) (offset_bytes true 0) rows) _ value c.2 in
    let same = is_same_bytes (map (index_keep (offset_type true)) rows) rows in
    let k = bind_ok (demand same OffsetNotKept) _ value g.2 in
    let whole = in_memory_so (shard_layout at_end g.0 (joined_values b.0)) value k.2 in
    let found = chunks_by keep inner encode i shape type fill (inner_chunks_of shape sizes chunk) b.0 p (inner_chunks_are shape sizes type chunk taken.divided is) b.1 in
    let long : length rows ≡ product (index_shape shape sizes) = elements_long numbers ∙ numbers_long at b.0 ∙ ap (λ (n : ℕ). n * 2) (found.1 ∙ inner_chunks_long shape sizes chunk) ∙ sym (product_two (grid shape sizes)) in
    record {
      divided = taken.divided;
      size = a.0;
      values = b.0;
      index_part = g.0;
      sized = a.1;
      elements = is;
      inner_chunks = found.0;
      counted = from_lt_test (at + length (joined_values b.0)) (2 ^ 64) (demand_ok (nat_lt (at + length (joined_values b.0)) (2 ^ 64)) Overflow c.0 c.1);
      index_written = d (index_shape shape sizes) (offset_type true) (offset_bytes true 0) g.0 rows (index_positive shape sizes positive cut) (record { count_is = long; each = offsets_are true numbers }) g.1;
      kept = offsets_same true index_keep types numbers (demand_ok same OffsetNotKept k.0 k.1);
      parts = whole.1;
      small = subst (λ (x : List ℕ). length x < 2 ^ 64) (sym whole.1) whole.0;
    }
