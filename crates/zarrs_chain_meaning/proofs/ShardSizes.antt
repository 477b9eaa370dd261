-- How many bytes `sharding_indexed` writes; and what it asks of chunks.
use Rattle.std.proofs.Common.{◌≡◌, ℕ, suc, ◌+◌, ◌*◌, ◌/◌, ◌%◌, ◌≤◌, nat_eq, Bool, true, false, Option, Some, None, List, [], ◌∷◌, length, Ok, arith, refl, ap, sym, subst, ◌∙◌}
use Rattle.std.specs.List.{All, AllZip}
use Rattle.std.proofs.lemmas.Bool.{eqb-true}
use Rattle.std.proofs.lemmas.List.{length-append}
use Rattle.std.proofs.lemmas.List.Elements.{All-nil, All-head, All-tail, All-append}
use Rattle.std.proofs.Math.Nat.{mul-mul-mul_comm, le_of_mul-le-mul_right, mul-le-mul_right}
use Rattle.std.proofs.lemmas.Nat.{div-add-mod'}
use Rattle.zarrs_bytes.proofs.Coding.{bind_ok}
use Rattle.zarrs_chain_meaning.proofs.ArraySteps.{ok_is}
use Rattle.zarrs_chain_meaning.proofs.InnerChunks.{is_cut, inner_chunks_long, joined_long, index_positive, inner_chunks_have, positive_product}
use Rattle.zarrs_chain_meaning.proofs.NestedGrowth.{Grows, GoesByCount, bounded_grows}
use Rattle.zarrs_chain_meaning.proofs.NestedKept.{WritesMeasured, AreKept, offsets_have, bounded_keeps}
use Rattle.zarrs_chain_meaning.proofs.NestedRoom.{HasRoom, HasFill}
use Rattle.zarrs_chain_meaning.proofs.NestedStages.{is_byte, is_positive}
use Rattle.zarrs_chain_meaning.specs.Meaning.{Measure, Decoder, Standing, Keeping}
use Rattle.zarrs_chain_meaning.specs.sharding.InnerChunks.{is_divided, grid, inner_chunk_count, inner_chunks_of}
use Rattle.zarrs_chain_meaning.specs.sharding.Sharding.{index_shape, fixed_size, shard_representation, is_left_out, joined_values, index_numbers, first_offset, shard_layout, shard_chunk, InnerChunkWritten, ShardWritten}
use Rattle.zarrs_chain_meaning.specs.vlen.Vlen.{offset_type, offset_bytes, offset_elements}
use Rattle.zarrs_chunk.specs.Answer.{checked_u64}
use Rattle.zarrs_chunk.specs.ChunkShape.{product}
use Rattle.zarrs_codec.proofs.Fences.{second_true, first_true}
use Rattle.zarrs_codec.specs.BytesToBytesCodec.{KeepsTo, IsAtMost, AreBytes}
use Rattle.zarrs_codec.specs.declared.bytes_representation.BytesRepresentation.{BytesRepresentation}
use Rattle.zarrs_codec.specs.declared.bytes_representation.BytesRepresentation.TheVariants.{FixedSize, BoundedSize, UnboundedSize}
use Rattle.zarrs_data_type.specs.Element.{Chunk}
use Rattle.zarrs_data_type.specs.ElementType.{ElementType}
use Rattle.zarrs_packbits.specs.Laws.{HasBytes}
use Rattle.zarrs_chain_meaning.proofs.ShardNormal.{shard_taken, product_two}
use Rattle.zarrs_chain_meaning.proofs.ShardReads.{chunk_opened}
use Rattle.zarrs_chain_meaning.specs.optional.Optional.{bounded_total}

-- ---- sizes

-- so many values of at most so many bytes are no longer
abbrev AreWithin : BytesRepresentation → ℕ → ℕ → Type 0
AreWithin (FixedSize size) count long = long ≤ count * size
AreWithin (BoundedSize size) count long = long ≤ count * size
AreWithin UnboundedSize count long = Unit {0}

none_within : (s : BytesRepresentation) → AreWithin s 0 0
none_within (FixedSize size) = omega arith
none_within (BoundedSize size) = omega arith
none_within UnboundedSize = tt

one_within : (s : BytesRepresentation) (count : ℕ) (part : List ℕ) (long : ℕ) → KeepsTo s part → AreWithin s count long → AreWithin s (suc count) (length part + long)
one_within (FixedSize size) count part long k h = omega (arith, k, h)
one_within (BoundedSize size) count part long k h = omega (arith, k, h)
one_within UnboundedSize count part long k h = tt

more_within : (s : BytesRepresentation) (count long : ℕ) → AreWithin s count long → AreWithin s (suc count) long
more_within (FixedSize size) count long h = omega (arith, h)
more_within (BoundedSize size) count long h = omega (arith, h)
more_within UnboundedSize count long h = tt

record AreMeasured (s : BytesRepresentation) (count : ℕ) (values : List ℕ) : Type 0 where
  pub each : AreBytes values
  pub within : AreWithin s count (length values)

chunks_measured : (keep : Keeping) (inner : Standing) (measure : Measure) → WritesMeasured inner measure → (shape : List ℕ) (type : ElementType) (fill : List ℕ) (s : BytesRepresentation) (inner_chunks : List Chunk) (parts : List (Option (List ℕ))) → All is_positive shape
    → measure shape type fill ≡ Ok s → All (All HasBytes) inner_chunks → AllZip (λ inner_chunk part. InnerChunkWritten (is_left_out keep type fill inner_chunk) inner shape type fill inner_chunk part) inner_chunks parts → AreMeasured s (length inner_chunks) (joined_values parts)
chunks_measured keep inner measure law shape type fill s [] [] p m have w = record { each = All-nil is_byte; within = none_within s }
chunks_measured keep inner measure law shape type fill s [] (part ∷ parts) p m have w = absurd w
chunks_measured keep inner measure law shape type fill s (inner_chunk ∷ inner_chunks) [] p m have w = absurd w
chunks_measured keep inner measure law shape type fill s (inner_chunk ∷ inner_chunks) (None ∷ parts) p m have w =
    let rest = chunks_measured keep inner measure law shape type fill s inner_chunks parts p m (All-tail (All HasBytes) inner_chunk inner_chunks have) w.1 in
    record { each = rest.each; within = more_within s (length inner_chunks) (length (joined_values parts)) rest.within }
chunks_measured keep inner measure law shape type fill s (inner_chunk ∷ inner_chunks) (Some part ∷ parts) p m have w =
    let rest = chunks_measured keep inner measure law shape type fill s inner_chunks parts p m (All-tail (All HasBytes) inner_chunk inner_chunks have) w.1 in
    let one = law shape type fill part inner_chunk p (All-head (All HasBytes) inner_chunk inner_chunks have) (written (is_left_out keep type fill inner_chunk) w.0) in
    let keeps : KeepsTo s part = subst (λ (x : BytesRepresentation). KeepsTo x part) (ok_is one.size s (sym one.measured ∙ m)) one.kept.keeps in
    record {
      each = All-append is_byte part (joined_values parts) one.kept.each rest.each;
      within = subst (AreWithin s (suc (length inner_chunks))) (sym (length-append part (joined_values parts))) (one_within s (length inner_chunks) part (length (joined_values parts)) keeps rest.within);
    }
  where
    written : (left_out : Bool) → InnerChunkWritten left_out inner shape type fill inner_chunk (Some part) → inner shape type fill part inner_chunk
    written true w = absurd w
    written false w = w

layout_are : (at_end : Bool) (index values : List ℕ) → AreBytes index → AreBytes values → AreBytes (shard_layout at_end index values)
layout_are false index values i d = All-append is_byte index values i d
layout_are true index values i d = All-append is_byte values index d i

layout_long : (at_end : Bool) (index values : List ℕ) → length (shard_layout at_end index values) ≡ length values + length index
layout_long false index values = let l = length-append index values in omega (arith, l)
layout_long true index values = length-append values index

bound_keeps : (s : BytesRepresentation) (count size long : ℕ) (value : List ℕ) → AreWithin s count long → length value ≡ long + size → KeepsTo (bounded_total (λ inner index. count * inner + index) s (FixedSize size)) value
bound_keeps (FixedSize inner) count size long value h l = bounded_keeps (count * inner + size) value (omega (arith, h, l))
bound_keeps (BoundedSize inner) count size long value h l = bounded_keeps (count * inner + size) value (omega (arith, h, l))
bound_keeps UnboundedSize count size long value h l = tt

fixed_is : (r : BytesRepresentation) (size : ℕ) → fixed_size r ≡ Ok size → r ≡ FixedSize size
fixed_is (FixedSize n) size e = ap (λ (x : ℕ). FixedSize x) (ok_is n size e)
fixed_is (BoundedSize n) size e = absurd cc
fixed_is UnboundedSize size e = absurd cc

pub shard_sized : (shape : List ℕ) (at_end : Bool) (keep index_keep : Keeping) (im measure : Measure) (inner index : Standing) → All is_positive shape → WritesMeasured inner im → WritesMeasured index measure
    → (sizes : List ℕ) (type : ElementType) (fill value : List ℕ) (chunk : Chunk) (r : BytesRepresentation) → All is_positive sizes → All HasBytes chunk
    → ShardWritten shape at_end keep index_keep measure inner index sizes type fill value chunk → shard_representation shape keep im measure sizes type fill ≡ Ok r → AreKept r value
shard_sized shape at_end keep index_keep im measure inner index p i d sizes type fill value chunk r positive each w e =
    let taken = shard_taken shape keep im measure sizes type fill r e in
    let numbers = index_numbers (first_offset at_end w.size) w.values in
    let a = bind_ok (measure (index_shape shape sizes) (offset_type true) (offset_bytes true 0)) fixed_size taken.size taken.sized in
    let m = d (index_shape shape sizes) (offset_type true) (offset_bytes true 0) w.index_part (offset_elements true numbers) (index_positive shape sizes positive (is_cut shape sizes p w.divided)) (offsets_have true numbers) w.index_written in
    let long : length w.index_part ≡ taken.size = subst (λ (x : BytesRepresentation). KeepsTo x w.index_part) (ok_is m.size a.0 (sym m.measured ∙ a.1) ∙ fixed_is a.0 taken.size a.2) m.kept.keeps in
    let all = chunks_measured keep inner im i shape type fill taken.inner_size (inner_chunks_of shape sizes chunk) w.values p taken.inner_is (inner_chunks_have shape sizes chunk each) w.inner_chunks in
    let within : AreWithin taken.inner_size (inner_chunk_count shape sizes) (length (joined_values w.values)) = subst (λ (n : ℕ). AreWithin taken.inner_size n (length (joined_values w.values))) (inner_chunks_long shape sizes chunk) all.within in
    let whole : length value ≡ length (joined_values w.values) + taken.size = ap length w.parts ∙ layout_long at_end w.index_part (joined_values w.values) ∙ ap (λ (n : ℕ). length (joined_values w.values) + n) long in
    record {
      each = subst AreBytes (sym w.parts) (layout_are at_end w.index_part (joined_values w.values) m.kept.each all.each);
      keeps = subst (λ (x : BytesRepresentation). KeepsTo x value) taken.is (bound_keeps taken.inner_size (inner_chunk_count shape sizes) taken.size (length (joined_values w.values)) value within whole);
    }

-- ---- of more elements it is no smaller

-- inner chunks have all elements
pub cut_count : (shape sizes : List ℕ) → is_divided shape sizes ≡ true → inner_chunk_count shape sizes * product shape ≡ product sizes
cut_count [] [] d = refl
cut_count [] (size ∷ sizes) d = absurd cc
cut_count (part ∷ shape) [] d = absurd cc
cut_count (part ∷ shape) (size ∷ sizes) d =
    let even = eqb-true (size % part) 0 (first_true (nat_eq (size % part) 0) (is_divided shape sizes) d) in
    let whole : size / part * part ≡ size = let e = div-add-mod' size part in omega (arith, e, even) in
    mul-mul-mul_comm (size / part) (product (grid shape sizes)) part (product shape)
    ∙ (λ i. whole i * cut_count shape sizes (second_true (nat_eq (size % part) 0) (is_divided shape sizes) d) i)

count_grows : (shape sizes others : List ℕ) → All is_positive shape → is_divided shape sizes ≡ true → is_divided shape others ≡ true → product sizes ≤ product others → inner_chunk_count shape sizes ≤ inner_chunk_count shape others
count_grows shape sizes others p d g h =
    le_of_mul-le-mul_right (subst (λ (n : ℕ). n ≤ inner_chunk_count shape others * product shape) (sym (cut_count shape sizes d)) (subst (λ (n : ℕ). product sizes ≤ n) (sym (cut_count shape others g)) h)) (positive_product shape p)

bound_grows : (s : BytesRepresentation) (m n a b : ℕ) → m ≤ n → a ≤ b → IsAtMost (bounded_total (λ inner index. m * inner + index) s (FixedSize a)) (bounded_total (λ inner index. n * inner + index) s (FixedSize b))
bound_grows (FixedSize inner) m n a b h g = let k = mul-le-mul_right inner h in bounded_grows (m * inner + a) (n * inner + b) (omega (arith, k, g))
bound_grows (BoundedSize inner) m n a b h g = let k = mul-le-mul_right inner h in bounded_grows (m * inner + a) (n * inner + b) (omega (arith, k, g))
bound_grows UnboundedSize m n a b h g = tt

pub shard_grows : (shape : List ℕ) (keep : Keeping) (im measure : Measure) → All is_positive shape → Grows measure → Grows (shard_representation shape keep im measure)
shard_grows shape keep im measure p grows sizes others type fill r s positive also h a b =
    let one = shard_taken shape keep im measure sizes type fill r a in
    let two = shard_taken shape keep im measure others type fill s b in
    let inner : one.inner_size ≡ two.inner_size = ok_is one.inner_size two.inner_size (sym one.inner_is ∙ two.inner_is) in
    let count = count_grows shape sizes others p one.divided two.divided h in
    let i = bind_ok (measure (index_shape shape sizes) (offset_type true) (offset_bytes true 0)) fixed_size one.size one.sized in
    let j = bind_ok (measure (index_shape shape others) (offset_type true) (offset_bytes true 0)) fixed_size two.size two.sized in
    let more : product (index_shape shape sizes) ≤ product (index_shape shape others) =
    let x = product_two (grid shape sizes) in
    let y = product_two (grid shape others) in
    omega (arith, x, y, count) in
    let index = grows (index_shape shape sizes) (index_shape shape others) (offset_type true) (offset_bytes true 0) i.0 j.0 (index_positive shape sizes positive (is_cut shape sizes p one.divided)) (index_positive shape others also (is_cut shape others p two.divided)) more i.1 j.1 in
    let sizes_grow : one.size ≤ two.size = subst (λ (x : BytesRepresentation). IsAtMost x (FixedSize two.size)) (fixed_is i.0 one.size i.2) (subst (λ (x : BytesRepresentation). IsAtMost i.0 x) (fixed_is j.0 two.size j.2) index) in
    subst (λ (x : BytesRepresentation). IsAtMost x s) one.is
    (subst (λ (x : BytesRepresentation). IsAtMost (bounded_total (λ inner index. inner_chunk_count shape sizes * inner + index) one.inner_size (FixedSize one.size)) x) (ap (λ (x : BytesRepresentation). bounded_total (λ inner index. (inner_chunk_count shape others) * inner + index) x (FixedSize two.size)) inner ∙ two.is)
    (bound_grows one.inner_size (inner_chunk_count shape sizes) (inner_chunk_count shape others) one.size two.size count sizes_grow))

-- ---- of as many elements it is the same

count_same : (shape sizes others : List ℕ) → All is_positive shape → is_divided shape sizes ≡ true → is_divided shape others ≡ true → product sizes ≡ product others → inner_chunk_count shape sizes ≡ inner_chunk_count shape others
count_same shape sizes others p d g h =
    let less = count_grows shape sizes others p d g (omega (arith, h)) in
    let more = count_grows shape others sizes p g d (omega (arith, h)) in
    omega (arith, less, more)

fixed_same : (r s : BytesRepresentation) (size other : ℕ) → fixed_size r ≡ Ok size → fixed_size s ≡ Ok other → r ≡ s → size ≡ other
fixed_same r s size other a b e = ok_is size other (sym a ∙ ap fixed_size e ∙ b)

pub shard_by_count : (shape : List ℕ) (keep : Keeping) (im measure : Measure) → All is_positive shape → GoesByCount measure → GoesByCount (shard_representation shape keep im measure)
shard_by_count shape keep im measure p by_count sizes others type fill r s positive also h a b =
    let one = shard_taken shape keep im measure sizes type fill r a in
    let two = shard_taken shape keep im measure others type fill s b in
    let inner : one.inner_size ≡ two.inner_size = ok_is one.inner_size two.inner_size (sym one.inner_is ∙ two.inner_is) in
    let count = count_same shape sizes others p one.divided two.divided h in
    let i = bind_ok (measure (index_shape shape sizes) (offset_type true) (offset_bytes true 0)) fixed_size one.size one.sized in
    let j = bind_ok (measure (index_shape shape others) (offset_type true) (offset_bytes true 0)) fixed_size two.size two.sized in
    let as_many : product (index_shape shape sizes) ≡ product (index_shape shape others) =
    product_two (grid shape sizes) ∙ ap (λ (n : ℕ). n * 2) count ∙ sym (product_two (grid shape others)) in
    let index = by_count (index_shape shape sizes) (index_shape shape others) (offset_type true) (offset_bytes true 0) i.0 j.0 (index_positive shape sizes positive (is_cut shape sizes p one.divided)) (index_positive shape others also (is_cut shape others p two.divided)) as_many i.1 j.1 in
    let same : one.size ≡ two.size = fixed_same i.0 j.0 one.size two.size i.2 j.2 index in
    sym one.is ∙ (λ k. bounded_total (λ inner index. (count k) * inner + index) (inner k) (FixedSize (same k))) ∙ two.is

-- ---- what memory has room for, and fill values

pub shard_room : (shape : List ℕ) (keep : Keeping) (im measure : Measure) → HasRoom (shard_representation shape keep im measure)
shard_room shape keep im measure sizes type fill r positive small e = (shard_taken shape keep im measure sizes type fill r e).fitting

pub shard_counted : (shape : List ℕ) (keep : Keeping) (im measure : Measure) (sizes : List ℕ) (type : ElementType) (fill : List ℕ) (r : BytesRepresentation) → shard_representation shape keep im measure sizes type fill ≡ Ok r → checked_u64 (product sizes) ≡ Ok (product sizes)
shard_counted shape keep im measure sizes type fill r e = (shard_taken shape keep im measure sizes type fill r e).counted

pub shard_fits : (shape : List ℕ) (keep : Keeping) (im measure : Measure) → HasFill im → HasFill (shard_representation shape keep im measure)
shard_fits shape keep im measure law sizes type fill r e =
    let taken = shard_taken shape keep im measure sizes type fill r e in
    law shape type fill taken.inner_size taken.inner_is

pub shard_long : (shape : List ℕ) (at_end : Bool) (measure : Measure) (inner index : Decoder) (sizes : List ℕ) (type : ElementType) (fill value : List ℕ) (chunk : Chunk) → shard_chunk shape at_end measure inner index sizes type fill value ≡ Ok chunk → length chunk ≡ product sizes
shard_long shape at_end measure inner index sizes type fill value chunk e =
    let o = chunk_opened shape at_end measure inner index sizes type fill value chunk e in
    ap length (sym o.joined) ∙ joined_long shape sizes o.inner_chunks
