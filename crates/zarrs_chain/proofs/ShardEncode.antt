-- What is written of a shard, inner chunk by inner chunk.
use Rattle.std.proofs.Common.{◌≡◌, ℕ, suc, ◌+◌, ◌*◌, ◌<◌, ◌≤◌, ◌^◌, nat_lt, Bool, true, false, List, [], ◌∷◌, ◌++◌, length, drop, replicate, Option, Some, None, Result, Ok, Err, arith, refl, ap, sym, ◌∙◌}
use Rattle.std.proofs.lemmas.List.{append_assoc, append-nil, at_drop_all, drop_more, drop_at, length-append, length-replicate}
use Rattle.std.proofs.lemmas.List.FromFn.{get_or-map-range_with_len}
use Rattle.zarrs_chunk.specs.Answer.{◌>>=◌, demand, seen}
use Rattle.zarrs_chunk.specs.declared.codec_error.CodecError.{CodecError}
use Rattle.zarrs_chunk.specs.declared.codec_error.CodecError.TheVariants.{OffsetNotKept}
use Rattle.zarrs_chunk.proofs.Inside.{lt_test}
use Rattle.zarrs_data_type.specs.Element.{Chunk}
use Rattle.zarrs_data_type.specs.ElementType.{ElementType}
use Rattle.zarrs_array_bytes.specs.Elements.{select}
use Rattle.zarrs_bytes.proofs.Coding.{ok, bind_ok}
use Rattle.zarrs_codec.specs.BytesToBytesCodec.{BytesCodecs}
use Rattle.zarrs_chain_meaning.specs.BytesStages.{in_memory}
use Rattle.zarrs_chain_meaning.specs.CodecMeaning.{chain_representation, chain_value, codec_normal_element, normal_form}
use Rattle.zarrs_chain_meaning.specs.Meaning.{Encoder, Keeping}
use Rattle.zarrs_chain_meaning.specs.sharding.InnerChunks.{grid, inner_chunk_count, inner_chunk_places, inner_chunks_of}
use Rattle.zarrs_chain_meaning.specs.sharding.ShardSteps.{inner_value}
use Rattle.zarrs_chain_meaning.specs.sharding.Sharding.{first_offset, index_numbers, index_shape, index_size, is_left_out, joined_values, missing, shard_layout, shard_value}
use Rattle.zarrs_chain_meaning.specs.vlen.Vlen.{is_same_bytes, offset_bytes, offset_elements, offset_type}
use Rattle.zarrs_chain_meaning.proofs.ArraySteps.{ok_is, next_answer}
use Rattle.zarrs_chain_meaning.proofs.ChainSteps.{next_err}
use Rattle.zarrs_chain_meaning.proofs.InnerChunks.{inner_chunks_long}
use Rattle.zarrs_chain_meaning.proofs.ShardNormal.{numbers_long}
use Rattle.zarrs_chain.specs.ChainView.{plain_chain}
use Rattle.zarrs_chain.specs.declared.codec_chain.CodecChain.{CodecChain}
use Rattle.zarrs_chain.specs.sharding.ShardWalk.{inner_part, written_behind}
use Rattle.zarrs_shard_bytes.specs.WrittenShard.{with_index, written_with}
use Rattle.zarrs_chain.specs.sharding.ShardingCalls.{shard_index_part}
use Rattle.zarrs_chain_meaning.specs.Parts.{for_each}

-- ---- one inner chunk

-- ---- all of them

-- the inner chunks from that of a number on
pub chunks_behind : (shape sizes : List ℕ) (chunk : Chunk) (number : ℕ) → number < inner_chunk_count shape sizes
    → drop number (inner_chunks_of shape sizes chunk) ≡ select chunk (inner_chunk_places shape sizes number) ∷ drop (number + 1) (inner_chunks_of shape sizes chunk)
chunks_behind shape sizes chunk number l =
    let long : number < length (inner_chunks_of shape sizes chunk) = omega (arith, l, inner_chunks_long shape sizes chunk) in
    let here = get_or-map-range_with_len (λ n. select chunk (inner_chunk_places shape sizes n)) 0 (inner_chunk_count shape sizes) number number [] l (omega arith) in
    drop_more (inner_chunks_of shape sizes chunk) number [] long ∙ (λ i. here i ∷ drop (number + 1) (inner_chunks_of shape sizes chunk))

-- one inner chunk is written
pub written_one_more : {B : Type 0} (f : BytesCodecs B) (chain : CodecChain B) (shape sizes : List ℕ) (type : ElementType) (fill : List ℕ) (chunk : Chunk) (number : ℕ) (so_far more : List ℕ × List ℕ) → number < inner_chunk_count shape sizes
    → seen (written_with so_far) (inner_part f chain shape type fill (select chunk (inner_chunk_places shape sizes number))) ≡ Ok more
    → written_behind f chain shape type fill (drop number (inner_chunks_of shape sizes chunk)) so_far ≡ written_behind f chain shape type fill (drop (number + 1) (inner_chunks_of shape sizes chunk)) more
written_one_more f chain shape sizes type fill chunk number so_far more l e =
    ap (λ cs. written_behind f chain shape type fill cs so_far) (chunks_behind shape sizes chunk number l)
    ∙ step (inner_part f chain shape type fill (select chunk (inner_chunk_places shape sizes number))) e
  where
    step : (r : Result (Option (List ℕ)) CodecError) → seen (written_with so_far) r ≡ Ok more
        → r >>= (λ part. written_behind f chain shape type fill (drop (number + 1) (inner_chunks_of shape sizes chunk)) (written_with so_far part)) ≡ written_behind f chain shape type fill (drop (number + 1) (inner_chunks_of shape sizes chunk)) more
    step (Ok part) e = ap (written_behind f chain shape type fill (drop (number + 1) (inner_chunks_of shape sizes chunk))) (ok_is (written_with so_far part) more e)
    step (Err cause) e = absurd cc

-- or not
pub written_no_more : {B : Type 0} (f : BytesCodecs B) (chain : CodecChain B) (shape sizes : List ℕ) (type : ElementType) (fill : List ℕ) (chunk : Chunk) (number : ℕ) (so_far : List ℕ × List ℕ) (cause : CodecError) → number < inner_chunk_count shape sizes
    → seen (written_with so_far) (inner_part f chain shape type fill (select chunk (inner_chunk_places shape sizes number))) ≡ Err cause
    → written_behind f chain shape type fill (drop number (inner_chunks_of shape sizes chunk)) so_far ≡ Err cause
written_no_more f chain shape sizes type fill chunk number so_far cause l e =
    ap (λ cs. written_behind f chain shape type fill cs so_far) (chunks_behind shape sizes chunk number l)
    ∙ step (inner_part f chain shape type fill (select chunk (inner_chunk_places shape sizes number))) e
  where
    step : (r : Result (Option (List ℕ)) CodecError) → seen (written_with so_far) r ≡ Err cause
        → r >>= (λ part. written_behind f chain shape type fill (drop (number + 1) (inner_chunks_of shape sizes chunk)) (written_with so_far part)) ≡ Err cause
    step (Ok part) e = absurd cc
    step (Err other) e = cc

pub written_end : {B : Type 0} (f : BytesCodecs B) (chain : CodecChain B) (shape sizes : List ℕ) (type : ElementType) (fill : List ℕ) (chunk : Chunk) (number : ℕ) (so_far : List ℕ × List ℕ) → inner_chunk_count shape sizes ≤ number
    → written_behind f chain shape type fill (drop number (inner_chunks_of shape sizes chunk)) so_far ≡ Ok so_far
written_end f chain shape sizes type fill chunk number so_far l =
    at_drop_all (λ cs. written_behind f chain shape type fill cs so_far) (inner_chunks_of shape sizes chunk) number (omega (arith, l, inner_chunks_long shape sizes chunk))

-- what is written of all inner chunks are their values, and the numbers of the index
abbrev pub written_so : List ℕ → List ℕ → List (Option (List ℕ)) → (List ℕ × List ℕ)
written_so front numbers parts = (front ++ joined_values parts, numbers ++ index_numbers (length front) parts)

so_one : (front numbers : List ℕ) (part : Option (List ℕ)) (parts : List (Option (List ℕ))) → written_so (written_with (front, numbers) part).0 (written_with (front, numbers) part).1 parts ≡ written_so front numbers (part ∷ parts)
so_one front numbers None parts = λ i. (front ++ joined_values parts, append_assoc numbers (missing ∷ missing ∷ []) (index_numbers (length front) parts) i)
so_one front numbers (Some part) parts =
    let at = length-append front part in
    let rest : (numbers ++ length front ∷ length part ∷ []) ++ index_numbers (length (front ++ part)) parts ≡ numbers ++ length front ∷ length part ∷ index_numbers (length front + length part) parts =
    append_assoc numbers (length front ∷ length part ∷ []) (index_numbers (length (front ++ part)) parts) ∙ ap (λ n. numbers ++ length front ∷ length part ∷ index_numbers n parts) at in
    λ i. (append_assoc front part (joined_values parts) i, rest i)

pub written_values : {B : Type 0} (f : BytesCodecs B) (chain : CodecChain B) (shape : List ℕ) (type : ElementType) (fill : List ℕ) (inner_chunks : List Chunk) (front numbers : List ℕ)
    → written_behind f chain shape type fill inner_chunks (front, numbers) ≡ seen (written_so front numbers) (for_each (λ inner_chunk. inner_value (is_left_out (codec_normal_element (plain_chain chain).array_to_bytes) type fill inner_chunk) (chain_value f (plain_chain chain) shape type fill inner_chunk)) inner_chunks)
written_values f chain shape type fill [] front numbers = ap ok (λ i. (sym (append-nil front) i, sym (append-nil numbers) i))
written_values f chain shape type fill (inner_chunk ∷ inner_chunks) front numbers =
    step (λ part. written_values f chain shape type fill inner_chunks (written_with (front, numbers) part).0 (written_with (front, numbers) part).1) (inner_part f chain shape type fill inner_chunk)
  where
    more : (r : Result (List (Option (List ℕ))) CodecError) (part : Option (List ℕ)) → seen (written_so (written_with (front, numbers) part).0 (written_with (front, numbers) part).1) r ≡ seen (written_so front numbers) (r >>= λ parts. ok (part ∷ parts))
    more (Ok parts) part = ap ok (so_one front numbers part parts)
    more (Err cause) part = refl

    step : ((part : Option (List ℕ)) → written_behind f chain shape type fill inner_chunks (written_with (front, numbers) part)
        ≡ seen (written_so (written_with (front, numbers) part).0 (written_with (front, numbers) part).1) (for_each (λ inner_chunk. inner_value (is_left_out (codec_normal_element (plain_chain chain).array_to_bytes) type fill inner_chunk) (chain_value f (plain_chain chain) shape type fill inner_chunk)) inner_chunks))
        → (r : Result (Option (List ℕ)) CodecError) → r >>= (λ part. written_behind f chain shape type fill inner_chunks (written_with (front, numbers) part))
        ≡ seen (written_so front numbers) (r >>= λ part. for_each (λ inner_chunk. inner_value (is_left_out (codec_normal_element (plain_chain chain).array_to_bytes) type fill inner_chunk) (chain_value f (plain_chain chain) shape type fill inner_chunk)) inner_chunks >>= λ parts. ok (part ∷ parts))
    step rest (Ok part) = rest part ∙ more (for_each (λ inner_chunk. inner_value (is_left_out (codec_normal_element (plain_chain chain).array_to_bytes) type fill inner_chunk) (chain_value f (plain_chain chain) shape type fill inner_chunk)) inner_chunks) part
    step rest (Err cause) = refl

-- ---- the value

index_step : (r : Result (List ℕ) CodecError) (d : Result (Unit {0}) CodecError) (g : List ℕ → Result (List ℕ) CodecError) → r >>= (λ part. d >>= (λ _. g part)) ≡ r >>= (λ part. d >>= (λ _. ok part)) >>= g
index_step (Ok part) (Ok u) g = refl
index_step (Ok part) (Err cause) g = refl
index_step (Err cause) d g = refl

-- the value, where it is known how many bytes the index has, and what inner chunks are written
value_so : {B : Type 0} (f : BytesCodecs B) (inner index : CodecChain B) (shape : List ℕ) (at_end : Bool) (sizes : List ℕ) (type : ElementType) (fill : List ℕ) (chunk : Chunk) (size : ℕ) (parts : List (Option (List ℕ)))
    → index_size (chain_representation f (plain_chain index)) shape sizes ≡ Ok size → for_each (λ inner_chunk. inner_value (is_left_out (codec_normal_element (plain_chain inner).array_to_bytes) type fill inner_chunk) (chain_value f (plain_chain inner) shape type fill inner_chunk)) (inner_chunks_of shape sizes chunk) ≡ Ok parts
    → nat_lt (first_offset at_end size + length (joined_values parts)) (2 ^ 64) ≡ true
    → shard_value shape at_end (codec_normal_element (plain_chain inner).array_to_bytes) (codec_normal_element (plain_chain index).array_to_bytes) (chain_representation f (plain_chain index)) (chain_value f (plain_chain inner)) (chain_value f (plain_chain index)) sizes type fill chunk
    ≡ shard_index_part f index (index_numbers (first_offset at_end size) parts) (grid shape sizes) >>= (λ part. in_memory (shard_layout at_end part (joined_values parts)))
value_so f inner index shape at_end sizes type fill chunk size parts a b c =
    let rows = offset_elements true (index_numbers (first_offset at_end size) parts) in
    rw (a, b, c)
    (index_step (chain_value f (plain_chain index) (index_shape shape sizes) (offset_type true) (offset_bytes true 0) rows) (demand (is_same_bytes (normal_form (plain_chain index).array_to_bytes (offset_type true) rows) rows) OffsetNotKept)
    (λ part. in_memory (shard_layout at_end part (joined_values parts))))

-- what was written of all inner chunks
pub record AreWritten {B : Type 0} (f : BytesCodecs B) (chain : CodecChain B) (shape sizes : List ℕ) (type : ElementType) (fill : List ℕ) (chunk : Chunk) (at : ℕ) (bytes numbers : List ℕ) : Type 0 where
  pub parts : List (Option (List ℕ))
  pub values : for_each (λ inner_chunk. inner_value (is_left_out (codec_normal_element (plain_chain chain).array_to_bytes) type fill inner_chunk) (chain_value f (plain_chain chain) shape type fill inner_chunk)) (inner_chunks_of shape sizes chunk) ≡ Ok parts
  pub bytes_are : replicate at 0 ++ joined_values parts ≡ bytes
  pub numbers_are : index_numbers at parts ≡ numbers

pub are_written : {B : Type 0} (f : BytesCodecs B) (chain : CodecChain B) (shape sizes : List ℕ) (type : ElementType) (fill : List ℕ) (chunk : Chunk) (at : ℕ) (bytes numbers : List ℕ)
    → written_behind f chain shape type fill (inner_chunks_of shape sizes chunk) (replicate at 0, []) ≡ Ok (bytes, numbers) → AreWritten f chain shape sizes type fill chunk at bytes numbers
are_written f chain shape sizes type fill chunk at bytes numbers e =
    let found = seen_so (for_each (λ inner_chunk. inner_value (is_left_out (codec_normal_element (plain_chain chain).array_to_bytes) type fill inner_chunk) (chain_value f (plain_chain chain) shape type fill inner_chunk)) (inner_chunks_of shape sizes chunk)) (sym (written_values f chain shape type fill (inner_chunks_of shape sizes chunk) (replicate at 0) []) ∙ e) in
    record {
      parts = found.0;
      values = found.1;
      bytes_are = λ i. (found.2 i).0;
      numbers_are = ap (λ n. index_numbers n found.0) (sym (length-replicate at 0)) ∙ (λ i. (found.2 i).1);
    }
  where
    seen_so : (r : Result (List (Option (List ℕ))) CodecError) → seen (written_so (replicate at 0) []) r ≡ Ok (bytes, numbers) → (parts : List (Option (List ℕ))) × (r ≡ Ok parts) × (written_so (replicate at 0) [] parts ≡ (bytes, numbers))
    seen_so (Ok parts) e = (parts, refl, ok_is (written_so (replicate at 0) [] parts) (bytes, numbers) e)
    seen_so (Err cause) e = absurd cc

pub not_written : {B : Type 0} (f : BytesCodecs B) (chain : CodecChain B) (shape sizes : List ℕ) (type : ElementType) (fill : List ℕ) (chunk : Chunk) (at : ℕ) (cause : CodecError)
    → written_behind f chain shape type fill (inner_chunks_of shape sizes chunk) (replicate at 0, []) ≡ Err cause
    → for_each (λ inner_chunk. inner_value (is_left_out (codec_normal_element (plain_chain chain).array_to_bytes) type fill inner_chunk) (chain_value f (plain_chain chain) shape type fill inner_chunk)) (inner_chunks_of shape sizes chunk) ≡ Err cause
not_written f chain shape sizes type fill chunk at cause e =
    none (for_each (λ inner_chunk. inner_value (is_left_out (codec_normal_element (plain_chain chain).array_to_bytes) type fill inner_chunk) (chain_value f (plain_chain chain) shape type fill inner_chunk)) (inner_chunks_of shape sizes chunk)) (sym (written_values f chain shape type fill (inner_chunks_of shape sizes chunk) (replicate at 0) []) ∙ e)
  where
    none : (r : Result (List (Option (List ℕ))) CodecError) → seen (written_so (replicate at 0) []) r ≡ Err cause → r ≡ Err cause
    none (Ok parts) e = absurd cc
    none (Err other) e = cc

layout_so : (at_end : Bool) (size : ℕ) (bytes part values : List ℕ) → replicate (first_offset at_end size) 0 ++ values ≡ bytes → shard_layout at_end part values ≡ with_index at_end size bytes part
layout_so false size bytes part values e = ap (λ (xs : List ℕ). part ++ xs) (sym (drop_at (replicate size 0) values size (length-replicate size 0)) ∙ ap (drop size) e)
layout_so true size bytes part values e = ap (λ (xs : List ℕ). xs ++ part) e

counted_so : (at_end : Bool) (size : ℕ) (bytes values : List ℕ) → replicate (first_offset at_end size) 0 ++ values ≡ bytes → length bytes < 2 ^ 64 → nat_lt (first_offset at_end size + length values) (2 ^ 64) ≡ true
counted_so at_end size bytes values e l =
    let at = first_offset at_end size in
    let long : length bytes ≡ at + length values = ap length (sym e) ∙ length-append (replicate at 0) values ∙ ap (λ n. n + length values) (length-replicate at 0) in
    lt_test (at + length values) (2 ^ 64) (omega (arith, l, long))

pub shard_written : {B : Type 0} (f : BytesCodecs B) (inner index : CodecChain B) (shape : List ℕ) (at_end : Bool) (sizes : List ℕ) (type : ElementType) (fill : List ℕ) (chunk : Chunk) (size : ℕ) (bytes numbers part : List ℕ)
    → index_size (chain_representation f (plain_chain index)) shape sizes ≡ Ok size
    → written_behind f inner shape type fill (inner_chunks_of shape sizes chunk) (replicate (first_offset at_end size) 0, []) ≡ Ok (bytes, numbers) → length bytes < 2 ^ 64
    → shard_index_part f index numbers (grid shape sizes) ≡ Ok part → length (with_index at_end size bytes part) < 2 ^ 64
    → shard_value shape at_end (codec_normal_element (plain_chain inner).array_to_bytes) (codec_normal_element (plain_chain index).array_to_bytes) (chain_representation f (plain_chain index)) (chain_value f (plain_chain inner)) (chain_value f (plain_chain index)) sizes type fill chunk ≡ Ok (with_index at_end size bytes part)
shard_written f inner index shape at_end sizes type fill chunk size bytes numbers part sized e small h fits =
    let w = are_written f inner shape sizes type fill chunk (first_offset at_end size) bytes numbers e in
    let found : shard_index_part f index (index_numbers (first_offset at_end size) w.parts) (grid shape sizes) ≡ Ok part = ap (λ ns. shard_index_part f index ns (grid shape sizes)) w.numbers_are ∙ h in
    value_so f inner index shape at_end sizes type fill chunk size w.parts sized w.values (counted_so at_end size bytes (joined_values w.parts) w.bytes_are small)
    ∙ next_answer (shard_index_part f index (index_numbers (first_offset at_end size) w.parts) (grid shape sizes)) part (λ part. in_memory (shard_layout at_end part (joined_values w.parts))) found
    ∙ ap in_memory (layout_so at_end size bytes part (joined_values w.parts) w.bytes_are)
    ∙ rw (lt_test (length (with_index at_end size bytes part)) (2 ^ 64) fits) refl

pub index_not_written : {B : Type 0} (f : BytesCodecs B) (inner index : CodecChain B) (shape : List ℕ) (at_end : Bool) (sizes : List ℕ) (type : ElementType) (fill : List ℕ) (chunk : Chunk) (size : ℕ) (bytes numbers : List ℕ) (cause : CodecError)
    → index_size (chain_representation f (plain_chain index)) shape sizes ≡ Ok size
    → written_behind f inner shape type fill (inner_chunks_of shape sizes chunk) (replicate (first_offset at_end size) 0, []) ≡ Ok (bytes, numbers) → length bytes < 2 ^ 64
    → shard_index_part f index numbers (grid shape sizes) ≡ Err cause
    → shard_value shape at_end (codec_normal_element (plain_chain inner).array_to_bytes) (codec_normal_element (plain_chain index).array_to_bytes) (chain_representation f (plain_chain index)) (chain_value f (plain_chain inner)) (chain_value f (plain_chain index)) sizes type fill chunk ≡ Err cause
index_not_written f inner index shape at_end sizes type fill chunk size bytes numbers cause sized e small h =
    let w = are_written f inner shape sizes type fill chunk (first_offset at_end size) bytes numbers e in
    let found : shard_index_part f index (index_numbers (first_offset at_end size) w.parts) (grid shape sizes) ≡ Err cause = ap (λ ns. shard_index_part f index ns (grid shape sizes)) w.numbers_are ∙ h in
    value_so f inner index shape at_end sizes type fill chunk size w.parts sized w.values (counted_so at_end size bytes (joined_values w.parts) w.bytes_are small)
    ∙ next_err (shard_index_part f index (index_numbers (first_offset at_end size) w.parts) (grid shape sizes)) cause (λ part. in_memory (shard_layout at_end part (joined_values w.parts))) found

pub inner_not_written : {B : Type 0} (f : BytesCodecs B) (inner index : CodecChain B) (shape : List ℕ) (at_end : Bool) (sizes : List ℕ) (type : ElementType) (fill : List ℕ) (chunk : Chunk) (size : ℕ) (cause : CodecError)
    → index_size (chain_representation f (plain_chain index)) shape sizes ≡ Ok size
    → written_behind f inner shape type fill (inner_chunks_of shape sizes chunk) (replicate (first_offset at_end size) 0, []) ≡ Err cause
    → shard_value shape at_end (codec_normal_element (plain_chain inner).array_to_bytes) (codec_normal_element (plain_chain index).array_to_bytes) (chain_representation f (plain_chain index)) (chain_value f (plain_chain inner)) (chain_value f (plain_chain index)) sizes type fill chunk ≡ Err cause
inner_not_written f inner index shape at_end sizes type fill chunk size cause sized e =
    rw (sized, not_written f inner shape sizes type fill chunk (first_offset at_end size) cause e) refl

values_long : (keep : Keeping) (encode : Encoder) (shape : List ℕ) (type : ElementType) (fill : List ℕ) (inner_chunks : List Chunk) (parts : List (Option (List ℕ))) → for_each (λ inner_chunk. inner_value (is_left_out keep type fill inner_chunk) (encode shape type fill inner_chunk)) inner_chunks ≡ Ok parts → length parts ≡ length inner_chunks
values_long keep encode shape type fill [] parts e = ap length (sym (ok_is [] parts e))
values_long keep encode shape type fill (inner_chunk ∷ inner_chunks) parts e =
    let a = bind_ok (inner_value (is_left_out keep type fill inner_chunk) (encode shape type fill inner_chunk)) _ parts e in
    let b = bind_ok (for_each (λ inner_chunk. inner_value (is_left_out keep type fill inner_chunk) (encode shape type fill inner_chunk)) inner_chunks) _ parts a.2 in
    ap length (sym (ok_is (a.0 ∷ b.0) parts b.2)) ∙ ap suc (values_long keep encode shape type fill inner_chunks b.0 b.1)

-- two numbers for each inner chunk
pub numbers_counted : {B : Type 0} (f : BytesCodecs B) (chain : CodecChain B) (shape sizes : List ℕ) (type : ElementType) (fill : List ℕ) (chunk : Chunk) (at : ℕ) (bytes numbers : List ℕ)
    → written_behind f chain shape type fill (inner_chunks_of shape sizes chunk) (replicate at 0, []) ≡ Ok (bytes, numbers) → length numbers ≡ inner_chunk_count shape sizes * 2
numbers_counted f chain shape sizes type fill chunk at bytes numbers e =
    let w = are_written f chain shape sizes type fill chunk at bytes numbers e in
    ap length (sym w.numbers_are) ∙ numbers_long at w.parts
    ∙ ap (λ n. n * 2) (values_long (codec_normal_element (plain_chain chain).array_to_bytes) (chain_value f (plain_chain chain)) shape type fill (inner_chunks_of shape sizes chunk) w.parts w.values ∙ inner_chunks_long shape sizes chunk)

-- there is room for an index at the front
pub front_there : {B : Type 0} (f : BytesCodecs B) (chain : CodecChain B) (shape sizes : List ℕ) (type : ElementType) (fill : List ℕ) (chunk : Chunk) (at_end : Bool) (size : ℕ) (bytes numbers : List ℕ)
    → written_behind f chain shape type fill (inner_chunks_of shape sizes chunk) (replicate (first_offset at_end size) 0, []) ≡ Ok (bytes, numbers) → at_end ≡ false → size ≤ length bytes
front_there f chain shape sizes type fill chunk at_end size bytes numbers e is =
    let at = first_offset at_end size in
    let w = are_written f chain shape sizes type fill chunk at bytes numbers e in
    let long : length bytes ≡ at + length (joined_values w.parts) = ap length (sym w.bytes_are) ∙ length-append (replicate at 0) (joined_values w.parts) ∙ ap (λ n. n + length (joined_values w.parts)) (length-replicate at 0) in
    let here : at ≡ size = ap (λ b. first_offset b size) is in
    omega (arith, long, here)
