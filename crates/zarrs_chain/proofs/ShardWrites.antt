-- What calls give that write a shard.
use Rattle.std.proofs.Common.{◌≡◌, ℕ, ◌+◌, ◌<◌, ◌≤◌, ◌^◌, true, List, length, drop, Option, Result, Ok, Err, arith, ap, sym, subst, ◌∙◌}
use Rattle.std.specs.Prelude.{IsOkAnd}
use Rattle.std.specs.List.{All}
use Rattle.zarrs_chunk.specs.Answer.{Gives, checked_u64, seen}
use Rattle.zarrs_chunk.specs.ChunkShape.{product}
use Rattle.zarrs_chunk.specs.declared.codec_error.CodecError.{CodecError}
use Rattle.zarrs_data_type.specs.Element.{Chunk}
use Rattle.zarrs_data_type.specs.ElementType.{ElementType}
use Rattle.zarrs_array_bytes.specs.Chunks.{chunk_at}
use Rattle.zarrs_array_bytes.specs.Elements.{elements, select}
use Rattle.zarrs_array_bytes.specs.Held.{Held}
use Rattle.zarrs_array_bytes.specs.Validity.{Holds, validity}
use Rattle.zarrs_array_to_array.proofs.CoordinateMaps.{length-select}
use Rattle.zarrs_codec.specs.BytesToBytesCodec.{BytesCodecs}
use Rattle.zarrs_chain_meaning.specs.CodecMeaning.{chain_representation}
use Rattle.zarrs_chain_meaning.specs.sharding.InnerChunks.{grid, inner_chunk_count, inner_chunk_places, inner_chunks_of, is_divided}
use Rattle.zarrs_chain_meaning.specs.sharding.Sharding.{index_size}
use Rattle.zarrs_chain_meaning.proofs.NestedStages.{is_positive}
use Rattle.zarrs_chain.specs.ChainView.{plain_chain}
use Rattle.zarrs_chain.specs.declared.codec_chain.CodecChain.{CodecChain}
use Rattle.zarrs_shard_bytes.specs.declared.written_shard.WrittenShard.{WrittenShard}
use Rattle.zarrs_chain.specs.sharding.ShardWalk.{inner_part, written_behind}
use Rattle.zarrs_shard_bytes.specs.WrittenShard.{written_seen, written_with}
use Rattle.zarrs_chain.specs.sharding.ShardingCalls.{index_size_of}
use Rattle.zarrs_chain.proofs.ShardEncode.{written_end, written_no_more, written_one_more}
use Rattle.zarrs_chain.proofs.ShardForms.{count_smaller, small_counted}

-- ---- the inner chunk at places

-- the container of it
pub next_held : (sizes : List ℕ) (type : ElementType) (count : ℕ) (held made : Held) (found places : List ℕ) → count ≡ product sizes → found ≡ places → validity type (product sizes) held ≡ Ok tt
    → IsOkAnd (chunk_at type count found held) (Holds type made) → Holds type made (select (elements type (product sizes) held) places)
next_held sizes type count held made found places n p valid h =
    let here = subst (λ (ps : List ℕ). IsOkAnd (chunk_at type (product sizes) ps held) (Holds type made)) p (subst (λ (k : ℕ). IsOkAnd (chunk_at type k found held) (Holds type made)) n h) in
    rw valid at here

-- holds as many elements as an inner chunk has
pub next_valid : (shape : List ℕ) (type : ElementType) (chunk : Chunk) (places : List ℕ) (made : Held) → length places ≡ product shape → Holds type made (select chunk places) → validity type (product shape) made ≡ Ok tt
next_valid shape type chunk places made long h =
    subst (λ (k : ℕ). validity type k made ≡ Ok tt) (length-select chunk places ∙ long) h.valid

-- which are its own
next_elements : (shape : List ℕ) (type : ElementType) (chunk : Chunk) (places : List ℕ) (made : Held) → length places ≡ product shape → Holds type made (select chunk places) → elements type (product shape) made ≡ select chunk places
next_elements shape type chunk places made long h =
    ap (λ (k : ℕ). elements type k made) (sym (length-select chunk places ∙ long)) ∙ h.elements_are

pub next_written : {B T V : Type 0} (view : T → V) (result : Result T CodecError) (go : Option (List ℕ) → V) (f : BytesCodecs B) (chain : CodecChain B) (shape : List ℕ) (type : ElementType) (fill : List ℕ) (chunk : Chunk) (places : List ℕ) (made : Held) → length places ≡ product shape
    → Holds type made (select chunk places) → Gives view result (seen go (inner_part f chain shape type fill (elements type (product shape) made)))
    → Gives view result (seen go (inner_part f chain shape type fill (select chunk places)))
next_written view result go f chain shape type fill chunk places made long h w =
    subst (λ (c : Chunk). Gives view result (seen go (inner_part f chain shape type fill c))) (next_elements shape type chunk places made long h) w

-- as it is written of the number
pub next_numbered : {B : Type 0} (f : BytesCodecs B) (chain : CodecChain B) (shape sizes : List ℕ) (type : ElementType) (fill : List ℕ) (held : Held) (number : ℕ) (places : List ℕ) (old now : WrittenShard) → places ≡ inner_chunk_places shape sizes number
    → seen (written_with (written_seen old)) (inner_part f chain shape type fill (select (elements type (product sizes) held) places)) ≡ Ok (written_seen now)
    → seen (written_with (written_seen old)) (inner_part f chain shape type fill (select (elements type (product sizes) held) (inner_chunk_places shape sizes number))) ≡ Ok (written_seen now)
next_numbered f chain shape sizes type fill held number places old now e w =
    ap (λ (ps : List ℕ). seen (written_with (written_seen old)) (inner_part f chain shape type fill (select (elements type (product sizes) held) ps))) (sym e) ∙ w

-- or not
pub next_refused : {B : Type 0} (f : BytesCodecs B) (chain : CodecChain B) (shape sizes : List ℕ) (type : ElementType) (fill : List ℕ) (held : Held) (number : ℕ) (places : List ℕ) (old : WrittenShard) (cause : CodecError) → places ≡ inner_chunk_places shape sizes number
    → seen (written_with (written_seen old)) (inner_part f chain shape type fill (select (elements type (product sizes) held) places)) ≡ Err cause
    → seen (written_with (written_seen old)) (inner_part f chain shape type fill (select (elements type (product sizes) held) (inner_chunk_places shape sizes number))) ≡ Err cause
next_refused f chain shape sizes type fill held number places old cause e w =
    ap (λ (ps : List ℕ). seen (written_with (written_seen old)) (inner_part f chain shape type fill (select (elements type (product sizes) held) ps))) (sym e) ∙ w

-- ---- all of them

-- what is left to write of the inner chunks from that of a number on
abbrev pub Behind : {B : Type 0} → BytesCodecs B → CodecChain B → List ℕ → List ℕ → ElementType → List ℕ → Held → ℕ → WrittenShard → Result (List ℕ × List ℕ) CodecError
Behind f chain shape sizes type fill held number written =
    written_behind f chain shape type fill (drop number (inner_chunks_of shape sizes (elements type (product sizes) held))) (written_seen written)

-- is what is left at the start
pub record IsBehind {B : Type 0} (f : BytesCodecs B) (chain : CodecChain B) (shape sizes : List ℕ) (type : ElementType) (fill : List ℕ) (held : Held) (number : ℕ) (old now : WrittenShard) : Type 0 where
  pub is : written_behind f chain shape type fill (inner_chunks_of shape sizes (elements type (product sizes) held)) (written_seen old) ≡ Behind f chain shape sizes type fill held number now

pub behind_more : {B : Type 0} (f : BytesCodecs B) (chain : CodecChain B) (shape sizes : List ℕ) (type : ElementType) (fill : List ℕ) (held : Held) (number : ℕ) (old now next : WrittenShard) → number < inner_chunk_count shape sizes
    → IsBehind f chain shape sizes type fill held number old now
    → seen (written_with (written_seen now)) (inner_part f chain shape type fill (select (elements type (product sizes) held) (inner_chunk_places shape sizes number))) ≡ Ok (written_seen next)
    → IsBehind f chain shape sizes type fill held (number + 1) old next
behind_more f chain shape sizes type fill held number old now next l b e =
    record { is = b.is ∙ written_one_more f chain shape sizes type fill (elements type (product sizes) held) number (written_seen now) (written_seen next) l e }

pub behind_refused : {B : Type 0} (f : BytesCodecs B) (chain : CodecChain B) (shape sizes : List ℕ) (type : ElementType) (fill : List ℕ) (held : Held) (number : ℕ) (old now : WrittenShard) (cause : CodecError) → number < inner_chunk_count shape sizes
    → IsBehind f chain shape sizes type fill held number old now
    → seen (written_with (written_seen now)) (inner_part f chain shape type fill (select (elements type (product sizes) held) (inner_chunk_places shape sizes number))) ≡ Err cause
    → written_behind f chain shape type fill (inner_chunks_of shape sizes (elements type (product sizes) held)) (written_seen old) ≡ Err cause
behind_refused f chain shape sizes type fill held number old now cause l b e =
    b.is ∙ written_no_more f chain shape sizes type fill (elements type (product sizes) held) number (written_seen now) cause l e

pub behind_last : {B : Type 0} (f : BytesCodecs B) (chain : CodecChain B) (shape sizes : List ℕ) (type : ElementType) (fill : List ℕ) (held : Held) (number : ℕ) (old now : WrittenShard) → inner_chunk_count shape sizes ≤ number
    → IsBehind f chain shape sizes type fill held number old now
    → written_behind f chain shape type fill (inner_chunks_of shape sizes (elements type (product sizes) held)) (written_seen old) ≡ Ok (written_seen now)
behind_last f chain shape sizes type fill held number old now l b =
    b.is ∙ written_end f chain shape sizes type fill (elements type (product sizes) held) number (written_seen now) l

-- 64 bits count the inner chunks
pub chunks_counted : (shape sizes counts : List ℕ) → All is_positive shape → is_divided shape sizes ≡ true → product sizes < 2 ^ 64 → counts ≡ grid shape sizes → checked_u64 (product counts) ≡ Ok (inner_chunk_count shape sizes)
chunks_counted shape sizes counts p d small e =
    let less = count_smaller shape sizes p d in
    ap (λ (ns : List ℕ). checked_u64 (product ns)) e ∙ small_counted (inner_chunk_count shape sizes) (omega (arith, less, small))

-- ---- the index

-- how many bytes the index of it has
pub size_at : {B : Type 0} (f : BytesCodecs B) (index : CodecChain B) (shape sizes counts : List ℕ) (r : Result ℕ CodecError) → counts ≡ grid shape sizes → index_size_of f index counts ≡ r → index_size (chain_representation f (plain_chain index)) shape sizes ≡ r
size_at f index shape sizes counts r e h = ap (index_size_of f index) (sym e) ∙ h
