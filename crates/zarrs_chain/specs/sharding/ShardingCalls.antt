-- What calls give that are asked of a `sharding_indexed` about chunks, and what its steps give.
use Rattle.std.specs.Prelude.{◌≡◌, ◌<◌, ◌^◌, ℕ, Bool, true, false, List, [], ◌∷◌, ◌++◌, length, Result, Ok, IfOk, IsOk, Vec}
use Rattle.std.specs.declared.alloc.Global.{Global}
use Rattle.std.specs.declared.borrow.CowSlice.{CowSlice}
use Rattle.zarrs_chunk.specs.Answer.{◌>>=◌, checked_u64, demand, seen, Gives, GivesBy, GivesItems, GivesValue}
use Rattle.zarrs_chunk.specs.ChunkShape.{product}
use Rattle.zarrs_chunk.specs.declared.codec_error.CodecError.{CodecError}
use Rattle.zarrs_chunk.specs.declared.codec_error.CodecError.TheVariants.{OffsetNotKept, Overflow}
use Rattle.zarrs_data_type.specs.Element.{Element, fill_element}
use Rattle.zarrs_data_type.specs.ElementType.{ElementType}
use Rattle.zarrs_data_type.specs.FillValue.{fill_fits}
use Rattle.zarrs_data_type.specs.Form.{Form, form_of}
use Rattle.zarrs_array_bytes.specs.Elements.{elements}
use Rattle.zarrs_array_bytes.specs.Held.{Held, items_of}
use Rattle.zarrs_array_bytes.specs.Validity.{Holds, sizes_fit}
use Rattle.zarrs_codec.specs.BytesToBytesCodec.{BytesCodecs}
use Rattle.zarrs_codec.specs.declared.bytes_representation.BytesRepresentation.{BytesRepresentation}
use Rattle.zarrs_packbits.specs.NormalForm.{normal_chunk}
use Rattle.zarrs_packbits.specs.PackBitsSettings.{PackBitsSettings}
use Rattle.zarrs_chain_meaning.specs.CallAnswers.{GivesRepresentation}
use Rattle.zarrs_chain_meaning.specs.CodecMeaning.{PlainCodec, codec_normal_element, normal_form, chain_representation, chain_value, chain_chunk}
use Rattle.zarrs_chain_meaning.specs.Meaning.{Measure}
use Rattle.zarrs_chain_meaning.specs.sharding.InnerChunks.{is_divided}
use Rattle.zarrs_chain_meaning.specs.sharding.ShardingSettings.{is_index_at_end}
use Rattle.zarrs_chain_meaning.specs.sharding.Sharding.{fixed_size, is_kept_as_fill, is_left_out, shard_representation, shard_value, shard_chunk}
use Rattle.zarrs_chain_meaning.specs.vlen.Vlen.{offset_type, offset_bytes, offset_elements, offsets_in_chunk, is_same_bytes}
use Rattle.zarrs_chain.specs.ChainView.{plain_chain, plain_codec, plain_sharding}
use Rattle.zarrs_chain.specs.declared.array_to_bytes_codec.ArrayToBytesCodec.{ArrayToBytesCodec}
use Rattle.zarrs_chain.specs.declared.codec_chain.CodecChain.{CodecChain}
use Rattle.zarrs_chain.specs.declared.sharding.sharding_codec.ShardingCodec.{ShardingCodec, out-ShardingCodec}

-- a `sharding_indexed` gives how many bytes the value of such a chunk has, or the first error
abbrev pub ShardingRepresents : {B : Type 0} → BytesCodecs B → ShardingCodec B → List ℕ → ElementType → List ℕ → Result BytesRepresentation CodecError → Type 0
ShardingRepresents f codec sizes type fill result = GivesRepresentation f (plain_sharding codec) (form_of sizes type fill) result

-- ---- the same, by the two chains inside, that of inner chunks and that of the index

-- how many bytes the value of such a chunk has, or the first error
abbrev pub shard_represented : {B : Type 0} → BytesCodecs B → CodecChain B → CodecChain B → List ℕ → Measure
shard_represented f inner index shape sizes type fill =
    shard_representation shape (codec_normal_element (plain_chain inner).array_to_bytes) (chain_representation f (plain_chain inner)) (chain_representation f (plain_chain index)) sizes type fill

-- such chunks are taken
abbrev pub TakesShard : {B : Type 0} → BytesCodecs B → CodecChain B → CodecChain B → List ℕ → List ℕ → ElementType → List ℕ → Type 0
TakesShard f inner index shape sizes type fill = IsOk (shard_represented f inner index shape sizes type fill)

-- the value of the chunk that a container of as many elements holds, or the first error
abbrev pub WritesShard : {B : Type 0} → BytesCodecs B → CodecChain B → CodecChain B → List ℕ → Bool → List ℕ → ElementType → List ℕ → Held → Result (CowSlice ℕ Global) CodecError → Type 0
WritesShard f inner index shape at_end sizes type fill held result =
    Gives items_of result (shard_value shape at_end (codec_normal_element (plain_chain inner).array_to_bytes) (codec_normal_element (plain_chain index).array_to_bytes) (chain_representation f (plain_chain index)) (chain_value f (plain_chain inner)) (chain_value f (plain_chain index)) sizes type fill (elements type (product sizes) held))

-- a container of the chunk that a value stands for, or the first error
abbrev pub ReadsShard : {B : Type 0} → BytesCodecs B → CodecChain B → CodecChain B → List ℕ → Bool → List ℕ → ElementType → List ℕ → List ℕ → Result Held CodecError → Type 0
ReadsShard f inner index shape at_end sizes type fill value result =
    GivesBy (Holds type) result (shard_chunk shape at_end (chain_representation f (plain_chain index)) (chain_chunk f (plain_chain inner)) (chain_chunk f (plain_chain index)) sizes type fill value)

-- ---- the same, by what a codec has inside

-- such chunks are taken
abbrev pub TakesInside : {B : Type 0} → BytesCodecs B → ShardingCodec B → Form → Type 0
TakesInside f codec form =
    TakesShard f (out-ShardingCodec _ codec).codecs.value (out-ShardingCodec _ codec).index_codecs.value (out-ShardingCodec _ codec).chunk_shape form.sizes form.type form.fill

-- the value of the chunk that a container of as many elements holds, or the first error
abbrev pub WritesInside : {B : Type 0} → BytesCodecs B → ShardingCodec B → Form → Held → Result (CowSlice ℕ Global) CodecError → Type 0
WritesInside f codec form held result =
    WritesShard f (out-ShardingCodec _ codec).codecs.value (out-ShardingCodec _ codec).index_codecs.value (out-ShardingCodec _ codec).chunk_shape (is_index_at_end (out-ShardingCodec _ codec).index_location) form.sizes form.type form.fill held result

-- a container of the chunk that a value stands for, or the first error
abbrev pub ReadsInside : {B : Type 0} → BytesCodecs B → ShardingCodec B → Form → List ℕ → Result Held CodecError → Type 0
ReadsInside f codec form value result =
    ReadsShard f (out-ShardingCodec _ codec).codecs.value (out-ShardingCodec _ codec).index_codecs.value (out-ShardingCodec _ codec).chunk_shape (is_index_at_end (out-ShardingCodec _ codec).index_location) form.sizes form.type form.fill value result

-- What calls need to know of a chunk of these sizes and its inner chunks: they divide it, 64 bits count its elements and their bytes, and those of an inner chunk; and the fill value fits.
pub record IsShardForm (shape sizes : List ℕ) (type : ElementType) (fill : List ℕ) : Type 0 where
  pub divided : is_divided shape sizes ≡ true
  pub counted : checked_u64 (product sizes) ≡ Ok (product sizes)
  pub small : product sizes < 2 ^ 64
  pub room : sizes_fit type (product sizes) ≡ Ok tt
  pub inner_counted : checked_u64 (product shape) ≡ Ok (product shape)
  pub filling : fill_fits type fill ≡ true

-- ---- normal forms

-- the codec keeps each element as it is
abbrev pub KeepsAll : {B : Type 0} → PlainCodec B → Type 0
KeepsAll codec = (type : ElementType) (element : Element) → codec_normal_element codec type element ≡ element

-- a container of the normal forms of so many elements
abbrev pub GivesNormal : {B : Type 0} → PlainCodec B → ℕ → ElementType → Held → Result Held CodecError → Type 0
GivesNormal codec count type held result = GivesBy (Holds type) result (Ok (normal_form codec type (elements type count held)))

-- of those that `packbits` keeps
abbrev pub GivesPackedNormal : PackBitsSettings → ℕ → ElementType → Held → Result Held CodecError → Type 0
GivesPackedNormal settings count type held result =
    GivesBy (Holds type) result (Ok (normal_chunk settings type (elements type count held)))

-- 64 bits don't count what is asked for
abbrev pub is_overflow : CodecError → Bool
is_overflow Overflow = true
is_overflow cause = false

-- ---- inner chunks that are left out

-- the fill element is its own normal form
abbrev pub IsNormalFill : {B : Type 0} → ArrayToBytesCodec B → ElementType → List ℕ → Type 0
IsNormalFill codec type fill = is_kept_as_fill (codec_normal_element (plain_codec codec)) type fill (fill_element type fill) ≡ true

-- whether the fill element is its own normal form
abbrev pub TellsKeptFill : {B : Type 0} → ArrayToBytesCodec B → ElementType → List ℕ → Result Bool CodecError → Type 0
TellsKeptFill codec type fill result =
    GivesValue result (Ok (is_kept_as_fill (codec_normal_element (plain_codec codec)) type fill (fill_element type fill)))

-- whether the inner chunk of so many elements that a container holds is left out
abbrev pub TellsLeftOut : {B : Type 0} → ArrayToBytesCodec B → ℕ → ElementType → List ℕ → Held → Result Bool CodecError → Type 0
TellsLeftOut codec count type fill held result =
    GivesValue result (Ok (is_left_out (codec_normal_element (plain_codec codec)) type fill (elements type count held)))

-- ---- the index

-- how many bytes the index of such a grid has, or the first error
abbrev pub index_size_of : {B : Type 0} → BytesCodecs B → CodecChain B → List ℕ → Result ℕ CodecError
index_size_of f chain counts = do
  r ← chain_representation f (plain_chain chain) (counts ++ 2 ∷ []) (offset_type true) (offset_bytes true 0)
  fixed_size r

-- the call gives how many bytes the index of such a grid has, or the first error
abbrev pub GivesIndexSize : {B : Type 0} → BytesCodecs B → CodecChain B → List ℕ → Result ℕ CodecError → Type 0
GivesIndexSize f chain counts result = GivesValue result (index_size_of f chain counts)

-- the codec gives numbers back unchanged
abbrev pub keeps_numbers : {B : Type 0} → ArrayToBytesCodec B → List ℕ → Bool
keeps_numbers codec numbers = is_same_bytes (normal_form (plain_codec codec) (offset_type true) (offset_elements true numbers)) (offset_elements true numbers)

-- it does, or the error
abbrev pub ChecksNumbers : {B : Type 0} → ArrayToBytesCodec B → List ℕ → Result (Unit {0}) CodecError → Type 0
ChecksNumbers codec numbers result = Gives (λ u. u) result (demand (keeps_numbers codec numbers) OffsetNotKept)

-- the index part of numbers, or the first error
abbrev pub shard_index_part : {B : Type 0} → BytesCodecs B → CodecChain B → List ℕ → List ℕ → Result (List ℕ) CodecError
shard_index_part f chain numbers counts = do
  let rows = offset_elements true numbers
  part ← chain_value f (plain_chain chain) (counts ++ 2 ∷ []) (offset_type true) (offset_bytes true 0) rows
  _ ← demand (is_same_bytes (normal_form (plain_chain chain).array_to_bytes (offset_type true) rows) rows) OffsetNotKept
  Ok part

-- the call gives the bytes of an index of these numbers, or the first error
abbrev pub WritesShardIndex : {B : Type 0} → BytesCodecs B → CodecChain B → List ℕ → List ℕ → Result (CowSlice ℕ Global) CodecError → Type 0
WritesShardIndex f chain numbers counts result = Gives items_of result (shard_index_part f chain numbers counts)

-- the index part has as many bytes as the chain fixes
abbrev pub KeepsIndexSize : {B : Type 0} → BytesCodecs B → CodecChain B → List ℕ → Result (CowSlice ℕ Global) CodecError → Type 0
KeepsIndexSize f chain counts result =
    IfOk result (λ part. (size : ℕ) → index_size_of f chain counts ≡ Ok size → length (items_of part) ≡ size)

-- the numbers that an index part stands for, or the first error
abbrev pub ReadsShardIndex : {B : Type 0} → BytesCodecs B → CodecChain B → List ℕ → List ℕ → Result (Vec ℕ Global) CodecError → Type 0
ReadsShardIndex f chain part counts result =
    GivesItems result (seen (offsets_in_chunk true) (chain_chunk f (plain_chain chain) (counts ++ 2 ∷ []) (offset_type true) (offset_bytes true 0) part))
