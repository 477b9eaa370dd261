-- A codec `sharding_indexed`, one level as the code opens it.
use Rattle.std.proofs.Common.{◌≡◌, ℕ, ◌==◌, Bool, true, false, List, length, Result, Ok, Err, IsOk, ap, refl, sym, subst, ◌∙◌, ◌+◌, ◌*◌}
use Rattle.zarrs_chunk.specs.Answer.{◌>>=◌, checked_u64, demand}
use Rattle.zarrs_chunk.specs.ChunkShape.{product}
use Rattle.zarrs_chunk.specs.declared.codec_error.CodecError.{CodecError}
use Rattle.zarrs_chunk.specs.declared.codec_error.CodecError.TheVariants.{IncompatibleDimensionality, IndivisibleShape, InvalidFillValue}
use Rattle.zarrs_data_type.specs.Element.{Chunk, fill_element}
use Rattle.zarrs_data_type.specs.ElementType.{ElementType}
use Rattle.zarrs_array_bytes.specs.Elements.{elements}
use Rattle.zarrs_array_bytes.specs.Held.{Held}
use Rattle.zarrs_array_bytes.specs.Validity.{sizes_fit, validity}
use Rattle.zarrs_bytes.proofs.Coding.{ok}
use Rattle.zarrs_codec.specs.BytesToBytesCodec.{BytesCodecs}
use Rattle.zarrs_codec.specs.declared.bytes_representation.BytesRepresentation.{BytesRepresentation}
use Rattle.zarrs_chain_meaning.specs.Chain.{codec_held_value}
use Rattle.zarrs_chain_meaning.specs.CodecMeaning.{PlainChain, sharding_codec_of, meaning, codec_normal_element, codec_representation, chain_representation, codec_value, chain_value, codec_chunk, chain_chunk}
use Rattle.zarrs_chain_meaning.specs.sharding.InnerChunks.{grid, is_divided}
use Rattle.zarrs_chain_meaning.specs.sharding.ShardSteps.{divided_grid}
use Rattle.zarrs_chain_meaning.specs.sharding.Sharding.{is_kept_as_fill, shard_chunk, shard_representation, shard_value}
use Rattle.zarrs_chain_meaning.specs.sharding.ShardingSettings.{is_index_at_end}
use Rattle.zarrs_chain.specs.ChainView.{plain_chain, plain_codec, plain_sharding, plain_sharding_at}
use Rattle.zarrs_chain.specs.declared.codec_chain.CodecChain.{CodecChain}
use Rattle.zarrs_chain.specs.declared.sharding.sharding_codec.ShardingCodec.{ShardingCodec, out-ShardingCodec}
use Rattle.zarrs_chain.specs.sharding.ShardingCalls.{index_size_of, shard_represented}
use Rattle.zarrs_chain_meaning.proofs.Answered.{from_ok}
use Rattle.zarrs_chain_meaning.proofs.ArraySteps.{next_answer}
use Rattle.zarrs_chain_meaning.proofs.ChainSteps.{next_err}
use Rattle.zarrs_chain_meaning.specs.optional.Optional.{bounded_total}
use Rattle.zarrs_codec.specs.declared.bytes_representation.BytesRepresentation.TheVariants.{FixedSize}

plain_representation : {B : Type 0} (f : BytesCodecs B) (inner index : PlainChain B) (shape : List ℕ) (at_end : Bool) (sizes : List ℕ) (type : ElementType) (fill : List ℕ)
    → codec_representation f (sharding_codec_of inner index shape at_end) sizes type fill ≡ shard_representation shape (codec_normal_element inner.array_to_bytes) (chain_representation f inner) (chain_representation f index) sizes type fill
unfolding meaning
plain_representation f inner index shape at_end sizes type fill = refl

plain_value : {B : Type 0} (f : BytesCodecs B) (inner index : PlainChain B) (shape : List ℕ) (at_end : Bool) (sizes : List ℕ) (type : ElementType) (fill : List ℕ) (chunk : Chunk)
    → codec_value f (sharding_codec_of inner index shape at_end) sizes type fill chunk ≡ shard_value shape at_end (codec_normal_element inner.array_to_bytes) (codec_normal_element index.array_to_bytes) (chain_representation f index) (chain_value f inner) (chain_value f index) sizes type fill chunk
unfolding meaning
plain_value f inner index shape at_end sizes type fill chunk = refl

plain_chunk : {B : Type 0} (f : BytesCodecs B) (inner index : PlainChain B) (shape : List ℕ) (at_end : Bool) (sizes : List ℕ) (type : ElementType) (fill value : List ℕ)
    → codec_chunk f (sharding_codec_of inner index shape at_end) sizes type fill value ≡ shard_chunk shape at_end (chain_representation f index) (chain_chunk f inner) (chain_chunk f index) sizes type fill value
unfolding meaning
plain_chunk f inner index shape at_end sizes type fill value = refl

-- ---- one level

pub representation_at : {B : Type 0} (f : BytesCodecs B) (codec : ShardingCodec B) (sizes : List ℕ) (type : ElementType) (fill : List ℕ)
    → codec_representation f (plain_sharding codec) sizes type fill ≡ shard_represented f (out-ShardingCodec _ codec).codecs.value (out-ShardingCodec _ codec).index_codecs.value (out-ShardingCodec _ codec).chunk_shape sizes type fill
representation_at f codec sizes type fill =
    let o = out-ShardingCodec _ codec in
    ap (λ x. codec_representation f x sizes type fill) (plain_sharding_at codec)
    ∙ plain_representation f (plain_chain o.codecs.value) (plain_chain o.index_codecs.value) o.chunk_shape (is_index_at_end o.index_location) sizes type fill

pub takes_at : {B : Type 0} (f : BytesCodecs B) (codec : ShardingCodec B) (sizes : List ℕ) (type : ElementType) (fill : List ℕ) → IsOk (codec_representation f (plain_sharding codec) sizes type fill)
    → IsOk (shard_represented f (out-ShardingCodec _ codec).codecs.value (out-ShardingCodec _ codec).index_codecs.value (out-ShardingCodec _ codec).chunk_shape sizes type fill)
takes_at f codec sizes type fill h = subst (λ (x : Result BytesRepresentation CodecError). IsOk x) (representation_at f codec sizes type fill) h

value_opened_at : {B : Type 0} (f : BytesCodecs B) (codec : ShardingCodec B) (sizes : List ℕ) (type : ElementType) (fill : List ℕ) (chunk : Chunk)
    → codec_value f (plain_sharding codec) sizes type fill chunk
    ≡ shard_value (out-ShardingCodec _ codec).chunk_shape (is_index_at_end (out-ShardingCodec _ codec).index_location) (codec_normal_element (plain_chain (out-ShardingCodec _ codec).codecs.value).array_to_bytes) (codec_normal_element (plain_chain (out-ShardingCodec _ codec).index_codecs.value).array_to_bytes) (chain_representation f (plain_chain (out-ShardingCodec _ codec).index_codecs.value)) (chain_value f (plain_chain (out-ShardingCodec _ codec).codecs.value)) (chain_value f (plain_chain (out-ShardingCodec _ codec).index_codecs.value)) sizes type fill chunk
value_opened_at f codec sizes type fill chunk =
    let o = out-ShardingCodec _ codec in
    ap (λ x. codec_value f x sizes type fill chunk) (plain_sharding_at codec)
    ∙ plain_value f (plain_chain o.codecs.value) (plain_chain o.index_codecs.value) o.chunk_shape (is_index_at_end o.index_location) sizes type fill chunk

-- what a codec that takes a chunk answers of a container of so many elements
pub value_at : {B : Type 0} (f : BytesCodecs B) (codec : ShardingCodec B) (sizes : List ℕ) (type : ElementType) (fill : List ℕ) (held : Held) → IsOk (codec_representation f (plain_sharding codec) sizes type fill) → validity type (product sizes) held ≡ Ok tt
    → codec_held_value f (plain_sharding codec) sizes type fill held
    ≡ shard_value (out-ShardingCodec _ codec).chunk_shape (is_index_at_end (out-ShardingCodec _ codec).index_location) (codec_normal_element (plain_chain (out-ShardingCodec _ codec).codecs.value).array_to_bytes) (codec_normal_element (plain_chain (out-ShardingCodec _ codec).index_codecs.value).array_to_bytes) (chain_representation f (plain_chain (out-ShardingCodec _ codec).index_codecs.value)) (chain_value f (plain_chain (out-ShardingCodec _ codec).codecs.value)) (chain_value f (plain_chain (out-ShardingCodec _ codec).index_codecs.value)) sizes type fill (elements type (product sizes) held)
value_at f codec sizes type fill held taken valid =
    let known = from_ok (codec_representation f (plain_sharding codec) sizes type fill) taken in
    let first : codec_held_value f (plain_sharding codec) sizes type fill held ≡ codec_value f (plain_sharding codec) sizes type fill (elements type (product sizes) held) = rw (known.1, valid) refl in
    first ∙ value_opened_at f codec sizes type fill (elements type (product sizes) held)

pub chunk_at : {B : Type 0} (f : BytesCodecs B) (codec : ShardingCodec B) (sizes : List ℕ) (type : ElementType) (fill value : List ℕ)
    → codec_chunk f (plain_sharding codec) sizes type fill value
    ≡ shard_chunk (out-ShardingCodec _ codec).chunk_shape (is_index_at_end (out-ShardingCodec _ codec).index_location) (chain_representation f (plain_chain (out-ShardingCodec _ codec).index_codecs.value)) (chain_chunk f (plain_chain (out-ShardingCodec _ codec).codecs.value)) (chain_chunk f (plain_chain (out-ShardingCodec _ codec).index_codecs.value)) sizes type fill value
chunk_at f codec sizes type fill value =
    let o = out-ShardingCodec _ codec in
    ap (λ x. codec_chunk f x sizes type fill value) (plain_sharding_at codec)
    ∙ plain_chunk f (plain_chain o.codecs.value) (plain_chain o.index_codecs.value) o.chunk_shape (is_index_at_end o.index_location) sizes type fill value

-- ---- the representation, step by step

-- what is left of the representation, once the inner chunks along each axis are counted
abbrev pub represented_on : {B : Type 0} → BytesCodecs B → CodecChain B → CodecChain B → List ℕ → List ℕ → ElementType → List ℕ → List ℕ → Result BytesRepresentation CodecError
represented_on f inner index shape sizes type fill counts =
    checked_u64 (product sizes) >>= λ _. sizes_fit type (product sizes) >>= λ _. chain_representation f (plain_chain inner) shape type fill
    >>= λ r. demand (is_kept_as_fill (codec_normal_element (plain_codec inner.array_to_bytes)) type fill (fill_element type fill)) InvalidFillValue
    >>= λ _. index_size_of f index counts >>= λ size. ok (bounded_total (λ inner index. product counts * inner + index) r (FixedSize size))

grid_first : {A : Type 0} (same even : Bool) (counts : List ℕ) (rest : List ℕ → Result A CodecError)
    → (demand same IncompatibleDimensionality >>= λ _. demand even IndivisibleShape >>= λ _. rest counts)
    ≡ ((demand same IncompatibleDimensionality >>= λ _. demand even IndivisibleShape >>= λ _. ok counts) >>= rest)
grid_first true true counts rest = refl
grid_first true false counts rest = refl
grid_first false even counts rest = refl

represented_by_grid : {B : Type 0} (f : BytesCodecs B) (inner index : CodecChain B) (shape sizes : List ℕ) (type : ElementType) (fill : List ℕ)
    → shard_represented f inner index shape sizes type fill ≡ divided_grid shape sizes >>= represented_on f inner index shape sizes type fill
represented_by_grid f inner index shape sizes type fill =
    grid_first (length shape == length sizes) (is_divided shape sizes) (grid shape sizes) (represented_on f inner index shape sizes type fill)

pub represented_at : {B : Type 0} (f : BytesCodecs B) (codec : ShardingCodec B) (sizes : List ℕ) (type : ElementType) (fill : List ℕ)
    → codec_representation f (plain_sharding codec) sizes type fill
    ≡ divided_grid (out-ShardingCodec _ codec).chunk_shape sizes >>= represented_on f (out-ShardingCodec _ codec).codecs.value (out-ShardingCodec _ codec).index_codecs.value (out-ShardingCodec _ codec).chunk_shape sizes type fill
represented_at f codec sizes type fill =
    let o = out-ShardingCodec _ codec in
    representation_at f codec sizes type fill ∙ represented_by_grid f o.codecs.value o.index_codecs.value o.chunk_shape sizes type fill

-- the first errors of what is behind the grid and the counts

pub inner_refused_at : {B : Type 0} (f : BytesCodecs B) (codec : ShardingCodec B) (sizes counts : List ℕ) (type : ElementType) (fill : List ℕ) (n : ℕ) (cause : CodecError) → divided_grid (out-ShardingCodec _ codec).chunk_shape sizes ≡ Ok counts → ok n ≡ checked_u64 (product sizes) → sizes_fit type (product sizes) ≡ Ok tt
    → chain_representation f (plain_chain (out-ShardingCodec _ codec).codecs.value) (out-ShardingCodec _ codec).chunk_shape type fill ≡ Err cause → codec_representation f (plain_sharding codec) sizes type fill ≡ Err cause
inner_refused_at f codec sizes counts type fill n cause g c r e =
    represented_at f codec sizes type fill
    ∙ next_answer (divided_grid (out-ShardingCodec _ codec).chunk_shape sizes) counts (represented_on f (out-ShardingCodec _ codec).codecs.value (out-ShardingCodec _ codec).index_codecs.value (out-ShardingCodec _ codec).chunk_shape sizes type fill) g
    ∙ rw (sym c, r, e) refl

pub index_refused_at : {B : Type 0} (f : BytesCodecs B) (codec : ShardingCodec B) (sizes counts : List ℕ) (type : ElementType) (fill : List ℕ) (n : ℕ) (inner : BytesRepresentation) (cause : CodecError) → divided_grid (out-ShardingCodec _ codec).chunk_shape sizes ≡ Ok counts → ok n ≡ checked_u64 (product sizes) → sizes_fit type (product sizes) ≡ Ok tt
    → chain_representation f (plain_chain (out-ShardingCodec _ codec).codecs.value) (out-ShardingCodec _ codec).chunk_shape type fill ≡ Ok inner
    → is_kept_as_fill (codec_normal_element (plain_codec (out-ShardingCodec _ codec).codecs.value.array_to_bytes)) type fill (fill_element type fill) ≡ true
    → index_size_of f (out-ShardingCodec _ codec).index_codecs.value counts ≡ Err cause → codec_representation f (plain_sharding codec) sizes type fill ≡ Err cause
index_refused_at f codec sizes counts type fill n inner cause g c r e k i =
    represented_at f codec sizes type fill
    ∙ next_answer (divided_grid (out-ShardingCodec _ codec).chunk_shape sizes) counts (represented_on f (out-ShardingCodec _ codec).codecs.value (out-ShardingCodec _ codec).index_codecs.value (out-ShardingCodec _ codec).chunk_shape sizes type fill) g
    ∙ rw (sym c, r, e, k) (next_err (index_size_of f (out-ShardingCodec _ codec).index_codecs.value counts) cause (λ size. ok (bounded_total (λ inner index. product counts * inner + index) inner (FixedSize size))) i)
