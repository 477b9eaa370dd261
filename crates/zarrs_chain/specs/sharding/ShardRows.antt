-- What is read of the inner chunks of a shard, as the bytes of elements of one size.
use Rattle.std.specs.Prelude.{ℕ, List, [], true, Result, Vec}
use Rattle.std.specs.declared.alloc.Global.{Global}
use Rattle.std.specs.declared.borrow.CowSlice.{CowSlice}
use Rattle.zarrs_array_bytes.specs.Elements.{elements}
use Rattle.zarrs_array_bytes.specs.Held.{flen, raw_of}
use Rattle.zarrs_chunk.specs.Answer.{Gives}
use Rattle.zarrs_chunk.specs.declared.codec_error.CodecError.{CodecError}
use Rattle.zarrs_codec.specs.BytesToBytesCodec.{BytesCodecs}
use Rattle.zarrs_data_type.specs.Form.{Form}
use Rattle.zarrs_chunk.specs.ChunkShape.{product}
use Rattle.zarrs_chain_meaning.specs.CodecMeaning.{chain_chunk}
use Rattle.zarrs_chain_meaning.specs.sharding.ShardSteps.{inner_chunks_at}
use Rattle.zarrs_chain_meaning.specs.sharding.Sharding.{Span, inner_chunk_at, is_stored, spans_of}
use Rattle.zarrs_chain.specs.ChainView.{plain_chain}
use Rattle.zarrs_chain.specs.declared.codec_chain.CodecChain.{CodecChain}
use Rattle.zarrs_shard_bytes.specs.Rows.{chunks_in}

-- the bytes of an inner chunk that is stored, as the value has it, or the error
abbrev pub ReadsStoredBytes : {B : Type 0} → BytesCodecs B → CodecChain B → Form → List ℕ → Span → Result (CowSlice ℕ Global) CodecError → Type 0
ReadsStoredBytes f chain form value span result =
    Gives (λ content. elements form.type (product form.sizes) (flen (raw_of content))) result (inner_chunk_at true (chain_chunk f (plain_chain chain)) form.sizes form.type form.fill value span)

-- the same of an inner chunk that may not be stored
abbrev pub ReadsInnerBytes : {B : Type 0} → BytesCodecs B → CodecChain B → Form → List ℕ → Span → Result (CowSlice ℕ Global) CodecError → Type 0
ReadsInnerBytes f chain form value span result =
    Gives (λ content. elements form.type (product form.sizes) (flen (raw_of content))) result (inner_chunk_at (is_stored span) (chain_chunk f (plain_chain chain)) form.sizes form.type form.fill value span)

-- the bytes of each inner chunk that these numbers of an index say, in order, or the first error
abbrev pub ReadsAllBytes : {B : Type 0} → BytesCodecs B → CodecChain B → Form → List ℕ → List ℕ → Result (Vec (CowSlice ℕ Global) Global) CodecError → Type 0
ReadsAllBytes f chain form value numbers result =
    Gives (λ contents. chunks_in form.type (product form.sizes) contents.items) result (inner_chunks_at (chain_chunk f (plain_chain chain)) form.sizes form.type form.fill value (spans_of numbers))
