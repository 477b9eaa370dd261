-- What is read of the inner chunks of a shard, of elements of any length, band by band.
use Rattle.std.specs.Prelude.{ℕ, List, [], Result, Vec}
use Rattle.std.specs.declared.alloc.Global.{Global}
use Rattle.zarrs_array_bytes.specs.Elements.{elements}
use Rattle.zarrs_array_bytes.specs.Held.{Held}
use Rattle.zarrs_chunk.specs.Answer.{Gives}
use Rattle.zarrs_chunk.specs.ChunkShape.{product}
use Rattle.zarrs_chunk.specs.declared.codec_error.CodecError.{CodecError}
use Rattle.zarrs_codec.specs.BytesToBytesCodec.{BytesCodecs}
use Rattle.zarrs_data_type.specs.Form.{Form}
use Rattle.zarrs_chain_meaning.specs.CodecMeaning.{chain_chunk}
use Rattle.zarrs_chain_meaning.specs.sharding.ShardSteps.{inner_chunks_at}
use Rattle.zarrs_chain_meaning.specs.sharding.Sharding.{Span, inner_chunk_at, is_stored, spans_of}
use Rattle.zarrs_chain.specs.ChainView.{plain_chain}
use Rattle.zarrs_chain.specs.declared.codec_chain.CodecChain.{CodecChain}
use Rattle.zarrs_shard_bytes.specs.Bands.{chunks_of}

-- a container of the elements of an inner chunk is given, as the value has it, or of fill elements
abbrev pub ReadsElements : {B : Type 0} → BytesCodecs B → CodecChain B → Form → List ℕ → Span → Result Held CodecError → Type 0
ReadsElements f chain form value span result =
    Gives (λ content. elements form.type (product form.sizes) content) result (inner_chunk_at (is_stored span) (chain_chunk f (plain_chain chain)) form.sizes form.type form.fill value span)

-- containers of the elements of each inner chunk that these numbers of an index say, in order, or the first error
abbrev pub ReadsBand : {B : Type 0} → BytesCodecs B → CodecChain B → Form → List ℕ → List ℕ → Result (Vec Held Global) CodecError → Type 0
ReadsBand f chain form value numbers result =
    Gives (λ contents. chunks_of form.type (product form.sizes) contents.items) result (inner_chunks_at (chain_chunk f (plain_chain chain)) form.sizes form.type form.fill value (spans_of numbers))
