-- The index of a shard that a decoder keeps: what it is of what is stored, and what a read by it rests on.
use Rattle.std.specs.Prelude.{◌≡◌, ℕ, suc, ◌*◌, ◌&&◌, Bool, true, false, Option, Some, None, IfSome, List, [], length, slice_get, Result, Ok, is_none, is_some, option_map}
use Rattle.std.specs.Option.{option_map_or}
use Rattle.std.proofs.Props.{props}
use Rattle.zarrs_chunk.specs.Answer.{◌>>=◌}
use Rattle.zarrs_chunk.specs.declared.codec_error.CodecError.{CodecError}
use Rattle.zarrs_codec.specs.BytesToBytesCodec.{BytesCodecs}
use Rattle.zarrs_chain_meaning.specs.Chain.{taken_form}
use Rattle.zarrs_chain_meaning.specs.ChunkForm.{ChunkForm}
use Rattle.zarrs_chain_meaning.specs.CodecMeaning.{meaning, PlainChain, PlainCodec, sharding_codec}
use Rattle.zarrs_chain_meaning.specs.Meaning.{Meaning, through}
use Rattle.zarrs_chain_meaning.specs.sharding.Sharding.{Span, spans_of, spans_in}
use Rattle.zarrs_codecs.specs.CodecPart.{part_of}
use Rattle.zarrs_codecs.specs.ShardRead.{index_bytes_in}
use Rattle.zarrs_codecs.specs.declared.partial_decoder.cache.Cache.{Cache}
use Rattle.zarrs_codecs.specs.declared.partial_decoder.cache.Cache.TheVariants as kept
use Rattle.zarrs_codecs.specs.declared.sharding.shard_index.ShardIndex.{ShardIndex}

-- ---- the index

-- whether a read asks for an index: it does over `sharding_indexed` where there are no bytes-to-bytes codecs
abbrev pub asks_index : {B : Type 0} → List B → PlainCodec B → Bool
asks_index outer codec = is_none (slice_get outer 0) && is_some (part_of codec).rests_behind

-- Of a codec whose values have an index: where the inner chunks of a value stand, by its index; the numbers of the index's bytes; and how many shards stand in one another.
pub record IndexPart (B : Type 0) : Type 0 where
  pub spans : BytesCodecs B → List ℕ → List ℕ → Result (List Span) CodecError
  pub bytes : BytesCodecs B → List ℕ → List ℕ → Result (List ℕ) CodecError
  pub depth : ℕ

-- so many shards: none, where values have no index
abbrev pub depth_with : {B : Type 0} → Option (IndexPart B) → ℕ
depth_with part = option_map_or (λ index. index.depth) part 0

-- of `sharding_indexed`, by that of its inner codec, where it has one, and by what its index chain means
abbrev pub shard_index_of : {B : Type 0} → Option (IndexPart B) → Meaning B → List ℕ → Bool → IndexPart B
shard_index_of inner index shape at_end = record {
  spans = λ f. spans_in shape at_end (index.representation f) (index.chunk f);
  bytes = λ f. index_bytes_in shape at_end (index.representation f);
  depth = suc (depth_with inner);
}

-- of an array-to-bytes codec, where its values have one
abbrev pub index_of : {B : Type 0} → PlainCodec B → Option (IndexPart B)
index_of (sharding_codec sa sx sb ia ix ib shape at_end) = Some (shard_index_of (index_of sx) (through ia (meaning ix) ib) shape at_end)
index_of codec = None

-- how many shards stand in one another: none, but where the codec is `sharding_indexed`
abbrev pub shard_depth : {B : Type 0} → PlainCodec B → ℕ
shard_depth codec = depth_with (index_of codec)

-- where the inner chunks of a value stand, by its index, or the first error; nowhere where values have none
abbrev pub spans_with : {B : Type 0} → Option (IndexPart B) → BytesCodecs B → List ℕ → List ℕ → Result (List Span) CodecError
spans_with None f sizes value = Ok []
spans_with (Some index) f sizes value = index.spans f sizes value

-- the same of a codec's value
abbrev pub codec_spans : {B : Type 0} → BytesCodecs B → PlainCodec B → List ℕ → List ℕ → Result (List Span) CodecError
codec_spans f codec sizes value = spans_with (index_of codec) f sizes value

-- the numbers of the index's bytes of a value
abbrev pub bytes_with : {B : Type 0} → Option (IndexPart B) → BytesCodecs B → List ℕ → List ℕ → Result (List ℕ) CodecError
bytes_with None f sizes value = Ok []
bytes_with (Some index) f sizes value = index.bytes f sizes value

-- the same of what is stored
abbrev pub index_rests_on : {B : Type 0} → BytesCodecs B → PlainCodec B → List ℕ → Option (List ℕ) → Result (List ℕ) CodecError
index_rests_on f codec sizes None = Ok []
index_rests_on f codec sizes (Some value) = bytes_with (index_of codec) f sizes value

-- these numbers are the index of what is stored: they say where the inner chunks stand
abbrev pub IsIndex : {B : Type 0} → BytesCodecs B → PlainCodec B → List ℕ → Option (List ℕ) → List ℕ → Type 0
IsIndex f codec sizes stored numbers = IfSome stored (λ value. codec_spans f codec sizes value ≡ Ok (spans_of numbers))

-- of what is stored, how many bytes it has and where the inner chunks stand; or the first error of the index
abbrev pub codec_index : {B : Type 0} → BytesCodecs B → PlainCodec B → List ℕ → Option (List ℕ) → Result (Option (ℕ × List Span)) CodecError
codec_index f codec sizes None = Ok None
codec_index f codec sizes (Some value) = do
  spans ← codec_spans f codec sizes value
  Ok (Some (length value, spans))

-- the same of a chunk of this form, through its chain: the chain's representation comes first
abbrev pub form_index : {B : Type 0} → BytesCodecs B → ChunkForm B → Option (List ℕ) → Result (Option (ℕ × List Span)) CodecError
form_index f form stored = do
  taken ← taken_form f form.chain form.sizes form.type form.fill
  codec_index f form.chain.array_to_bytes taken.0 stored

-- ---- what is kept

-- how many bytes a value has, and where the inner chunks stand, by what is kept of it
abbrev pub index_seen : ShardIndex → ℕ × List Span
index_seen index = (index.len, spans_of index.numbers.items)

-- a shard's index is kept
abbrev pub knows_index : Cache → Bool
knows_index (kept.Index index) = true
knows_index _ = false

-- nothing is kept
abbrev pub keeps_nothing : Cache → Bool
keeps_nothing kept.Handle = true
keeps_nothing _ = false

-- an index that is kept is that of what is stored, of a chunk that the array-to-bytes codec gets
abbrev pub IsIndexOf : {B : Type 0} → BytesCodecs B → PlainChain B → List ℕ → Option (List ℕ) → Cache → Type 0
IsIndexOf f chain sizes stored kept.Handle = Unit {0}
IsIndexOf f chain sizes stored (kept.Index index) =
    (asks_index chain.bytes_to_bytes chain.array_to_bytes ≡ true) × (codec_index f chain.array_to_bytes sizes stored ≡ Ok (option_map index_seen index))
IsIndexOf f chain sizes stored (kept.Bytes below value) = Unit {0}
IsIndexOf f chain sizes stored (kept.Chunk held) = Unit {0}

pub IsIndexOf-prop : {B : Type 0} (f : BytesCodecs B) (chain : PlainChain B) (sizes : List ℕ) (stored : Option (List ℕ)) (cache : Cache) → IsProp (IsIndexOf f chain sizes stored cache)
IsIndexOf-prop f chain sizes stored kept.Handle = hlevel props
IsIndexOf-prop f chain sizes stored (kept.Index index) = hlevel props
IsIndexOf-prop f chain sizes stored (kept.Bytes below value) = hlevel props
IsIndexOf-prop f chain sizes stored (kept.Chunk held) = hlevel props

-- so many bytes are kept beside those of the handle: 16 for each inner chunk of a value that is stored
abbrev pub index_held : Option (ℕ × List Span) → ℕ
index_held None = 0
index_held (Some index) = 16 * length index.1
