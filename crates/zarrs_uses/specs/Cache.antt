-- What a cache of decoded chunks promises.
use Rattle.std.specs.Prelude.{◌≡◌, ℕ, List, Vec, Result}
use Rattle.std.proofs.Common.{Global}
use Rattle.zarrs_codecs.specs.Answer.{AnswersBy, memory}
use Rattle.zarrs_codecs.specs.CodecError.{CodecError}
use Rattle.zarrs_codecs.specs.Held.{Held}
use Rattle.zarrs_codecs.specs.Validity.{Holds}
use Rattle.zarrs_codecs.specs.BytesToBytesCodec.{BytesCodecs}
use Rattle.zarrs_codecs.specs.ChunkForm.{ChunkForm}
use Rattle.zarrs_codecs.specs.ChunkRead.{chunk_of}
use Rattle.zarrs_uses.specs.Decoded.{IsDecoded, decoded_under}
use Rattle.zarrs_uses.specs.declared.cache.ChunkCache.{ChunkCache}

-- through which chain a cache decodes, and as chunks of which sizes, type and fill value
abbrev pub cache_form : {B : Type 0} {b : _} → ChunkCache B b → ChunkForm B
cache_form cache = chunk_of cache.chain.now cache.shape.now cache.data_type.now cache.fill_value.now

-- the values that a cache decodes
abbrev pub cached_values : {B : Type 0} {b : _} → ChunkCache B b → List (Vec ℕ Global)
cached_values cache = cache.values.now

-- the value with this key stands for a chunk, and the container holds it
abbrev pub cache_knows : {B : Type 0} {b : _} → BytesCodecs B → ChunkCache B b → ℕ → Held → Type 0
cache_knows f cache key held = IsDecoded f (cache_form cache) (cached_values cache) key held

-- The answer is a container of the chunk that the value with this key stands for, or the error of decoding it; a lack of memory may come in its place.
abbrev pub AnswersAsDecode : {B : Type 0} {b : _} → BytesCodecs B → ChunkCache B b → ℕ → Result Held CodecError → Type 0
AnswersAsDecode f cache key result =
    AnswersBy memory (Holds (cache_form cache).type) result (decoded_under f (cache_form cache) (cached_values cache) key)

-- both caches decode the same values, as the same chunks
pub record DecodesAlike {B : Type 0} {b : _} (before after : ChunkCache B b) : Type 0 where
  pub form : cache_form after ≡ cache_form before
  pub values : cached_values after ≡ cached_values before
