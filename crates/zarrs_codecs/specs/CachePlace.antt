-- Where a partial decoder of a chain keeps its cache.
-- Source: zarrs, `CodecChain::partial_decoder`.
use Rattle.std.specs.Prelude.{◌≡◌, ℕ, suc, max, Bool, true, false, Result, if◌then◌else◌, Option, Some, None, option_map, List, [], ◌∷◌, ◌++◌, length, map, is_some}
use Rattle.zarrs_chunk.specs.Answer.{is_fault}
use Rattle.zarrs_chunk.specs.declared.codec_error.CodecError.{CodecError}
use Rattle.zarrs_codec.specs.declared.capabilities.PartialDecoderCapability.{PartialDecoderCapability}
use Rattle.zarrs_array_to_array.specs.ArrayToArrayCodec.{ArrayMapping}
use Rattle.zarrs_chain_meaning.specs.Chain.{codec_reads}
use Rattle.zarrs_chain_meaning.specs.CodecMeaning.{PlainChain}
use Rattle.zarrs_chain.specs.ChainView.{plain_chain}
use Rattle.zarrs_chain.specs.declared.codec_chain.CodecChain.{CodecChain}

-- what an array-to-array codec reads in part: all
abbrev pub array_reads : ArrayMapping → PartialDecoderCapability
array_reads codec = record { partial_read = true; partial_decode = true }

-- what the codecs of a chain read in part, in the order in which they encode
abbrev pub codecs_read : {B : Type 0} → (B → PartialDecoderCapability) → PlainChain B → List PartialDecoderCapability
codecs_read reads chain = map array_reads chain.array_to_array ++ (codec_reads chain.array_to_bytes ∷ map reads chain.bytes_to_bytes)

-- The greatest position of a codec that fails the test, of codecs in the order in which they encode. Positions count in decode order from 0, so a codec's is the number of codecs behind it.
abbrev pub last_without : (PartialDecoderCapability → Bool) → List PartialDecoderCapability → Option ℕ
last_without has [] = None
last_without has (codec ∷ codecs) = if has codec then last_without has codecs else Some (length codecs)

-- the greater one; none is least
abbrev pub greater : Option ℕ → Option ℕ → Option ℕ
greater None other = other
greater (Some place) None = Some place
greater (Some place) (Some other) = Some (max place other)

-- The cache's place in decode order: the greater of one past the last codec that doesn't decode a part and the last codec that doesn't read a part of its input. None where all codecs do both.
abbrev pub cache_place : List PartialDecoderCapability → Option ℕ
cache_place codecs =
    greater (option_map suc (last_without (λ codec. codec.partial_decode) codecs)) (last_without (λ codec. codec.partial_read) codecs)

-- a partial decoder of the chain has a cache
abbrev pub has_cache_place : {B : Type 0} → (B → PartialDecoderCapability) → CodecChain B → Bool
has_cache_place reads chain = is_some (cache_place (codecs_read reads (plain_chain chain)))

-- no failure of the handle comes where the cache of a chain has no place
abbrev pub SureWithoutCache : {B T : Type 0} → (B → PartialDecoderCapability) → CodecChain B → Result T CodecError → Type 0
SureWithoutCache reads chain result = cache_place (codecs_read reads (plain_chain chain)) ≡ None → is_fault result ≡ false
