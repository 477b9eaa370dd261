-- How many inner chunks and elements a band of a chunk has, and how many bands there are.
use Rattle.std.specs.Prelude.{◌≡◌, ℕ, List, Result}
use Rattle.zarrs_chunk.specs.Answer.{GivesBy, no_refusal}
use Rattle.zarrs_chunk.specs.ChunkShape.{product}
use Rattle.zarrs_chunk.specs.declared.codec_error.CodecError.{CodecError}
use Rattle.zarrs_chain_meaning.specs.sharding.InnerChunks.{inner_chunk_count}
use Rattle.zarrs_chain.specs.declared.sharding.shard_bands.BandSizes.{BandSizes}
use Rattle.zarrs_shard_bytes.specs.Bands.{band_count, band_of}

-- These are the numbers of a chunk of these sizes, divided into inner chunks of this shape.
pub record AreBandSizes (shape sizes : List ℕ) (numbers : BandSizes) : Type 0 where
  pub chunks_are : numbers.chunks ≡ inner_chunk_count shape (band_of shape sizes)
  pub elements_are : numbers.elements ≡ product (band_of shape sizes)
  pub count_is : numbers.count ≡ band_count shape sizes

-- these numbers are given
abbrev pub GivesBandSizes : List ℕ → List ℕ → Result BandSizes CodecError → Type 0
GivesBandSizes shape sizes result = GivesBy (λ numbers _. AreBandSizes shape sizes numbers) result no_refusal
