-- Which chunk a coder or a header is of.
use Rattle.std.specs.Prelude.{ℕ, List}
use Rattle.zarrs_data_type.specs.ElementType.{ElementType}
use Rattle.zarrs_chain_meaning.specs.CodecMeaning.{PlainChain}

-- a chunk: through which chain, its sizes, its type and its fill value
pub record ChunkForm (B : Type 0) : Type 0 where
  pub chain : PlainChain B
  pub sizes : List ℕ
  pub type : ElementType
  pub fill : List ℕ
