-- What a chain, and its array-to-bytes codec by itself, says of chunks.
use Rattle.std.specs.Prelude.{◌≡◌, ℕ, List, length, IsOk}
use Rattle.zarrs_chunk.specs.ChunkShape.{product}
use Rattle.zarrs_data_type.specs.Element.{Chunk}
use Rattle.zarrs_data_type.specs.Form.{Form}
use Rattle.zarrs_codec.specs.BytesToBytesCodec.{BytesCodecs}
use Rattle.zarrs_codec.specs.Grammar.{Grammar}
use Rattle.zarrs_chain_meaning.specs.Chain.{codec_held_value, held_value, taken_chunk}
use Rattle.zarrs_chain_meaning.specs.CodecMeaning.{PlainCodec, PlainChain, chain_meaning, codec_representation, CodecStands, CodecWritten}

-- what a chain states of chunks: for which a value stands, which value is written, what calls answer
abbrev pub chain_grammar : {B : Type 0} → BytesCodecs B → PlainChain B → Grammar
chain_grammar f chain = record {
  Stands = λ form. (chain_meaning chain).Stands f form.sizes form.type form.fill;
  Written = λ form. (chain_meaning chain).Written f form.sizes form.type form.fill;
  value = λ form. held_value f chain form.sizes form.type form.fill;
  chunk = λ form. (chain_meaning chain).chunk f form.sizes form.type form.fill;
}

-- The codec takes such chunks, and the value stands for this one.
pub record TakenStands {B : Type 0} (f : BytesCodecs B) (codec : PlainCodec B) (form : Form) (value : List ℕ) (chunk : Chunk) : Type 0 where
  pub taken : IsOk (codec_representation f codec form.sizes form.type form.fill)
  pub stands : CodecStands f codec form.sizes form.type form.fill value chunk

-- The codec takes such chunks, the chunk has as many elements as its sizes say, and the value is written for it.
pub record TakenWritten {B : Type 0} (f : BytesCodecs B) (codec : PlainCodec B) (form : Form) (value : List ℕ) (chunk : Chunk) : Type 0 where
  pub taken : IsOk (codec_representation f codec form.sizes form.type form.fill)
  pub count_is : length chunk ≡ product form.sizes
  pub written : CodecWritten f codec form.sizes form.type form.fill value chunk

-- what an array-to-bytes codec by itself, in no chain, states of chunks
abbrev pub codec_grammar : {B : Type 0} → BytesCodecs B → PlainCodec B → Grammar
codec_grammar f codec = record {
  Stands = TakenStands f codec;
  Written = TakenWritten f codec;
  value = λ form. codec_held_value f codec form.sizes form.type form.fill;
  chunk = λ form. taken_chunk f codec form.sizes form.type form.fill;
}
