-- Re-encoding: what one chain writes for the chunk that a value of another chain stands for.
use Rattle.std.specs.Prelude.{◌≡◌, ℕ, false, List, Result, Ok, IfOk, Vec}
use Rattle.std.proofs.Common.{Global}
use Rattle.zarrs_chunk.specs.Answer.{◌>>=◌, Answers, memory, is_fault}
use Rattle.zarrs_chunk.specs.declared.codec_error.CodecError.{CodecError}
use Rattle.zarrs_data_type.specs.Element.{Chunk}
use Rattle.zarrs_data_type.specs.Form.{Form}
use Rattle.zarrs_codec.specs.BytesToBytesCodec.{BytesCodecs}
use Rattle.zarrs_codec.specs.Grammar.{Grammar}
use Rattle.zarrs_chain_meaning.specs.CodecMeaning.{PlainChain, chain_value, chain_chunk}
use Rattle.zarrs_chain.specs.ChainGrammar.{chain_grammar}

-- The first value stands for a chunk, and the second one is written for that chunk.
pub record Reencoded (from to : Grammar) (form : Form) (value other : List ℕ) : Type 0 where
  pub chunk : Chunk
  pub stands : from.Stands form value chunk
  pub written : to.Written form other chunk

-- the value that the second chain writes of the chunk that the first one reads of a value, or the first error: the reading's, then the writing's
abbrev pub reencoded_value : {B C : Type 0} → BytesCodecs B → PlainChain B → BytesCodecs C → PlainChain C → Form → List ℕ → Result (List ℕ) CodecError
reencoded_value f from g to form value = do
  chunk ← chain_chunk f from form.sizes form.type form.fill value
  chain_value g to form.sizes form.type form.fill chunk

-- The answer is the value that the second chain writes for the chunk that the value stands for under the first, exactly where there is one, or the first error. Only a lack of memory may come in its place.
pub record Reencodes {B C : Type 0} (f : BytesCodecs B) (from : PlainChain B) (g : BytesCodecs C) (to : PlainChain C) (form : Form) (value : List ℕ) (result : Result (Vec ℕ Global) CodecError) : Type 0 where
  pub found : IfOk result (λ answer. Reencoded (chain_grammar f from) (chain_grammar g to) form value answer.items)
  pub only : (other : List ℕ) → Reencoded (chain_grammar f from) (chain_grammar g to) form value other → Answers memory (λ answer. answer.items) result (Ok other)
  pub exact : Answers memory (λ answer. answer.items) result (reencoded_value f from g to form value)
  pub no_fault : is_fault result ≡ false

-- The value is written for the chunk that it stands for.
pub record IsCanonical (G : Grammar) (form : Form) (value : List ℕ) (chunk : Chunk) : Type 0 where
  pub stands : G.Stands form value chunk
  pub written : G.Written form value chunk
