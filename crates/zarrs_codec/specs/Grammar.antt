-- What an array-to-bytes codec, or a chain of codecs, states of chunks, and what its calls give by it.
-- Source: zarrs, `ArrayToBytesCodecTraits`.
use Rattle.std.specs.Prelude.{◌≡◌, ℕ, false, List, Result, Ok, IfOk}
use Rattle.std.proofs.Common.{Global}
use Rattle.std.specs.declared.borrow.CowSlice.{CowSlice}
use Rattle.zarrs_chunk.specs.Answer.{Answers, AnswersBy, memory, is_fault}
use Rattle.zarrs_chunk.specs.declared.codec_error.CodecError.{CodecError}
use Rattle.zarrs_data_type.specs.Element.{Chunk}
use Rattle.zarrs_data_type.specs.Form.{Form}
use Rattle.zarrs_array_bytes.specs.Held.{Held, items_of}
use Rattle.zarrs_array_bytes.specs.Validity.{Holds}

-- For which chunk of a form a value stands, and which value is written for a chunk; and what its calls answer: the value of the chunk that a container holds, and the chunk that a value stands for, or the first error.
pub record Grammar : Type 1 where
  pub Stands : Form → List ℕ → Chunk → Type 0
  pub Written : Form → List ℕ → Chunk → Type 0
  pub value : Form → Held → Result (List ℕ) CodecError
  pub chunk : Form → List ℕ → Result Chunk CodecError

-- The answer is the value that is written for the chunk that the container holds, exactly where there is one, or the first error. Only lack of memory may come in its place.
pub record Encodes (G : Grammar) (form : Form) (held : Held) (result : Result (CowSlice ℕ Global) CodecError) : Type 0 where
  pub found : IfOk result (λ value. (chunk : Chunk) × Holds form.type held chunk × G.Written form (items_of value) chunk)
  pub only : (chunk : Chunk) (value : List ℕ) → Holds form.type held chunk → G.Written form value chunk → Answers memory items_of result (Ok value)
  pub exact : Answers memory items_of result (G.value form held)
  pub no_fault : is_fault result ≡ false

-- The answer is a container of the chunk that the value stands for, exactly where there is one, or the first error. Only lack of memory may come in its place.
pub record Decodes (G : Grammar) (form : Form) (value : List ℕ) (result : Result Held CodecError) : Type 0 where
  pub found : IfOk result (λ held. (chunk : Chunk) × Holds form.type held chunk × G.Stands form value chunk)
  pub only : (chunk : Chunk) → G.Stands form value chunk → AnswersBy memory (Holds form.type) result (Ok chunk)
  pub exact : AnswersBy memory (Holds form.type) result (G.chunk form value)
  pub no_fault : is_fault result ≡ false

-- ---- what a grammar owes: its relations are its functions

-- a value is written for a container's chunk exactly where `value` answers it
pub record WritesByGrammar (G : Grammar) : Type 0 where
  pub found : (form : Form) (held : Held) (value : List ℕ) → G.value form held ≡ Ok value → (chunk : Chunk) × Holds form.type held chunk × G.Written form value chunk
  pub only : (form : Form) (held : Held) (chunk : Chunk) (value : List ℕ) → Holds form.type held chunk → G.Written form value chunk → G.value form held ≡ Ok value

-- a value stands for a chunk exactly where `chunk` answers it
pub record ReadsByGrammar (G : Grammar) : Type 0 where
  pub found : (form : Form) (value : List ℕ) (chunk : Chunk) → G.chunk form value ≡ Ok chunk → G.Stands form value chunk
  pub only : (form : Form) (value : List ℕ) (chunk : Chunk) → G.Stands form value chunk → G.chunk form value ≡ Ok chunk
