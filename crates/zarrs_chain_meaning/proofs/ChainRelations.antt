-- What a chain answers is what stands and what is written.
use Rattle.std.proofs.Common.{◌≡◌, ℕ, ◌<◌, List, length, Result, Ok, Err, IfOk, All, refl, ap, subst, ◌∙◌}
use Rattle.zarrs_chunk.specs.Answer.{◌>>=◌, Answers, AnswersBy, memory}
use Rattle.zarrs_chunk.specs.ChunkShape.{product}
use Rattle.zarrs_chunk.specs.declared.codec_error.CodecError.{CodecError}
use Rattle.zarrs_data_type.specs.ElementType.{ElementType}
use Rattle.zarrs_data_type.specs.Element.{Chunk}
use Rattle.zarrs_array_bytes.specs.Elements.{elements}
use Rattle.zarrs_array_bytes.specs.Held.{Held}
use Rattle.zarrs_array_bytes.specs.Validity.{validity, Holds}
use Rattle.zarrs_array_bytes.proofs.ElementLaw.{AreElements-held}
use Rattle.zarrs_codec.specs.BytesToBytesCodec.{BytesCodecs}
use Rattle.zarrs_bytes.specs.BytesCodec.{IsChunk}
use Rattle.zarrs_chain_meaning.specs.Chain.{held_value}
use Rattle.zarrs_chain_meaning.specs.CodecMeaning.{PlainChain, chain_representation, chain_value, chain_chunk, ChainStands, ChainWritten}
use Rattle.zarrs_chain_meaning.specs.Laws.{IsChainOfMappings}
use Rattle.zarrs_bytes.proofs.Coding.{bind_ok}
use Rattle.zarrs_array_bytes.proofs.UpdatedLemmas.{length-elements}
use Rattle.zarrs_array_to_array.proofs.MappedChunks.{holds_elements}
use Rattle.zarrs_chain_meaning.proofs.ChainSteps.{held_chunk}
use Rattle.zarrs_chain_meaning.proofs.CodecLaws.{chain_chunk_only, chain_value_only, chain_value_found, chain_read_found}

-- ---- encoding

-- a representation that is asked twice answers alike
pub asked_twice : {R V : Type 0} (r : Result R CodecError) (v : Result (Unit {0}) CodecError) (g : Result V CodecError) → v ≡ Ok tt → r >>= (λ _. v >>= (λ _. r >>= (λ _. g))) ≡ r >>= (λ _. g)
asked_twice (Ok x) v g valid = rw valid refl
asked_twice (Err cause) v g valid = refl

value_found_so : {B : Type 0} (f : BytesCodecs B) (chain : PlainChain B) (sizes : List ℕ) (type : ElementType) (fill : List ℕ) (held : Held) (value : List ℕ)
    → IsChainOfMappings chain → All (λ size. 0 < size) sizes → held_value f chain sizes type fill held ≡ Ok value → (chunk : Chunk) × Holds type held chunk × ChainWritten f chain sizes type fill value chunk
value_found_so f chain sizes type fill held value is positive e =
    let a = bind_ok (chain_representation f chain sizes type fill) _ value e in
    let b = bind_ok (validity type (product sizes) held) _ value a.2 in
    let holds = holds_elements type (product sizes) held b.1 in
    let elements_are : IsChunk type (product sizes) (elements type (product sizes) held) = record { count_is = length-elements type (product sizes) held; each = AreElements-held type held (elements type (product sizes) held) holds } in
    (elements type (product sizes) held, holds, chain_value_found f chain is sizes type fill value (elements type (product sizes) held) positive elements_are b.2)

pub value_found : {B X : Type 0} (view : X → List ℕ) (result : Result X CodecError) (f : BytesCodecs B) (chain : PlainChain B) (sizes : List ℕ) (type : ElementType) (fill : List ℕ) (held : Held)
    → IsChainOfMappings chain → All (λ size. 0 < size) sizes → Answers memory view result (held_value f chain sizes type fill held)
    → IfOk result (λ value. (chunk : Chunk) × Holds type held chunk × ChainWritten f chain sizes type fill (view value) chunk)
value_found view (Ok x) f chain sizes type fill held is positive h = value_found_so f chain sizes type fill held (view x) is positive h
value_found view (Err e) f chain sizes type fill held is positive h = tt

-- for a container that holds a chunk of the sizes, the chain answers what it answers for the chunk
pub held_value_is : {B : Type 0} (f : BytesCodecs B) (chain : PlainChain B) (sizes : List ℕ) (type : ElementType) (fill : List ℕ) (held : Held) (chunk : Chunk) → Holds type held chunk → length chunk ≡ product sizes → held_value f chain sizes type fill held ≡ chain_value f chain sizes type fill chunk
held_value_is f chain sizes type fill held chunk holds long =
    let valid : validity type (product sizes) held ≡ Ok tt = subst (λ (k : ℕ). validity type k held ≡ Ok tt) long holds.valid in
    let items : elements type (product sizes) held ≡ chunk = subst (λ (k : ℕ). elements type k held ≡ chunk) long holds.elements_are in
    asked_twice (chain_representation f chain sizes type fill) (validity type (product sizes) held) _ valid ∙ ap (chain_value f chain sizes type fill) items

-- what is written is answered for a container that holds the chunk
held_written : {B : Type 0} (f : BytesCodecs B) (chain : PlainChain B) (sizes : List ℕ) (type : ElementType) (fill : List ℕ) (held : Held) (chunk : Chunk) (value : List ℕ)
    → Holds type held chunk → ChainWritten f chain sizes type fill value chunk → held_value f chain sizes type fill held ≡ Ok value
held_written f chain sizes type fill held chunk value holds w =
    held_value_is f chain sizes type fill held chunk holds w.elements.count_is ∙ chain_value_only f chain sizes type fill value chunk w

pub value_only : {B X : Type 0} (view : X → List ℕ) (result : Result X CodecError) (f : BytesCodecs B) (chain : PlainChain B) (sizes : List ℕ) (type : ElementType) (fill : List ℕ) (held : Held)
    → Answers memory view result (held_value f chain sizes type fill held)
    → (chunk : Chunk) (value : List ℕ) → Holds type held chunk → ChainWritten f chain sizes type fill value chunk → Answers memory view result (Ok value)
value_only view result f chain sizes type fill held h chunk value holds w =
    subst (λ (x : Result (List ℕ) CodecError). Answers memory view result x) (held_written f chain sizes type fill held chunk value holds w) h

-- ---- decoding

pub chunk_found : {B : Type 0} (result : Result Held CodecError) (f : BytesCodecs B) (chain : PlainChain B) (sizes : List ℕ) (type : ElementType) (fill value : List ℕ)
    → IsChainOfMappings chain → All (λ size. 0 < size) sizes → AnswersBy memory (Holds type) result (chain_chunk f chain sizes type fill value)
    → IfOk result (λ held. (chunk : Chunk) × Holds type held chunk × ChainStands f chain sizes type fill value chunk)
chunk_found (Ok held) f chain sizes type fill value is positive h =
    let c = held_chunk type held (chain_chunk f chain sizes type fill value) h in
    (c.0, c.2, chain_read_found f chain is sizes type fill value c.0 positive c.1)
chunk_found (Err e) f chain sizes type fill value is positive h = tt

pub chunk_only : {B : Type 0} (result : Result Held CodecError) (f : BytesCodecs B) (chain : PlainChain B) (sizes : List ℕ) (type : ElementType) (fill value : List ℕ)
    → IsChainOfMappings chain → All (λ size. 0 < size) sizes → AnswersBy memory (Holds type) result (chain_chunk f chain sizes type fill value)
    → (chunk : Chunk) → ChainStands f chain sizes type fill value chunk → AnswersBy memory (Holds type) result (Ok chunk)
chunk_only result f chain sizes type fill value is positive h chunk s =
    subst (λ (x : Result Chunk CodecError). AnswersBy memory (Holds type) result x) (chain_chunk_only f chain is sizes type fill value chunk positive s) h
