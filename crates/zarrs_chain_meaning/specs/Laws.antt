-- Laws of chains, those with chains inside too, and of lawful bytes-to-bytes codecs.
use Rattle.std.specs.Prelude.{◌≡◌, ◌<◌, ◌↔◌, ℕ, List, Ok, All, ◌≤◌}
use Rattle.zarrs_data_type.specs.ElementType.{ElementType}
use Rattle.zarrs_chunk.specs.ChunkShape.{product}
use Rattle.zarrs_data_type.specs.Element.{Chunk}
use Rattle.zarrs_array_bytes.specs.Update.{update}
use Rattle.zarrs_codec.specs.BytesToBytesCodec.{BytesCodecs, IsLawful, KeepsTo, IsAtMost}
use Rattle.zarrs_codec.specs.declared.bytes_representation.BytesRepresentation.{BytesRepresentation}
use Rattle.zarrs_array_to_array.specs.ArrayToArrayCodec.{IsMapping}
use Rattle.zarrs_bytes.specs.BytesCodec.{IsChunk}
use Rattle.zarrs_packbits.specs.Laws.{HasBytes}
use Rattle.zarrs_chain_meaning.specs.CodecMeaning.{PlainCodec, PlainChain, meaning, chain_meaning, normal_form, chain_representation}

-- all array-to-array codecs of a chain, and those of all chains inside, hold to what their types do, and no inner chunk has a size of zero
pub record IsChainOfMappings {B : Type 0} (chain : PlainChain B) : Type 0 where
  pub mappings : All IsMapping chain.array_to_array
  pub inner_mappings : (meaning chain.array_to_bytes).Mapped

-- What is written for a chunk stands for its normal form.
abbrev pub ChainWrittenStands : {B : Type 0} → BytesCodecs B → Type 0
ChainWrittenStands {B} f =
    (chain : PlainChain B) (sizes : List ℕ) (type : ElementType) (fill value : List ℕ) (chunk : Chunk)
    → IsLawful f → IsChainOfMappings chain → All HasBytes chunk → All (λ size. 0 < size) sizes
    → (chain_meaning chain).Written f sizes type fill value chunk → (chain_meaning chain).Stands f sizes type fill value (normal_form chain.array_to_bytes type chunk)

-- A value stands for at most one chunk.
abbrev pub ChainStandsForOne : {B : Type 0} → BytesCodecs B → Type 0
ChainStandsForOne {B} f =
    (chain : PlainChain B) (sizes : List ℕ) (type : ElementType) (fill value : List ℕ) (chunk other : Chunk)
    → IsChainOfMappings chain → All (λ size. 0 < size) sizes
    → (chain_meaning chain).Stands f sizes type fill value chunk → (chain_meaning chain).Stands f sizes type fill value other → chunk ≡ other

-- A chain answers a chunk of a value exactly where the value stands for it.
abbrev pub StandsIsAnswered : {B : Type 0} → BytesCodecs B → Type 0
StandsIsAnswered {B} f =
    (chain : PlainChain B) (sizes : List ℕ) (type : ElementType) (fill value : List ℕ) (chunk : Chunk)
    → IsChainOfMappings chain → All (λ size. 0 < size) sizes
    → ((chain_meaning chain).chunk f sizes type fill value ≡ Ok chunk) ↔ (chain_meaning chain).Stands f sizes type fill value chunk

-- For a chunk at most one value is written.
abbrev pub ChainWrittenOnce : {B : Type 0} → BytesCodecs B → Type 0
ChainWrittenOnce {B} f =
    (chain : PlainChain B) (sizes : List ℕ) (type : ElementType) (fill value other : List ℕ) (chunk : Chunk)
    → (chain_meaning chain).Written f sizes type fill value chunk → (chain_meaning chain).Written f sizes type fill other chunk → value ≡ other

-- A chain answers a value for a chunk of the sizes and the type exactly where the value is written for it.
abbrev pub ValueIsWritten : {B : Type 0} → BytesCodecs B → Type 0
ValueIsWritten {B} f =
    (chain : PlainChain B) (sizes : List ℕ) (type : ElementType) (fill value : List ℕ) (chunk : Chunk)
    → IsChainOfMappings chain → All (λ size. 0 < size) sizes → IsChunk type (product sizes) chunk
    → ((chain_meaning chain).value f sizes type fill chunk ≡ Ok value) ↔ (chain_meaning chain).Written f sizes type fill value chunk

-- The normal form of an updated chunk is the normal form updated with that of the new elements.
abbrev pub NormalFormUpdated : Type 0 → Type 0
NormalFormUpdated B =
    (codec : PlainCodec B) (type : ElementType) (chunk : Chunk) (places : List ℕ) (new : Chunk)
    → normal_form codec type (update chunk places new) ≡ update (normal_form codec type chunk) places (normal_form codec type new)

-- What is written for a chunk of the sizes and the type is what is written for its normal form.
abbrev pub WrittenForNormal : {B : Type 0} → BytesCodecs B → Type 0
WrittenForNormal {B} f =
    (chain : PlainChain B) (sizes : List ℕ) (type : ElementType) (fill value : List ℕ) (chunk : Chunk)
    → IsChunk type (product sizes) chunk → (chain_meaning chain).Written f sizes type fill value chunk ↔ (chain_meaning chain).Written f sizes type fill value (normal_form chain.array_to_bytes type chunk)

-- Two chunks are written alike exactly if their normal forms are equal.
abbrev pub ChainWrittenAlike : {B : Type 0} → BytesCodecs B → Type 0
ChainWrittenAlike {B} f =
    (chain : PlainChain B) (sizes : List ℕ) (type : ElementType) (fill value other_value : List ℕ) (chunk other : Chunk)
    → IsLawful f → IsChainOfMappings chain → All HasBytes chunk → All HasBytes other → All (λ size. 0 < size) sizes
    → (chain_meaning chain).Written f sizes type fill value chunk → (chain_meaning chain).Written f sizes type fill other_value other
    → (value ≡ other_value) ↔ (normal_form chain.array_to_bytes type chunk ≡ normal_form chain.array_to_bytes type other)

-- A written value is as many bytes as the representation says.
abbrev pub WrittenKeeps : {B : Type 0} → BytesCodecs B → Type 0
WrittenKeeps {B} f =
    (chain : PlainChain B) (sizes : List ℕ) (type : ElementType) (fill value : List ℕ) (chunk : Chunk) (r : BytesRepresentation)
    → IsLawful f → IsChainOfMappings chain → All HasBytes chunk → All (λ size. 0 < size) sizes
    → (chain_meaning chain).Written f sizes type fill value chunk → chain_representation f chain sizes type fill ≡ Ok r → KeepsTo r value

-- Of the chunks of one type and fill value that a chain takes, those with as many elements have one representation, however they are shaped.
abbrev pub SizesGoByCount : {B : Type 0} → BytesCodecs B → Type 0
SizesGoByCount {B} f =
    (chain : PlainChain B) (sizes others : List ℕ) (type : ElementType) (fill : List ℕ) (r s : BytesRepresentation)
    → IsChainOfMappings chain → All (λ size. 0 < size) sizes → All (λ size. 0 < size) others → product sizes ≡ product others
    → chain_representation f chain sizes type fill ≡ Ok r → chain_representation f chain others type fill ≡ Ok s → r ≡ s

-- Of the chunks that a chain takes, one with more elements has no smaller representation.
abbrev pub SizesGrow : {B : Type 0} → BytesCodecs B → Type 0
SizesGrow {B} f =
    (chain : PlainChain B) (sizes others : List ℕ) (type : ElementType) (fill : List ℕ) (r s : BytesRepresentation)
    → IsLawful f → IsChainOfMappings chain → All (λ size. 0 < size) sizes → All (λ size. 0 < size) others → product sizes ≤ product others
    → chain_representation f chain sizes type fill ≡ Ok r → chain_representation f chain others type fill ≡ Ok s → IsAtMost r s
