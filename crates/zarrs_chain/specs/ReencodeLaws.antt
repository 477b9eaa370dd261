-- Laws of re-encoding, for chains with chains inside too.
use Rattle.std.specs.Prelude.{◌≡◌, ◌<◌, ◌↔◌, ℕ, List, All}
use Rattle.zarrs_data_type.specs.Element.{Chunk}
use Rattle.zarrs_data_type.specs.Form.{Form}
use Rattle.zarrs_codec.specs.BytesToBytesCodec.{BytesCodecs, IsLawful}
use Rattle.zarrs_packbits.specs.Laws.{HasBytes}
use Rattle.zarrs_chain_meaning.specs.Laws.{IsChainOfMappings}
use Rattle.zarrs_chain_meaning.specs.CodecMeaning.{PlainChain, normal_form}
use Rattle.zarrs_chain.specs.ChainGrammar.{chain_grammar}
use Rattle.zarrs_chain.specs.Reencode.{Reencoded, IsCanonical}

-- What is written for a chunk is the canonical value of the chunk's normal form.
abbrev pub WrittenIsCanonical : {B : Type 0} → BytesCodecs B → Type 0
WrittenIsCanonical {B} f =
    (chain : PlainChain B) (form : Form) (value : List ℕ) (chunk : Chunk)
    → IsLawful f → IsChainOfMappings chain → All HasBytes chunk → All (λ size. 0 < size) form.sizes
    → (chain_grammar f chain).Written form value chunk
    → IsCanonical (chain_grammar f chain) form value (normal_form chain.array_to_bytes form.type chunk)

-- A value that stands for a chunk is re-encoded as exactly what is written for the chunk.
abbrev pub ReencodedIsWritten : {B C : Type 0} → BytesCodecs B → BytesCodecs C → Type 0
ReencodedIsWritten {B} {C} f g =
    (from : PlainChain B) (to : PlainChain C) (form : Form) (value other : List ℕ) (chunk : Chunk)
    → IsChainOfMappings from → All (λ size. 0 < size) form.sizes
    → (chain_grammar f from).Stands form value chunk
    → Reencoded (chain_grammar f from) (chain_grammar g to) form value other ↔ (chain_grammar g to).Written form other chunk

-- Into its own chain a value is re-encoded as the canonical value of its chunk's normal form.
abbrev pub ReencodedIsCanonical : {B : Type 0} → BytesCodecs B → Type 0
ReencodedIsCanonical {B} f =
    (chain : PlainChain B) (form : Form) (value other : List ℕ) (chunk : Chunk)
    → IsLawful f → IsChainOfMappings chain → All HasBytes chunk → All (λ size. 0 < size) form.sizes
    → (chain_grammar f chain).Stands form value chunk
    → Reencoded (chain_grammar f chain) (chain_grammar f chain) form value other
    → IsCanonical (chain_grammar f chain) form other (normal_form chain.array_to_bytes form.type chunk)

-- What is re-encoded into its own chain is re-encoded there as itself, and as nothing else.
abbrev pub ReencodedTwice : {B : Type 0} → BytesCodecs B → Type 0
ReencodedTwice {B} f =
    (chain : PlainChain B) (form : Form) (value other again : List ℕ) (chunk : Chunk)
    → IsLawful f → IsChainOfMappings chain → All HasBytes chunk → All (λ size. 0 < size) form.sizes
    → (chain_grammar f chain).Stands form value chunk
    → Reencoded (chain_grammar f chain) (chain_grammar f chain) form value other
    → Reencoded (chain_grammar f chain) (chain_grammar f chain) form other again ↔ (again ≡ other)

-- A canonical value that is re-encoded into a chain that keeps its chunk is re-encoded from there as itself, and as nothing else.
abbrev pub ReencodedBack : {B C : Type 0} → BytesCodecs B → BytesCodecs C → Type 0
ReencodedBack {B} {C} f g =
    (from : PlainChain B) (to : PlainChain C) (form : Form) (value other back : List ℕ) (chunk : Chunk)
    → IsLawful g → IsChainOfMappings from → IsChainOfMappings to → All HasBytes chunk → All (λ size. 0 < size) form.sizes
    → IsCanonical (chain_grammar f from) form value chunk → normal_form to.array_to_bytes form.type chunk ≡ chunk
    → Reencoded (chain_grammar f from) (chain_grammar g to) form value other
    → Reencoded (chain_grammar g to) (chain_grammar f from) form other back ↔ (back ≡ value)
