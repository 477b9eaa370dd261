-- What is encoded and decoded again comes back.
use Rattle.std.proofs.Common.{◌≡◌, ℕ, List, Option, Result, Ok, Err, IfOk, Global, ap, sym, subst, ◌∙◌}
use Rattle.std.specs.Prelude.{IsOkAnd}
use Rattle.std.specs.declared.borrow.CowSlice.{CowSlice}
use Rattle.std.proofs.lemmas.List.{map-id}
use Rattle.zarrs_codecs.specs.BytesToBytesCodec.{BytesCodecs}
use Rattle.zarrs_codecs.specs.Chain.{held_value}
use Rattle.zarrs_codecs.specs.ChainGrammar.{chain_grammar}
use Rattle.zarrs_codecs.specs.ChunkShape.{product}
use Rattle.zarrs_codecs.specs.CodecError.{CodecError}
use Rattle.zarrs_codecs.specs.CodecMeaning.{bytes_codec, PlainChain, meaning, chain_meaning, normal_form}
use Rattle.zarrs_codecs.specs.Element.{Chunk}
use Rattle.zarrs_codecs.specs.ElementType.{ElementType}
use Rattle.zarrs_codecs.specs.Elements.{elements}
use Rattle.zarrs_codecs.specs.EncodedAgain.{EncodedStands}
use Rattle.zarrs_codecs.specs.Endianness.{Endianness}
use Rattle.zarrs_codecs.specs.Form.{Form}
use Rattle.zarrs_codecs.specs.Grammar.{Decodes, Encodes}
use Rattle.zarrs_codecs.specs.Held.{Held, items_of}
use Rattle.zarrs_codecs.specs.Validity.{Holds}
use Rattle.zarrs_uses.specs.ComesBack.{ComesBack}

-- an answer isn't an error
never : (chunk : Chunk) (error : CodecError) → (let one : Result Chunk CodecError = Ok chunk in one ≡ Err error) → ⊥
never chunk error e = cc

-- a container of what is decoded has what is kept, and no error comes but lack of memory
pub comes_back : {B : Type 0} (f : BytesCodecs B) (chain : PlainChain B) (form : Form) (given : Held) (value : CowSlice ℕ Global) (result : Result Held CodecError)
    → Encodes (chain_grammar f chain) form given (Ok value) → EncodedStands f chain form given (Ok value) → Decodes (chain_grammar f chain) form (items_of value) result → ComesBack f chain form given result
comes_back f chain form given value (Ok held) wrote stands read =
    let found = wrote.found in
    let are : elements form.type (product form.sizes) given ≡ found.0 = subst (λ n. elements form.type n given ≡ found.0) found.2.elements.count_is found.1.elements_are in
    record {
      is = subst (λ (r : Result (List ℕ) CodecError). IsOkAnd r (λ _. (chunk : Chunk) × Holds form.type given chunk × Holds form.type held (normal_form chain.array_to_bytes form.type chunk))) (sym wrote.exact)
          (found.0, found.1, read.only (normal_form chain.array_to_bytes form.type found.0) (subst (λ (c : Chunk). (chain_meaning chain).Stands f form.sizes form.type form.fill (items_of value) (normal_form chain.array_to_bytes form.type c)) are stands));
      no_fault = read.no_fault;
    }
comes_back f chain form given value (Err error) wrote stands read =
    record {
      is = λ wants. absurd (never (normal_form chain.array_to_bytes form.type (elements form.type (product form.sizes) given)) error (read.only (normal_form chain.array_to_bytes form.type (elements form.type (product form.sizes) given)) stands wants));
      no_fault = read.no_fault;
    }

-- `bytes` keeps each element
pub bytes_keeps_all : (B : Type 0) (order : Option Endianness) (type : ElementType) (chunk : Chunk) → normal_form {B = B} (bytes_codec order) type chunk ≡ chunk
unfolding meaning
bytes_keeps_all B order type chunk = map-id chunk

-- so what comes back through a chain of `bytes` is the chunk
pub chunk_back : {B : Type 0} (f : BytesCodecs B) (chain : PlainChain B) (order : Option Endianness) (form : Form) (given : Held) (result : Result Held CodecError) → chain.array_to_bytes ≡ bytes_codec order
    → ComesBack f chain form given result → IfOk result (λ decoded. (chunk : Chunk) × Holds form.type given chunk × Holds form.type decoded chunk)
chunk_back f chain order form given (Err error) is back = tt
chunk_back f chain order form given (Ok held) is back = at (held_value f chain form.sizes form.type form.fill given) back.is
  where
    at : (r : Result (List ℕ) CodecError) → IsOkAnd r (λ _. (chunk : Chunk) × Holds form.type given chunk × Holds form.type held (normal_form chain.array_to_bytes form.type chunk)) → (chunk : Chunk) × Holds form.type given chunk × Holds form.type held chunk
    at (Ok value) h = (h.0, h.1, subst (Holds form.type held) (ap (λ c. normal_form c form.type h.0) is ∙ bytes_keeps_all _ order form.type h.0) h.2)
    at (Err error) h = absurd h
