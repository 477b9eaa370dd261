-- What a chain, or its array-to-bytes codec, encodes is decoded again to what it keeps of the chunk.
use Rattle.std.proofs.Common.{◌≡◌, ◌<◌, ℕ, List, length, Result, Ok, Err, Vec, Global, sym, subst}
use Rattle.std.specs.List.{All}
use Rattle.std.specs.Prelude.{IsOk, IfOk}
use Rattle.std.specs.declared.borrow.CowSlice.{CowSlice}
use Rattle.zarrs_chunk.specs.Answer.{Gives}
use Rattle.zarrs_chunk.specs.ChunkShape.{product}
use Rattle.zarrs_chunk.specs.declared.codec_error.CodecError.{CodecError}
use Rattle.zarrs_data_type.specs.Element.{Chunk}
use Rattle.zarrs_data_type.specs.ElementType.{ElementType}
use Rattle.zarrs_data_type.specs.Form.{Form}
use Rattle.zarrs_array_bytes.specs.Elements.{elements}
use Rattle.zarrs_array_bytes.specs.Held.{Held, items_of}
use Rattle.zarrs_array_bytes.specs.Validity.{Holds}
use Rattle.zarrs_codec.specs.BytesToBytesCodec.{BytesCodecs, IsLawful}
use Rattle.zarrs_codec.specs.CodecMembers.{DecodesAgain}
use Rattle.zarrs_codec.specs.Grammar.{Decodes}
use Rattle.zarrs_chain_meaning.specs.Chain.{codec_held_value, taken_chunk}
use Rattle.zarrs_chain_meaning.specs.CodecMeaning.{PlainCodec, PlainChain, chain_meaning, HasMappings, normal_form, codec_representation, codec_chunk, chain_chunk, ChainWritten}
use Rattle.zarrs_chain_meaning.specs.Laws.{IsChainOfMappings}
use Rattle.zarrs_chain_meaning.specs.MachineBytes.{HeldHasBytes}
use Rattle.zarrs_chain_meaning.proofs.Answered.{from_ok}
use Rattle.zarrs_chain_meaning.proofs.CodecLaws.{chain_stands}
use Rattle.zarrs_chain_meaning.proofs.HeldBytes.{chain_again, chunk_bytes, codec_again}
use Rattle.zarrs_chain.specs.ChainGrammar.{chain_grammar}
use Rattle.zarrs_chain.specs.EncodedAgain.{EncodedStands, ReencodedStands}
use Rattle.zarrs_chain.proofs.CodecRelations.{value_written}

-- ---- an array-to-bytes codec

taken_again : {B : Type 0} (f : BytesCodecs B) (codec : PlainCodec B) (sizes : List ℕ) (type : ElementType) (fill value : List ℕ) (chunk : Chunk) → IsOk (codec_representation f codec sizes type fill) → codec_chunk f codec sizes type fill value ≡ Ok chunk → taken_chunk f codec sizes type fill value ≡ Ok chunk
taken_again f codec sizes type fill value chunk taken again = rw (from_ok (codec_representation f codec sizes type fill) taken).1 again

-- what is decoded again is what the codec keeps of the chunk that the container holds
abbrev IsKept : {B : Type 0} → BytesCodecs B → PlainCodec B → Form → Held → List ℕ → Type 0
IsKept f codec form held value =
    (chunk : Chunk) × Holds form.type held chunk × (taken_chunk f codec form.sizes form.type form.fill value ≡ Ok (normal_form codec form.type chunk))

value_again : {B : Type 0} (f : BytesCodecs B) (codec : PlainCodec B) (form : Form) (held : Held) (value : List ℕ)
    → IsLawful f → HasMappings codec → All (λ size. 0 < size) form.sizes → HeldHasBytes held → codec_held_value f codec form.sizes form.type form.fill held ≡ Ok value → IsKept f codec form held value
value_again f codec form held value lawful is positive small e =
    let w = value_written f codec form held value is positive e in
    let r = from_ok (codec_representation f codec form.sizes form.type form.fill) w.2.taken in (
      w.0,
      w.1,
      taken_again f codec form.sizes form.type form.fill value (normal_form codec form.type w.0) w.2.taken
          (codec_again f codec form.sizes form.type form.fill value held w.0 r.0 lawful is positive small w.1 w.2.count_is r.1 w.2.written),
    )

pub codec_encodes_again : {B : Type 0} (f : BytesCodecs B) (codec : PlainCodec B) (form : Form) (held : Held) (result : Result (CowSlice ℕ Global) CodecError)
    → IsLawful f → HasMappings codec → All (λ size. 0 < size) form.sizes → HeldHasBytes held → Gives items_of result (codec_held_value f codec form.sizes form.type form.fill held)
    → DecodesAgain (λ form. taken_chunk f codec form.sizes form.type form.fill) (normal_form codec) form held result
codec_encodes_again f codec form held (Ok value) lawful is positive small gives = value_again f codec form held (items_of value) lawful is positive small gives.is
codec_encodes_again f codec form held (Err e) lawful is positive small gives = tt

-- ---- a chain

pub chain_encodes_again : {B : Type 0} (f : BytesCodecs B) (chain : PlainChain B) (form : Form) (held : Held) (result : Result (CowSlice ℕ Global) CodecError)
    → IsLawful f → IsChainOfMappings chain → All (λ size. 0 < size) form.sizes → HeldHasBytes held
    → IfOk result (λ value. (chunk : Chunk) × Holds form.type held chunk × ChainWritten f chain form.sizes form.type form.fill (items_of value) chunk)
    → DecodesAgain (λ form. chain_chunk f chain form.sizes form.type form.fill) (normal_form chain.array_to_bytes) form held result
chain_encodes_again f chain form held (Ok value) lawful is positive small (chunk, holds, w) =
    (chunk, holds, chain_again f chain form.sizes form.type form.fill (items_of value) held chunk lawful is positive small holds w)
chain_encodes_again f chain form held (Err e) lawful is positive small found = tt

-- ---- what stands for the chunk's normal form

-- the chunk of a count that a container holds is its elements
elements_of : (type : ElementType) (held : Held) (count : ℕ) (chunk : Chunk) → Holds type held chunk → length chunk ≡ count → elements type count held ≡ chunk
elements_of type held count chunk holds long = subst (λ k. elements type k held ≡ chunk) long holds.elements_are

pub encoded_stands : {B : Type 0} (f : BytesCodecs B) (chain : PlainChain B) (form : Form) (held : Held) (result : Result (CowSlice ℕ Global) CodecError)
    → IsLawful f → IsChainOfMappings chain → All (λ size. 0 < size) form.sizes → HeldHasBytes held
    → IfOk result (λ value. (chunk : Chunk) × Holds form.type held chunk × ChainWritten f chain form.sizes form.type form.fill (items_of value) chunk)
    → EncodedStands f chain form held result
encoded_stands f chain form held (Ok value) lawful is positive small (chunk, holds, w) =
    subst (λ (c : Chunk). (chain_meaning chain).Stands f form.sizes form.type form.fill (items_of value) (normal_form chain.array_to_bytes form.type c)) (sym (elements_of form.type held (product form.sizes) chunk holds w.elements.count_is))
    (chain_stands f chain lawful is form.sizes form.type form.fill (items_of value) chunk positive (chunk_bytes form.type held chunk small holds) w)
encoded_stands f chain form held (Err e) lawful is positive small found = tt

-- the value of the second chain, of the chunk that the first one answers, is handed out
pub reencoded_stands : {B C : Type 0} (f : BytesCodecs B) (from : PlainChain B) (g : BytesCodecs C) (to : PlainChain C) (form : Form) (value : List ℕ) (held : Held) (written : CowSlice ℕ Global) (result : Result (Vec ℕ Global) CodecError)
    → Decodes (chain_grammar f from) form value (Ok held) → EncodedStands g to form held (Ok written) → Gives (λ (answer : Vec ℕ Global). answer.items) result (Ok (items_of written)) → ReencodedStands f from g to form value result
reencoded_stands f from g to form value held written (Ok answer) read stands made chunk old =
    let same : items_of written ≡ answer.items = let is_made : Ok (items_of written) ≡ Ok answer.items = made.is in cc in
    subst (λ (items : List ℕ). (chain_meaning to).Stands g form.sizes form.type form.fill items (normal_form to.array_to_bytes form.type chunk)) same
    (subst (λ (c : Chunk). (chain_meaning to).Stands g form.sizes form.type form.fill (items_of written) (normal_form to.array_to_bytes form.type c)) (elements_of form.type held (product form.sizes) chunk (read.only chunk old) old.elements.count_is) stands)
reencoded_stands f from g to form value held written (Err e) read stands made chunk old = tt
