-- What re-encoding answers, by what its two calls answer.
use Rattle.std.proofs.Common.{◌≡◌, ◌∙◌, ℕ, ◌<◌, List, length, Result, Ok, Err, All, Vec, Global, refl, ap, sym, subst}
use Rattle.std.specs.declared.borrow.CowSlice.{CowSlice}
use Rattle.zarrs_chunk.specs.Answer.{◌>>=◌, Gives}
use Rattle.zarrs_chunk.specs.ChunkShape.{product}
use Rattle.zarrs_chunk.specs.declared.codec_error.CodecError.{CodecError}
use Rattle.zarrs_data_type.specs.Element.{Chunk}
use Rattle.zarrs_data_type.specs.ElementType.{ElementType}
use Rattle.zarrs_data_type.specs.Form.{Form}
use Rattle.zarrs_array_bytes.specs.Elements.{elements}
use Rattle.zarrs_array_bytes.specs.Held.{Held, items_of}
use Rattle.zarrs_array_bytes.specs.Validity.{Holds}
use Rattle.zarrs_codec.specs.BytesToBytesCodec.{BytesCodecs}
use Rattle.zarrs_codec.specs.Grammar.{Encodes, Decodes}
use Rattle.zarrs_chain_meaning.specs.Chain.{held_value}
use Rattle.zarrs_chain_meaning.specs.CodecMeaning.{PlainChain, chain_value, chain_chunk}
use Rattle.zarrs_chain_meaning.specs.Laws.{IsChainOfMappings}
use Rattle.zarrs_chain_meaning.proofs.ChainRelations.{held_value_is}
use Rattle.zarrs_chain_meaning.proofs.ChainSteps.{held_chunk}
use Rattle.zarrs_chain_meaning.proofs.CodecLaws.{chain_read_found}
use Rattle.zarrs_chain.specs.ChainGrammar.{chain_grammar}
use Rattle.zarrs_chain.specs.Reencode.{reencoded_value, Reencodes}

-- ---- steps

goes_on : {A V : Type 0} (r : Result A CodecError) (f : A → Result V CodecError) (a : A) → r ≡ Ok a → (r >>= f) ≡ f a
goes_on r f a e = rw e refl

stops : {A V : Type 0} (r : Result A CodecError) (f : A → Result V CodecError) (e : CodecError) → r ≡ Err e → (r >>= f) ≡ Err e
stops r f e h = rw h refl

-- a container holds one chunk of a count
one_held : (type : ElementType) (held : Held) (count : ℕ) (first second : Chunk) → Holds type held first → Holds type held second → length first ≡ count → length second ≡ count → first ≡ second
one_held type held count first second a b long also =
    sym a.elements_are ∙ ap (λ k. elements type k held) (long ∙ sym also) ∙ b.elements_are

-- what is expected is what the second chain answers of the container that the first one answered
expected_is : {B C : Type 0} (f : BytesCodecs B) (from : PlainChain B) (g : BytesCodecs C) (to : PlainChain C) (form : Form) (value : List ℕ) (held : Held)
    → IsChainOfMappings from → All (λ size. 0 < size) form.sizes → Decodes (chain_grammar f from) form value (Ok held) → reencoded_value f from g to form value ≡ held_value g to form.sizes form.type form.fill held
expected_is f from g to form value held is positive read =
    let c = held_chunk form.type held (chain_chunk f from form.sizes form.type form.fill value) read.exact in
    let stands = chain_read_found f from is form.sizes form.type form.fill value c.0 positive c.1 in
    goes_on (chain_chunk f from form.sizes form.type form.fill value) (λ chunk. chain_value g to form.sizes form.type form.fill chunk) c.0 c.1
    ∙ sym (held_value_is g to form.sizes form.type form.fill held c.0 c.2 stands.elements.count_is)

-- ---- the endings

-- the first chain rejects the value
pub reading_refused : {B C : Type 0} (f : BytesCodecs B) (from : PlainChain B) (g : BytesCodecs C) (to : PlainChain C) (form : Form) (value : List ℕ) (e : CodecError) → Decodes (chain_grammar f from) form value (Err e) → Reencodes f from g to form value (Err e)
reading_refused f from g to form value e read = record {
  found = tt;
  only = λ other r excused. absurd (let wrong : Ok r.chunk ≡ Err e = read.only r.chunk r.stands excused in cc);
  exact = λ excused. stops (chain_chunk f from form.sizes form.type form.fill value) (λ chunk. chain_value g to form.sizes form.type form.fill chunk) e (read.exact excused);
  no_fault = read.no_fault;
}

-- the second one rejects the chunk
pub writing_refused : {B C : Type 0} (f : BytesCodecs B) (from : PlainChain B) (g : BytesCodecs C) (to : PlainChain C) (form : Form) (value : List ℕ) (held : Held) (e : CodecError)
    → IsChainOfMappings from → All (λ size. 0 < size) form.sizes → Decodes (chain_grammar f from) form value (Ok held) → Encodes (chain_grammar g to) form held (Err e) → Reencodes f from g to form value (Err e)
writing_refused f from g to form value held e is positive read wrote = record {
  found = tt;
  only = λ other r. wrote.only r.chunk other (read.only r.chunk r.stands) r.written;
  exact = λ excused. expected_is f from g to form value held is positive read ∙ wrote.exact excused;
  no_fault = wrote.no_fault;
}

-- the second one writes it, and its value is handed out
value_answered : {B C : Type 0} (f : BytesCodecs B) (from : PlainChain B) (g : BytesCodecs C) (to : PlainChain C) (form : Form) (value : List ℕ) (held : Held) (written : CowSlice ℕ Global) (answer : Vec ℕ Global)
    → IsChainOfMappings from → All (λ size. 0 < size) form.sizes → Decodes (chain_grammar f from) form value (Ok held) → Encodes (chain_grammar g to) form held (Ok written) → answer.items ≡ items_of written
    → Reencodes f from g to form value (Ok answer)
value_answered f from g to form value held written answer is positive read wrote same =
    let a = read.found in
    let b = wrote.found in
    let one : b.0 ≡ a.0 = one_held form.type held (product form.sizes) b.0 a.0 b.1 a.1 b.2.elements.count_is a.2.elements.count_is in
    record {
      found = record {
        chunk = a.0;
        stands = a.2;
        written = subst (λ (items : List ℕ). (chain_grammar g to).Written form items a.0) (sym same) (subst (λ (chunk : Chunk). (chain_grammar g to).Written form (items_of written) chunk) one b.2);
      };
      only = λ other r. wrote.only r.chunk other (read.only r.chunk r.stands) r.written ∙ ap Ok (sym same);
      exact = expected_is f from g to form value held is positive read ∙ wrote.exact ∙ ap Ok (sym same);
      no_fault = refl;
    }

-- the second one writes it: its value is handed out, or memory is wanting for that
pub value_written : {B C : Type 0} (f : BytesCodecs B) (from : PlainChain B) (g : BytesCodecs C) (to : PlainChain C) (form : Form) (value : List ℕ) (held : Held) (written : CowSlice ℕ Global) (result : Result (Vec ℕ Global) CodecError)
    → IsChainOfMappings from → All (λ size. 0 < size) form.sizes → Decodes (chain_grammar f from) form value (Ok held) → Encodes (chain_grammar g to) form held (Ok written)
    → Gives (λ (answer : Vec ℕ Global). answer.items) result (Ok (items_of written)) → Reencodes f from g to form value result
value_written f from g to form value held written (Ok answer) is positive read wrote made =
    let same : answer.items ≡ items_of written = let is_made : Ok (items_of written) ≡ Ok answer.items = made.is in cc in
    value_answered f from g to form value held written answer is positive read wrote same
value_written f from g to form value held written (Err e) is positive read wrote made = record {
  found = tt;
  only = λ other r excused. absurd (let wrong : Ok (items_of written) ≡ Err e = made.is excused in cc);
  exact = λ excused. absurd (let wrong : Ok (items_of written) ≡ Err e = made.is excused in cc);
  no_fault = made.no_fault;
}
