-- What is promised of a call by its exact answer alone.
use Rattle.std.proofs.Common.{◌≡◌, ℕ, false, Result, Ok, Err, List, refl, subst, Global}
use Rattle.std.specs.Prelude.{IfOk, IsOkAnd}
use Rattle.std.specs.declared.borrow.CowSlice.{CowSlice}
use Rattle.zarrs_chunk.specs.Answer.{Answers, AnswersBy, memory, is_fault}
use Rattle.zarrs_chunk.specs.AnswerLaws.{found_from}
use Rattle.zarrs_chunk.specs.declared.codec_error.CodecError.{CodecError}
use Rattle.zarrs_data_type.specs.Element.{Chunk}
use Rattle.zarrs_data_type.specs.Form.{Form}
use Rattle.zarrs_array_bytes.specs.Held.{Held, items_of}
use Rattle.zarrs_array_bytes.specs.Validity.{Holds}
use Rattle.zarrs_codec.specs.Grammar.{Grammar, Encodes, Decodes, WritesByGrammar, ReadsByGrammar}

pub encodes_from : (G : Grammar) (form : Form) (held : Held) (r : Result (CowSlice ℕ Global) CodecError) → WritesByGrammar G → Answers memory items_of r (G.value form held) → is_fault r ≡ false → Encodes G form held r
encodes_from G form held r law exact none = record {
  found = found_from memory items_of r (G.value form held) (λ v. (chunk : Chunk) × Holds form.type held chunk × G.Written form v chunk) exact (λ v e. law.found form held v e);
  only = λ chunk value holds written. subst (Answers memory items_of r) (law.only form held chunk value holds written) exact;
  exact = exact;
  no_fault = none;
}

decodes_found : (G : Grammar) (form : Form) (value : List ℕ) (r : Result Held CodecError) → ReadsByGrammar G → AnswersBy memory (Holds form.type) r (G.chunk form value) → IfOk r (λ held. (chunk : Chunk) × Holds form.type held chunk × G.Stands form value chunk)
decodes_found G form value (Ok held) law exact = by_answer (G.chunk form value) refl exact
  where
    by_answer : (c : Result Chunk CodecError) → G.chunk form value ≡ c → IsOkAnd c (Holds form.type held) → (chunk : Chunk) × Holds form.type held chunk × G.Stands form value chunk
    by_answer (Ok chunk) e h = (chunk, h, law.found form value chunk e)
    by_answer (Err d) e h = absurd h
decodes_found G form value (Err e) law exact = tt

pub decodes_from : (G : Grammar) (form : Form) (value : List ℕ) (r : Result Held CodecError) → ReadsByGrammar G → AnswersBy memory (Holds form.type) r (G.chunk form value) → is_fault r ≡ false → Decodes G form value r
decodes_from G form value r law exact none = record {
  found = decodes_found G form value r law exact;
  only = λ chunk stands. subst (AnswersBy memory (Holds form.type) r) (law.only form value chunk stands) exact;
  exact = exact;
  no_fault = none;
}
