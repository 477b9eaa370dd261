-- A read in part, step by step, and the bytes that each step reads.
use Rattle.std.proofs.Common.{[], ◌≡◌, ℕ, ◌+◌, ◌<◌, ◌≤◌, Bool, true, Option, Some, None, List, ◌++◌, length, Result, Ok, Err, arith, refl, ap, sym, ◌∙◌}
use Rattle.std.specs.Result.{result_unwrap_or}
use Rattle.std.specs.List.{All}
use Rattle.zarrs_chunk.specs.Answer.{◌>>=◌, seen}
use Rattle.zarrs_chunk.specs.declared.codec_error.CodecError.{CodecError}
use Rattle.zarrs_data_type.specs.Element.{Chunk}
use Rattle.zarrs_codec.specs.StorageState.{are_sure}
use Rattle.zarrs_chain_meaning.specs.vlen.Vlen.{vlen_value_parts}
use Rattle.zarrs_bytes.proofs.Coding.{ok}
use Rattle.zarrs_chain_meaning.proofs.ArraySteps.{err, next_answer}
use Rattle.zarrs_chain_meaning.specs.vlen.PlainForm.{PlainForm}
use Rattle.zarrs_chain_meaning.specs.vlen.VlenLayout.{VlenLayout, span_bytes, span_numbers, head_of, layout_of}
use Rattle.zarrs_data_type.specs.ElementType.{ElementType}
use Rattle.zarrs_plain_vlen.specs.PlainRead.{plain_read}
use Rattle.zarrs_plain_vlen.specs.VlenRead.{stored_vlen_read, offsets_read, elements_read, vlen_read, elements_at, rests_on}
use Rattle.zarrs_plain_vlen.proofs.IndexOffsets.{offsets_long}
use Rattle.zarrs_chain_meaning.proofs.LayoutParts.{parts_at}
use Rattle.zarrs_bytes.proofs.BytesAt.{sure_parts}

next_err : {A B : Type 0} (r : Result A CodecError) (cause : CodecError) (f : A → Result B CodecError) → r ≡ Err cause → (r >>= f) ≡ err cause
next_err r cause f e = rw e refl

-- ---- the answer

module _ (form : PlainForm) (count : ℕ) (value places : List ℕ) where
  abbrev pub rest : List ℕ × List ℕ → Result Chunk CodecError
  rest parts = offsets_read form count parts.0 >>= λ offsets. elements_read offsets parts.1 places

  parts_ok : (layout : VlenLayout) → layout_of form.at_end value ≡ Ok layout → vlen_value_parts form.at_end value ≡ ok (parts_at value layout)
  parts_ok layout e = next_answer (layout_of form.at_end value) layout (λ l. ok (parts_at value l)) e

  pub read_unindexed : (layout : VlenLayout) (cause : CodecError) → layout_of form.at_end value ≡ Ok layout → offsets_read form count (span_bytes value layout.index) ≡ Err cause → vlen_read form count value places ≡ Err cause
  read_unindexed layout cause e f =
      next_answer (vlen_value_parts form.at_end value) (parts_at value layout) rest (parts_ok layout e)
      ∙ next_err (offsets_read form count (span_bytes value layout.index)) cause (λ offsets. elements_read offsets (span_bytes value layout.content) places) f

  pub read_indexed : (layout : VlenLayout) (offsets : List ℕ) → layout_of form.at_end value ≡ Ok layout → offsets_read form count (span_bytes value layout.index) ≡ Ok offsets
      → vlen_read form count value places ≡ elements_read offsets (span_bytes value layout.content) places
  read_indexed layout offsets e f =
      next_answer (vlen_value_parts form.at_end value) (parts_at value layout) rest (parts_ok layout e)
      ∙ next_answer (offsets_read form count (span_bytes value layout.index)) offsets (λ offsets. elements_read offsets (span_bytes value layout.content) places) f

-- ---- sure bytes

module _ (form : PlainForm) (count : ℕ) (value places : List ℕ) (sure : Option (ℕ → Bool)) (h : are_sure sure (rests_on form count value places) ≡ true) where
  abbrev pub head : List ℕ
  head = result_unwrap_or (seen span_numbers (head_of form.at_end (length value))) []

  abbrev pub index : List ℕ
  index = result_unwrap_or (seen (λ layout. span_numbers layout.index) (layout_of form.at_end value)) []

  abbrev pub elements : List ℕ
  elements = result_unwrap_or (elements_at form count value places) []

  pub sure_index : (layout : VlenLayout) → layout_of form.at_end value ≡ Ok layout → are_sure sure (span_numbers layout.index) ≡ true
  sure_index layout e =
      let both = sure_parts sure index elements (sure_parts sure head (index ++ elements) h).1 in
      ap (λ (r : Result VlenLayout CodecError). are_sure sure (result_unwrap_or (seen (λ layout. span_numbers layout.index) r) [])) (sym e) ∙ both.0

-- ---- runs

-- runs of elements are known by their offsets
pub runs_known : (form : PlainForm) (count : ℕ) (part offsets : List ℕ) (runs : List (ℕ × ℕ)) → offsets_read form count part ≡ Ok offsets → All (λ run. run.0 + run.1 ≤ count) runs → All (λ run. run.0 + run.1 < length offsets) runs
runs_known form count part offsets runs e h = λ k d l. let long = offsets_long form count part offsets e in omega (arith, long, h k d l)

-- ---- what is stored

refused_first : (r : Result Chunk CodecError) (error : CodecError) → (r >>= λ chunk. ok (Some chunk)) ≡ Err error → r ≡ Err error
refused_first (Ok chunk) error e = absurd cc
refused_first (Err cause) error e = cc

-- an error of what is stored is that of the value
pub refused_stored : (form : PlainForm) (count : ℕ) (type : ElementType) (fill : List ℕ) (stored : Option (List ℕ)) (places : List ℕ) (error : CodecError) → stored_vlen_read form count stored places ≡ Err error → plain_read form count type fill stored places ≡ Err error
refused_stored form count type fill None places error e = absurd cc
refused_stored form count type fill (Some value) places error e = refused_first (vlen_read form count value places) error e
