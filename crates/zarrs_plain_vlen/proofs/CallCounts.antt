-- How many reading calls a read in part has made, call by call.
use Rattle.std.proofs.Common.{◌≡◌, ◌∙◌, ℕ, zero, suc, ◌+◌, ◌-◌, ◌<◌, ◌==◌, true, false, Option, Some, None, List, [], ◌∷◌, ◌++◌, length, Result, Ok, arith, refl, ap, sym}
use Rattle.std.specs.List.{All, range_with_len}
use Rattle.std.specs.Prelude.{OnOk}
use Rattle.std.specs.Result.{result_unwrap_or}
use Rattle.std.proofs.lemmas.Bool.{eqb-true}
use Rattle.std.proofs.lemmas.Result.{on_ok_weaker}
use Rattle.zarrs_chunk.specs.Answer.{◌>>=◌}
use Rattle.zarrs_chunk.specs.declared.codec_error.CodecError.{CodecError}
use Rattle.zarrs_codec.specs.ByteRanges.{range_indices}
use Rattle.zarrs_codec.specs.ByteSpan.{ByteSpan}
use Rattle.zarrs_codec.specs.Calls.{Calls, after_reads}
use Rattle.zarrs_codec.specs.StorageState.{value_or_empty, value_size}
use Rattle.zarrs_codec.proofs.CallLemmas.{after_reads-more, after_reads-none}
use Rattle.zarrs_bytes.proofs.Coding.{ok}
use Rattle.zarrs_chain_meaning.specs.vlen.PlainForm.{PlainForm}
use Rattle.zarrs_chain_meaning.specs.vlen.VlenLayout.{VlenLayout, layout_of, span_bytes}
use Rattle.zarrs_chain_meaning.proofs.ArraySteps.{next_answer}
use Rattle.zarrs_plain_vlen.specs.ReadingCalls.{calls_behind_size, calls_for, stored_vlen_calls}
use Rattle.zarrs_plain_vlen.specs.VlenRead.{element_numbers, elements_at, offsets_read}

-- ---- ranges

-- none are asked for by no call
pub none_asked : {T : Type 0} (items : List T) (calls : Option Calls) → (length items == 0) ≡ true → calls ≡ after_reads (calls_for items) calls
none_asked [] calls none = sym (after_reads-none calls)
none_asked (first ∷ rest) calls none = absurd (omega (arith, eqb-true (length (first ∷ rest)) 0 none))

-- and some by one
pub some_asked : {T : Type 0} (items : List T) → (length items == 0) ≡ false → calls_for items ≡ 1
some_asked [] some = absurd cc
some_asked (first ∷ rest) some = refl

some_numbers : (start count : ℕ) (more : List ℕ) → 0 < count → calls_for (range_with_len start count ++ more) ≡ 1
some_numbers start zero more some = absurd (omega arith)
some_numbers start (suc count) more some = refl

-- ranges that all have bytes are asked for as these are
pub calls_for_bytes : (ranges : List ByteSpan) → All (λ range. range.start < range.end) ranges → calls_for ranges ≡ calls_for (range_indices ranges)
calls_for_bytes [] filled = refl
calls_for_bytes (range ∷ rest) filled =
    let some : range.start < range.end = filled 0 range (omega arith) in
    sym (some_numbers range.start (range.end - range.start) (range_indices rest) (omega (arith, some)))

-- ---- a value

module _ (form : PlainForm) (count : ℕ) (value places : List ℕ) where
  -- where the bytes of the elements stand, by the offsets
  elements_known : (layout : VlenLayout) (offsets : List ℕ) → layout_of form.at_end value ≡ Ok layout → offsets_read form count (span_bytes value layout.index) ≡ Ok offsets
      → elements_at form count value places ≡ Ok (element_numbers layout.content.start offsets places)
  elements_known layout offsets e f =
      next_answer (layout_of form.at_end value) layout (λ l. offsets_read form count (span_bytes value l.index) >>= λ found. ok (element_numbers l.content.start found places)) e
      ∙ next_answer (offsets_read form count (span_bytes value layout.index)) offsets (λ found. ok (element_numbers layout.content.start found places)) f

  -- one call for the length, one for the index, and those for the elements
  pub value_counted : {T : Type 0} (r : Result T CodecError) (layout : VlenLayout) (offsets : List ℕ) (before headed indexed after : Option Calls) → layout_of form.at_end value ≡ Ok layout → offsets_read form count (span_bytes value layout.index) ≡ Ok offsets
      → headed ≡ after_reads 1 before → indexed ≡ after_reads 1 headed → OnOk r (after ≡ after_reads (calls_for (element_numbers layout.content.start offsets places)) indexed) → OnOk r (after ≡ after_reads (calls_behind_size form count value places) before)
  value_counted r layout offsets before headed indexed after e f head index elements =
      let n = calls_for (element_numbers layout.content.start offsets places) in
      let two = index ∙ ap (after_reads 1) head ∙ after_reads-more 1 1 before in
      let all : 2 + n ≡ calls_behind_size form count value places
      = ap (λ (found : Result (List ℕ) CodecError). 2 + calls_for (result_unwrap_or found [])) (sym (elements_known layout offsets e f)) in
      on_ok_weaker r (λ more. more ∙ ap (after_reads n) two ∙ after_reads-more 2 n before ∙ ap (λ (k : ℕ). after_reads k before) all) elements

-- ---- what is stored

-- where nothing is, the call for the size is all
pub size_alone : (form : PlainForm) (count : ℕ) (stored : Option (List ℕ)) (places : List ℕ) (before after : Option Calls) → value_size stored ≡ None → after ≡ after_reads 1 before → after ≡ after_reads (stored_vlen_calls form count stored places) before
size_alone form count None places before after none one = one
size_alone form count (Some value) places before after none one = absurd cc

-- and else those for the value follow
pub size_first : (form : PlainForm) (count : ℕ) (stored : Option (List ℕ)) (len : ℕ) (value places : List ℕ) (before sized after : Option Calls) → value_size stored ≡ Some len → value ≡ value_or_empty stored → sized ≡ after_reads 1 before
    → after ≡ after_reads (calls_behind_size form count value places) sized → after ≡ after_reads (stored_vlen_calls form count stored places) before
size_first form count None len value places before sized after some is one more = absurd cc
size_first form count (Some items) len value places before sized after some is one more =
    let n = calls_behind_size form count value places in
    let next : 1 + n ≡ suc n = omega arith in
    more
    ∙ ap (after_reads n) one
    ∙ after_reads-more 1 n before
    ∙ ap (λ (k : ℕ). after_reads k before) next
    ∙ ap (λ (v : List ℕ). after_reads (suc (calls_behind_size form count v places)) before) is
