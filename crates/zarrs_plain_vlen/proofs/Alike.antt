-- A read rests on the bytes of the index's length, of the index and of the elements alone.
use Rattle.std.proofs.Common.{◌≡◌, ℕ, ◌-◌, ◌≤◌, Bool, true, false, nat_le, List, [], ◌∷◌, ◌++◌, length, map, slice_index, Result, Ok, Err, arith, refl, ap, ap₂, sym, subst, ◌∙◌}
use Rattle.std.specs.Result.{result_unwrap_or}
use Rattle.std.specs.List.{All, between, list_all}
use Rattle.std.proofs.lemmas.Bool.{and_parts}
use Rattle.std.proofs.lemmas.Bool.Decides.{nat_tests}
use Rattle.std.proofs.lemmas.List.Elements.{All-tail}
use Rattle.zarrs_chunk.specs.Answer.{◌>>=◌, demand, seen}
use Rattle.zarrs_chunk.specs.declared.codec_error.CodecError.{CodecError}
use Rattle.zarrs_chunk.specs.declared.codec_error.CodecError.TheVariants.{InvalidBytesLength, IndexLength, InvalidByteRange}
use Rattle.zarrs_data_type.specs.Element.{plain, Chunk}
use Rattle.zarrs_array_bytes.specs.Elements.{cut}
use Rattle.zarrs_array_bytes.proofs.ElementLemmas.{length_between}
use Rattle.zarrs_codec.specs.ByteSpan.{ByteSpan}
use Rattle.zarrs_chain_meaning.specs.Parts.{length_of}
use Rattle.zarrs_bytes.proofs.Coding.{ok}
use Rattle.zarrs_chain_meaning.proofs.ArraySteps.{ok_is}
use Rattle.zarrs_plain_vlen.specs.Laws.{VlenReadsAlike}
use Rattle.zarrs_chain_meaning.specs.vlen.PlainForm.{PlainForm}
use Rattle.zarrs_chain_meaning.specs.vlen.VlenLayout.{VlenLayout, span_bytes, span_numbers, head_at, head_of, layout_at, layout_within, layout_of}
use Rattle.zarrs_plain_vlen.specs.VlenRead.{element_is_there, offsets_read, elements_read, vlen_read, element_numbers, elements_at, rests_on}
use Rattle.zarrs_plain_vlen.proofs.ElementBytes.{numbers_at, cut_numbered}
use Rattle.zarrs_chain_meaning.proofs.LayoutParts.{parts_at}
use Rattle.zarrs_bytes.proofs.Ranges.{take_drop-numbers}
use Rattle.zarrs_plain_vlen.proofs.RangesRead.{byte_of}
use Rattle.zarrs_bytes.proofs.Alike.{All-first, All-second}

map_alike : (f g : ℕ → ℕ) (xs : List ℕ) → All (λ x. f x ≡ g x) xs → map f xs ≡ map g xs
map_alike f g [] h = refl
map_alike f g (x ∷ xs) h = ap₂ (λ (y : ℕ) (ys : List ℕ). y ∷ ys) (h 0 x (omega arith)) (map_alike f g xs (All-tail (λ x. f x ≡ g x) x xs h))

-- what lies inside a value of so many bytes
record IsInside (n : ℕ) (span : ByteSpan) : Type 0 where
  pub ordered : span.start ≤ span.end
  pub inside : span.end ≤ n

head_if : (at_end : Bool) (test : Bool) (n : ℕ) (head : ByteSpan) → nat_le 8 n ≡ test → (demand test (InvalidBytesLength n 8) >>= λ _. ok (head_at at_end n)) ≡ Ok head → IsInside n head
head_if at_end false n head t e = absurd cc
head_if false true n head t e =
    let long : 8 ≤ n = grind (arith, nat_tests) in
    subst (IsInside n) (ok_is (head_at false n) head e) (record { ordered = omega arith; inside = long })
head_if true true n head t e =
    subst (IsInside n) (ok_is (head_at true n) head e) (record { ordered = omega arith; inside = omega arith })

head_inside : (at_end : Bool) (n : ℕ) (head : ByteSpan) → head_of at_end n ≡ Ok head → IsInside n head
head_inside at_end n head e = head_if at_end (nat_le 8 n) n head refl e

long_if : (test : Bool) (n : ℕ) (made head : ByteSpan) → nat_le 8 n ≡ test → (demand test (InvalidBytesLength n 8) >>= λ _. ok made) ≡ Ok head → 8 ≤ n
long_if true n made head t e = grind (arith, nat_tests)
long_if false n made head t e = absurd cc

record LayoutInside (n : ℕ) (layout : VlenLayout) : Type 0 where
  pub index : IsInside n layout.index
  pub content : IsInside n layout.content

within_if : (at_end : Bool) (test : Bool) (n count : ℕ) (layout : VlenLayout) → 8 ≤ n → nat_le count (n - 8) ≡ test → (demand test IndexLength >>= λ _. ok (layout_at at_end n count)) ≡ Ok layout → LayoutInside n layout
within_if at_end false n count layout long t e = absurd cc
within_if false true n count layout long t e =
    let le : count ≤ n - 8 = grind (arith, nat_tests) in
    subst (LayoutInside n) (ok_is (layout_at false n count) layout e)
    (record { index = record { ordered = omega arith; inside = omega arith }; content = record { ordered = omega arith; inside = omega arith } })
within_if true true n count layout long t e =
    let le : count ≤ n - 8 = grind (arith, nat_tests) in
    subst (LayoutInside n) (ok_is (layout_at true n count) layout e)
    (record { index = record { ordered = omega arith; inside = omega arith }; content = record { ordered = omega arith; inside = omega arith } })

within_inside : (at_end : Bool) (n count : ℕ) (layout : VlenLayout) → 8 ≤ n → layout_within at_end n count ≡ Ok layout → LayoutInside n layout
within_inside at_end n count layout long e = within_if at_end (nat_le count (n - 8)) n count layout long refl e

module _ (form : PlainForm) (count : ℕ) (value other places : List ℕ) (long : length value ≡ length other) where
  abbrev pub n : ℕ
  n = length value

  abbrev pub Same : ℕ → Type 0
  Same number = slice_index value number ≡ slice_index other number

  span_alike : (span : ByteSpan) → IsInside n span → All Same (span_numbers span) → span_bytes value span ≡ span_bytes other span
  span_alike span i h =
      let o = i.ordered in
      let e = i.inside in
      take_drop-numbers value span.start (span.end - span.start) (omega (arith, o, e))
      ∙ map_alike (byte_of value) (byte_of other) (span_numbers span) h
      ∙ sym (take_drop-numbers other span.start (span.end - span.start) (omega (arith, o, e, long)))

  -- ---- the layout

  eight : (head : ByteSpan) → head_of form.at_end n ≡ Ok head → 8 ≤ n
  eight head e = long_if (nat_le 8 n) n (head_at form.at_end n) head refl e

  from_head : (r : Result ByteSpan CodecError) → head_of form.at_end n ≡ r → All Same (result_unwrap_or (seen span_numbers r) [])
      → (r >>= λ head. layout_within form.at_end n (length_of (span_bytes value head))) ≡ (r >>= λ head. layout_within form.at_end n (length_of (span_bytes other head)))
  from_head (Ok head) e h = ap (λ (bs : List ℕ). layout_within form.at_end n (length_of bs)) (span_alike head (head_inside form.at_end n head e) h)
  from_head (Err cause) e h = refl

  layout_alike : All Same (result_unwrap_or (seen span_numbers (head_of form.at_end n)) []) → layout_of form.at_end value ≡ layout_of form.at_end other
  layout_alike h =
      from_head (head_of form.at_end n) refl h
      ∙ ap (λ (k : ℕ). head_of form.at_end k >>= λ head. layout_within form.at_end k (length_of (span_bytes other head))) long

  layout_known : (r : Result ByteSpan CodecError) (layout : VlenLayout) → head_of form.at_end n ≡ r → (r >>= λ head. layout_within form.at_end n (length_of (span_bytes value head))) ≡ Ok layout → LayoutInside n layout
  layout_known (Ok head) layout e h = within_inside form.at_end n (length_of (span_bytes value head)) layout (eight head e) h
  layout_known (Err cause) layout e h = absurd cc

  -- ---- the elements

  chunk_alike : (start end : ℕ) (offsets ps : List ℕ) → start ≤ end → end ≤ n → list_all (element_is_there offsets (end - start)) ps ≡ true → All Same (element_numbers start offsets ps)
      → map (λ place. plain (cut offsets (between start end value) place)) ps ≡ map (λ place. plain (cut offsets (between start end other) place)) ps
  chunk_alike start end offsets [] ordered inside there h = refl
  chunk_alike start end offsets (place ∷ ps) ordered inside there h =
      let both = and_parts (element_is_there offsets (end - start) place) (list_all (element_is_there offsets (end - start)) ps) there in
      let first = All-first Same (numbers_at start offsets place) (element_numbers start offsets ps) h in
      let cuts : cut offsets (between start end value) place ≡ cut offsets (between start end other) place =
      cut_numbered value start end offsets place ordered inside both.0
      ∙ map_alike (byte_of value) (byte_of other) (numbers_at start offsets place) first
      ∙ sym (cut_numbered other start end offsets place ordered (omega (arith, inside, long)) both.0) in
      ap₂ (λ (c : List ℕ) (cs : Chunk). plain c ∷ cs) cuts (chunk_alike start end offsets ps ordered inside both.1 (All-second Same (numbers_at start offsets place) (element_numbers start offsets ps) h))

  chunk_if : (test : Bool) (span : ByteSpan) (offsets : List ℕ) → list_all (element_is_there offsets (span.end - span.start)) places ≡ test → IsInside n span → All Same (element_numbers span.start offsets places)
      → (demand test InvalidByteRange >>= λ _. ok (map (λ place. plain (cut offsets (span_bytes value span) place)) places)) ≡ (demand test InvalidByteRange >>= λ _. ok (map (λ place. plain (cut offsets (span_bytes other span) place)) places))
  chunk_if true span offsets t i h = ap ok (chunk_alike span.start span.end offsets places i.ordered i.inside t h)
  chunk_if false span offsets t i h = refl

  elements_alike : (span : ByteSpan) (offsets : List ℕ) → IsInside n span → All Same (element_numbers span.start offsets places)
      → elements_read offsets (span_bytes value span) places ≡ elements_read offsets (span_bytes other span) places
  elements_alike span offsets i h =
      let o = i.ordered in
      let e = i.inside in
      let one : length (span_bytes value span) ≡ span.end - span.start = length_between span.start span.end value o e in
      let two : length (span_bytes other span) ≡ span.end - span.start = length_between span.start span.end other o (omega (arith, e, long)) in
      ap (λ (k : ℕ). demand (list_all (element_is_there offsets k) places) InvalidByteRange >>= λ _. ok (map (λ place. plain (cut offsets (span_bytes value span) place)) places)) one
      ∙ chunk_if (list_all (element_is_there offsets (span.end - span.start)) places) span offsets refl i h
      ∙ ap (λ (k : ℕ). demand (list_all (element_is_there offsets k) places) InvalidByteRange >>= λ _. ok (map (λ place. plain (cut offsets (span_bytes other span) place)) places)) (sym two)

  -- ---- the read

  abbrev pub read_at : List ℕ → Result VlenLayout CodecError → Result Chunk CodecError
  read_at v r = r >>= λ l. offsets_read form count (span_bytes v l.index) >>= λ offsets. elements_read offsets (span_bytes v l.content) places

  read_each : (v : List ℕ) (r : Result VlenLayout CodecError) → ((r >>= λ l. ok (parts_at v l)) >>= λ parts. offsets_read form count parts.0 >>= λ offsets. elements_read offsets parts.1 places) ≡ read_at v r
  read_each v (Ok l) = refl
  read_each v (Err e) = refl

  read_is : (v : List ℕ) → vlen_read form count v places ≡ read_at v (layout_of form.at_end v)
  read_is v = read_each v (layout_of form.at_end v)

  from_offsets : (l : VlenLayout) (r : Result (List ℕ) CodecError) → LayoutInside n l → All Same (result_unwrap_or (r >>= λ offsets. ok (element_numbers l.content.start offsets places)) [])
      → (r >>= λ offsets. elements_read offsets (span_bytes value l.content) places) ≡ (r >>= λ offsets. elements_read offsets (span_bytes other l.content) places)
  from_offsets l (Ok offsets) i h = elements_alike l.content offsets i.content h
  from_offsets l (Err cause) i h = refl

  from_layout : (r : Result VlenLayout CodecError) → ((l : VlenLayout) → r ≡ Ok l → LayoutInside n l)
      → All Same (result_unwrap_or (seen (λ layout. span_numbers layout.index) r) [])
      → All Same (result_unwrap_or (r >>= λ layout. offsets_read form count (span_bytes value layout.index) >>= λ offsets. ok (element_numbers layout.content.start offsets places)) [])
      → read_at value r ≡ read_at other r
  from_layout (Ok l) known h k =
      let i = known l refl in
      from_offsets l (offsets_read form count (span_bytes value l.index)) i k
      ∙ ap (λ (bs : List ℕ). offsets_read form count bs >>= λ offsets. elements_read offsets (span_bytes other l.content) places) (span_alike l.index i.index h)
  from_layout (Err cause) known h k = refl

  pub alike : All Same (rests_on form count value places) → vlen_read form count value places ≡ vlen_read form count other places
  alike h =
      let head = result_unwrap_or (seen span_numbers (head_of form.at_end n)) [] in
      let index = result_unwrap_or (seen (λ layout. span_numbers layout.index) (layout_of form.at_end value)) [] in
      let elements = result_unwrap_or (elements_at form count value places) [] in
      let later = All-second Same head (index ++ elements) h in
      read_is value
      ∙ from_layout (layout_of form.at_end value) (λ l e. layout_known (head_of form.at_end n) l refl e) (All-first Same index elements later) (All-second Same index elements later)
      ∙ ap (read_at other) (layout_alike (All-first Same head (index ++ elements) h))
      ∙ sym (read_is other)

pub reads_alike : VlenReadsAlike
reads_alike form count value other places long h = alike form count value other places long h
