-- The bytes of elements that are read by ranges.
use Rattle.std.proofs.Common.{◌≡◌, ℕ, ◌-◌, ◌<◌, ◌≤◌, ◌^◌, ◌∷◌, Bool, true, false, List, length, map, Result, Ok, Err, nat_lt, nat_le, arith, refl, ap, sym, ◌∙◌}
use Rattle.std.specs.Prelude.{IsOkAnd}
use Rattle.std.specs.List.{All, flat_map, list_all, range_with_len}
use Rattle.zarrs_chunk.specs.Answer.{◌>>=◌, demand}
use Rattle.zarrs_chunk.specs.Runs.{joined_runs}
use Rattle.zarrs_chunk.specs.declared.codec_error.CodecError.{CodecError}
use Rattle.zarrs_chunk.specs.declared.codec_error.CodecError.TheVariants.{InvalidByteRange}
use Rattle.zarrs_data_type.specs.Element.{plain}
use Rattle.zarrs_data_type.specs.ElementType.{ElementType, is_variable}
use Rattle.zarrs_array_bytes.specs.Elements.{cut}
use Rattle.zarrs_array_bytes.specs.Held.{vlen, owned_bytes}
use Rattle.zarrs_array_bytes.specs.Pieces.{ends}
use Rattle.zarrs_array_bytes.specs.Validity.{Holds}
use Rattle.zarrs_array_bytes.proofs.ElementLemmas.{length_between}
use Rattle.zarrs_codec.specs.ByteRanges.{range_indices, bytes_in_ranges}
use Rattle.zarrs_codec.specs.ByteSpan.{ByteSpan}
use Rattle.zarrs_bytes.proofs.Coding.{ok}
use Rattle.zarrs_chain_meaning.proofs.ArraySteps.{ok_is}
use Rattle.zarrs_plain_vlen.specs.Elements.{element_zeros, joined_elements}
use Rattle.zarrs_chain_meaning.specs.vlen.VlenLayout.{span_bytes}
use Rattle.zarrs_plain_vlen.specs.VlenRead.{element_is_there, elements_read, element_numbers}
use Rattle.zarrs_plain_vlen.proofs.ElementBytes.{runs_there, numbers_inside, cuts_numbered, cuts_long, ends_long, gathered_holds}
use Rattle.zarrs_bytes.proofs.Ranges.{ranges_within-numbers, ranges_bytes-numbers}
use Rattle.zarrs_plain_vlen.proofs.RangesRead.{byte_of}

module _ (value : List ℕ) (content : ByteSpan) (offsets : List ℕ) (runs : List (ℕ × ℕ)) (size : ℕ) (sized : size ≡ content.end - content.start) (ordered : content.start ≤ content.end) (inside : content.end ≤ length value) where
  abbrev pub places : List ℕ
  places = joined_runs runs

  long : length (span_bytes value content) ≡ size
  long = length_between content.start content.end value ordered inside ∙ sym sized

  abbrev pub answer : Bool → Result (List ℕ) CodecError
  answer test = demand test InvalidByteRange >>= λ _. ok (flat_map (cut offsets (span_bytes value content)) places)

  tested : joined_elements offsets (span_bytes value content) places ≡ answer (list_all (element_is_there offsets size) places)
  tested = ap (λ (k : ℕ). answer (list_all (element_is_there offsets k) places)) long

  -- one that isn't there
  pub unread : list_all (λ run. list_all (element_is_there offsets size) (range_with_len run.0 run.1)) runs ≡ false → joined_elements offsets (span_bytes value content) (joined_runs runs) ≡ Err InvalidByteRange
  unread h = tested ∙ ap answer (sym (runs_there (element_is_there offsets size) runs) ∙ h)

  pub all_there : list_all (λ run. list_all (element_is_there offsets size) (range_with_len run.0 run.1)) runs ≡ true → list_all (element_is_there offsets size) (joined_runs runs) ≡ true
  all_there h = sym (runs_there (element_is_there offsets size) runs) ∙ h

  -- ranges of their bytes lie inside the value
  pub ranges_inside : (ranges : List ByteSpan) → list_all (element_is_there offsets size) (joined_runs runs) ≡ true → range_indices ranges ≡ element_numbers content.start offsets (joined_runs runs) → All (λ range. range.start < range.end) ranges
      → list_all (λ range. nat_le range.end (length value)) ranges ≡ true
  ranges_inside ranges there numbers filled =
      ranges_within-numbers (length value) ranges filled
      ∙ ap (list_all (λ k. nat_lt k (length value))) numbers
      ∙ numbers_inside content.start size (length value) offsets places (omega (arith, sized, ordered, inside)) there

  -- and read them
  pub read : (ranges : List ByteSpan) → list_all (element_is_there offsets size) (joined_runs runs) ≡ true → range_indices ranges ≡ element_numbers content.start offsets (joined_runs runs) → All (λ range. range.start < range.end) ranges
      → joined_elements offsets (span_bytes value content) (joined_runs runs) ≡ Ok (bytes_in_ranges value ranges)
  read ranges there numbers filled =
      let near : list_all (element_is_there offsets (content.end - content.start)) places ≡ true = ap (λ (k : ℕ). list_all (element_is_there offsets k) places) (sym sized) ∙ there in
      let same : flat_map (cut offsets (span_bytes value content)) places ≡ bytes_in_ranges value ranges =
      cuts_numbered value content.start content.end offsets places ordered inside near
      ∙ ap (map (byte_of value)) (sym numbers)
      ∙ sym (ranges_bytes-numbers value ranges filled (ranges_inside ranges there numbers filled)) in
      tested ∙ ap answer there ∙ ap ok same

  -- as many as the elements have
  pub read_long : (ranges : List ByteSpan) → list_all (element_is_there offsets size) (joined_runs runs) ≡ true → range_indices ranges ≡ element_numbers content.start offsets (joined_runs runs) → All (λ range. range.start < range.end) ranges
      → length (bytes_in_ranges value ranges) ≡ length (flat_map (element_zeros offsets) (joined_runs runs))
  read_long ranges there numbers filled =
      let near : list_all (element_is_there offsets (content.end - content.start)) places ≡ true = ap (λ (k : ℕ). list_all (element_is_there offsets k) places) (sym sized) ∙ there in
      let here : list_all (element_is_there offsets (length (span_bytes value content))) places ≡ true = ap (λ (k : ℕ). list_all (element_is_there offsets k) places) long ∙ there in
      let same : flat_map (cut offsets (span_bytes value content)) places ≡ bytes_in_ranges value ranges =
      cuts_numbered value content.start content.end offsets places ordered inside near
      ∙ ap (map (byte_of value)) (sym numbers)
      ∙ sym (ranges_bytes-numbers value ranges filled (ranges_inside ranges there numbers filled)) in
      ap length (sym same) ∙ cuts_long offsets (span_bytes value content) places here

held_if : (test : Bool) (type : ElementType) (offsets content ps items numbers : List ℕ) → is_variable type ≡ true → list_all (element_is_there offsets (length content)) ps ≡ test
    → (demand test InvalidByteRange >>= λ _. ok (flat_map (cut offsets content) ps)) ≡ Ok items → numbers ≡ 0 ∷ ends 0 (map (element_zeros offsets) ps) → length numbers < 2 ^ 64
    → IsOkAnd (demand test InvalidByteRange >>= λ _. ok (map (λ place. plain (cut offsets content place)) ps)) (Holds type (vlen (owned_bytes items) numbers))
held_if true type offsets content ps items numbers v t e ended small =
    gathered_holds type v (cut offsets content) ps items numbers (sym (ok_is (flat_map (cut offsets content) ps) items e)) (ended ∙ ap (λ (ns : List ℕ). 0 ∷ ns) (ends_long offsets content 0 ps t)) small
held_if false type offsets content ps items numbers v t e ended small = absurd cc

-- the bytes that were read, with where they end, hold the elements
pub elements_held : (type : ElementType) (offsets content ps items numbers : List ℕ) → is_variable type ≡ true → joined_elements offsets content ps ≡ Ok items → numbers ≡ 0 ∷ ends 0 (map (element_zeros offsets) ps) → length numbers < 2 ^ 64
    → IsOkAnd (elements_read offsets content ps) (Holds type (vlen (owned_bytes items) numbers))
elements_held type offsets content ps items numbers v e ended small = held_if (list_all (element_is_there offsets (length content)) ps) type offsets content ps items numbers v refl e ended small
