-- As many elements as tuples: of the places of a selection, and of new elements that are checked.
use Rattle.std.specs.Prelude.{◌≡◌, ℕ, List, length, map, Option, Result, Ok, Err, IfErr, refl}
use Rattle.std.proofs.Common.{◌∙◌, ap, subst, sym}
use Rattle.std.proofs.lemmas.List.{length-map}
use Rattle.zarrs_chunk.specs.Answer.{◌>>=◌, checked_u64, seen}
use Rattle.zarrs_chunk.specs.ChunkShape.{product}
use Rattle.zarrs_chunk.specs.Selection.{Selection, bounds_of, places_of, tuples_of}
use Rattle.zarrs_chunk.specs.Tuples.{row_major}
use Rattle.zarrs_chunk.specs.declared.codec_error.CodecError.{CodecError}
use Rattle.zarrs_array_bytes.specs.Held.{Held}
use Rattle.zarrs_array_bytes.specs.Validity.{data_fit}
use Rattle.zarrs_codec.specs.ArrayReader.{ArrayReader}
use Rattle.zarrs_codec.specs.ArrayWriter.{ChecksData}
use Rattle.zarrs_codec.specs.ChunkEdits.{data_checked, data_places}

-- the first of two steps passed, and gave this to the second
pub record Passed {A B : Type 0} (first : Result A CodecError) (second : A → Result B CodecError) (value : B) : Type 0 where
  pub given : A
  pub first_is : first ≡ Ok given
  pub second_is : second given ≡ Ok value

pub passed : {A B : Type 0} (first : Result A CodecError) (second : A → Result B CodecError) (value : B) → first >>= second ≡ Ok value → Passed first second value
passed (Ok a) second value e = record { given = a; first_is = refl; second_is = e }
passed (Err c) second value e = cc

-- places are of a selection inside the chunk, one for each tuple
pub record CountedPlaces (selection : Selection) (sizes places : List ℕ) : Type 0 where
  pub inside : bounds_of selection sizes ≡ Ok tt
  pub count : length places ≡ length (tuples_of selection)

pub same_value : {A : Type 0} (x y : A) → (let r : Result A CodecError = Ok x in r ≡ Ok y) → x ≡ y
same_value x y e = cc

pub places_counted : (selection : Selection) (sizes places : List ℕ) → places_of selection sizes ≡ Ok places → CountedPlaces selection sizes places
places_counted selection sizes places e =
    let numbers : List ℕ = map (row_major sizes) (tuples_of selection) in
    let bounds = passed (bounds_of selection sizes) (λ _. checked_u64 (product sizes) >>= λ _. Ok numbers) places e in
    let counted = passed (checked_u64 (product sizes)) (λ _. Ok numbers) places bounds.second_is in
    record {
      inside = bounds.first_is;
      count = ap length (sym (same_value numbers places counted.second_is)) ∙ length-map (tuples_of selection) (row_major sizes);
    }

-- ---- what is checked of new elements

bounds_first : {A B C : Type 0} (bounds : Result (Unit {0}) CodecError) (next : Unit {0} → Result A CodecError) (last : A → Result B CodecError) (view : B → C) → IfErr bounds (λ cause. seen view ((bounds >>= next) >>= last) ≡ Err cause)
bounds_first (Ok u) next last view = tt
bounds_first (Err c) next last view = refl

seen_passed : {A : Type 0} (r : Result A CodecError) → (let done : Result (Unit {0}) CodecError = seen (λ _. tt) r in done ≡ Ok tt) → (a : A) × (r ≡ Ok a)
seen_passed (Ok a) e = (a, refl)
seen_passed (Err c) e = cc

-- a writer that checks the data by the places of the selection checks what it has to
pub checks_of_data : (reader : ArrayReader) (reads : Option (List ℕ) → ArrayReader) (written : Option (List ℕ) → Selection → Held → Result (List ℕ) CodecError)
    → ChecksData reader (record { reads = reads; checks = data_checked reader.sizes reader.type; written = written })
checks_of_data reader reads written = record {
  bounds = λ selection new.
      bounds_first (bounds_of selection reader.sizes) (λ _. checked_u64 (product reader.sizes) >>= λ _. Ok (map (row_major reader.sizes) (tuples_of selection)))
      (λ places. data_fit reader.type (length places) new >>= λ _. Ok places) (λ _. tt);
  fit = λ selection new e.
      let made = seen_passed (data_places reader.sizes reader.type selection new) e in
      let places = passed (places_of selection reader.sizes) (λ places. data_fit reader.type (length places) new >>= λ _. Ok places) made.0 made.1 in
      let fit = passed (data_fit reader.type (length places.given) new) (λ _. Ok places.given) made.0 places.second_is in
      subst (λ n. data_fit reader.type n new ≡ Ok tt) (places_counted selection reader.sizes places.given places.first_is).count fit.first_is;
}
