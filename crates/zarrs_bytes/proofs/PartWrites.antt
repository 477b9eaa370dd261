-- What is written in part is what the definitions state.
use Rattle.zarrs_data_type.specs.Form.{form_of}
use Rattle.std.proofs.Common.{◌≡◌, ℕ, zero, suc, ◌*◌, ◌<◌, ◌^◌, ◌==◌, Bool, true, nat_lt, Option, Some, None, Result, Ok, Err, List, [], ◌∷◌, length, map, replicate, get_or, arith, refl, ap, ap₂, sym, ◌∙◌, subst}
use Rattle.std.specs.List.{All, concat}
use Rattle.std.specs.Prelude.{IfErr, IsOk, IsOkAnd, OnOk, false, is_ok, is_some}
use Rattle.std.proofs.lemmas.Bool.Decides.{nat_tests}
use Rattle.std.proofs.lemmas.List.{length-map, length-replicate}
use Rattle.zarrs_chunk.specs.Answer.{◌>>=◌, checked_u64, Answers, AnswersBy, memory_or_fault}
use Rattle.zarrs_chunk.specs.ChunkShape.{product}
use Rattle.zarrs_chunk.specs.Selection.{Selection, places_of}
use Rattle.zarrs_chunk.specs.declared.codec_error.CodecError.{CodecError}
use Rattle.zarrs_data_type.specs.Element.{plain, Chunk, fill_element, IsElement, AreElements}
use Rattle.zarrs_data_type.specs.ElementType.{ElementType, fixed, text, bytes, optional, element_size}
use Rattle.zarrs_data_type.specs.declared.endianness.Endianness.{Endianness}
use Rattle.zarrs_array_bytes.specs.Chunks.{fill_chunk, update_at_places}
use Rattle.zarrs_array_bytes.specs.Elements.{elements}
use Rattle.zarrs_array_bytes.specs.Held.{Held, flen, vlen, masked}
use Rattle.zarrs_array_bytes.specs.Parts.{fixed_part, bytes_in}
use Rattle.zarrs_array_bytes.specs.Update.{update}
use Rattle.zarrs_array_bytes.specs.Validity.{Holds, data_fit, data_mismatch, validity}
use Rattle.zarrs_array_bytes.specs.Pieces.{pieces}
use Rattle.zarrs_array_bytes.proofs.Pieces.{AllSized, length-pieces, pieces_sized, length-concat, elements-pieces}
use Rattle.zarrs_array_bytes.proofs.ValidLemmas.{length_found}
use Rattle.zarrs_array_bytes.proofs.WriteLemmas.{length-update, map-update}
use Rattle.zarrs_codec.specs.CountLaws.{passed, same_value}
use Rattle.zarrs_codec.specs.StorageState.{value_or_empty}
use Rattle.zarrs_array_bytes.specs.Turned.{turned_bytes}
use Rattle.zarrs_bytes.specs.ByteOrder.{bytes_in_order, spelled_chunk}
use Rattle.zarrs_bytes.specs.BytesCodec.{bytes_length, bytes_value, spelling, turn_size, BytesStands, BytesWritten}
use Rattle.zarrs_bytes.specs.PartialRead.{place_size}
use Rattle.zarrs_bytes.specs.PartialWrite.{bytes_left, filled_chunk, with_place_bytes, StartsFrom, StoresChunk}
use Rattle.zarrs_codec.specs.ChunkEdits.{data_places, with_elements, edited_chunk}
use Rattle.zarrs_bytes.proofs.Coding.{ok, taken}
use Rattle.zarrs_bytes.proofs.Exact.{pieces_of}
use Rattle.zarrs_array_bytes.proofs.UpdatedLemmas.{update_sized}
use Rattle.zarrs_bytes.proofs.InPlace.{pieces_written}
use Rattle.zarrs_bytes.proofs.Spelled.{ordered_sized, spelled_chunk-plain, turned_is}

-- ---- new elements of a fixed type

-- elements of one size, as pieces
pub record NewPieces (width components count : ℕ) (sign : Bool) (new : Held) : Type 0 where
  pub parts : List (List ℕ)
  pub are : elements (fixed width components sign) count new ≡ map plain parts
  pub sized : AllSized (element_size width components) parts
  pub number : length parts ≡ count

pub new_pieces : (width components count : ℕ) (sign : Bool) (new : Held) → data_fit (fixed width components sign) count new ≡ Ok tt → NewPieces width components count sign new
new_pieces width components count sign (flen raw) fit =
    let size = element_size width components in
    let long : length raw.items ≡ count * size = length_found data_mismatch _ _ fit in
    record {
      parts = pieces size count raw.items;
      are = elements-pieces width components sign count raw;
      sized = pieces_sized size count raw.items (omega (arith, long));
      number = length-pieces size count raw.items;
    }
new_pieces width components count sign (vlen raw offsets) fit = absurd cc
new_pieces width components count sign (masked inner mask) fit = absurd cc

-- new elements of a type that the codec accepts are of one size
pub fits_kind : (order : Option Endianness) (sizes : List ℕ) (type : ElementType) (fill : List ℕ) (count : ℕ) (new : Held) → is_ok (bytes_length order (form_of sizes type fill)) ≡ true → data_fit type count new ≡ Ok tt → IsOk (fixed_part new)
fits_kind order sizes (fixed width components sign) fill count (flen raw) t fit = refl
fits_kind order sizes (fixed width components sign) fill count (vlen raw offsets) t fit = absurd cc
fits_kind order sizes (fixed width components sign) fill count (masked inner mask) t fit = absurd cc
fits_kind order sizes text fill count new t fit = absurd cc
fits_kind order sizes bytes fill count new t fit = absurd cc
fits_kind order sizes (optional type) fill count new t fit = absurd cc

-- their bytes, turned round, are what they are spelled as
pub turned_spelling : (order : Option Endianness) (sizes : List ℕ) (type : ElementType) (fill : List ℕ) (count : ℕ) (new : Held) → is_ok (bytes_length order (form_of sizes type fill)) ≡ true → data_fit type count new ≡ Ok tt → turned_bytes (turn_size order type) (bytes_in new) ≡ spelling order type (elements type count new)
turned_spelling order sizes (fixed width components sign) fill count (flen raw) t fit =
    let size = element_size width components in
    let long : length raw.items ≡ count * size = length_found data_mismatch _ _ fit in
    turned_is order width components sign count raw.items long
    ∙ sym (spelled_chunk-plain order width components (pieces size count raw.items))
    ∙ sym (ap (spelled_chunk order width components) (elements-pieces width components sign count raw))
turned_spelling order sizes (fixed width components sign) fill count (vlen raw offsets) t fit = absurd cc
turned_spelling order sizes (fixed width components sign) fill count (masked inner mask) t fit = absurd cc
turned_spelling order sizes text fill count new t fit = absurd cc
turned_spelling order sizes bytes fill count new t fit = absurd cc
turned_spelling order sizes (optional type) fill count new t fit = absurd cc

-- ---- an updated chunk

-- the spelling of a chunk of pieces
spelled_pieces : (order : Option Endianness) (width components : ℕ) (chunk : Chunk) (parts : List (List ℕ)) → chunk ≡ map plain parts → spelled_chunk order width components chunk ≡ concat (map (bytes_in_order order width components) parts)
spelled_pieces order width components chunk parts are = ap (spelled_chunk order width components) are ∙ spelled_chunk-plain order width components parts

pub ok_length : (r : Result ℕ CodecError) → is_ok r ≡ true → (n : ℕ) × (r ≡ Ok n)
ok_length (Ok n) h = (n, refl)
ok_length (Err e) h = absurd cc

-- pieces of an element's size are elements
pub sized_elements : (width components : ℕ) (sign : Bool) (parts : List (List ℕ)) → AllSized (element_size width components) parts → AreElements (fixed width components sign) (map plain parts)
sized_elements width components sign [] h = λ k d l. absurd (omega arith)
sized_elements width components sign (part ∷ parts) h = λ k d.
    elim k as (λ j. j < length (map plain (part ∷ parts)) → IsElement (fixed width components sign) (get_or (map plain (part ∷ parts)) j d)) [
      | zero ↦ (λ l. h.0)
      | suc j ↦ (λ l. sized_elements width components sign parts h.1 j d (omega arith))
    ]

module _ (order : Option Endianness) (sizes : List ℕ) (width components : ℕ) (sign : Bool) (fill : List ℕ) (len : ℕ) (length_is : bytes_length order (form_of sizes (fixed width components sign) fill) ≡ Ok len) where
  -- the updated chunk of pieces, and a value that is its spelling
  pieces_edited : (chunk : Chunk) (parts : List (List ℕ)) (places : List ℕ) (new : Held) (value : List ℕ) → chunk ≡ map plain parts → AllSized (element_size width components) parts → length parts ≡ product sizes → data_fit (fixed width components sign) (length places) new ≡ Ok tt
      → value ≡ spelled_chunk order width components (with_elements (fixed width components sign) chunk places new) → BytesWritten order (form_of sizes (fixed width components sign) fill) value (with_elements (fixed width components sign) chunk places new)
  pieces_edited chunk parts places new value are sized number fit is =
      let type = fixed width components sign in
      let size = element_size width components in
      let t = taken order sizes width components sign fill len length_is in
      let p = new_pieces width components (length places) sign new fit in
      let all : List (List ℕ) = update parts places p.parts in
      let edited : with_elements type chunk places new ≡ map plain all
      = ap₂ (λ xs ys. update xs places ys) are p.are ∙ sym (map-update plain parts places p.parts) in
      let all_sized : AllSized size all = update_sized size parts places p.parts sized p.sized in
      let all_number : length all ≡ product sizes = length-update parts places p.parts ∙ number in
      let long : length value ≡ product sizes * size
      = ap length (is ∙ spelled_pieces order width components (with_elements type chunk places new) all edited)
      ∙ length-concat size (map (bytes_in_order order width components) all) (ordered_sized order width components all all_sized)
      ∙ ap (λ k. k * size) (length-map all (bytes_in_order order width components) ∙ all_number) in
      record {
        len = len;
        length_is = length_is;
        elements = record {
          count_is = ap length edited ∙ length-map all plain ∙ all_number;
          each = subst (AreElements type) (sym edited) (sized_elements width components sign all all_sized);
        };
        value_is = is;
        small = omega (arith, long, t.len_is, t.small);
      }

  -- fill elements
  fill_pieces : (count : ℕ) → replicate count (plain fill) ≡ map plain (replicate count fill)
  fill_pieces zero = refl
  fill_pieces (suc count) = ap (λ (rest : Chunk). plain fill ∷ rest) (fill_pieces count)

  fill_sized : (count : ℕ) → length fill ≡ element_size width components → AllSized (element_size width components) (replicate count fill)
  fill_sized zero e = tt
  fill_sized (suc count) e = (e, fill_sized count e)

  fill_edited : (chunk : Chunk) (places : List ℕ) (new : Held) → chunk ≡ filled_chunk sizes (fixed width components sign) fill → data_fit (fixed width components sign) (length places) new ≡ Ok tt
      → BytesWritten order (form_of sizes (fixed width components sign) fill) (bytes_left order (form_of sizes (fixed width components sign) fill) None places new) (with_elements (fixed width components sign) chunk places new)
  fill_edited chunk places new is fit =
      let type = fixed width components sign in
      let t = taken order sizes width components sign fill len length_is in
      let fits : (length fill == element_size width components) ≡ true = t.filled in
      let long : length fill ≡ element_size width components = grind (arith, nat_tests) in
      let count : ℕ = product sizes in
      pieces_edited chunk (replicate count fill) places new (bytes_left order (form_of sizes type fill) None places new) (is ∙ fill_pieces count) (fill_sized count long) (length-replicate count fill) fit
      (ap (λ (c : Chunk). spelled_chunk order width components (with_elements type c places new)) (sym is))

  stored_edited : (value : List ℕ) (chunk : Chunk) (places : List ℕ) (new : Held) → BytesStands order (form_of sizes (fixed width components sign) fill) value chunk → All (λ place. place < product sizes) places → data_fit (fixed width components sign) (length places) new ≡ Ok tt
      → BytesWritten order (form_of sizes (fixed width components sign) fill) (bytes_left order (form_of sizes (fixed width components sign) fill) (Some value) places new) (with_elements (fixed width components sign) chunk places new)
  stored_edited value chunk places new stands below fit =
      let type = fixed width components sign in
      let size = element_size width components in
      let turned = bytes_in_order order width components in
      let o = pieces_of width components sign chunk stands.elements.each in
      let p = new_pieces width components (length places) sign new fit in
      let number : length o.parts ≡ product sizes = sym (length-map o.parts plain) ∙ sym (ap length o.are) ∙ stands.elements.count_is in
      let old_sized = ordered_sized order width components o.parts o.sized in
      let new_sized = ordered_sized order width components p.parts p.sized in
      let count : length (map turned o.parts) ≡ product sizes = length-map o.parts turned ∙ number in
      let inside : All (λ place. place < length (map turned o.parts)) places = subst (λ n. All (λ place. place < n) places) (sym count) below in
      let lens : length places ≡ length (map turned p.parts) = sym (length-map p.parts turned ∙ p.number) in
      let edited : with_elements type chunk places new ≡ map plain (update o.parts places p.parts)
      = ap₂ (λ xs ys. update xs places ys) o.are p.are ∙ sym (map-update plain o.parts places p.parts) in
      pieces_edited chunk o.parts places new (bytes_left order (form_of sizes type fill) (Some value) places new) o.are o.sized number fit
      (ap₂ (λ old bs. with_place_bytes size old places bs) (stands.value_is ∙ spelled_pieces order width components chunk o.parts o.are) (spelled_pieces order width components (elements type (length places) new) p.parts p.are)
      ∙ pieces_written size (map turned o.parts) places (map turned p.parts) old_sized new_sized lens inside
      ∙ ap concat (sym (map-update turned o.parts places p.parts))
      ∙ sym (spelled_pieces order width components (with_elements type chunk places new) (update o.parts places p.parts) edited))

-- what is left is what is written for the chunk with the new elements
pub write_updates : (order : Option Endianness) (sizes : List ℕ) (type : ElementType) (fill : List ℕ) (stored : Option (List ℕ)) (chunk : Chunk) (places : List ℕ) (new : Held)
    → is_ok (bytes_length order (form_of sizes type fill)) ≡ true → StartsFrom order (form_of sizes type fill) stored chunk → All (λ place. place < product sizes) places → data_fit type (length places) new ≡ Ok tt
    → BytesWritten order (form_of sizes type fill) (bytes_left order (form_of sizes type fill) stored places new) (with_elements type chunk places new)
write_updates order sizes (fixed width components sign) fill None chunk places new t starts below fit =
    let n = ok_length (bytes_length order (form_of sizes (fixed width components sign) fill)) t in
    fill_edited order sizes width components sign fill n.0 n.1 chunk places new starts fit
write_updates order sizes (fixed width components sign) fill (Some value) chunk places new t starts below fit =
    let n = ok_length (bytes_length order (form_of sizes (fixed width components sign) fill)) t in
    stored_edited order sizes width components sign fill n.0 n.1 value chunk places new starts below fit
write_updates order sizes text fill stored chunk places new t starts below fit = absurd cc
write_updates order sizes bytes fill stored chunk places new t starts below fit = absurd cc
write_updates order sizes (optional type) fill stored chunk places new t starts below fit = absurd cc

-- ---- where nothing is stored

-- fill elements can be made
pub fills_made : (order : Option Endianness) (sizes : List ℕ) (type : ElementType) (fill : List ℕ) → is_ok (bytes_length order (form_of sizes type fill)) ≡ true → fill_chunk type (product sizes) fill ≡ Ok (filled_chunk sizes type fill)
fills_made order sizes (fixed width components sign) fill t =
    let n = ok_length (bytes_length order (form_of sizes (fixed width components sign) fill)) t in
    let k = taken order sizes width components sign fill n.0 n.1 in
    let small : nat_lt (product sizes * element_size width components) (2 ^ 64) ≡ true = grind (arith, nat_tests, k.len_is, k.small) in
    rw (k.filled, small) refl
fills_made order sizes text fill t = absurd cc
fills_made order sizes bytes fill t = absurd cc
fills_made order sizes (optional type) fill t = absurd cc

-- and counted
pub counted : (order : Option Endianness) (sizes : List ℕ) (type : ElementType) (fill : List ℕ) → is_ok (bytes_length order (form_of sizes type fill)) ≡ true → checked_u64 (product sizes) ≡ Ok (product sizes)
counted order sizes (fixed width components sign) fill t =
    let n = ok_length (bytes_length order (form_of sizes (fixed width components sign) fill)) t in
    let k = taken order sizes width components sign fill n.0 n.1 in
    let small : nat_lt (product sizes) (2 ^ 64) ≡ true = grind (arith, nat_tests, k.countable) in
    rw small refl
counted order sizes text fill t = absurd cc
counted order sizes bytes fill t = absurd cc
counted order sizes (optional type) fill t = absurd cc

found : {V : Type 0} (r : Result V CodecError) (v : V) (P : V → Type 0) → r ≡ Ok v → IsOkAnd r P → P v
found (Ok w) v P e h = subst P (value_is w v e) h
  where
    value_is : {A : Type 0} (x y : A) → ok x ≡ ok y → x ≡ y
    value_is x y e = cc
found (Err d) v P e h = absurd h

-- a container that holds as many elements
record HeldAt (type : ElementType) (count : ℕ) (held : Held) (chunk : Chunk) : Type 0 where
  valid : validity type count held ≡ Ok tt
  elements_are : elements type count held ≡ chunk

held_at : (type : ElementType) (count : ℕ) (held : Held) (chunk : Chunk) → length chunk ≡ count → Holds type held chunk → HeldAt type count held chunk
held_at type count held chunk e h = record {
  valid = ap (λ n. validity type n held) (sym e) ∙ h.valid;
  elements_are = ap (λ n. elements type n held) (sym e) ∙ h.elements_are;
}

module _ (order : Option Endianness) (sizes : List ℕ) (type : ElementType) (fill : List ℕ) (t : is_ok (bytes_length order (form_of sizes type fill)) ≡ true) (places : List ℕ) (new : Held) (fit : data_fit type (length places) new ≡ Ok tt) where
  filled_held : (filled : Held) → IsOkAnd (fill_chunk type (product sizes) fill) (Holds type filled) → HeldAt type (product sizes) filled (filled_chunk sizes type fill)
  filled_held filled h =
      held_at type (product sizes) filled (filled_chunk sizes type fill) (length-replicate (product sizes) (fill_element type fill)) (found (fill_chunk type (product sizes) fill) (filled_chunk sizes type fill) (Holds type filled) (fills_made order sizes type fill t) h)

  -- they can be updated
  pub fills_updated : (filled : Held) → IsOkAnd (fill_chunk type (product sizes) fill) (Holds type filled) → update_at_places type (product sizes) places filled new ≡ Ok (with_elements type (filled_chunk sizes type fill) places new)
  fills_updated filled h =
      let held = filled_held filled h in
      rw (held.valid, fit, held.elements_are) refl

  -- and what the updated ones are encoded as is the value
  pub fills_encoded : (filled edited : Held) → IsOkAnd (fill_chunk type (product sizes) fill) (Holds type filled) → IsOkAnd (update_at_places type (product sizes) places filled new) (Holds type edited) → bytes_value order (form_of sizes type fill) edited ≡ Ok (bytes_left order (form_of sizes type fill) None places new)
  fills_encoded filled edited h g =
      let chunk = with_elements type (filled_chunk sizes type fill) places new in
      let n = ok_length (bytes_length order (form_of sizes type fill)) t in
      let long : length chunk ≡ product sizes = length-update (filled_chunk sizes type fill) places (elements type (length places) new) ∙ length-replicate (product sizes) (fill_element type fill) in
      let held = held_at type (product sizes) edited chunk long (found (update_at_places type (product sizes) places filled new) chunk (Holds type edited) (fills_updated filled h) g) in
      rw (n.1, held.valid, held.elements_are) refl

-- ---- the whole write

abbrev some_bytes : List ℕ → Result (Option (List ℕ)) CodecError
some_bytes value = Ok (Some value)

same_bytes : (stored : Option (List ℕ)) (value : List ℕ) → some_bytes value ≡ Ok stored → stored ≡ Some value
same_bytes stored value e = cc

-- what is left is what is written for the chunk with the new elements, where an edit starts from a chunk
pub edit_answer : {T : Type 0} (order : Option Endianness) (sizes : List ℕ) (type : ElementType) (fill : List ℕ) (stored after : Option (List ℕ)) (chunk : Chunk) (selection : Selection) (new : Held) (places : List ℕ) (result : Result T CodecError)
    → is_ok (bytes_length order (form_of sizes type fill)) ≡ true → StartsFrom order (form_of sizes type fill) stored chunk → All (λ place. place < product sizes) places → data_places sizes type selection new ≡ Ok places → data_fit type (length places) new ≡ Ok tt
    → Answers memory_or_fault (λ _. after) result (some_bytes (bytes_left order (form_of sizes type fill) stored places new)) → AnswersBy memory_or_fault (λ _ edited. StoresChunk order (form_of sizes type fill) after edited) result (edited_chunk sizes type chunk selection new)
edit_answer order sizes type fill stored after chunk selection new places (Ok x) t starts below at fit answer =
    let left : after ≡ Some (bytes_left order (form_of sizes type fill) stored places new) = same_bytes after (bytes_left order (form_of sizes type fill) stored places new) answer in
    rw (at, left) (write_updates order sizes type fill stored chunk places new t starts below fit)
edit_answer order sizes type fill stored after chunk selection new places (Err e) t starts below at fit answer =
    λ m. absurd (let bad : some_bytes (bytes_left order (form_of sizes type fill) stored places new) ≡ Err e = answer m in cc)

-- a number that is expected is the one that is answered
pub number_is : (expected found' : ℕ) → ◌≡◌ {A = Result ℕ CodecError} (Ok found') (Ok expected) → found' ≡ expected
number_is expected found' e = cc

-- what is written over a stored value is what is left of it
pub stored_left : (order : Option Endianness) (sizes : List ℕ) (type : ElementType) (fill : List ℕ) (stored here after : Option (List ℕ)) (size : ℕ) (places : List ℕ) (new : Held) (result : Result (Unit {0}) CodecError) → is_ok (bytes_length order (form_of sizes type fill)) ≡ true → data_fit type (length places) new ≡ Ok tt
    → is_some stored ≡ true → here ≡ stored → size ≡ place_size type → Answers memory_or_fault (λ done. done) result (Ok tt) → OnOk result (after ≡ Some (with_place_bytes size (value_or_empty here) places (turned_bytes (turn_size order type) (bytes_in new))))
    → Answers memory_or_fault (λ _. after) result (some_bytes (bytes_left order (form_of sizes type fill) stored places new))
stored_left order sizes type fill None here after size places new result t fit there same sized answer written = absurd cc
stored_left order sizes type fill (Some value) here after size places new (Ok x) t fit there same sized answer written =
    let is : after ≡ Some (with_place_bytes (place_size type) value places (spelling order type (elements type (length places) new)))
    = written ∙ ap₂ (λ n stored. Some (with_place_bytes n (value_or_empty stored) places (turned_bytes (turn_size order type) (bytes_in new)))) sized same
    ∙ ap (λ xs. Some (with_place_bytes (place_size type) value places xs)) (turned_spelling order sizes type fill (length places) new t fit) in
    ap (λ (stored : Option (List ℕ)). stored_ok stored) (sym is)
  where
    stored_ok : Option (List ℕ) → Result (Option (List ℕ)) CodecError
    stored_ok stored = Ok stored
stored_left order sizes type fill (Some value) here after size places new (Err e) t fit there same sized answer written =
    λ m. absurd (let bad : ◌≡◌ {A = Result (Unit {0}) CodecError} (Ok tt) (Err e) = answer m in cc)

-- the value of a whole chunk that is written where nothing is stored is what is left
pub new_left : (order : Option Endianness) (sizes : List ℕ) (type : ElementType) (fill : List ℕ) (stored after : Option (List ℕ)) (places : List ℕ) (new : Held) (value : List ℕ) (result : Result (Unit {0}) CodecError)
    → is_some stored ≡ false → value ≡ bytes_left order (form_of sizes type fill) None places new → Answers memory_or_fault (λ done. done) result (Ok tt) → OnOk result (after ≡ Some value)
    → Answers memory_or_fault (λ _. after) result (some_bytes (bytes_left order (form_of sizes type fill) stored places new))
new_left order sizes type fill (Some old) after places new value result none same answer written = absurd cc
new_left order sizes type fill None after places new value (Ok x) none same answer written =
    ap (λ (left : List ℕ). some_bytes left) (sym same) ∙ stored_is value after written
  where
    stored_is : (value : List ℕ) (after : Option (List ℕ)) → after ≡ Some value → some_bytes value ≡ Ok after
    stored_is value after e = cc
new_left order sizes type fill None after places new value (Err e) none same answer written =
    λ m. absurd (let bad : ◌≡◌ {A = Result (Unit {0}) CodecError} (Ok tt) (Err e) = answer m in cc)

-- a value is stored where that is answered
pub there_is : (stored : Option (List ℕ)) (there : Bool) → ◌≡◌ {A = Result Bool CodecError} (Ok (is_some stored)) (Ok there) → there ≡ true → is_some stored ≡ true
there_is stored there e h = cc

-- and none where that is answered
pub there_is_none : (stored : Option (List ℕ)) (there : Bool) → ◌≡◌ {A = Result Bool CodecError} (Ok (is_some stored)) (Ok there) → there ≡ false → is_some stored ≡ false
there_is_none stored there e h = cc

-- no error but an excused one comes where an answer is expected
pub only_excused : {V : Type 0} (r : Result (Unit {0}) CodecError) (view : Unit {0} → V) (v : V) (P : Type 0) → Answers memory_or_fault view r (Ok v) → IfErr r (λ cause. memory_or_fault cause ≡ false → P)
only_excused (Ok x) view v P h = tt
only_excused {V} (Err e) view v P h = λ m. absurd (let bad : ◌≡◌ {A = Result V CodecError} (Ok v) (Err e) = h m in cc)

-- the places of new elements that fit are those of the selection
pub data_places_are : (sizes : List ℕ) (type : ElementType) (selection : Selection) (new : Held) (places : List ℕ) → data_places sizes type selection new ≡ Ok places → places_of selection sizes ≡ Ok places
data_places_are sizes type selection new places e =
    let found = passed (places_of selection sizes) (λ places. data_fit type (length places) new >>= λ _. Ok places) places e in
    let fit = passed (data_fit type (length found.given) new) (λ _. Ok found.given) places found.second_is in
    found.first_is ∙ ap (λ (ps : List ℕ). ok ps) (same_value found.given places fit.second_is)
