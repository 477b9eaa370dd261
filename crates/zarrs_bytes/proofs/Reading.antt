-- What is read through a handle is what the definitions of a partial read say.
use Rattle.std.proofs.Common.{◌≡◌, ℕ, ◌+◌, ◌-◌, ◌*◌, ◌<◌, ◌≤◌, ◌^◌, Bool, true, false, nat_le, Option, Some, None, Result, Ok, Err, List, [], ◌∷◌, ◌++◌, length, take, drop, map, arith, refl, ap, ◌∙◌, subst}
use Rattle.std.specs.List.{concat, flat_map, list_all}
use Rattle.std.specs.Prelude.{IsOkAnd}
use Rattle.std.proofs.lemmas.Bool.{and_parts}
use Rattle.std.proofs.lemmas.List.{length-drop, length-take-le}
use Rattle.zarrs_chunk.specs.Answer.{◌>>=◌, demand, Excused}
use Rattle.zarrs_chunk.specs.declared.codec_error.CodecError.{CodecError}
use Rattle.zarrs_chunk.specs.declared.codec_error.CodecError.TheVariants.{InvalidByteRange}
use Rattle.zarrs_data_type.specs.Element.{Element, plain, Chunk}
use Rattle.zarrs_data_type.specs.ElementType.{ElementType, fixed, text, bytes, optional, element_size}
use Rattle.zarrs_data_type.specs.declared.endianness.Endianness.{Endianness}
use Rattle.zarrs_array_bytes.specs.Elements.{piece}
use Rattle.zarrs_array_bytes.specs.Filled.{copies}
use Rattle.zarrs_array_bytes.specs.Held.{Raw, flen}
use Rattle.zarrs_array_bytes.specs.Validity.{Holds}
use Rattle.zarrs_array_bytes.specs.Pieces.{pieces}
use Rattle.zarrs_array_bytes.proofs.Pieces.{AllSized, length-concat, pieces-concat}
use Rattle.zarrs_array_bytes.specs.Turned.{turned_bytes}
use Rattle.zarrs_bytes.specs.ByteOrder.{bytes_in_order}
use Rattle.zarrs_bytes.specs.BytesCodec.{bytes_element, turn_size}
use Rattle.zarrs_bytes.specs.PartialRead.{bytes_at, place_size, IsFilledType, read_places}
use Rattle.zarrs_bytes.proofs.Coding.{ok}
use Rattle.zarrs_bytes.proofs.BytesAt.{bytes_if, has_all, none_if}
use Rattle.zarrs_bytes.proofs.Spelled.{length-turned_bytes, turned_is, Holds-pieces}
use Rattle.zarrs_chunk.proofs.Inside.{from_le_test}

-- ---- pieces at places

places_sized : (size : ℕ) (value places : List ℕ) → list_all (λ place. nat_le (place * size + size) (length value)) places ≡ true → AllSized size (map (piece size value) places)
places_sized size value [] h = tt
places_sized size value (place ∷ places) h =
    let both = and_parts (nat_le (place * size + size) (length value)) (list_all (λ place. nat_le (place * size + size) (length value)) places) h in
    let within : place * size + size ≤ length value = from_le_test _ _ both.0 in
    let one : place * size + size - place * size ≡ size = omega arith in (
      ap (λ n. length (take n (drop (place * size) value))) one ∙ length-take-le size (drop (place * size) value) (omega (arith, length-drop (place * size) value)),
      places_sized size value places both.1,
    )

read_map : (order : Option Endianness) (width components : ℕ) (sign : Bool) (value places : List ℕ) → map (λ piece. plain (bytes_in_order order width components piece)) (map (piece (element_size width components) value) places) ≡ map (bytes_element order (fixed width components sign) value) places
read_map order width components sign value [] = refl
read_map order width components sign value (place ∷ places) =
    ap (λ (rest : List Element). plain (bytes_in_order order width components (piece (element_size width components) value place)) ∷ rest) (read_map order width components sign value places)

fills_sized : (size : ℕ) (fill places : List ℕ) → length fill ≡ size → AllSized size (map (λ _. fill) places)
fills_sized size fill [] h = tt
fills_sized size fill (place ∷ places) h = (h, fills_sized size fill places h)

fills_joined : (fill places : List ℕ) → flat_map (λ _. fill) places ≡ concat (map (λ (piece : List ℕ). piece) (map (λ _. fill) places))
fills_joined fill [] = refl
fills_joined fill (place ∷ places) = ap (λ (rest : List ℕ). fill ++ rest) (fills_joined fill places)

fills_read : (fill places : List ℕ) → map (λ piece. plain piece) (map (λ _. fill) places) ≡ map (λ _. plain fill) places
fills_read fill [] = refl
fills_read fill (place ∷ places) = ap (λ (rest : List Element). plain fill ∷ rest) (fills_read fill places)

-- ---- steps

abbrev elements_if : Bool → Chunk → Result Chunk CodecError
elements_if test chunk = demand test InvalidByteRange >>= λ _. ok chunk

some_if : (test : Bool) (x y : List ℕ) (chunk : Chunk) (P : Chunk → Type 0) → bytes_if test x ≡ Ok (Some y) → (test ≡ true → y ≡ x → P chunk) → IsOkAnd (elements_if test chunk) P
some_if true x y chunk P h f = f refl cc
some_if false x y chunk P h f = absurd cc

err_if : (test : Bool) (x : List ℕ) (chunk : Chunk) (e : CodecError) → bytes_if test x ≡ Err e → elements_if test chunk ≡ Err e
err_if true x chunk e h = absurd cc
err_if false x chunk e h = cc

-- ---- what the handle read

-- bytes that were read, turned round, hold the elements at the places
pub at_some : (order : Option Endianness) (type : ElementType) (fill places bytes' : List ℕ) (stored : Option (List ℕ)) (raw : Raw) → IsFilledType type fill → bytes_at (place_size type) stored places ≡ Ok (Some bytes') → raw.items ≡ turned_bytes (turn_size order type) bytes' → length bytes' < 2 ^ 64 → IsOkAnd (read_places order type fill stored places) (Holds type (flen raw))
at_some order (fixed width components sign) fill places bytes' None raw t read is small = absurd cc
at_some order (fixed width components sign) fill places bytes' (Some value) raw t read is small =
    let type = fixed width components sign in
    let size = element_size width components in
    let parts = map (piece size value) places in
    some_if (has_all size value places) (concat parts) bytes' (map (bytes_element order type value) places) (Holds type (flen raw))
    read
    (λ inside same.
    let sized = places_sized size value places inside in
    let long : length bytes' ≡ length parts * size = ap length same ∙ length-concat size parts sized in
    let cut : pieces size (length parts) bytes' ≡ parts = ap (pieces size (length parts)) same ∙ pieces-concat size parts sized in
    let turned_so = is ∙ turned_is order width components sign (length parts) bytes' long ∙ ap (λ (xs : List (List ℕ)). concat (map (bytes_in_order order width components) xs)) cut in
    let short : length raw.items < 2 ^ 64 = omega (arith, ap length is, length-turned_bytes (turn_size order type) bytes', small) in
    subst (Holds type (flen raw)) (read_map order width components sign value places) (Holds-pieces order width components sign raw parts sized turned_so short))
at_some order text fill places bytes' stored raw t read is small = absurd t
at_some order bytes fill places bytes' stored raw t read is small = absurd t
at_some order (optional type) fill places bytes' stored raw t read is small = absurd t

-- a failed read fails with the error of the places
pub at_err : (order : Option Endianness) (type : ElementType) (fill places : List ℕ) (stored : Option (List ℕ)) (e : CodecError) → IsFilledType type fill → bytes_at (place_size type) stored places ≡ Err e → read_places order type fill stored places ≡ Err e
at_err order (fixed width components sign) fill places None e t read = absurd cc
at_err order (fixed width components sign) fill places (Some value) e t read =
    let size = element_size width components in
    err_if (has_all size value places) (concat (map (piece size value) places)) (map (bytes_element order (fixed width components sign) value) places) e
    read
at_err order text fill places stored e t read = absurd t
at_err order bytes fill places stored e t read = absurd t
at_err order (optional type) fill places stored e t read = absurd t

-- where nothing is stored, copies of the fill element hold the elements at the places
pub at_none : (order : Option Endianness) (type : ElementType) (fill places : List ℕ) (stored : Option (List ℕ)) (raw : Raw) → IsFilledType type fill → bytes_at (place_size type) stored places ≡ Ok None → raw.items ≡ flat_map (λ _. fill) places → length raw.items < 2 ^ 64 → IsOkAnd (read_places order type fill stored places) (Holds type (flen raw))
at_none order (fixed width components sign) fill places None raw t read is small =
    let parts = map (λ _. fill) places in
    subst (Holds (fixed width components sign) (flen raw)) (fills_read fill places)
    (Holds-pieces None width components sign raw parts (fills_sized (element_size width components) fill places t.0) (is ∙ fills_joined fill places) small)
at_none order (fixed width components sign) fill places (Some value) raw t read is small =
    let size = element_size width components in
    none_if (has_all size value places) (concat (map (piece size value) places)) _ read
at_none order text fill places stored raw t read is small = absurd t
at_none order bytes fill places stored raw t read is small = absurd t
at_none order (optional type) fill places stored raw t read is small = absurd t

pub Excused-weaker : {P Q : Type 0} (test : Bool) → (P → Q) → Excused test P → Excused test Q
Excused-weaker test f h = λ e. f (h e)

-- ---- fill elements

-- a copy for each place
pub copies_of_places : (fill places : List ℕ) → copies fill (length places) ≡ flat_map (λ _. fill) places
copies_of_places fill [] = refl
copies_of_places fill (place ∷ places) = ap (λ (rest : List ℕ). fill ++ rest) (copies_of_places fill places)
