-- The elements that a container holds, shown.
use Rattle.std.proofs.Common.{◌≡◌, ◌∙◌, ◌+◌, ◌*◌, ◌/◌, ◌<◌, ◌≤◌, ℕ, List, [], ◌∷◌, ◌++◌, length, map, true, false, Bool, ◌||◌, Some, Result, Ok, refl, ap, sym, arith}
use Rattle.std.specs.Global.{Global}
use Rattle.std.specs.Prelude.{Vec}
use Rattle.std.specs.List.{range_with_len}
use Rattle.std.proofs.lemmas.List.{map-append}
use Rattle.std.proofs.lemmas.List.FromFn.{map-range_with_len_more}
use Rattle.std.proofs.Math.Nat.{mul-div_cancel, mul-le-mul_right}
use Rattle.serde_json.proofs.Views.{view-Array}
use Rattle.serde_json.specs.Data.{Data, array}
use Rattle.serde_json.specs.View.{view, items_of}
use Rattle.serde_json.specs.Written.{has_float, items_have_float}
use Rattle.serde_json.specs.declared.value.Value.{Value}
use Rattle.serde_json.specs.declared.value.Value as json
use Rattle.zarrs_chunk.specs.Answer.{seen}
use Rattle.zarrs_chunk.specs.declared.codec_error.CodecError.{CodecError}
use Rattle.zarrs_chunk.specs.declared.codec_error.CodecError.TheVariants.{InvalidBytesLength}
use Rattle.zarrs_data_type.specs.Element.{Element, plain, absent, present, Chunk}
use Rattle.zarrs_data_type.specs.ElementType.{ElementType, fixed, text as text_type, bytes as bytes_type, optional, element_size, fixed_size_of}
use Rattle.zarrs_array_bytes.specs.Elements.{element_at, elements}
use Rattle.zarrs_array_bytes.specs.Held.{Held, Raw, flen, vlen, masked}
use Rattle.zarrs_array_bytes.specs.Parts.{fixed_part}
use Rattle.zarrs_array_bytes.specs.Validity.{Holds, levels_fit, sizes_fit}
use Rattle.zarrs_array_bytes.proofs.ValidLemmas.{both_ok, fixed_fits, variable_fits, masked_fits, inner_fits}
use Rattle.zarrs_json.specs.Elements.{element_tree, chunk_tree}
use Rattle.zarrs_json.specs.Json.{ok_line}
use Rattle.zarrs_json.specs.Shown.{HasElement}

-- a container of so many elements has one at each place below
pub has_element : (type : ElementType) (held : Held) (count place : ℕ) → levels_fit InvalidBytesLength type count held ≡ Ok tt → place < count → HasElement type held place
has_element (fixed width components sign) (flen raw) count place h below =
    let long : length raw.items ≡ count * element_size width components = fixed_fits InvalidBytesLength (fixed width components sign) count raw (element_size width components) h refl in
    let within : (place + 1) * element_size width components ≤ count * element_size width components = mul-le-mul_right (element_size width components) (omega arith) in
    let step : (place + 1) * element_size width components ≡ place * element_size width components + element_size width components = omega arith in
    omega (arith, long, within, step)
has_element (fixed width components sign) (vlen raw offsets) count place h below = absurd (cc)
has_element (fixed width components sign) (masked inner mask) count place h below = absurd (cc)
has_element text_type (flen raw) count place h below = absurd (cc)
has_element text_type (vlen raw offsets) count place h below =
    omega (arith, variable_fits InvalidBytesLength text_type count raw offsets h)
has_element text_type (masked inner mask) count place h below = absurd (cc)
has_element bytes_type (flen raw) count place h below = absurd (cc)
has_element bytes_type (vlen raw offsets) count place h below =
    omega (arith, variable_fits InvalidBytesLength bytes_type count raw offsets h)
has_element bytes_type (masked inner mask) count place h below = absurd (cc)
has_element (optional type) (flen raw) count place h below = absurd (cc)
has_element (optional type) (vlen raw offsets) count place h below = absurd (cc)
has_element (optional type) (masked inner mask) count place h below =
    (omega (arith, masked_fits InvalidBytesLength (optional type) count inner mask h), has_element type inner count place (inner_fits InvalidBytesLength (optional type) type count inner mask h refl) below)

-- so many elements of one size, by their bytes
pub fixed_count : (type : ElementType) (raw : Raw) (count size : ℕ) → levels_fit InvalidBytesLength type count (flen raw) ≡ Ok tt → fixed_size_of type ≡ Some size → 0 < size → length raw.items / size ≡ count
fixed_count type raw count size h sized positive =
    ap (λ n. n / size) (fixed_fits InvalidBytesLength type count raw size h sized) ∙ mul-div_cancel count positive

-- one more element shown
pub shown_more : (old new : List Value) (value : Value) (f : ℕ → Data) (place : ℕ) → map view old ≡ map f (range_with_len 0 place) → new ≡ old ++ value ∷ [] → view value ≡ f place → map view new ≡ map f (range_with_len 0 (place + 1))
shown_more old new value f place so_far is shows =
    ap (map view) is ∙ map-append view old (value ∷ [])
    ∙ ap (λ (trees : List Data). trees ++ view value ∷ []) so_far
    ∙ ap (λ (tree : Data). map f (range_with_len 0 place) ++ tree ∷ []) shows
    ∙ sym (map-range_with_len_more f 0 place place (let e : 0 + place ≡ place = omega arith in e))

neither : (a b : Bool) → a ≡ false → b ≡ false → a || b ≡ false
neither true b h i = absurd (cc)
neither false b h i = i

no_float : (element : Element) → has_float (element_tree element) ≡ false
no_float (plain items) = refl
no_float absent = refl
no_float (present element) = neither (has_float (element_tree element)) false (no_float element) refl

-- elements have no floats
pub no_floats : (chunk : Chunk) → items_have_float (items_of (map element_tree chunk)) ≡ false
no_floats [] = refl
no_floats (element ∷ chunk) =
    neither (has_float (element_tree element)) (items_have_float (items_of (map element_tree chunk))) (no_float element) (no_floats chunk)

-- elements by their places
pub trees_at : (type : ElementType) (held : Held) (places : List ℕ) → map (λ place. element_tree (element_at type held place)) places ≡ map element_tree (map (element_at type held) places)
trees_at type held [] = refl
trees_at type held (place ∷ places) =
    ap (λ (trees : List Data). element_tree (element_at type held place) ∷ trees) (trees_at type held places)

-- as many elements as bytes are there for
pub fixed_counted : (type : ElementType) (held : Held) (found : List ℕ) (count size : ℕ) → levels_fit InvalidBytesLength type count held ≡ Ok tt → fixed_size_of type ≡ Some size → 0 < size
    → Ok found ≡ seen (λ raw. raw.items) (fixed_part held) → length found / size ≡ count
fixed_counted type (flen raw) found count size h sized positive is =
    let same : found ≡ raw.items = cc in
    ap (λ xs. length xs / size) same ∙ fixed_count type raw count size h sized positive
fixed_counted type (vlen raw offsets) found count size h sized positive is = absurd (cc)
fixed_counted type (masked inner mask) found count size h sized positive is = absurd (cc)

-- what a container that holds a chunk passes
pub levels_of : (type : ElementType) (held : Held) (chunk : Chunk) → Holds type held chunk → levels_fit InvalidBytesLength type (length chunk) held ≡ Ok tt
levels_of type held chunk h =
    (both_ok (sizes_fit type (length chunk)) (levels_fit InvalidBytesLength type (length chunk) held) h.valid).1

same_count : (found : Result ℕ CodecError) (a b : ℕ) → found ≡ Ok a → found ≡ Ok b → a ≡ b
same_count found a b h g = cc

-- the line that shows the elements of a container
pub shown_line : (type : ElementType) (held : Held) (chunk : Chunk) (found : Result ℕ CodecError) (count : ℕ) (trees : Vec Value Global) (line : List ℕ) → Holds type held chunk
    → ((n : ℕ) → levels_fit InvalidBytesLength type n held ≡ Ok tt → found ≡ Ok n) → found ≡ Ok count
    → map view trees.items ≡ map (λ place. element_tree (element_at type held place)) (range_with_len 0 count) → line ≡ ok_line (view (json.Array trees)) → ok_line (chunk_tree chunk) ≡ line
shown_line type held chunk found count trees line holds counted is shown text =
    let many : count ≡ length chunk = same_count found count (length chunk) is (counted (length chunk) (levels_of type held chunk holds)) in
    let as_elements : map view trees.items ≡ map element_tree chunk =
    shown ∙ trees_at type held (range_with_len 0 count) ∙ ap (λ n. map element_tree (elements type n held)) many ∙ ap (map element_tree) holds.elements_are in
    sym (text ∙ ap ok_line (view-Array trees ∙ ap (λ (ts : List Data). array (items_of ts)) as_elements))

-- and its trees have no floats
pub shown_floats : (type : ElementType) (held : Held) (count : ℕ) (trees : Vec Value Global) → map view trees.items ≡ map (λ place. element_tree (element_at type held place)) (range_with_len 0 count) → has_float (view (json.Array trees)) ≡ false
shown_floats type held count trees shown =
    ap has_float (view-Array trees)
    ∙ ap (λ (ts : List Data). items_have_float (items_of ts)) (shown ∙ trees_at type held (range_with_len 0 count))
    ∙ no_floats (elements type count held)
