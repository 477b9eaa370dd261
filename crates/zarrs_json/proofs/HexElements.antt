-- The elements of a list of hex texts.
use Rattle.std.proofs.Common.{◌≡◌, ◌∙◌, ℕ, List, [], ◌∷◌, ◌++◌, length, Bool, false, Some, Ok, refl, ap, sym, subst, arith, eq-eqb}
use Rattle.std.specs.Prelude.{IsUtf8}
use Rattle.hex.specs.Hex.{decode_of, decode_sized}
use Rattle.hex.proofs.HexLemmas.{decode_of-ok, decode_sized-ok, decode_sized-twice}
use Rattle.serde_json.specs.Data.{string, array}
use Rattle.serde_json.specs.Written.{items_have_float}
use Rattle.zarrs_chunk.specs.Answer.{◌>>=◌, seen}
use Rattle.zarrs_data_type.specs.Element.{plain, Chunk}
use Rattle.zarrs_data_type.specs.ElementType.{ElementType, fixed, text, bytes, optional, element_size, fixed_size_of}
use Rattle.zarrs_array_bytes.specs.Pieces.{fixed_of}
use Rattle.zarrs_json.specs.Containers.{chunk_bytes, container_of}
use Rattle.zarrs_json.specs.Edit.{container_in, container_listed}
use Rattle.zarrs_json.specs.Elements.{element_shown, elements_shown}
use Rattle.zarrs_json.specs.HexLists.{AreHexTexts, text_items, ListsHexTexts}
use Rattle.zarrs_json.proofs.JsonLemmas.{tree_of-read}

-- a text of the right size is an element of these bytes
text_element : (width count : ℕ) (sign : Bool) (hex found : List ℕ) → decode_sized hex (element_size width count) ≡ Ok found → element_shown (fixed width count sign) (string hex) ≡ Ok (plain found)
text_element width count sign hex found h =
    let size = element_size width count in
    let digits = decode_sized-ok hex size found h in
    let read : decode_of hex ≡ Ok found = sym (decode_sized-twice hex size digits) ∙ h in
    let fits : length found ≡ size = omega (arith, digits, (decode_of-ok hex found read).2) in
    rw (read, eq-eqb (length found) size fits) refl

-- texts are elements whose bytes are theirs
text_elements : (width count : ℕ) (sign : Bool) (texts : List (List ℕ)) (found : List ℕ) → AreHexTexts (element_size width count) texts found
    → (chunk : Chunk) × (elements_shown (fixed width count sign) (text_items texts) ≡ Ok chunk) × (chunk_bytes (element_size width count) chunk ≡ found)
text_elements width count sign [] found h = ([], refl, sym h)
text_elements width count sign (t ∷ ts) found h =
    let more = text_elements width count sign ts h.1 h.3 in
    (plain h.0 ∷ more.0, rw (text_element width count sign t h.0 h.2, more.1) refl, ap (λ items. h.0 ++ items) more.2 ∙ sym h.4)

no_floats : (texts : List (List ℕ)) → items_have_float (text_items texts) ≡ false
no_floats [] = refl
no_floats (t ∷ ts) = no_floats ts

-- a list of hex texts of a type's size is a container of their bytes
pub fixed_listed : (type : ElementType) (size : ℕ) (json found : List ℕ) → Some size ≡ fixed_size_of type → IsUtf8 json → ListsHexTexts size json found → container_listed type json ≡ Ok (fixed_of found)
fixed_listed (fixed width count sign) size json found sized utf8 h =
    let same : size ≡ element_size width count = cc sized in
    let elements = text_elements width count sign h.0 found (subst (λ n. AreHexTexts n h.0 found) same h.2) in
    ap (λ tree. tree >>= container_in (fixed width count sign)) (tree_of-read json (array (text_items h.0)) utf8 h.1 (no_floats h.0))
    ∙ ap (seen (container_of (fixed width count sign))) elements.1 ∙ ap (λ items. Ok (fixed_of items)) elements.2
fixed_listed text size json found sized utf8 h = absurd (cc)
fixed_listed bytes size json found sized utf8 h = absurd (cc)
fixed_listed (optional type) size json found sized utf8 h = absurd (cc)
