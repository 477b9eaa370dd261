-- What is read as an element of a type is one.
use Rattle.std.proofs.Common.{◌≡◌, ℕ, zero, suc, List, [], ◌∷◌, length, Bool, true, false, ◌==◌, Option, Some, None, Result, Ok, Err, refl, subst, arith, eqb-true}
use Rattle.std.specs.Prelude.{ok_or}
use Rattle.serde_json.specs.Data.{Data, null, boolean, number, string, array, object, Items, no_items, item}
use Rattle.serde_json.specs.Find.{as_array}
use Rattle.zarrs_chunk.specs.Answer.{◌>>=◌, demand, seen}
use Rattle.zarrs_chunk.specs.declared.codec_error.CodecError.TheVariants.{InvalidBytesLength}
use Rattle.zarrs_data_type.specs.Element.{Element, plain, absent, present, Chunk, IsElement, AreElements}
use Rattle.zarrs_data_type.specs.ElementType.{ElementType, fixed, text, bytes, optional, element_size}
use Rattle.zarrs_json.specs.declared.refusal.Refusal.{Refusal}
use Rattle.zarrs_json.specs.declared.refusal.Refusal.TheVariants.{Syntax, Codec}
use Rattle.zarrs_json.specs.Elements.{bytes_shown, plain_in, present_in, element_shown, elements_shown, elements_of}
use Rattle.zarrs_json.specs.Json.{lone_item}

-- ---- steps that were answered

step_ok : {A B : Type 0} (r : Result A Refusal) (f : A → Result B Refusal) (y : B) → r >>= f ≡ Ok y → (x : A) × (r ≡ Ok x) × (f x ≡ Ok y)
step_ok (Ok x) f y h = (x, refl, h)
step_ok (Err e) f y h = absurd (cc)

seen_ok : {A B : Type 0} (view : A → B) (r : Result A Refusal) (y : B) → seen view r ≡ Ok y → (x : A) × (r ≡ Ok x) × (view x ≡ y)
seen_ok view (Ok x) y h = (x, refl, cc)
seen_ok view (Err e) y h = absurd (cc)

demand_ok : (b : Bool) (e : Refusal) → demand b e ≡ Ok tt → b ≡ true
demand_ok true e h = refl
demand_ok false e h = absurd (cc)

-- ---- an element

sized_bytes : (width count : ℕ) (sign : Bool) (tree : Data) (element : Element) → plain_in (Some (element_size width count)) tree ≡ Ok element → IsElement (fixed width count sign) element
sized_bytes width count sign tree element h =
    let size : ℕ = element_size width count in
    let tested : List ℕ → Result (Unit {0}) Refusal = λ found. demand (length found == size) (Codec (InvalidBytesLength (length found) size)) in
    let read = step_ok (bytes_shown tree) (λ found. tested found >>= λ _. Ok (plain found)) element h in
    let passed = step_ok (tested read.0) (λ _. Ok (plain read.0)) element read.2 in
    let fits : length read.0 ≡ size = eqb-true _ _ (demand_ok _ _ passed.1) in
    let is : plain read.0 ≡ element = let same = passed.2 in cc in
    subst (IsElement (fixed width count sign)) is fits

any_bytes : (tree : Data) (element : Element) → plain_in None tree ≡ Ok element → IsElement text element
any_bytes tree element h =
    let read = seen_ok plain (bytes_shown tree) element h in
    subst (IsElement text) read.2 tt

-- an element of a type of any length is of the other one
bytes_as_text : (element : Element) → IsElement text element → IsElement bytes element
bytes_as_text (plain items) h = tt
bytes_as_text absent h = h
bytes_as_text (present element) h = h

nothing : (type : ElementType) (element : Element) → element_shown (optional type) null ≡ Ok element → IsElement (optional type) element
nothing type element h =
    let is : absent ≡ element = cc in
    subst (IsElement (optional type)) is tt

something : (type : ElementType) (found : Option Data) (element : Element) → ((tree : Data) (inner : Element) → element_shown type tree ≡ Ok inner → IsElement type inner) → present_in (element_shown type) found ≡ Ok element
    → IsElement (optional type) element
something type None element each h = absurd (cc)
something type (Some tree) element each h =
    let inner = seen_ok present (element_shown type tree) element h in
    subst (IsElement (optional type)) inner.2 (each tree inner.0 inner.1)

IsElement-element_shown : (type : ElementType) (tree : Data) (element : Element) → element_shown type tree ≡ Ok element → IsElement type element
IsElement-element_shown (fixed width count sign) tree element h = sized_bytes width count sign tree element h
IsElement-element_shown text tree element h = any_bytes tree element h
IsElement-element_shown bytes tree element h = bytes_as_text element (any_bytes tree element h)
IsElement-element_shown (optional type) null element h = nothing type element h
IsElement-element_shown (optional type) (boolean truth) element h = absurd (cc)
IsElement-element_shown (optional type) (number value) element h = absurd (cc)
IsElement-element_shown (optional type) (string hex) element h = absurd (cc)
IsElement-element_shown (optional type) (array items) element h = something type (lone_item items) element (IsElement-element_shown type) h
IsElement-element_shown (optional type) (object entries) element h = absurd (cc)

-- ---- a list of them

one_more : (type : ElementType) (first : Element) (rest : Chunk) → IsElement type first → AreElements type rest → AreElements type (first ∷ rest)
one_more type first rest h more zero d l = h
one_more type first rest h more (suc k) d l = more k d (omega arith)

AreElements-elements_shown : (type : ElementType) (items : Items) (chunk : Chunk) → elements_shown type items ≡ Ok chunk → AreElements type chunk
AreElements-elements_shown type no_items chunk h =
    let is : [] ≡ chunk = cc in
    subst (AreElements type) is (λ k d l. absurd (omega arith))
AreElements-elements_shown type (item tree items) chunk h =
    let first = step_ok (element_shown type tree) (λ element. elements_shown type items >>= λ elements. Ok (element ∷ elements)) chunk h in
    let rest = step_ok (elements_shown type items) (λ elements. Ok (first.0 ∷ elements)) chunk first.2 in
    let is : first.0 ∷ rest.0 ≡ chunk = let same = rest.2 in cc in
    subst (AreElements type) is (one_more type first.0 rest.0 (IsElement-element_shown type tree first.0 first.1) (AreElements-elements_shown type items rest.0 rest.1))

pub read_are_elements : (type : ElementType) (tree : Data) (chunk : Chunk) → elements_of type tree ≡ Ok chunk → AreElements type chunk
read_are_elements type tree chunk h =
    let listed = step_ok (ok_or (as_array tree) Syntax) (elements_shown type) chunk h in
    AreElements-elements_shown type listed.0 chunk listed.2
