-- What codecs keep of elements, those with chains inside too.
use Rattle.std.proofs.Common.{◌≡◌, ℕ, List, [], ◌∷◌, get_or, map, set, arith, refl, ap, sym, ◌∙◌}
use Rattle.std.proofs.lemmas.List.{length-map}
use Rattle.std.proofs.lemmas.List.Elements.{All-nil, All-cons, All-head, All-tail}
use Rattle.std.proofs.Math.ListN.{get_or-map}
use Rattle.zarrs_data_type.specs.ElementType.{ElementType, fixed, text, bytes, optional}
use Rattle.zarrs_data_type.specs.Element.{Element, plain, absent, present, Chunk, IsElement, AreElements}
use Rattle.zarrs_array_bytes.specs.Elements.{select}
use Rattle.zarrs_array_bytes.specs.Update.{update}
use Rattle.zarrs_bytes.specs.BytesCodec.{IsChunk}
use Rattle.zarrs_chain_meaning.specs.Parts.{the_byte, byte_type}
use Rattle.zarrs_chain_meaning.specs.vlen.Vlen.{vlen_normal}
use Rattle.zarrs_chain_meaning.specs.Meaning.{Keeping}
use Rattle.zarrs_chain_meaning.specs.optional.Optional.{optional_normal}
use Rattle.zarrs_packbits.proofs.CodecLaws.{map_set}

-- an element of a type is kept as one of the type
abbrev pub KeepsTypes : Keeping → Type 0
KeepsTypes keep = (type : ElementType) (element : Element) → IsElement type element → IsElement type (keep type element)

-- what is kept is kept again
abbrev pub KeepsTwice : Keeping → Type 0
KeepsTwice keep = (type : ElementType) (element : Element) → IsElement type element → keep type (keep type element) ≡ keep type element

-- ---- types

pub vlen_is : (keep : Keeping) → KeepsTypes (vlen_normal keep)
vlen_is keep (fixed width components sign) element h = h
vlen_is keep text (plain items) h = tt
vlen_is keep text absent h = h
vlen_is keep text (present element) h = h
vlen_is keep bytes (plain items) h = tt
vlen_is keep bytes absent h = h
vlen_is keep bytes (present element) h = h
vlen_is keep (optional type) element h = h

pub optional_is : (keep : Keeping) → KeepsTypes keep → KeepsTypes (optional_normal keep)
optional_is keep k (fixed width components sign) element h = h
optional_is keep k text element h = h
optional_is keep k bytes element h = h
optional_is keep k (optional type) (plain items) h = h
optional_is keep k (optional type) absent h = h
optional_is keep k (optional type) (present element) h = k type element h

-- ---- twice

one_byte : (element : Element) → IsElement byte_type element → element ≡ plain (the_byte element ∷ [])
one_byte (plain []) h = absurd (omega arith)
one_byte (plain (byte ∷ [])) h = refl
one_byte (plain (byte ∷ next ∷ rest)) h = absurd (omega arith)
one_byte absent h = absurd h
one_byte (present element) h = absurd h

-- a byte as it is kept
abbrev pub kept_byte : Keeping → ℕ → ℕ
kept_byte keep byte = the_byte (keep byte_type (plain (byte ∷ [])))

-- a byte is kept as one byte
pub kept_as_byte : (keep : Keeping) → KeepsTypes keep → (byte : ℕ) → keep byte_type (plain (byte ∷ [])) ≡ plain (kept_byte keep byte ∷ [])
kept_as_byte keep k byte = one_byte (keep byte_type (plain (byte ∷ []))) (k byte_type (plain (byte ∷ [])) refl)

bytes_twice : (keep : Keeping) → KeepsTypes keep → KeepsTwice keep → (items : List ℕ) → map (kept_byte keep) (map (kept_byte keep) items) ≡ map (kept_byte keep) items
bytes_twice keep k t [] = refl
bytes_twice keep k t (byte ∷ items) =
    let one : kept_byte keep (kept_byte keep byte) ≡ kept_byte keep byte =
    ap (λ (x : Element). the_byte (keep byte_type x)) (sym (kept_as_byte keep k byte)) ∙ ap the_byte (t byte_type (plain (byte ∷ [])) refl) in
    λ i. one i ∷ bytes_twice keep k t items i

pub vlen_twice : (keep : Keeping) → KeepsTypes keep → KeepsTwice keep → KeepsTwice (vlen_normal keep)
vlen_twice keep k t (fixed width components sign) element h = refl
vlen_twice keep k t text (plain items) h = ap plain (bytes_twice keep k t items)
vlen_twice keep k t text absent h = refl
vlen_twice keep k t text (present element) h = refl
vlen_twice keep k t bytes (plain items) h = ap plain (bytes_twice keep k t items)
vlen_twice keep k t bytes absent h = refl
vlen_twice keep k t bytes (present element) h = refl
vlen_twice keep k t (optional type) element h = refl

pub optional_twice : (keep : Keeping) → KeepsTwice keep → KeepsTwice (optional_normal keep)
optional_twice keep t (fixed width components sign) element h = refl
optional_twice keep t text element h = refl
optional_twice keep t bytes element h = refl
optional_twice keep t (optional type) (plain items) h = refl
optional_twice keep t (optional type) absent h = refl
optional_twice keep t (optional type) (present element) h = ap present (t type element h)

-- ---- chunks

-- where no element stands, none is kept
abbrev pub KeepsAbsent : Keeping → Type 0
KeepsAbsent keep = (type : ElementType) → keep type absent ≡ absent

-- the normal form of elements of a type is elements of the type
pub all_kept_are : (keep : Keeping) → KeepsTypes keep → (type : ElementType) (chunk : Chunk) → AreElements type chunk → AreElements type (map (keep type) chunk)
all_kept_are keep k type [] h = All-nil (IsElement type)
all_kept_are keep k type (element ∷ chunk) h =
    All-cons (IsElement type) (keep type element) (map (keep type) chunk) (k type element (All-head (IsElement type) element chunk h)) (all_kept_are keep k type chunk (All-tail (IsElement type) element chunk h))

-- and that of so many is so many
pub kept_elements : (keep : Keeping) → KeepsTypes keep → (type : ElementType) (count : ℕ) (chunk : Chunk) → IsChunk type count chunk → IsChunk type count (map (keep type) chunk)
kept_elements keep k type count chunk is = record { count_is = length-map chunk (keep type) ∙ is.count_is; each = all_kept_are keep k type chunk is.each }

-- the normal form of a normal form is the same
pub all_twice : (keep : Keeping) → KeepsTwice keep → (type : ElementType) (chunk : Chunk) → AreElements type chunk → map (keep type) (map (keep type) chunk) ≡ map (keep type) chunk
all_twice keep t type [] h = refl
all_twice keep t type (element ∷ chunk) h =
    λ i. t type element (All-head (IsElement type) element chunk h) i ∷ all_twice keep t type chunk (All-tail (IsElement type) element chunk h) i

-- ---- selected elements

pub vlen_absent : (keep : Keeping) (type : ElementType) → vlen_normal keep type absent ≡ absent
vlen_absent keep (fixed width components sign) = refl
vlen_absent keep text = refl
vlen_absent keep bytes = refl
vlen_absent keep (optional type) = refl

pub optional_absent : (keep : Keeping) (type : ElementType) → optional_normal keep type absent ≡ absent
optional_absent keep (fixed width components sign) = refl
optional_absent keep text = refl
optional_absent keep bytes = refl
optional_absent keep (optional type) = refl

-- the normal form of selected elements is those selected of the normal form
pub kept_selected : (keep : Keeping) → KeepsAbsent keep → (type : ElementType) (chunk : Chunk) (places : List ℕ) → map (keep type) (select chunk places) ≡ select (map (keep type) chunk) places
kept_selected keep a type chunk [] = refl
kept_selected keep a type chunk (place ∷ places) =
    let one : keep type (get_or chunk place absent) ≡ get_or (map (keep type) chunk) place absent =
    sym (ap (λ (d : Element). get_or (map (keep type) chunk) place d) (sym (a type)) ∙ get_or-map (keep type) chunk place absent) in
    λ i. one i ∷ kept_selected keep a type chunk places i

-- ---- updated elements

-- the normal form of an updated chunk is the normal form updated with that of the new elements
pub kept_updated : (keep : Keeping) (type : ElementType) (chunk : Chunk) (places : List ℕ) (new : Chunk) → map (keep type) (update chunk places new) ≡ update (map (keep type) chunk) places (map (keep type) new)
kept_updated keep type chunk [] new = refl
kept_updated keep type chunk (place ∷ places) [] = refl
kept_updated keep type chunk (place ∷ places) (element ∷ new) =
    kept_updated keep type (set chunk place element) places new ∙ ap (λ (c : Chunk). update c places (map (keep type) new)) (map_set (keep type) chunk place element)
