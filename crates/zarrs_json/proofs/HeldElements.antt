-- The container of elements holds them.
use Rattle.std.proofs.Common.{◌≡◌, ℕ, ◌+◌, ◌*◌, ◌<◌, Bool, [], length, map, get_or, Ok, refl, sym, ap, subst, ◌∙◌, arith, add-one}
use Rattle.std.specs.List.{flat_map}
use Rattle.std.proofs.lemmas.List.{get_or-map, length-map, length-replicate}
use Rattle.std.proofs.lemmas.List.FromFn.{fill_by_all}
use Rattle.zarrs_chunk.specs.declared.codec_error.CodecError.TheVariants.{InvalidBytesLength}
use Rattle.zarrs_data_type.specs.Element.{Element, plain, absent, present, Chunk, IsElement, AreElements}
use Rattle.zarrs_data_type.specs.ElementType.{ElementType, fixed, text, bytes, optional, element_size}
use Rattle.zarrs_array_bytes.specs.Elements.{cut, under_flag, element_at}
use Rattle.zarrs_array_bytes.specs.Pieces.{bytes_with_offsets}
use Rattle.zarrs_array_bytes.specs.Present.{presence}
use Rattle.zarrs_array_bytes.specs.Validity.{LengthRefusal, levels_fit, sizes_fit, Holds}
use Rattle.zarrs_array_bytes.proofs.ElementLemmas.{piece_at, cut_at, length_ends, length-flat_map_sized}
use Rattle.zarrs_array_bytes.proofs.RunLemmas.{piece_is}
use Rattle.zarrs_array_bytes.proofs.ValidLemmas.{length_due, then_ok}
use Rattle.zarrs_json.specs.Containers.{bytes_or_zeros, under_mask, container_of}

-- ---- what may stand at a place

-- an element of the type, or none where the one above it is absent
abbrev MayStand : ElementType → Element → Type 0
MayStand type (plain items) = IsElement type (plain items)
MayStand type absent = Unit {0}
MayStand type (present element) = IsElement type (present element)

stands_as_element : (type : ElementType) (element : Element) → IsElement type element → MayStand type element
stands_as_element type (plain items) h = h
stands_as_element type absent h = tt
stands_as_element type (present element) h = h

stands_under_mask : (type : ElementType) (element : Element) → MayStand (optional type) element → MayStand type (under_mask element)
stands_under_mask type (plain items) h = tt
stands_under_mask type absent h = tt
stands_under_mask type (present element) h = stands_as_element type element h

-- it has the bytes of one element
length-bytes_or_zeros : (width count : ℕ) (sign : Bool) (element : Element) → MayStand (fixed width count sign) element → length (bytes_or_zeros (element_size width count) element) ≡ element_size width count
length-bytes_or_zeros width count sign (plain items) h = h
length-bytes_or_zeros width count sign absent h = length-replicate (element_size width count) 0
length-bytes_or_zeros width count sign (present element) h = absurd h

-- the same at each place
abbrev MayStandThere : ElementType → Chunk → Type 0
MayStandThere type chunk = (place : ℕ) → place < length chunk → MayStand type (get_or chunk place absent)

stand_under_mask : (type : ElementType) (chunk : Chunk) → MayStandThere (optional type) chunk → MayStandThere type (map under_mask chunk)
stand_under_mask type chunk each place l =
    let here : place < length chunk = omega (arith, length-map chunk under_mask) in
    subst (MayStand type) (sym (get_or-map under_mask chunk place absent absent here)) (stands_under_mask type (get_or chunk place absent) (each place here))

-- ---- the container has the kind and the count

offsets_fit : (chunk : Chunk) → length (bytes_with_offsets (bytes_or_zeros 0) chunk).1 ≡ length chunk + 1
offsets_fit chunk = omega (arith, length_ends 0 (map (bytes_or_zeros 0) chunk), length-map chunk (bytes_or_zeros 0))

made_fits : (refusal : LengthRefusal) (type : ElementType) (chunk : Chunk) (count : ℕ) → length chunk ≡ count → MayStandThere type chunk → levels_fit refusal type count (container_of type chunk) ≡ Ok tt
made_fits refusal (fixed width components sign) chunk count is each =
    let size : ℕ = element_size width components in
    let sized = length-flat_map_sized (bytes_or_zeros size) size chunk absent (λ k l. length-bytes_or_zeros width components sign (get_or chunk k absent) (each k l)) in
    length_due refusal _ _ (sized ∙ ap (λ n. n * size) is)
made_fits refusal text chunk count is each = length_due refusal _ _ (offsets_fit chunk ∙ ap (λ n. n + 1) is)
made_fits refusal bytes chunk count is each = length_due refusal _ _ (offsets_fit chunk ∙ ap (λ n. n + 1) is)
made_fits refusal (optional type) chunk count is each =
    then_ok _ _ (length_due refusal _ _ (length-map chunk presence ∙ is)) (made_fits refusal type (map under_mask chunk) count (length-map chunk under_mask ∙ is) (stand_under_mask type chunk each))

-- ---- and the elements

-- an element is that of its bytes
fixed_again : (width count : ℕ) (sign : Bool) (size : ℕ) (element : Element) → IsElement (fixed width count sign) element → plain (bytes_or_zeros size element) ≡ element
fixed_again width count sign size (plain items) h = refl
fixed_again width count sign size absent h = absurd h
fixed_again width count sign size (present element) h = absurd h

text_again : (element : Element) → IsElement text element → plain (bytes_or_zeros 0 element) ≡ element
text_again (plain items) h = refl
text_again absent h = absurd h
text_again (present element) h = absurd h

bytes_again : (element : Element) → IsElement bytes element → plain (bytes_or_zeros 0 element) ≡ element
bytes_again (plain items) h = refl
bytes_again absent h = absurd h
bytes_again (present element) h = absurd h

-- an element that may be absent is that of its mask byte and of what stands under it
flagged : (type : ElementType) (element inner : Element) → IsElement (optional type) element → (IsElement type (under_mask element) → inner ≡ under_mask element) → under_flag (presence element) inner ≡ element
flagged type (plain items) inner h same = absurd h
flagged type absent inner h same = refl
flagged type (present element) inner h same = ap present (same h)

cut_here : (chunk : Chunk) (place : ℕ) → place < length chunk → cut (bytes_with_offsets (bytes_or_zeros 0) chunk).1 (bytes_with_offsets (bytes_or_zeros 0) chunk).0 place ≡ bytes_or_zeros 0 (get_or chunk place absent)
cut_here chunk place l = rw add-one (cut_at (bytes_or_zeros 0) [] 0 chunk place absent refl l)

-- what is read at a place is the element there
made_at : (type : ElementType) (chunk : Chunk) (place : ℕ) → MayStandThere type chunk → place < length chunk → IsElement type (get_or chunk place absent)
    → element_at type (container_of type chunk) place ≡ get_or chunk place absent
made_at (fixed width components sign) chunk place each l h =
    let size : ℕ = element_size width components in
    let sized : (k : ℕ) → k < length chunk → length (bytes_or_zeros size (get_or chunk k absent)) ≡ size = λ k m. length-bytes_or_zeros width components sign (get_or chunk k absent) (each k m) in
    ap plain (piece_is size place (flat_map (bytes_or_zeros size) chunk) ∙ piece_at (bytes_or_zeros size) size chunk place absent sized l)
    ∙ fixed_again width components sign size (get_or chunk place absent) h
made_at text chunk place each l h = ap plain (cut_here chunk place l) ∙ text_again (get_or chunk place absent) h
made_at bytes chunk place each l h = ap plain (cut_here chunk place l) ∙ bytes_again (get_or chunk place absent) h
made_at (optional type) chunk place each l h =
    let element : Element = get_or chunk place absent in
    let under : get_or (map under_mask chunk) place absent ≡ under_mask element = get_or-map under_mask chunk place absent absent l in
    let inner : Element = element_at type (container_of type (map under_mask chunk)) place in
    let same : IsElement type (under_mask element) → inner ≡ under_mask element = λ is.
    made_at type (map under_mask chunk) place (stand_under_mask type chunk each) (omega (arith, length-map chunk under_mask)) (subst (IsElement type) (sym under) is) ∙ under in
    ap (λ byte. under_flag byte inner) (get_or-map presence chunk place absent 0 l) ∙ flagged type element inner h same

-- ---- the law

pub containers_hold : (type : ElementType) (chunk : Chunk) → AreElements type chunk → sizes_fit type (length chunk) ≡ Ok tt → Holds type (container_of type chunk) chunk
containers_hold type chunk are sizes =
    let each : MayStandThere type chunk = λ k l. stands_as_element type (get_or chunk k absent) (are k absent l) in
    record {
      valid = then_ok _ _ sizes (made_fits InvalidBytesLength type chunk (length chunk) refl each);
      elements_are = sym (fill_by_all (element_at type (container_of type chunk)) chunk (length chunk) absent refl (λ k l. sym (made_at type chunk k each l (are k absent l))));
    }
