-- What a valid container holds are elements of its type.
use Rattle.std.proofs.Common.{◌≡◌, ℕ, zero, suc, ◌<◌, length, slice_index, Ok, sym, subst, arith}
use Rattle.std.proofs.lemmas.List.FromFn.{get_or-map-range_with_len, length-map-range_with_len}
use Rattle.std.proofs.lemmas.Nat.{row_fits}
use Rattle.zarrs_chunk.specs.declared.codec_error.CodecError.TheVariants.{InvalidBytesLength}
use Rattle.zarrs_data_type.specs.ElementType.{ElementType, fixed, text, bytes, optional, element_size}
use Rattle.zarrs_data_type.specs.Element.{Element, IsElement, AreElements, Chunk}
use Rattle.zarrs_array_bytes.specs.Held.{Held, flen, vlen, masked}
use Rattle.zarrs_array_bytes.specs.Elements.{under_flag, element_at, elements}
use Rattle.zarrs_array_bytes.specs.Validity.{LengthRefusal, levels_fit, Holds}
use Rattle.zarrs_array_bytes.proofs.ElementLemmas.{length_piece}
use Rattle.zarrs_array_bytes.proofs.ValidLemmas.{both_ok, length_found}

IsElement-under_flag : (type : ElementType) (byte : ℕ) (element : Element) → IsElement type element → IsElement (optional type) (under_flag byte element)
IsElement-under_flag type zero element h = tt
IsElement-under_flag type (suc byte) element h = h

IsElement-element_at : (refusal : LengthRefusal) (type : ElementType) (count : ℕ) (held : Held) → levels_fit refusal type count held ≡ Ok tt → (place : ℕ) → place < count → IsElement type (element_at type held place)
IsElement-element_at refusal (fixed width components sign) count (flen raw) fit place l =
    let size : ℕ = element_size width components in
    length_piece size place raw.items (rw (length_found refusal _ _ fit) (row_fits place size count size l (omega arith)))
IsElement-element_at refusal (fixed width components sign) count (vlen raw offsets) fit place l = cc
IsElement-element_at refusal (fixed width components sign) count (masked inner mask) fit place l = cc
IsElement-element_at refusal text count (vlen raw offsets) fit place l = tt
IsElement-element_at refusal text count (flen raw) fit place l = cc
IsElement-element_at refusal text count (masked inner mask) fit place l = cc
IsElement-element_at refusal bytes count (vlen raw offsets) fit place l = tt
IsElement-element_at refusal bytes count (flen raw) fit place l = cc
IsElement-element_at refusal bytes count (masked inner mask) fit place l = cc
IsElement-element_at refusal (optional type) count (masked inner mask) fit place l =
    IsElement-under_flag type (slice_index mask.items place) (element_at type inner place) (IsElement-element_at refusal type count inner (both_ok _ _ fit).1 place l)
IsElement-element_at refusal (optional type) count (flen raw) fit place l = cc
IsElement-element_at refusal (optional type) count (vlen raw offsets) fit place l = cc

-- the elements that fit a type are of it
pub AreElements-elements : (refusal : LengthRefusal) (type : ElementType) (count : ℕ) (held : Held) → levels_fit refusal type count held ≡ Ok tt → AreElements type (elements type count held)
AreElements-elements refusal type count held fit = λ k d l.
    let n : length (elements type count held) ≡ count = length-map-range_with_len (element_at type held) 0 count in
    subst (IsElement type) (sym (get_or-map-range_with_len (element_at type held) 0 count k k d (omega arith) (omega arith))) (IsElement-element_at refusal type count held fit k (omega arith))

pub AreElements-held : (type : ElementType) (held : Held) (chunk : Chunk) → Holds type held chunk → AreElements type chunk
AreElements-held type held chunk holds =
    subst (AreElements type) holds.elements_are (AreElements-elements InvalidBytesLength type (length chunk) held (both_ok _ _ holds.valid).1)
