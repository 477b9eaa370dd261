-- New elements of one size that are lent.
use Rattle.std.proofs.Common.{◌≡◌, ℕ, true, Option, Some, None, List, length, Result, Ok, Err, refl, ap, ◌∙◌}
use Rattle.std.specs.Prelude.{is_ok}
use Rattle.zarrs_chunk.specs.declared.codec_error.CodecError.{CodecError}
use Rattle.zarrs_data_type.specs.ElementType.{ElementType, fixed, text, bytes, optional}
use Rattle.zarrs_data_type.specs.Element.{Chunk}
use Rattle.zarrs_data_type.specs.Form.{form_of}
use Rattle.zarrs_data_type.specs.declared.endianness.Endianness.{Endianness}
use Rattle.zarrs_array_bytes.specs.Elements.{elements}
use Rattle.zarrs_array_bytes.specs.Held.{Held, flen, vlen, masked}
use Rattle.zarrs_array_bytes.specs.Parts.{fixed_items}
use Rattle.zarrs_array_bytes.specs.Update.{update}
use Rattle.zarrs_array_bytes.specs.Validity.{data_fit}
use Rattle.zarrs_codec.specs.StorageState.{value_indices}
use Rattle.zarrs_bytes.specs.BytesCodec.{bytes_length, spelling}
use Rattle.zarrs_bytes.specs.PartialRead.{place_size}
use Rattle.zarrs_bytes.specs.PartialWrite.{bytes_left, bytes_replaced, filled_chunk, with_place_bytes}

-- the container has the bytes of elements of one size that another one has, whoever owns them
abbrev pub HasItems : Held → Held → Type 0
HasItems lent new = fixed_items lent ≡ fixed_items new

pub items_of_ok : (lent new : Held) → ◌≡◌ {A = Result (Result (List ℕ) CodecError) CodecError} (Ok (fixed_items lent)) (Ok (fixed_items new)) → HasItems lent new
items_of_ok lent new e = cc

items_same : (xs ys : List ℕ) → ◌≡◌ {A = Result (List ℕ) CodecError} (Ok xs) (Ok ys) → xs ≡ ys
items_same xs ys e = cc

-- they fit where those do
pub lent_fits : (order : Option Endianness) (sizes : List ℕ) (type : ElementType) (fill : List ℕ) (n : ℕ) (new lent : Held) → is_ok (bytes_length order (form_of sizes type fill)) ≡ true → data_fit type n new ≡ Ok tt → HasItems lent new → data_fit type n lent ≡ Ok tt
lent_fits order sizes (fixed width components sign) fill n (flen mine) (flen lent) t fit e =
    ap (λ is. data_fit (fixed width components sign) n (flen (record { items = is; is_owned = lent.is_owned }))) (items_same lent.items mine.items e) ∙ fit
lent_fits order sizes (fixed width components sign) fill n (flen mine) (vlen lent offsets) t fit e = absurd cc
lent_fits order sizes (fixed width components sign) fill n (flen mine) (masked inner mask) t fit e = absurd cc
lent_fits order sizes (fixed width components sign) fill n (vlen mine offsets) lent t fit e = absurd cc
lent_fits order sizes (fixed width components sign) fill n (masked inner mask) lent t fit e = absurd cc
lent_fits order sizes text fill n new lent t fit e = absurd cc
lent_fits order sizes bytes fill n new lent t fit e = absurd cc
lent_fits order sizes (optional type) fill n new lent t fit e = absurd cc

-- and are the same
same_elements : (order : Option Endianness) (sizes : List ℕ) (type : ElementType) (fill : List ℕ) (n : ℕ) (new lent : Held) → is_ok (bytes_length order (form_of sizes type fill)) ≡ true → data_fit type n new ≡ Ok tt → HasItems lent new → elements type n lent ≡ elements type n new
same_elements order sizes (fixed width components sign) fill n (flen mine) (flen lent) t fit e =
    ap (λ is. elements (fixed width components sign) n (flen (record { items = is; is_owned = lent.is_owned }))) (items_same lent.items mine.items e)
same_elements order sizes (fixed width components sign) fill n (flen mine) (vlen lent offsets) t fit e = absurd cc
same_elements order sizes (fixed width components sign) fill n (flen mine) (masked inner mask) t fit e = absurd cc
same_elements order sizes (fixed width components sign) fill n (vlen mine offsets) lent t fit e = absurd cc
same_elements order sizes (fixed width components sign) fill n (masked inner mask) lent t fit e = absurd cc
same_elements order sizes text fill n new lent t fit e = absurd cc
same_elements order sizes bytes fill n new lent t fit e = absurd cc
same_elements order sizes (optional type) fill n new lent t fit e = absurd cc

-- so they leave the same
pub lent_left : (order : Option Endianness) (sizes : List ℕ) (type : ElementType) (fill : List ℕ) (stored : Option (List ℕ)) (places : List ℕ) (new lent : Held) → is_ok (bytes_length order (form_of sizes type fill)) ≡ true → data_fit type (length places) new ≡ Ok tt → HasItems lent new
    → bytes_left order (form_of sizes type fill) stored places lent ≡ bytes_left order (form_of sizes type fill) stored places new
lent_left order sizes type fill None places new lent t fit e =
    ap (λ (es : Chunk). spelling order type (update (filled_chunk sizes type fill) places es)) (same_elements order sizes type fill (length places) new lent t fit e)
lent_left order sizes type fill (Some value) places new lent t fit e =
    ap (λ (es : Chunk). with_place_bytes (place_size type) value places (spelling order type es)) (same_elements order sizes type fill (length places) new lent t fit e)

-- and replace the same
pub lent_replaced : (order : Option Endianness) (sizes : List ℕ) (type : ElementType) (fill : List ℕ) (stored : Option (List ℕ)) (places : List ℕ) (new lent : Held) → is_ok (bytes_length order (form_of sizes type fill)) ≡ true → data_fit type (length places) new ≡ Ok tt → HasItems lent new
    → bytes_replaced order (form_of sizes type fill) stored places lent ≡ bytes_replaced order (form_of sizes type fill) stored places new
lent_replaced order sizes type fill None places new lent t fit e =
    ap (λ (value : List ℕ). value_indices (Some value)) (lent_left order sizes type fill None places new lent t fit e)
lent_replaced order sizes type fill (Some value) places new lent t fit e = refl

-- lending never fails
pub never_refused : (new : Held) (e : CodecError) (P : Type 0) → ◌≡◌ {A = Result (Result (List ℕ) CodecError) CodecError} (Err e) (Ok (fixed_items new)) → P
never_refused new e P h = absurd cc
