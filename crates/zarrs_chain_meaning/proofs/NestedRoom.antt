-- 64 bits count the bytes of chunks that a codec takes, where memory has their elements; and their fill values fit their types.
use Rattle.zarrs_data_type.specs.Form.{form_of}
use Rattle.std.proofs.Common.{◌≡◌, ℕ, ◌+◌, ◌*◌, ◌<◌, ◌^◌, ◌&&◌, nat_lt, Bool, true, false, if◌then◌else◌, List, Option, Ok, arith, refl, ap, sym, subst, ◌∙◌}
use Rattle.std.specs.List.{All}
use Rattle.std.proofs.Math.Nat.{mul_assoc}
use Rattle.std.proofs.lemmas.Bool.Decides.{nat_tests}
use Rattle.zarrs_chunk.specs.Answer.{demand, checked_u64}
use Rattle.zarrs_chunk.specs.ChunkShape.{product}
use Rattle.zarrs_chunk.specs.declared.codec_error.CodecError.{CodecError}
use Rattle.zarrs_chunk.specs.declared.codec_error.CodecError.TheVariants.{Overflow, InvalidFillValue, BitRange, UnsupportedDataType}
use Rattle.zarrs_data_type.specs.ElementType.{ElementType, fixed, text, bytes, optional, element_size, component_bytes, is_variable}
use Rattle.zarrs_data_type.specs.FillValue.{fill_fits}
use Rattle.zarrs_data_type.specs.declared.endianness.Endianness.{Endianness}
use Rattle.zarrs_array_bytes.specs.Validity.{sizes_fit}
use Rattle.zarrs_array_to_array.specs.ArrayToArrayCodec.{ArrayMapping, IsMapping}
use Rattle.zarrs_bytes.specs.BytesCodec.{bytes_length}
use Rattle.zarrs_codec.specs.BytesToBytesCodec.{BytesCodecs}
use Rattle.zarrs_codec.specs.CoordinateMap.{IsCoordinateMap}
use Rattle.zarrs_codec.specs.declared.bytes_representation.BytesRepresentation.{BytesRepresentation}
use Rattle.zarrs_packbits.specs.PackBitsSettings.{PackBitsSettings, packed_layout, has_bits, layout_for}
use Rattle.zarrs_packbits.specs.PackedLayout.{is_in_reach}
use Rattle.zarrs_chain_meaning.specs.ArrayStages.{arrays_map}
use Rattle.zarrs_chain_meaning.specs.Meaning.{Measure, around_representation}
use Rattle.zarrs_chain_meaning.specs.optional.Optional.{blank_fill, optional_representation}
use Rattle.zarrs_bytes.proofs.Coding.{ok, bind_ok}
use Rattle.zarrs_chain_meaning.proofs.ArraySteps.{err, ok_is}
use Rattle.zarrs_chain_meaning.proofs.NestedGrowth.{is_both}
use Rattle.zarrs_chain_meaning.proofs.NestedStages.{arrays_are_map}
use Rattle.zarrs_chunk.specs.AnswerLaws.{demand_ok}
use Rattle.zarrs_chain_meaning.specs.declared.codec_name.TheConstants.{VLEN}
use Rattle.zarrs_chain_meaning.specs.vlen.Vlen.{vlen_representation}

-- where memory has so many elements and one more, 64 bits count the bytes of a chunk that is taken
abbrev pub HasRoom : Measure → Type 0
HasRoom measure =
    (sizes : List ℕ) (type : ElementType) (fill : List ℕ) (r : BytesRepresentation) → All (λ size. 0 < size) sizes → product sizes + 1 < 2 ^ 64 → measure sizes type fill ≡ Ok r → sizes_fit type (product sizes) ≡ Ok tt

-- the fill value of a chunk that is taken fits the type
abbrev pub HasFill : Measure → Type 0
HasFill measure = (sizes : List ℕ) (type : ElementType) (fill : List ℕ) (r : BytesRepresentation) → measure sizes type fill ≡ Ok r → fill_fits type fill ≡ true

-- ---- bytes, packbits

fits_in : (test : Bool) (n m : ℕ) → (if test then ok n else err Overflow) ≡ ok m → (demand {E = CodecError} test Overflow ≡ Ok tt) × (n ≡ m)
fits_in true n m e = (refl, ok_is n m e)
fits_in false n m e = absurd cc

checked_fits : (n m : ℕ) → checked_u64 n ≡ Ok m → (demand {E = CodecError} (nat_lt n (2 ^ 64)) Overflow ≡ Ok tt) × (n ≡ m)
checked_fits n m e = fits_in (nat_lt n (2 ^ 64)) n m e

pub bytes_room : (order : Option Endianness) (sizes : List ℕ) (type : ElementType) (fill : List ℕ) (len : ℕ) → bytes_length order (form_of sizes type fill) ≡ Ok len → sizes_fit type (product sizes) ≡ Ok tt
bytes_room order sizes (fixed width components sign) fill len e =
    let a = bind_ok (demand (fill_fits (fixed width components sign) fill) InvalidFillValue) _ len e in
    let b = bind_ok (checked_u64 (product sizes)) _ len a.2 in
    let d = bind_ok (checked_u64 (b.0 * element_size width components)) _ len b.2 in
    ap (λ k. demand {E = CodecError} (nat_lt (k * element_size width components) (2 ^ 64)) Overflow) (checked_fits (product sizes) b.0 b.1).1
    ∙ (checked_fits (b.0 * element_size width components) d.0 d.1).0
bytes_room order sizes text fill len e = absurd cc
bytes_room order sizes bytes fill len e = absurd cc
bytes_room order sizes (optional type) fill len e = absurd cc

first_test : (a b : Bool) (r : Unit {0}) → demand {E = CodecError} (a && b) Overflow ≡ ok r → demand {E = CodecError} a Overflow ≡ Ok tt
first_test true b r e = refl
first_test false b r e = absurd cc

pub packed_room : (settings : PackBitsSettings) (sizes : List ℕ) (type : ElementType) (fill : List ℕ) (l : _) → packed_layout settings (form_of sizes type fill) ≡ Ok l → sizes_fit type (product sizes) ≡ Ok tt
packed_room settings sizes (fixed width components sign) fill l e =
    let a = bind_ok (demand (fill_fits (fixed width components sign) fill) InvalidFillValue) _ l e in
    let b = bind_ok (demand (has_bits settings width && nat_lt 0 components) BitRange) _ l a.2 in
    let c = bind_ok (checked_u64 (product sizes)) _ l b.2 in
    let d = bind_ok (demand (is_in_reach (layout_for settings c.0 width components sign)) Overflow) _ l c.2 in
    let same : product sizes * element_size width components ≡ c.0 * components * component_bytes width = ap (λ k. k * element_size width components) (checked_fits (product sizes) c.0 c.1).1 ∙ sym (mul_assoc c.0 components (component_bytes width)) in
    ap (λ k. demand {E = CodecError} (nat_lt k (2 ^ 64)) Overflow) same
    ∙ first_test (nat_lt (c.0 * components * component_bytes width) (2 ^ 64)) _ d.0 d.1
packed_room settings sizes text fill l e = absurd cc
packed_room settings sizes bytes fill l e = absurd cc
packed_room settings sizes (optional type) fill l e = absurd cc

pub packed_fits : (settings : PackBitsSettings) (sizes : List ℕ) (type : ElementType) (fill : List ℕ) (l : _) → packed_layout settings (form_of sizes type fill) ≡ Ok l → fill_fits type fill ≡ true
packed_fits settings sizes (fixed width components sign) fill l e =
    let a = bind_ok (demand (fill_fits (fixed width components sign) fill) InvalidFillValue) _ l e in
    demand_ok (fill_fits (fixed width components sign) fill) InvalidFillValue a.1
packed_fits settings sizes text fill l e = absurd cc
packed_fits settings sizes bytes fill l e = absurd cc
packed_fits settings sizes (optional type) fill l e = absurd cc

-- ---- vlen, optional

pub row_room : (count : ℕ) → count + 1 < 2 ^ 64 → demand {E = CodecError} (nat_lt (count + 1) (2 ^ 64)) Overflow ≡ Ok tt
row_room count l = let t : nat_lt (count + 1) (2 ^ 64) ≡ true = grind (arith, nat_tests) in rw t refl

pub vlen_room : HasRoom vlen_representation
vlen_room sizes (fixed width components sign) fill r positive small e = absurd cc
vlen_room sizes text fill r positive small e = row_room (product sizes) small
vlen_room sizes bytes fill r positive small e = row_room (product sizes) small
vlen_room sizes (optional type) fill r positive small e = absurd cc

pub variable_fits : (type : ElementType) (fill : List ℕ) → is_variable type ≡ true → fill_fits type fill ≡ true
variable_fits (fixed width components sign) fill e = absurd cc
variable_fits text fill e = refl
variable_fits bytes fill e = refl
variable_fits (optional type) fill e = absurd cc

pub vlen_fits : HasFill vlen_representation
vlen_fits sizes type fill r e =
    let a = bind_ok (demand (is_variable type) (UnsupportedDataType VLEN)) _ r e in
    variable_fits type fill (demand_ok (is_variable type) (UnsupportedDataType VLEN) a.1)

pub optional_room : (mask content : Measure) → HasRoom content → HasRoom (optional_representation mask content)
optional_room mask content room sizes (optional type) fill r positive small e =
    let both = is_both mask content sizes type fill r e in
    room sizes type (blank_fill type) both.data_size positive small both.measured
optional_room mask content room sizes (fixed width components sign) fill r positive small e = absurd cc
optional_room mask content room sizes text fill r positive small e = absurd cc
optional_room mask content room sizes bytes fill r positive small e = absurd cc

pub optional_fits : (mask content : Measure) → HasFill (optional_representation mask content)
optional_fits mask content sizes (optional type) fill r e =
    let a = bind_ok (demand (fill_fits (optional type) fill) InvalidFillValue) _ r e in
    demand_ok (fill_fits (optional type) fill) InvalidFillValue a.1
optional_fits mask content sizes (fixed width components sign) fill r e = absurd cc
optional_fits mask content sizes text fill r e = absurd cc
optional_fits mask content sizes bytes fill r e = absurd cc

-- ---- chains

pub around_room : {B : Type 0} (f : BytesCodecs B) (arrays : List ArrayMapping) (measure : Measure) (outer : List B) → All IsMapping arrays → HasRoom measure → HasRoom (around_representation f arrays measure outer)
around_room f arrays measure outer mappings room sizes type fill r positive small e =
    let m = bind_ok (arrays_map type arrays sizes) _ r e in
    let i = bind_ok (measure m.0.encoded type fill) _ r m.2 in
    let h : IsCoordinateMap sizes m.0 = arrays_are_map arrays sizes type m.0 mappings positive m.1 in
    subst (λ (n : ℕ). sizes_fit type n ≡ Ok tt) h.count (room m.0.encoded type fill i.0 (h.positive positive) (subst (λ (n : ℕ). n + 1 < 2 ^ 64) (sym h.count) small) i.1)

pub around_fits : {B : Type 0} (f : BytesCodecs B) (arrays : List ArrayMapping) (measure : Measure) (outer : List B) → HasFill measure → HasFill (around_representation f arrays measure outer)
around_fits f arrays measure outer law sizes type fill r e =
    let m = bind_ok (arrays_map type arrays sizes) _ r e in
    let i = bind_ok (measure m.0.encoded type fill) _ r m.2 in
    law m.0.encoded type fill i.0 i.1
