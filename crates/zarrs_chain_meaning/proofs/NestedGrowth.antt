-- Of as many elements a representation is the same, and of more no smaller.
use Rattle.zarrs_data_type.specs.Form.{form_of}
use Rattle.std.proofs.Common.{◌≡◌, ℕ, ◌+◌, ◌*◌, ◌<◌, ◌≤◌, ◌^◌, nat_lt, if◌then◌else◌, Bool, true, false, Option, Some, None, List, [], ◌∷◌, Ok, arith, refl, ap, sym, subst, ◌∙◌}
use Rattle.std.specs.List.{All}
use Rattle.std.proofs.Math.Nat.{mul-le-mul_right}
use Rattle.std.proofs.lemmas.Bool.Decides.{nat_tests}
use Rattle.zarrs_chunk.specs.Answer.{demand, checked_u64}
use Rattle.zarrs_chunk.specs.ChunkShape.{product}
use Rattle.zarrs_chunk.specs.declared.codec_error.CodecError.TheVariants.{UnsupportedDataType, InvalidFillValue}
use Rattle.zarrs_data_type.specs.ElementType.{ElementType, fixed, text, bytes, optional, element_size, is_variable}
use Rattle.zarrs_data_type.specs.FillValue.{fill_fits}
use Rattle.zarrs_data_type.specs.declared.endianness.Endianness.{Endianness}
use Rattle.zarrs_codec.specs.BytesToBytesCodec.{BytesCodecs, IsLawful, IsAtMost}
use Rattle.zarrs_codec.specs.BytesRepresentation.{greatest_size}
use Rattle.zarrs_codec.specs.declared.bytes_representation.BytesRepresentation.{BytesRepresentation}
use Rattle.zarrs_codec.specs.declared.bytes_representation.BytesRepresentation.TheVariants.{FixedSize, BoundedSize, UnboundedSize}
use Rattle.zarrs_array_to_array.specs.ArrayToArrayCodec.{ArrayMapping, IsMapping}
use Rattle.zarrs_bytes.specs.BytesCodec.{bytes_length}
use Rattle.zarrs_bytes.proofs.Coding as coding
use Rattle.zarrs_packbits.specs.PackBitsSettings.{PackBitsSettings, packed_layout, packbits_length, layout_for}
use Rattle.zarrs_packbits.specs.PaddingByte.{value_len}
use Rattle.zarrs_packbits.proofs.Taken as packbits
use Rattle.zarrs_chain_meaning.specs.ArrayStages.{arrays_map}
use Rattle.zarrs_chain_meaning.specs.BytesStages.{outer_representation}
use Rattle.zarrs_chain_meaning.specs.Meaning.{Measure, around_representation}
use Rattle.zarrs_chain_meaning.specs.optional.Optional.{flag_type, blank_fill, bounded, optional_representation, bounded_total}
use Rattle.zarrs_chain_meaning.specs.vlen.Vlen.{vlen_representation}
use Rattle.zarrs_bytes.proofs.Coding.{bind_ok}
use Rattle.zarrs_chain_meaning.proofs.ArraySteps.{ok_is}
use Rattle.zarrs_chain_meaning.proofs.ChainSteps.{seen_ok}
use Rattle.zarrs_chain_meaning.proofs.NestedStages.{arrays_are_map}
use Rattle.zarrs_chain_meaning.specs.declared.codec_name.TheConstants.{VLEN}

-- of more elements it is no smaller
abbrev pub Grows : Measure → Type 0
Grows measure =
    (sizes others : List ℕ) (type : ElementType) (fill : List ℕ) (r s : BytesRepresentation)
    → All (λ size. 0 < size) sizes → All (λ size. 0 < size) others → product sizes ≤ product others
    → measure sizes type fill ≡ Ok r → measure others type fill ≡ Ok s → IsAtMost r s

-- of as many elements, however they are shaped, it is the same
abbrev pub GoesByCount : Measure → Type 0
GoesByCount measure =
    (sizes others : List ℕ) (type : ElementType) (fill : List ℕ) (r s : BytesRepresentation)
    → All (λ size. 0 < size) sizes → All (λ size. 0 < size) others → product sizes ≡ product others
    → measure sizes type fill ≡ Ok r → measure others type fill ≡ Ok s → r ≡ s

-- ---- bytes and packbits

abbrev size_of : ℕ → BytesRepresentation
size_of n = FixedSize n

pub fixed_grows : (m n : ℕ) (r s : BytesRepresentation) → size_of m ≡ r → size_of n ≡ s → m ≤ n → IsAtMost r s
fixed_grows m n r s a b h = subst (λ (x : BytesRepresentation). IsAtMost r x) b (subst (λ (x : BytesRepresentation). IsAtMost x (FixedSize n)) a h)

pub fixed_same : (m n : ℕ) (r s : BytesRepresentation) → size_of m ≡ r → size_of n ≡ s → m ≤ n → n ≤ m → r ≡ s
fixed_same m n r s a b h g =
    let same : m ≡ n = omega (arith, h, g) in
    sym a ∙ ap FixedSize same ∙ b

bytes_len : (order : Option Endianness) (sizes : List ℕ) (width components : ℕ) (sign : Bool) (fill : List ℕ) (len : ℕ) → bytes_length order (form_of sizes (fixed width components sign) fill) ≡ Ok len → len ≡ product sizes * element_size width components
bytes_len order sizes width components sign fill len e = (coding.taken order sizes width components sign fill len e).len_is

pub bytes_grows : (order : Option Endianness) (sizes others : List ℕ) (type : ElementType) (fill : List ℕ) (m n : ℕ) → product sizes ≤ product others → bytes_length order (form_of sizes type fill) ≡ Ok m → bytes_length order (form_of others type fill) ≡ Ok n → m ≤ n
bytes_grows order sizes others (fixed width components sign) fill m n h a b =
    let one = bytes_len order sizes width components sign fill m a in
    let two = bytes_len order others width components sign fill n b in
    let row : product sizes * element_size width components ≤ product others * element_size width components = mul-le-mul_right (element_size width components) h in
    subst (λ (k : ℕ). m ≤ k) (sym two) (subst (λ (k : ℕ). k ≤ product others * element_size width components) (sym one) row)
bytes_grows order sizes others text fill m n h a b = absurd cc
bytes_grows order sizes others bytes fill m n h a b = absurd cc
bytes_grows order sizes others (optional type) fill m n h a b = absurd cc

packed_more : (settings : PackBitsSettings) (n k width components : ℕ) (sign : Bool) → n ≤ k → value_len (layout_for settings n width components sign) ≤ value_len (layout_for settings k width components sign)
packed_more settings n k width components sign h =
    let l = layout_for settings n width components sign in
    let row : n * components ≤ k * components = mul-le-mul_right components h in
    let bits : n * components * l.count ≤ k * components * l.count = mul-le-mul_right l.count row in
    omega arith

pub packed_grows : (settings : PackBitsSettings) (sizes others : List ℕ) (type : ElementType) (fill : List ℕ) (m n : ℕ) → product sizes ≤ product others → packbits_length settings (form_of sizes type fill) ≡ Ok m → packbits_length settings (form_of others type fill) ≡ Ok n → m ≤ n
packed_grows settings sizes others (fixed width components sign) fill m n h a b =
    let one = seen_ok value_len (packed_layout settings (form_of sizes (fixed width components sign) fill)) m a in
    let two = seen_ok value_len (packed_layout settings (form_of others (fixed width components sign) fill)) n b in
    let first = packbits.taken settings sizes width components sign fill one.0 one.1 in
    let second = packbits.taken settings others width components sign fill two.0 two.1 in
    let left : value_len (layout_for settings (product sizes) width components sign) ≡ m = sym (ap value_len first.is) ∙ one.2 in
    let right : value_len (layout_for settings (product others) width components sign) ≡ n = sym (ap value_len second.is) ∙ two.2 in
    subst (λ (k : ℕ). m ≤ k) right (subst (λ (k : ℕ). k ≤ value_len (layout_for settings (product others) width components sign)) left (packed_more settings (product sizes) (product others) width components sign h))
packed_grows settings sizes others text fill m n h a b = absurd cc
packed_grows settings sizes others bytes fill m n h a b = absurd cc
packed_grows settings sizes others (optional type) fill m n h a b = absurd cc

-- ---- vlen

pub vlen_unbounded : (sizes : List ℕ) (type : ElementType) (fill : List ℕ) (r : BytesRepresentation) → vlen_representation sizes type fill ≡ Ok r → UnboundedSize ≡ r
vlen_unbounded sizes type fill r e =
    let a = bind_ok (demand (is_variable type) (UnsupportedDataType VLEN)) _ r e in
    let b = bind_ok (checked_u64 (product sizes)) _ r a.2 in
    ok_is UnboundedSize r b.2

-- ---- optional

-- what two sizes make, where both are bounded
abbrev sum_of : Option ℕ → Option ℕ → BytesRepresentation
sum_of (Some m) (Some d) = bounded (16 + m + d)
sum_of (Some m) None = UnboundedSize
sum_of None (Some d) = UnboundedSize
sum_of None None = UnboundedSize

both_sum : (m d : BytesRepresentation) → bounded_total (λ mask content. 16 + mask + content) m d ≡ sum_of (greatest_size m) (greatest_size d)
both_sum (FixedSize m) (FixedSize d) = refl
both_sum (FixedSize m) (BoundedSize d) = refl
both_sum (FixedSize m) UnboundedSize = refl
both_sum (BoundedSize m) (FixedSize d) = refl
both_sum (BoundedSize m) (BoundedSize d) = refl
both_sum (BoundedSize m) UnboundedSize = refl
both_sum UnboundedSize (FixedSize d) = refl
both_sum UnboundedSize (BoundedSize d) = refl
both_sum UnboundedSize UnboundedSize = refl

abbrev IsBelow : Option ℕ → Option ℕ → Type 0
IsBelow (Some m) (Some n) = m ≤ n
IsBelow (Some m) None = Unit {0}
IsBelow None None = Unit {0}
IsBelow None (Some n) = ⊥

below_of : (r s : BytesRepresentation) → IsAtMost r s → IsBelow (greatest_size r) (greatest_size s)
below_of (FixedSize m) (FixedSize n) h = h
below_of (FixedSize m) (BoundedSize n) h = h
below_of (FixedSize m) UnboundedSize h = tt
below_of (BoundedSize m) (FixedSize n) h = h
below_of (BoundedSize m) (BoundedSize n) h = h
below_of (BoundedSize m) UnboundedSize h = tt
below_of UnboundedSize (FixedSize n) h = absurd h
below_of UnboundedSize (BoundedSize n) h = absurd h
below_of UnboundedSize UnboundedSize h = tt

tested : (a b : Bool) (m n : ℕ) → m ≤ n → (b ≡ true → a ≡ true) → IsAtMost (if a then BoundedSize m else UnboundedSize) (if b then BoundedSize n else UnboundedSize)
tested true true m n h t = h
tested false true m n h t = absurd (let e : false ≡ true = t refl in cc)
tested true false m n h t = tt
tested false false m n h t = tt

test_smaller : (m n : ℕ) → m ≤ n → nat_lt n (2 ^ 64) ≡ true → nat_lt m (2 ^ 64) ≡ true
test_smaller m n h t = grind (arith, nat_tests)

pub bounded_grows : (m n : ℕ) → m ≤ n → IsAtMost (bounded m) (bounded n)
bounded_grows m n h = tested (nat_lt m (2 ^ 64)) (nat_lt n (2 ^ 64)) m n h (test_smaller m n h)

pub unbounded_most : (r : BytesRepresentation) → IsAtMost r UnboundedSize
unbounded_most r = tt

sums_grow : (m d n e : Option ℕ) → IsBelow m n → IsBelow d e → IsAtMost (sum_of m d) (sum_of n e)
sums_grow (Some m) (Some d) (Some n) (Some e) h g = bounded_grows (16 + m + d) (16 + n + e) (omega arith)
sums_grow None d (Some n) (Some e) h g = absurd h
sums_grow (Some m) None (Some n) (Some e) h g = absurd g
sums_grow m d (Some n) None h g = unbounded_most (sum_of m d)
sums_grow m d None (Some e) h g = unbounded_most (sum_of m d)
sums_grow m d None None h g = unbounded_most (sum_of m d)

both_grow : (m d n e : BytesRepresentation) → IsAtMost m n → IsAtMost d e → IsAtMost (bounded_total (λ mask content. 16 + mask + content) m d) (bounded_total (λ mask content. 16 + mask + content) n e)
both_grow m d n e h g =
    subst (λ (x : BytesRepresentation). IsAtMost x (bounded_total (λ mask content. 16 + mask + content) n e)) (sym (both_sum m d))
    (subst (λ (x : BytesRepresentation). IsAtMost (sum_of (greatest_size m) (greatest_size d)) x) (sym (both_sum n e)) (sums_grow (greatest_size m) (greatest_size d) (greatest_size n) (greatest_size e) (below_of m n h) (below_of d e g)))

-- of what an optional codec's representation is made
pub record IsBoth (mask content : Measure) (sizes : List ℕ) (type : ElementType) (r : BytesRepresentation) : Type 0 where
  pub mask_size : BytesRepresentation
  pub data_size : BytesRepresentation
  pub masked : mask sizes flag_type (0 ∷ []) ≡ Ok mask_size
  pub measured : content sizes type (blank_fill type) ≡ Ok data_size
  pub is : bounded_total (λ mask content. 16 + mask + content) mask_size data_size ≡ r

pub is_both : (mask content : Measure) (sizes : List ℕ) (type : ElementType) (fill : List ℕ) (r : BytesRepresentation) → optional_representation mask content sizes (optional type) fill ≡ Ok r → IsBoth mask content sizes type r
is_both mask content sizes type fill r e =
    let a = bind_ok (demand (fill_fits (optional type) fill) InvalidFillValue) _ r e in
    let b = bind_ok (checked_u64 (product sizes)) _ r a.2 in
    let m = bind_ok (mask sizes flag_type (0 ∷ [])) _ r b.2 in
    let d = bind_ok (content sizes type (blank_fill type)) _ r m.2 in
    record { mask_size = m.0; data_size = d.0; masked = m.1; measured = d.1; is = ok_is (bounded_total (λ mask content. 16 + mask + content) m.0 d.0) r d.2 }

pub optional_grows : (mask content : Measure) → Grows mask → Grows content → Grows (optional_representation mask content)
optional_grows mask content mg dg sizes others (optional type) fill r s p q h a b =
    let one = is_both mask content sizes type fill r a in
    let two = is_both mask content others type fill s b in
    subst (λ (x : BytesRepresentation). IsAtMost x s) one.is (subst (λ (x : BytesRepresentation). IsAtMost (bounded_total (λ mask content. 16 + mask + content) one.mask_size one.data_size) x) two.is
    (both_grow one.mask_size one.data_size two.mask_size two.data_size
    (mg sizes others flag_type (0 ∷ []) one.mask_size two.mask_size p q h one.masked two.masked)
    (dg sizes others type (blank_fill type) one.data_size two.data_size p q h one.measured two.measured)))
optional_grows mask content mg dg sizes others (fixed width components sign) fill r s p q h a b = absurd cc
optional_grows mask content mg dg sizes others text fill r s p q h a b = absurd cc
optional_grows mask content mg dg sizes others bytes fill r s p q h a b = absurd cc

pub optional_by_count : (mask content : Measure) → GoesByCount mask → GoesByCount content → GoesByCount (optional_representation mask content)
optional_by_count mask content mg dg sizes others (optional type) fill r s p q h a b =
    let one = is_both mask content sizes type fill r a in
    let two = is_both mask content others type fill s b in
    let masks = mg sizes others flag_type (0 ∷ []) one.mask_size two.mask_size p q h one.masked two.masked in
    let items = dg sizes others type (blank_fill type) one.data_size two.data_size p q h one.measured two.measured in
    sym one.is ∙ ap (λ (x : BytesRepresentation). bounded_total (λ mask content. 16 + mask + content) x one.data_size) masks ∙ ap (λ (x : BytesRepresentation). bounded_total (λ mask content. 16 + mask + content) two.mask_size x) items ∙ two.is
optional_by_count mask content mg dg sizes others (fixed width components sign) fill r s p q h a b = absurd cc
optional_by_count mask content mg dg sizes others text fill r s p q h a b = absurd cc
optional_by_count mask content mg dg sizes others bytes fill r s p q h a b = absurd cc

-- ---- chains

outer_grows : {B : Type 0} (f : BytesCodecs B) → IsLawful f → (codecs : List B) (r s : BytesRepresentation) → IsAtMost r s → IsAtMost (outer_representation f codecs r) (outer_representation f codecs s)
outer_grows f lawful [] r s h = h
outer_grows f lawful (codec ∷ codecs) r s h = outer_grows f lawful codecs (f.representation codec r) (f.representation codec s) (lawful.grows codec r s h)

pub around_grows : {B : Type 0} (f : BytesCodecs B) → IsLawful f → (arrays : List ArrayMapping) (measure : Measure) (outer : List B) → All IsMapping arrays → Grows measure → Grows (around_representation f arrays measure outer)
around_grows f lawful arrays measure outer mappings grows sizes others type fill r s p q h a b =
    let m = bind_ok (arrays_map type arrays sizes) _ r a in
    let n = bind_ok (arrays_map type arrays others) _ s b in
    let i = bind_ok (measure m.0.encoded type fill) _ r m.2 in
    let j = bind_ok (measure n.0.encoded type fill) _ s n.2 in
    let one = arrays_are_map arrays sizes type m.0 mappings p m.1 in
    let two = arrays_are_map arrays others type n.0 mappings q n.1 in
    let more : product m.0.encoded ≤ product n.0.encoded = subst (λ (k : ℕ). k ≤ product n.0.encoded) (sym one.count) (subst (λ (k : ℕ). product sizes ≤ k) (sym two.count) h) in
    let inside = grows m.0.encoded n.0.encoded type fill i.0 j.0 (one.positive p) (two.positive q) more i.1 j.1 in
    subst (λ (x : BytesRepresentation). IsAtMost x s) (ok_is (outer_representation f outer i.0) r i.2)
    (subst (λ (x : BytesRepresentation). IsAtMost (outer_representation f outer i.0) x) (ok_is (outer_representation f outer j.0) s j.2) (outer_grows f lawful outer i.0 j.0 inside))

pub around_by_count : {B : Type 0} (f : BytesCodecs B) (arrays : List ArrayMapping) (measure : Measure) (outer : List B) → All IsMapping arrays → GoesByCount measure → GoesByCount (around_representation f arrays measure outer)
around_by_count f arrays measure outer mappings by_count sizes others type fill r s p q h a b =
    let m = bind_ok (arrays_map type arrays sizes) _ r a in
    let n = bind_ok (arrays_map type arrays others) _ s b in
    let i = bind_ok (measure m.0.encoded type fill) _ r m.2 in
    let j = bind_ok (measure n.0.encoded type fill) _ s n.2 in
    let one = arrays_are_map arrays sizes type m.0 mappings p m.1 in
    let two = arrays_are_map arrays others type n.0 mappings q n.1 in
    let inside = by_count m.0.encoded n.0.encoded type fill i.0 j.0 (one.positive p) (two.positive q) (one.count ∙ h ∙ sym two.count) i.1 j.1 in
    sym (ok_is (outer_representation f outer i.0) r i.2) ∙ ap (outer_representation f outer) inside ∙ ok_is (outer_representation f outer j.0) s j.2
