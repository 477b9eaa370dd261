-- Elements of which some bits are kept, and the bytes of packed chunks.
use Rattle.zarrs_data_type.specs.Form.{form_of}
use Rattle.std.proofs.Common.{◌≡◌, ℕ, zero, suc, ◌+◌, ◌-◌, ◌*◌, ◌/◌, ◌<◌, ◌≤◌, nat_lt, nat_le, Bool, true, false, List, [], ◌∷◌, ◌++◌, length, take, drop, get_or, if◌then◌else◌, arith, refl, ap, sym, subst, ◌∙◌}
use Rattle.std.specs.List.{flat_map, range_with_len}
use Rattle.std.proofs.Math.Nat.{mul-le-mul_right}
use Rattle.std.proofs.lemmas.List.{append-nil, length-drop}
use Rattle.std.proofs.lemmas.List.Elements.{All-append, All-nil, All-cons, All-head, All-tail}
use Rattle.zarrs_chunk.specs.ChunkShape.{product}
use Rattle.zarrs_metadata.specs.declared.codec.packbits.PackBitsPaddingEncoding.{PackBitsPaddingEncoding}
use Rattle.zarrs_metadata.specs.declared.codec.packbits.PackBitsPaddingEncoding.TheVariants.{None, FirstByte, LastByte}
use Rattle.zarrs_data_type.specs.ElementType.{ElementType, fixed, text, bytes, optional, component_bytes, element_size}
use Rattle.zarrs_data_type.specs.Element.{Element, plain, absent, present, Chunk, IsElement, AreElements}
use Rattle.zarrs_array_bytes.specs.Elements.{select}
use Rattle.zarrs_codec.specs.BytesToBytesCodec.{AreBytes}
use Rattle.zarrs_packbits.specs.Bits.{field}
use Rattle.zarrs_packbits.specs.BitStream.{element_stream, chunk_stream}
use Rattle.zarrs_packbits.specs.KeptBits.{component_bits, kept_component}
use Rattle.zarrs_packbits.specs.NormalForm.{kept_element, normal_element, normal_chunk}
use Rattle.zarrs_packbits.specs.PackBitsCodec.{PackBitsWritten}
use Rattle.zarrs_packbits.specs.PackBitsSettings.{PackBitsSettings, first_of, last_bit_of, has_bits, layout_for}
use Rattle.zarrs_packbits.specs.PackedLayout.{spare_of}
use Rattle.zarrs_packbits.specs.Packing.{packing}
use Rattle.zarrs_packbits.specs.PaddingByte.{padding_bytes_before, padding_bytes_behind, value_with}
use Rattle.zarrs_packbits.proofs.BitLemmas.{AreBits, are_bits-append, are_bits-bits_of, are_bits-field, are_bits-flat_map, are_bits-widened, bits_of-full, bytes_of-small, length-bytes_of, length-pieces, piece_is}
use Rattle.zarrs_packbits.proofs.LayoutLemmas.{spare_small}
use Rattle.zarrs_packbits.proofs.LocalLemmas.{flat_range_same}
use Rattle.zarrs_packbits.proofs.LowBits.{bits_of-drop, bits_of-take}
use Rattle.zarrs_packbits.proofs.Standing.{component_len, field_len, widened_len, keep_widened}
use Rattle.zarrs_packbits.proofs.Taken.{taken}
use Rattle.zarrs_codec.proofs.Fences.{second_true, first_true}
use Rattle.zarrs_chunk.proofs.Inside.{from_lt_test, from_le_test}
use Rattle.zarrs_chain_meaning.proofs.NestedStages.{is_byte}
use Rattle.zarrs_packbits.proofs.CodecLaws.{normal_absent}

-- ---- one component

-- ---- the components of an element

-- of so many bits, so many bytes and so many components: a component with its kept bits alone
abbrev kept_part : ℕ → ℕ → Bool → ℕ → List ℕ → ℕ → List ℕ
kept_part first count sign size items part = kept_component first count sign (component_bits size items part)

abbrev kept_parts : ℕ → ℕ → Bool → ℕ → ℕ → List ℕ → List ℕ
kept_parts first count sign size group items = flat_map (kept_part first count sign size items) (range_with_len 0 group)

field_long : (first count size group : ℕ) (items : List ℕ) (part : ℕ) → first + count ≤ 8 * size → length items ≡ group * size → part < group → length (field first count (component_bits size items part)) ≡ count
field_long first count size group items part s e lt = field_len first count (component_bits size items part) (omega (arith, component_len size group part items e lt))

part_long : (first count : ℕ) (sign : Bool) (size group : ℕ) (items : List ℕ) (part : ℕ) → first + count ≤ 8 * size → length items ≡ group * size → part < group → length (kept_part first count sign size items part) ≡ 8 * size
part_long first count sign size group items part s e lt =
    let component = component_bits size items part in
    omega (arith, component_len size group part items e lt, field_long first count size group items part s e lt, widened_len first (length component - (first + count)) sign (field first count component))

parts_long : (first count : ℕ) (sign : Bool) (size group : ℕ) (items : List ℕ) → first + count ≤ 8 * size → length items ≡ group * size → length (kept_parts first count sign size group items) ≡ group * (8 * size)
parts_long first count sign size group items s e = length-pieces (kept_part first count sign size items) (8 * size) group (λ part lt. part_long first count sign size group items part s e lt)

part_bits : (first count : ℕ) (sign : Bool) (size : ℕ) (items : List ℕ) (part : ℕ) → AreBits (kept_part first count sign size items part)
part_bits first count sign size items part =
    let component = component_bits size items part in
    are_bits-widened first (length component - (first + count)) sign (field first count component) (are_bits-field first count component (are_bits-bits_of (take size (drop (part * size) items))))

parts_bits : (first count : ℕ) (sign : Bool) (size group : ℕ) (items : List ℕ) → AreBits (kept_parts first count sign size group items)
parts_bits first count sign size group items = are_bits-flat_map (kept_part first count sign size items) (range_with_len 0 group) (part_bits first count sign size items)

packed_long : (first count : ℕ) (sign : Bool) (size group : ℕ) (items : List ℕ) → first + count ≤ 8 * size → length items ≡ group * size → length (packing (kept_parts first count sign size group items)) ≡ group * size
packed_long first count sign size group items s e =
    let bits = kept_parts first count sign size group items in
    let eight : group * (8 * size) ≡ 8 * (group * size) = omega arith in
    length-bytes_of ((length bits + 7) / 8) bits ∙ omega (arith, parts_long first count sign size group items s e)

-- a component that was kept is found again
part_again : (first count : ℕ) (sign : Bool) (size group : ℕ) (items : List ℕ) (part : ℕ) → first + count ≤ 8 * size → length items ≡ group * size → part < group
    → component_bits size (packing (kept_parts first count sign size group items)) part ≡ kept_part first count sign size items part
part_again first count sign size group items part s e lt =
    let bits = kept_parts first count sign size group items in
    let whole : length bits ≡ 8 * (group * size) = parts_long first count sign size group items s e ∙ (let d : group * (8 * size) ≡ 8 * (group * size) = omega arith in d) in
    let more : part + 1 ≤ group = omega arith in
    let row : (part + 1) * size ≤ group * size = mul-le-mul_right size more in
    let next : (part + 1) * size ≡ part * size + size = omega arith in
    bits_of-take size (drop (part * size) (packing bits)) (omega (arith, length-drop (part * size) (packing bits), packed_long first count sign size group items s e))
    ∙ ap (take (8 * size)) (bits_of-drop (part * size) (packing bits))
    ∙ ap (λ xs. take (8 * size) (drop (8 * (part * size)) xs)) (bits_of-full (group * size) bits (parts_bits first count sign size group items) whole)
    ∙ ap (λ k. take (8 * size) (drop k bits)) (let d : 8 * (part * size) ≡ part * (8 * size) = omega arith in d)
    ∙ ap (field (part * (8 * size)) (8 * size)) (sym (append-nil bits))
    ∙ piece_is (kept_part first count sign size items) (8 * size) group [] part (λ k below. part_long first count sign size group items k s e below) lt

packed_again : (first count : ℕ) (sign : Bool) (size group : ℕ) (items : List ℕ) → first + count ≤ 8 * size → length items ≡ group * size
    → packing (kept_parts first count sign size group (packing (kept_parts first count sign size group items))) ≡ packing (kept_parts first count sign size group items)
packed_again first count sign size group items s e =
    ap packing (flat_range_same (kept_part first count sign size (packing (kept_parts first count sign size group items))) (kept_part first count sign size items) group
    (λ part lt.
    let component = component_bits size items part in
    ap (kept_component first count sign) (part_again first count sign size group items part s e lt)
    ∙ keep_widened first count (length component - (first + count)) sign (field first count component) (field_long first count size group items part s e lt)))

-- ---- elements

-- how many bits of a component are kept
abbrev count_of : PackBitsSettings → ℕ → ℕ
count_of settings width = last_bit_of settings width + 1 - first_of settings

has_field : (settings : PackBitsSettings) (width : ℕ) → has_bits settings width ≡ true → first_of settings + count_of settings width ≤ 8 * component_bytes width
has_field settings width h =
    let first = first_of settings in
    let last = last_bit_of settings width in
    let ordered : first ≤ last = from_le_test first last (first_true (nat_le first last) (nat_lt last width) h) in
    let within : last < width = from_lt_test last width (second_true (nat_le first last) (nat_lt last width) h) in
    omega arith

-- what is kept of an element is an element of the type
kept_is : (test : Bool) (settings : PackBitsSettings) (width components : ℕ) (sign : Bool) (items : List ℕ) → has_bits settings width ≡ test → length items ≡ element_size width components
    → IsElement (fixed width components sign) (if test then kept_element (layout_for settings 1 width components sign) (plain items) else plain items)
kept_is true settings width components sign items h e = packed_long (first_of settings) (count_of settings width) sign (component_bytes width) components items (has_field settings width h) e
kept_is false settings width components sign items h e = e

pub element_is : (settings : PackBitsSettings) (type : ElementType) (element : Element) → IsElement type element → IsElement type (normal_element settings type element)
element_is settings (fixed width components sign) (plain items) h = kept_is (has_bits settings width) settings width components sign items refl h
element_is settings (fixed width components sign) absent h = absurd h
element_is settings (fixed width components sign) (present element) h = absurd h
element_is settings text element h = h
element_is settings bytes element h = h
element_is settings (optional type) element h = h

-- what is kept of what is kept is the same
kept_again : (test : Bool) (settings : PackBitsSettings) (width components : ℕ) (sign : Bool) (items : List ℕ) → has_bits settings width ≡ test → length items ≡ element_size width components
    → (if test then kept_element (layout_for settings 1 width components sign) (if test then kept_element (layout_for settings 1 width components sign) (plain items) else plain items) else (if test then kept_element (layout_for settings 1 width components sign) (plain items) else plain items))
    ≡ (if test then kept_element (layout_for settings 1 width components sign) (plain items) else plain items)
kept_again true settings width components sign items h e = ap plain (packed_again (first_of settings) (count_of settings width) sign (component_bytes width) components items (has_field settings width h) e)
kept_again false settings width components sign items h e = refl

pub element_again : (settings : PackBitsSettings) (type : ElementType) (element : Element) → IsElement type element → normal_element settings type (normal_element settings type element) ≡ normal_element settings type element
element_again settings (fixed width components sign) (plain items) h = kept_again (has_bits settings width) settings width components sign items refl h
element_again settings (fixed width components sign) absent h = absurd h
element_again settings (fixed width components sign) (present element) h = absurd h
element_again settings text element h = refl
element_again settings bytes element h = refl
element_again settings (optional type) element h = refl

-- ---- bytes

small_bytes : (items : List ℕ) → ((i : ℕ) → get_or items i 0 < 256) → AreBytes items
small_bytes [] h = All-nil is_byte
small_bytes (item ∷ items) h = All-cons is_byte item items (h 0) (small_bytes items (λ i. h (suc i)))

element_bits : (settings : PackBitsSettings) (n width components : ℕ) (sign : Bool) (element : Element) → AreBits (element_stream (layout_for settings n width components sign) element)
element_bits settings n width components sign (plain items) =
    let size = component_bytes width in
    are_bits-flat_map (λ part. field (first_of settings) (count_of settings width) (component_bits size items part)) (range_with_len 0 components)
    (λ part. are_bits-field (first_of settings) (count_of settings width) (component_bits size items part) (are_bits-bits_of (take size (drop (part * size) items))))
element_bits settings n width components sign absent = tt
element_bits settings n width components sign (present element) = tt

stream_bits : (settings : PackBitsSettings) (n width components : ℕ) (sign : Bool) (chunk : Chunk) → AreBits (chunk_stream (layout_for settings n width components sign) chunk)
stream_bits settings n width components sign [] = tt
stream_bits settings n width components sign (element ∷ chunk) =
    let l = layout_for settings n width components sign in
    are_bits-append (element_stream l element) (chunk_stream l chunk) (element_bits settings n width components sign element) (stream_bits settings n width components sign chunk)

one_byte : (byte : ℕ) → byte < 8 → AreBytes (byte ∷ [])
one_byte byte h = All-cons is_byte byte [] (omega arith) (All-nil is_byte)

before_bytes : (padding : PackBitsPaddingEncoding) (spare : ℕ) → spare < 8 → AreBytes (padding_bytes_before padding spare)
before_bytes None spare h = All-nil is_byte
before_bytes FirstByte spare h = one_byte spare h
before_bytes LastByte spare h = All-nil is_byte

behind_bytes : (padding : PackBitsPaddingEncoding) (spare : ℕ) → spare < 8 → AreBytes (padding_bytes_behind padding spare)
behind_bytes None spare h = All-nil is_byte
behind_bytes FirstByte spare h = All-nil is_byte
behind_bytes LastByte spare h = one_byte spare h

value_bytes : (padding : PackBitsPaddingEncoding) (spare : ℕ) (bits : List ℕ) → spare < 8 → AreBits bits → AreBytes (padding_bytes_before padding spare ++ (packing bits ++ padding_bytes_behind padding spare))
value_bytes padding spare bits h are =
    let packed = small_bytes (packing bits) (bytes_of-small ((length bits + 7) / 8) bits are) in
    All-append is_byte (padding_bytes_before padding spare) (packing bits ++ padding_bytes_behind padding spare) (before_bytes padding spare h) (All-append is_byte (packing bits) (padding_bytes_behind padding spare) packed (behind_bytes padding spare h))

-- what is written for a chunk is bytes
pub packed_bytes : (settings : PackBitsSettings) (sizes : List ℕ) (type : ElementType) (fill value : List ℕ) (chunk : Chunk) → PackBitsWritten settings (form_of sizes type fill) value chunk → AreBytes value
packed_bytes settings sizes (fixed width components sign) fill value chunk w =
    let l = layout_for settings (product sizes) width components sign in
    let t = taken settings sizes width components sign fill w.layout w.taken in
    let is : value ≡ value_with l (chunk_stream l chunk) = w.spelt ∙ ap (λ k. value_with k (chunk_stream k chunk)) t.is in
    subst AreBytes (sym is) (value_bytes l.padding (spare_of l) (chunk_stream l chunk) (spare_small l) (stream_bits settings (product sizes) width components sign chunk))
packed_bytes settings sizes text fill value chunk w = absurd (let e = w.taken in cc)
packed_bytes settings sizes bytes fill value chunk w = absurd (let e = w.taken in cc)
packed_bytes settings sizes (optional type) fill value chunk w = absurd (let e = w.taken in cc)

-- ---- chunks

-- an element at a place is of the type, where what is kept of it is
at_place : (settings : PackBitsSettings) (type : ElementType) (chunk : Chunk) (place : ℕ) → AreElements type chunk → IsElement type (normal_element settings type (get_or chunk place absent)) → IsElement type (get_or chunk place absent)
at_place settings type [] place h is = subst (IsElement type) (normal_absent settings type) is
at_place settings type (element ∷ chunk) zero h is = All-head (IsElement type) element chunk h
at_place settings type (element ∷ chunk) (suc place) h is = at_place settings type chunk place (All-tail (IsElement type) element chunk h) is

-- selected elements are of the type, where what is kept of them is
pub selected_are : (settings : PackBitsSettings) (type : ElementType) (chunk : Chunk) (places : List ℕ) → AreElements type chunk → AreElements type (normal_chunk settings type (select chunk places)) → AreElements type (select chunk places)
selected_are settings type chunk [] h are = All-nil (IsElement type)
selected_are settings type chunk (place ∷ places) h are =
    let first = normal_element settings type (get_or chunk place absent) in
    let rest = normal_chunk settings type (select chunk places) in
    All-cons (IsElement type) (get_or chunk place absent) (select chunk places) (at_place settings type chunk place h (All-head (IsElement type) first rest are)) (selected_are settings type chunk places h (All-tail (IsElement type) first rest are))
