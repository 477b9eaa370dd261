-- What the codec computes is what its definitions say.
use Rattle.zarrs_data_type.specs.Form.{form_of}
use Rattle.std.proofs.Common.{◌≡◌, ℕ, ◌+◌, ◌*◌, ◌<◌, ◌≤◌, ◌^◌, ◌==◌, Bool, true, nat_lt, Some, Result, Ok, Err, List, length, map, drop, arith, ap, sym, ◌∙◌, subst}
use Rattle.std.specs.List.{flat_map, range_with_len}
use Rattle.std.specs.Prelude.{IsOkAnd}
use Rattle.std.proofs.lemmas.Bool.Decides.{nat_tests}
use Rattle.zarrs_chunk.specs.Answer.{◌>>=◌, demand}
use Rattle.zarrs_chunk.specs.ChunkShape.{product}
use Rattle.zarrs_chunk.specs.declared.codec_error.CodecError.{CodecError}
use Rattle.zarrs_chunk.specs.declared.codec_error.CodecError.TheVariants.{InvalidBytesLength, Overflow, PaddingByte}
use Rattle.zarrs_data_type.specs.Element.{plain}
use Rattle.zarrs_data_type.specs.ElementType.{ElementType, fixed, text, bytes, optional, element_size, fixed_size_of}
use Rattle.zarrs_array_bytes.specs.Elements.{elements}
use Rattle.zarrs_array_bytes.specs.Held.{Held, Raw, flen, vlen, masked}
use Rattle.zarrs_array_bytes.specs.Parts.{fixed_part}
use Rattle.zarrs_array_bytes.specs.Pieces.{pieces}
use Rattle.zarrs_array_bytes.specs.Validity.{Holds, validity}
use Rattle.zarrs_array_bytes.proofs.Pieces.{elements-pieces, length-concat}
use Rattle.std.proofs.lemmas.List.{length-map}
use Rattle.std.proofs.lemmas.List.FromFn.{length-range_with_len}
use Rattle.zarrs_bytes.proofs.Coding.{bind_ok, demand_ok, ok, part_is}
use Rattle.zarrs_packbits.specs.Bits.{bits_of}
use Rattle.zarrs_packbits.specs.BitStream.{chunk_stream, stream_of_bytes, components_from, element_bits, packed_element}
use Rattle.zarrs_packbits.specs.declared.layout.PackedLayout.{PackedLayout}
use Rattle.zarrs_packbits.specs.PackBitsCodec.{packbits_value, packbits_chunk, value_checked}
use Rattle.zarrs_packbits.specs.PackBitsSettings.{PackBitsSettings, packed_layout}
use Rattle.zarrs_packbits.specs.PackedLayout.{IsPackedLayout, layout_components, element_bits_len}
use Rattle.zarrs_packbits.specs.PaddingByte.{lead, value_len, padding_holds, value_with}
use Rattle.zarrs_packbits.specs.Packing.{packing}
use Rattle.zarrs_packbits.specs.PartialRead.{run_end}
use Rattle.zarrs_packbits.proofs.ElementBits.{AllLong, all_long, element_long, packed_joined, packed_sized, places_hold, stream_of_pieces}
use Rattle.zarrs_packbits.proofs.LocalLemmas.{element_within}
use Rattle.zarrs_packbits.proofs.RunLemmas.{run_elements}
use Rattle.zarrs_packbits.proofs.Taken.{taken}

-- ---- encoding

pub two_of : {A B C : Type 0} (r : Result A CodecError) (s : Result B CodecError) (f : A → C) (x : A) (y : B) → r ≡ Ok x → s ≡ Ok y → (r >>= λ a. s >>= λ _. Ok (f a)) ≡ ok (f x)
two_of (Ok a) (Ok b) f x y e h = ap (λ z. ok (f z)) (same a x e)
  where
    same : {A : Type 0} (a x : A) → ok a ≡ ok x → a ≡ x
    same a x e = cc
two_of (Ok a) (Err d) f x y e h = absurd cc
two_of (Err d) s f x y e h = absurd cc

-- the kept bits of a container's elements are those of its bytes
pub stream_of_elements : (l : PackedLayout) (width components n : ℕ) (sign : Bool) (raw : Raw) → element_size width components ≡ l.group * l.size → l.elements ≡ n → chunk_stream l (elements (fixed width components sign) n (flen raw)) ≡ stream_of_bytes l raw.items
stream_of_elements l width components n sign raw size count =
    ap (chunk_stream l) (elements-pieces width components sign n raw
    ∙ ap (λ k. map plain (pieces k n raw.items)) size
    ∙ ap (λ k. map plain (pieces (l.group * l.size) k raw.items)) (sym count))
    ∙ stream_of_pieces l raw.items

-- what is made of a container that fits is its chunk's value
pub encoded_is : (settings : PackBitsSettings) (sizes : List ℕ) (type : ElementType) (fill : List ℕ) (held : Held) (raw : Raw) (l : PackedLayout) → packed_layout settings (form_of sizes type fill) ≡ Ok l → validity type (product sizes) held ≡ Ok tt → fixed_part held ≡ Ok raw
    → packbits_value settings (form_of sizes type fill) held ≡ Ok (value_with l (stream_of_bytes l raw.items))
encoded_is settings sizes (fixed width components sign) fill (flen own) raw l e valid part =
    let type = fixed width components sign in
    let t = taken settings sizes width components sign fill l e in
    two_of (packed_layout settings (form_of sizes type fill)) (validity type (product sizes) (flen own)) (λ k. value_with k (chunk_stream k (elements type (product sizes) (flen own)))) l tt e valid
    ∙ ap (λ (bits : List ℕ). ok (value_with l bits)) (stream_of_elements l width components (product sizes) sign own t.size t.elements ∙ ap (λ (r : Raw). stream_of_bytes l r.items) (part_is own raw part))
encoded_is settings sizes (fixed width components sign) fill (vlen own offsets) raw l e valid part = absurd cc
encoded_is settings sizes (fixed width components sign) fill (masked inner mask) raw l e valid part = absurd cc
encoded_is settings sizes text fill held raw l e valid part = absurd cc
encoded_is settings sizes bytes fill held raw l e valid part = absurd cc
encoded_is settings sizes (optional type) fill held raw l e valid part = absurd cc

-- how many bytes such a container has
pub raw_length : (settings : PackBitsSettings) (sizes : List ℕ) (type : ElementType) (fill : List ℕ) (held : Held) (raw : Raw) (l : PackedLayout) → packed_layout settings (form_of sizes type fill) ≡ Ok l → validity type (product sizes) held ≡ Ok tt → fixed_part held ≡ Ok raw → length raw.items ≡ layout_components l * l.size
raw_length settings sizes (fixed width components sign) fill (flen own) raw l e valid part =
    let t = taken settings sizes width components sign fill l e in
    let n = product sizes in
    let a = bind_ok (demand (nat_lt (n * element_size width components) (2 ^ 64)) Overflow) _ tt valid in
    let test = demand_ok (length own.items == n * element_size width components) (InvalidBytesLength (length own.items) (n * element_size width components)) tt a.2 in
    let long : length own.items ≡ n * element_size width components = grind (arith, nat_tests) in
    ap (λ (r : Raw). length r.items) (sym (part_is own raw part)) ∙ long ∙ ap (λ k. n * k) t.size ∙ ap (λ k. k * (l.group * l.size)) (sym t.elements)
    ∙ (let d : l.elements * (l.group * l.size) ≡ layout_components l * l.size = omega arith in d)
raw_length settings sizes (fixed width components sign) fill (vlen own offsets) raw l e valid part = absurd cc
raw_length settings sizes (fixed width components sign) fill (masked inner mask) raw l e valid part = absurd cc
raw_length settings sizes text fill held raw l e valid part = absurd cc
raw_length settings sizes bytes fill held raw l e valid part = absurd cc
raw_length settings sizes (optional type) fill held raw l e valid part = absurd cc

-- ---- decoding

-- all places of a value of the right length have their bits
pub all_places : (l : PackedLayout) (v : List ℕ) → IsPackedLayout l → length v ≡ value_len l → AllLong (l.group * l.size) (element_bits l v) (range_with_len 0 l.elements)
all_places l v s e =
    all_long (l.group * l.size) (element_bits l v) 0 l.elements (λ p lt.
    let next : (p + 1) * element_bits_len l ≡ p * element_bits_len l + element_bits_len l = omega arith in
    let end : run_end l (p, 1) ≤ length v = omega (arith, e, element_within l p (omega arith)) in
    element_long l v p s end)

-- the whole chunk's components are those of its elements, in order
pub all_components : (l : PackedLayout) (v : List ℕ) → components_from l 0 (layout_components l) (bits_of (drop (lead l) v)) ≡ flat_map (element_bits l v) (range_with_len 0 l.elements)
all_components l v =
    ap (λ at. components_from l at (layout_components l) (bits_of (drop (lead l) v))) (let e : 0 ≡ 0 * element_bits_len l = omega arith in e)
    ∙ run_elements l v 0 l.elements

-- and have as many bytes as the elements
pub unpacked_long : (l : PackedLayout) (v : List ℕ) → IsPackedLayout l → length v ≡ value_len l → length (packing (components_from l 0 (layout_components l) (bits_of (drop (lead l) v)))) ≡ layout_components l * l.size
unpacked_long l v s e =
    let size = l.group * l.size in
    let places = range_with_len 0 l.elements in
    let all = all_places l v s e in
    ap (λ (b : List ℕ). length (packing b)) (all_components l v)
    ∙ sym (ap length (packed_joined size (element_bits l v) places all))
    ∙ length-concat size (map (λ p. packing (element_bits l v p)) places) (packed_sized size (element_bits l v) places all)
    ∙ ap (λ k. k * size) (length-map places (λ p. packing (element_bits l v p)) ∙ length-range_with_len 0 l.elements)
    ∙ (let d : l.elements * (l.group * l.size) ≡ layout_components l * l.size = omega arith in d)

found_chunk : {A B : Type 0} (r : Result A CodecError) (test other : A → Bool) (cause : A → CodecError) (f : A → B) (P : B → Type 0) (x : A) → r ≡ Ok x → test x ≡ true → other x ≡ true → P (f x) → IsOkAnd (r >>= λ a. demand (test a) (cause a) >>= λ _. demand (other a) PaddingByte >>= λ _. ok (f a)) P
found_chunk (Ok a) test other cause f P x e t u p =
    let same : a ≡ x = inside a x e in
    let first : test a ≡ true = ap test same ∙ t in
    let second : other a ≡ true = ap other same ∙ u in
    rw (first, second) (subst (λ z. P (f z)) (sym same) p)
  where
    inside : {A : Type 0} (a x : A) → ok a ≡ ok x → a ≡ x
    inside a x e = cc
found_chunk (Err d) test other cause f P x e t u p = absurd cc

-- what is made of a value of the right length, with the right padding byte, is its chunk
pub decoded_holds : (settings : PackBitsSettings) (sizes : List ℕ) (type : ElementType) (fill value : List ℕ) (raw : Raw) (l : PackedLayout) → packed_layout settings (form_of sizes type fill) ≡ Ok l → length value ≡ value_len l → padding_holds l value ≡ true
    → raw.items ≡ packing (components_from l 0 (layout_components l) (bits_of (drop (lead l) value))) → IsOkAnd (packbits_chunk settings (form_of sizes type fill) value) (Holds type (flen raw))
decoded_holds settings sizes (fixed width components sign) fill value raw l e long pad is =
    let type = fixed width components sign in
    let t = taken settings sizes width components sign fill l e in
    let passed : (length value == value_len l) ≡ true = grind (arith, nat_tests) in
    let small : length raw.items < 2 ^ 64 = omega (arith, ap length is, unpacked_long l value t.sound long, t.sound.bytes_fit) in
    let holds : Holds type (flen raw) (map (packed_element l value) (range_with_len 0 l.elements))
    = places_hold l value (range_with_len 0 l.elements) width components sign raw t.size (all_places l value t.sound long) (is ∙ ap packing (all_components l value)) small in
    found_chunk (packed_layout settings (form_of sizes type fill)) (λ k. length value == value_len k) (λ k. padding_holds k value) (λ k. InvalidBytesLength (length value) (value_len k)) (λ k. map (packed_element k value) (range_with_len 0 (product sizes))) (Holds type (flen raw)) l e passed pad
    (subst (λ n. Holds type (flen raw) (map (packed_element l value) (range_with_len 0 n))) t.elements holds)
decoded_holds settings sizes text fill value raw l e long pad is = absurd cc
decoded_holds settings sizes bytes fill value raw l e long pad is = absurd cc
decoded_holds settings sizes (optional type) fill value raw l e long pad is = absurd cc

-- ---- what is looked at before a value is decoded

-- the value has its length, and its padding byte
pub record IsPassed (l : PackedLayout) (value : List ℕ) : Type 0 where
  pub long : length value ≡ value_len l
  pub padded : padding_holds l value ≡ true

pub value_passed : (l : PackedLayout) (value : List ℕ) → ok tt ≡ value_checked l value → IsPassed l value
value_passed l value e =
    let a = bind_ok (demand (length value == value_len l) (InvalidBytesLength (length value) (value_len l))) _ tt (sym e) in
    let test = demand_ok (length value == value_len l) (InvalidBytesLength (length value) (value_len l)) a.0 a.1 in
    record {
      long = grind (arith, nat_tests);
      padded = demand_ok (padding_holds l value) PaddingByte tt a.2;
    }

-- how many bytes the elements have
pub elements_long : (settings : PackBitsSettings) (sizes : List ℕ) (type : ElementType) (fill : List ℕ) (size : ℕ) (l : PackedLayout) → packed_layout settings (form_of sizes type fill) ≡ Ok l → fixed_size_of type ≡ Some size → product sizes * size ≡ layout_components l * l.size
elements_long settings sizes (fixed width components sign) fill size l e sized =
    let t = taken settings sizes width components sign fill l e in
    let is : element_size width components ≡ size = cc in
    ap (λ k. product sizes * k) (sym is ∙ t.size) ∙ ap (λ n. n * (l.group * l.size)) (sym t.elements)
    ∙ (let d : l.elements * (l.group * l.size) ≡ layout_components l * l.size = omega arith in d)
elements_long settings sizes text fill size l e sized = absurd cc
elements_long settings sizes bytes fill size l e sized = absurd cc
elements_long settings sizes (optional type) fill size l e sized = absurd cc
