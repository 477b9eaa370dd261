-- Chunks of elements, and the same as their bytes joined.
use Rattle.std.proofs.Common.{◌≡◌, ℕ, zero, suc, ◌+◌, ◌-◌, ◌*◌, ◌/◌, ◌^◌, ◌<◌, ◌≤◌, ◌==◌, Bool, true, nat_lt, List, [], ◌∷◌, ◌++◌, length, map, take, drop, arith, refl, ap, ap₂, sym, ◌∙◌, subst}
use Rattle.std.specs.List.{concat, flat_map, range_with_len}
use Rattle.std.proofs.Math.Nat.{mul-le-mul_right}
use Rattle.std.proofs.lemmas.Bool.Decides.{nat_tests}
use Rattle.std.proofs.lemmas.List.{append_assoc, append-nil, drop-drop, length-append, length-drop, length-map, nil_from_length, take-append-le, drop-append-le}
use Rattle.std.proofs.lemmas.Simd.{map-map}
use Rattle.zarrs_data_type.specs.Element.{plain}
use Rattle.zarrs_data_type.specs.ElementType.{fixed, element_size}
use Rattle.zarrs_array_bytes.specs.Elements.{piece, elements}
use Rattle.zarrs_array_bytes.specs.Held.{Raw, flen}
use Rattle.zarrs_array_bytes.specs.Pieces.{pieces}
use Rattle.zarrs_array_bytes.specs.Validity.{Holds}
use Rattle.zarrs_array_bytes.proofs.Pieces.{AllSized, length-concat, pieces-concat, elements-pieces, take-drop-take}
use Rattle.zarrs_array_bytes.proofs.RunLemmas.{piece_is as piece_at}
use Rattle.zarrs_packbits.specs.Bits.{bits_of, field}
use Rattle.zarrs_packbits.specs.BitStream.{chunk_stream, element_stream, stream_of_bytes, element_bits, packed_element}
use Rattle.zarrs_packbits.specs.KeptBits.{component_bits, full_component, kept_component}
use Rattle.zarrs_packbits.specs.NormalForm.{normal_bytes}
use Rattle.zarrs_packbits.specs.declared.layout.PackedLayout.{PackedLayout}
use Rattle.zarrs_packbits.specs.PackedLayout.{IsPackedLayout, layout_components, element_bits_len}
use Rattle.zarrs_packbits.specs.PaddingByte.{lead}
use Rattle.zarrs_packbits.specs.Packing.{number_of, bytes_from_bits, packing}
use Rattle.zarrs_packbits.specs.PartialRead.{run_end}
use Rattle.zarrs_packbits.proofs.BitLemmas.{length-bytes_of, length-pieces}
use Rattle.zarrs_packbits.proofs.FieldLemmas.{flat_more}
use Rattle.zarrs_packbits.proofs.FlatChunk.{nf}
use Rattle.zarrs_packbits.proofs.LocalLemmas.{flat_range_same}
use Rattle.zarrs_packbits.proofs.LowBits.{length-bits_of}
use Rattle.zarrs_packbits.proofs.Standing.{component_len, field_len, widened_len}

-- ---- lists made part by part

flat_map-map : {X Y : Type 0} (f : Y → List ℕ) (g : X → Y) (xs : List X) → flat_map f (map g xs) ≡ flat_map (λ x. f (g x)) xs
flat_map-map f g [] = refl
flat_map-map f g (x ∷ xs) = ap (λ (l : List ℕ). f (g x) ++ l) (flat_map-map f g xs)

pub flat_split : (f : ℕ → List ℕ) (a b : ℕ) → flat_map f (range_with_len 0 (a + b)) ≡ flat_map f (range_with_len 0 a) ++ flat_map (λ j. f (a + j)) (range_with_len 0 b)
flat_split f a zero =
    ap (λ n. flat_map f (range_with_len 0 n)) (let e : a + 0 ≡ a = omega arith in e) ∙ sym (append-nil (flat_map f (range_with_len 0 a)))
flat_split f a (suc b) =
    let g : ℕ → List ℕ = λ j. f (a + j) in
    let front = flat_map f (range_with_len 0 a) in
    ap (λ n. flat_map f (range_with_len 0 n)) (let e : a + suc b ≡ (a + b) + 1 = omega arith in e)
    ∙ flat_more f (a + b)
    ∙ ap (λ (l : List ℕ). l ++ f (a + b)) (flat_split f a b)
    ∙ append_assoc front (flat_map g (range_with_len 0 b)) (f (a + b))
    ∙ ap (λ (l : List ℕ). front ++ l) (sym (flat_more g b))
    ∙ ap (λ n. front ++ flat_map g (range_with_len 0 n)) (let e : b + 1 ≡ suc b = omega arith in e)

-- parts in groups
regroup : (f : ℕ → List ℕ) (n g : ℕ) → flat_map f (range_with_len 0 (n * g)) ≡ flat_map (λ e. flat_map (λ j. f (e * g + j)) (range_with_len 0 g)) (range_with_len 0 n)
regroup f zero g = ap (λ k. flat_map f (range_with_len 0 k)) (let e : 0 * g ≡ 0 = omega arith in e)
regroup f (suc n) g =
    let h : ℕ → List ℕ = λ e. flat_map (λ j. f (e * g + j)) (range_with_len 0 g) in
    ap (λ k. flat_map f (range_with_len 0 k)) (let e : suc n * g ≡ n * g + g = omega arith in e)
    ∙ flat_split f (n * g) g
    ∙ ap (λ (l : List ℕ). l ++ h n) (regroup f n g)
    ∙ sym (flat_more h n)
    ∙ ap (λ k. flat_map h (range_with_len 0 k)) (let e : n + 1 ≡ suc n = omega arith in e)

-- a component of an element is a component of the chunk
component_of_piece : (size g e j : ℕ) (bytes : List ℕ) → j < g → component_bits size (piece (g * size) bytes e) j ≡ component_bits size bytes (e * g + j)
component_of_piece size g e j bytes h =
    let more : j + 1 ≤ g = omega arith in
    let row : (j + 1) * size ≤ g * size = mul-le-mul_right size more in
    let next : (j + 1) * size ≡ j * size + size = omega arith in
    ap (λ (b : List ℕ). bits_of (take size (drop (j * size) b))) (piece_at (g * size) e bytes)
    ∙ ap bits_of (take-drop-take size (j * size) (g * size) (drop (e * (g * size)) bytes) (omega arith)
    ∙ ap (take size) (drop-drop (j * size) (e * (g * size)) bytes ∙ ap (λ k. drop k bytes) (let d : e * (g * size) + j * size ≡ (e * g + j) * size = omega arith in d)))

-- what is made of the components of a chunk is made of those of its elements, element by element
by_element : (h : List ℕ → List ℕ) (size g n : ℕ) (bytes : List ℕ)
    → flat_map (λ part. h (component_bits size bytes part)) (range_with_len 0 (n * g)) ≡ flat_map (λ e. flat_map (λ j. h (component_bits size (piece (g * size) bytes e) j)) (range_with_len 0 g)) (range_with_len 0 n)
by_element h size g n bytes =
    regroup (λ part. h (component_bits size bytes part)) n g
    ∙ flat_range_same (λ e. flat_map (λ j. h (component_bits size bytes (e * g + j))) (range_with_len 0 g)) (λ e. flat_map (λ j. h (component_bits size (piece (g * size) bytes e) j)) (range_with_len 0 g)) n
    (λ e lt. flat_range_same (λ j. h (component_bits size bytes (e * g + j))) (λ j. h (component_bits size (piece (g * size) bytes e) j)) g (λ j jlt. ap h (sym (component_of_piece size g e j bytes jlt))))

-- the kept bits of a chunk are those of its bytes joined
pub stream_of_pieces : (l : PackedLayout) (bytes : List ℕ) → chunk_stream l (map plain (pieces (l.group * l.size) l.elements bytes)) ≡ stream_of_bytes l bytes
stream_of_pieces l bytes =
    flat_map-map (element_stream l) plain (pieces (l.group * l.size) l.elements bytes)
    ∙ flat_map-map (λ b. element_stream l (plain b)) (piece (l.group * l.size) bytes) (range_with_len 0 l.elements)
    ∙ sym (by_element (field l.first l.count) l.size l.group l.elements bytes)

-- ---- packing part by part

bytes_split : (k m : ℕ) (xs ys : List ℕ) → length xs ≡ 8 * k → bytes_from_bits (k + m) (xs ++ ys) ≡ bytes_from_bits k xs ++ bytes_from_bits m ys
bytes_split zero m xs ys h =
    let none : xs ≡ [] = nil_from_length xs (omega (arith, h)) in
    ap (λ n. bytes_from_bits n (xs ++ ys)) (let e : 0 + m ≡ m = omega arith in e) ∙ ap (λ (l : List ℕ). bytes_from_bits m (l ++ ys)) none
bytes_split (suc k) m xs ys h =
    let room : 8 ≤ length xs = omega (arith, h) in
    let rest : length (drop 8 xs) ≡ 8 * k = omega (arith, h, length-drop 8 xs) in
    ap (λ n. bytes_from_bits n (xs ++ ys)) (let e : suc k + m ≡ suc (k + m) = omega arith in e)
    ∙ ap₂ (λ (a b : List ℕ). number_of a ∷ bytes_from_bits (k + m) b) (take-append-le 8 xs ys room) (drop-append-le 8 xs ys room)
    ∙ ap (λ (l : List ℕ). number_of (take 8 xs) ∷ l) (bytes_split k m (drop 8 xs) ys rest)

packing-append : (k : ℕ) (xs ys : List ℕ) → length xs ≡ 8 * k → packing (xs ++ ys) ≡ packing xs ++ packing ys
packing-append k xs ys h =
    let all : (length (xs ++ ys) + 7) / 8 ≡ k + (length ys + 7) / 8 = omega (arith, h, length-append xs ys) in
    let one : (length xs + 7) / 8 ≡ k = omega (arith, h) in
    ap (λ n. bytes_from_bits n (xs ++ ys)) all ∙ bytes_split k ((length ys + 7) / 8) xs ys h
    ∙ ap (λ n. bytes_from_bits n xs ++ packing ys) (sym one)

-- the bits that are made at each place are so many bytes
abbrev pub AllLong : ℕ → (ℕ → List ℕ) → List ℕ → Type 0
AllLong k f [] = Unit {0}
AllLong k f (p ∷ ps) = (length (f p) ≡ 8 * k) × AllLong k f ps

pub packed_joined : (k : ℕ) (f : ℕ → List ℕ) (ps : List ℕ) → AllLong k f ps → concat (map (λ p. packing (f p)) ps) ≡ packing (flat_map f ps)
packed_joined k f [] h = refl
packed_joined k f (p ∷ ps) h =
    ap (λ (l : List ℕ). packing (f p) ++ l) (packed_joined k f ps h.1) ∙ sym (packing-append k (f p) (flat_map f ps) h.0)

pub packed_sized : (k : ℕ) (f : ℕ → List ℕ) (ps : List ℕ) → AllLong k f ps → AllSized k (map (λ p. packing (f p)) ps)
packed_sized k f [] h = tt
packed_sized k f (p ∷ ps) h =
    (length-bytes_of ((length (f p) + 7) / 8) (f p) ∙ (let e : (length (f p) + 7) / 8 ≡ k = omega (arith, h.0) in e), packed_sized k f ps h.1)

pub all_long : (k : ℕ) (f : ℕ → List ℕ) (start n : ℕ) → ((p : ℕ) → p < start + n → length (f p) ≡ 8 * k) → AllLong k f (range_with_len start n)
all_long k f start zero h = tt
all_long k f start (suc n) h = (h start (omega arith), all_long k f (start + 1) n (λ p lt. h p (omega arith)))

-- ---- elements of a value

full_long : (l : PackedLayout) (kept : List ℕ) → IsPackedLayout l → length kept ≡ l.count → length (full_component l.first l.above l.sign kept) ≡ 8 * l.size
full_long l kept s h = omega (arith, widened_len l.first l.above l.sign kept, h, s.size)

-- an element of a value that has its bits has its bytes
pub element_long : (l : PackedLayout) (v : List ℕ) (p : ℕ) → IsPackedLayout l → run_end l (p, 1) ≤ length v → length (element_bits l v p) ≡ 8 * (l.group * l.size)
element_long l v p s h =
    let bits = bits_of (drop (lead l) v) in
    let at = p * element_bits_len l in
    let next : (p + 1) * element_bits_len l ≡ at + l.group * l.count = omega arith in
    let room : at + l.group * l.count ≤ length bits = omega (arith, length-bits_of (drop (lead l) v), length-drop (lead l) v) in
    length-pieces (λ part. full_component l.first l.above l.sign (field (at + part * l.count) l.count bits)) (8 * l.size) l.group
    (λ part lt.
    let more : part + 1 ≤ l.group = omega arith in
    let row : (part + 1) * l.count ≤ l.group * l.count = mul-le-mul_right l.count more in
    let one : (part + 1) * l.count ≡ part * l.count + l.count = omega arith in
    full_long l (field (at + part * l.count) l.count bits) s (field_len (at + part * l.count) l.count bits (omega arith)))
    ∙ (let e : l.group * (8 * l.size) ≡ 8 * (l.group * l.size) = omega arith in e)

-- ---- containers

-- bytes that are parts of the elements' size hold the chunk of these parts
pub plain_holds : (width components : ℕ) (sign : Bool) (raw : Raw) (parts : List (List ℕ)) → AllSized (element_size width components) parts → raw.items ≡ concat parts → length raw.items < 2 ^ 64 → Holds (fixed width components sign) (flen raw) (map plain parts)
plain_holds width components sign raw parts sized is small =
    let size = element_size width components in
    let number : length (map plain parts) ≡ length parts = length-map parts plain in
    let long : length raw.items ≡ length parts * size = ap length is ∙ length-concat size parts sized in
    let small_test : nat_lt (length parts * size) (2 ^ 64) ≡ true = grind (arith, nat_tests) in
    let long_test : (length raw.items == length parts * size) ≡ true = grind (arith, nat_tests) in
    let cut : pieces size (length parts) raw.items ≡ parts = ap (pieces size (length parts)) is ∙ pieces-concat size parts sized in
    record {
      valid = rw (number, small_test, long_test) refl;
      elements_are = ap (λ n. elements (fixed width components sign) n (flen raw)) number ∙ elements-pieces width components sign (length parts) raw ∙ ap (map plain) cut;
    }

-- bytes that are made place by place hold the elements at these places
pub places_hold : (l : PackedLayout) (v places : List ℕ) (width components : ℕ) (sign : Bool) (raw : Raw) → element_size width components ≡ l.group * l.size → AllLong (l.group * l.size) (element_bits l v) places → raw.items ≡ packing (flat_map (element_bits l v) places) → length raw.items < 2 ^ 64
    → Holds (fixed width components sign) (flen raw) (map (packed_element l v) places)
places_hold l v places width components sign raw size long is small =
    let parts = map (λ p. packing (element_bits l v p)) places in
    let sized : AllSized (element_size width components) parts = subst (λ k. AllSized k parts) (sym size) (packed_sized (l.group * l.size) (element_bits l v) places long) in
    let same : map plain parts ≡ map (packed_element l v) places = map-map plain (λ p. packing (element_bits l v p)) places in
    subst (Holds (fixed width components sign) (flen raw)) same (plain_holds width components sign raw parts sized (is ∙ sym (packed_joined (l.group * l.size) (element_bits l v) places long)) small)

-- ---- the normal form

normal_long : (l : PackedLayout) (bytes : List ℕ) (p : ℕ) → IsPackedLayout l → length bytes ≡ layout_components l * l.size → p < l.elements
    → length (flat_map (λ part. kept_component l.first l.count l.sign (component_bits l.size (piece (l.group * l.size) bytes p) part)) (range_with_len 0 l.group)) ≡ 8 * (l.group * l.size)
normal_long l bytes p s e lt =
    length-pieces (λ part. kept_component l.first l.count l.sign (component_bits l.size (piece (l.group * l.size) bytes p) part)) (8 * l.size) l.group
    (λ part plt.
    let more : p + 1 ≤ l.elements = omega arith in
    let row : (p + 1) * l.group ≤ l.elements * l.group = mul-le-mul_right l.group more in
    let next : (p + 1) * l.group ≡ p * l.group + l.group = omega arith in
    let i = p * l.group + part in
    let component = component_bits l.size (piece (l.group * l.size) bytes p) part in
    let long : length component ≡ 8 * l.size = ap length (component_of_piece l.size l.group p part bytes plt) ∙ component_len l.size (layout_components l) i bytes e (omega arith) in
    omega (arith, widened_len l.first (length component - (l.first + l.count)) l.sign (field l.first l.count component), field_len l.first l.count component (omega (arith, long, s.size)), long, s.size))
    ∙ (let e : l.group * (8 * l.size) ≡ 8 * (l.group * l.size) = omega arith in e)

-- the normal form of a chunk's bytes, element by element
pub normal_joined : (l : PackedLayout) (bytes : List ℕ) → IsPackedLayout l → length bytes ≡ layout_components l * l.size → concat (map (normal_bytes l) (pieces (l.group * l.size) l.elements bytes)) ≡ nf l bytes
normal_joined l bytes s e =
    let size = l.group * l.size in
    let f : ℕ → List ℕ = λ p. flat_map (λ part. kept_component l.first l.count l.sign (component_bits l.size (piece size bytes p) part)) (range_with_len 0 l.group) in
    ap concat (map-map (normal_bytes l) (piece size bytes) (range_with_len 0 l.elements))
    ∙ packed_joined size f (range_with_len 0 l.elements) (all_long size f 0 l.elements (λ p lt. normal_long l bytes p s e (omega arith)))
    ∙ ap packing (sym (by_element (kept_component l.first l.count l.sign) l.size l.group l.elements bytes))

-- each element of the normal form has its bytes
pub normal_sized : (l : PackedLayout) (bytes : List ℕ) → IsPackedLayout l → length bytes ≡ layout_components l * l.size → AllSized (l.group * l.size) (map (normal_bytes l) (pieces (l.group * l.size) l.elements bytes))
normal_sized l bytes s e =
    let size = l.group * l.size in
    let f : ℕ → List ℕ = λ p. flat_map (λ part. kept_component l.first l.count l.sign (component_bits l.size (piece size bytes p) part)) (range_with_len 0 l.group) in
    subst (AllSized size) (sym (map-map (normal_bytes l) (piece size bytes) (range_with_len 0 l.elements))) (packed_sized size f (range_with_len 0 l.elements) (all_long size f 0 l.elements (λ p lt. normal_long l bytes p s e (omega arith))))
