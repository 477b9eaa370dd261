-- Places' bytes, and elements made of them.
use Rattle.std.proofs.Common.{◌≡◌, ℕ, zero, suc, ◌+◌, ◌-◌, ◌*◌, ◌/◌, ◌%◌, ◌<◌, ◌≤◌, List, [], ◌∷◌, ◌++◌, true, length, take, drop, arith, refl, ap, sym, ◌∙◌}
use Rattle.std.specs.List.{flat_map, range_with_len}
use Rattle.std.proofs.Math.Nat.{mul-le-mul_right}
use Rattle.std.proofs.lemmas.List.{append_assoc, map-append, drop-drop, length-drop}
use Rattle.zarrs_array_bytes.proofs.Pieces.{take-drop-take}
use Rattle.zarrs_packbits.proofs.LowBits.{bits_of-drop, bits_of-take}
use Rattle.zarrs_packbits.specs.Bits.{bits_of, field}
use Rattle.zarrs_codec.specs.ByteSpan.{ByteSpan}
use Rattle.zarrs_packbits.specs.PartialRead.{run_end, run_start}
use Rattle.zarrs_packbits.specs.declared.layout.PackedLayout.{PackedLayout}
use Rattle.zarrs_packbits.specs.PackedLayout.{IsPackedLayout, is_whole, bits_in, element_bits_len}
use Rattle.zarrs_metadata.specs.declared.codec.packbits.PackBitsPaddingEncoding.{PackBitsPaddingEncoding}
use Rattle.zarrs_packbits.specs.KeptBits.{full_component, component_bits}
use Rattle.zarrs_packbits.specs.PaddingByte.{lead, padding_bytes_before}
use Rattle.zarrs_packbits.specs.BitStream.{components_from, element_bits}
use Rattle.zarrs_bytes.specs.PlannedRanges.{spans}
use Rattle.zarrs_packbits.proofs.FieldLemmas.{flat_more}
use Rattle.zarrs_packbits.proofs.LayoutLemmas.{zero_first, zero_second}

pub whole_element : (l : PackedLayout) → IsPackedLayout l → is_whole l ≡ true → element_bits_len l ≡ 8 * (l.group * l.size)
whole_element l s h =
    let f = zero_first l.first l.above h in
    let a = zero_second l.first l.above h in
    let e : l.count ≡ 8 * l.size = omega (arith, s.size) in
    ap (λ k. l.group * k) e ∙ (let d : l.group * (8 * l.size) ≡ 8 * (l.group * l.size) = omega arith in d)

pub whole_start : (l : PackedLayout) (p : ℕ) → IsPackedLayout l → is_whole l ≡ true → p * (l.group * l.size) ≡ run_start l (p, 1)
whole_start l p s h =
    let e : p * element_bits_len l ≡ 8 * (p * (l.group * l.size)) = ap (λ k. p * k) (whole_element l s h) ∙ (let d : p * (8 * (l.group * l.size)) ≡ 8 * (p * (l.group * l.size)) = omega arith in d) in
    let z : lead l ≡ 0 = ap (λ (p : PackBitsPaddingEncoding). length (padding_bytes_before p 0)) (s.bare h) in
    omega arith

pub whole_end : (l : PackedLayout) (p : ℕ) → IsPackedLayout l → is_whole l ≡ true → p * (l.group * l.size) + l.group * l.size ≡ run_end l (p, 1)
whole_end l p s h =
    let e : (p + 1) * element_bits_len l ≡ 8 * ((p + 1) * (l.group * l.size)) = ap (λ k. (p + 1) * k) (whole_element l s h) ∙ (let d : (p + 1) * (8 * (l.group * l.size)) ≡ 8 * ((p + 1) * (l.group * l.size)) = omega arith in d) in
    let z : lead l ≡ 0 = ap (λ (p : PackBitsPaddingEncoding). length (padding_bytes_before p 0)) (s.bare h) in
    omega arith

-- the bits of an element stand within those of the chunk
pub element_within : (l : PackedLayout) (p : ℕ) → p < l.elements → p * element_bits_len l + element_bits_len l ≤ bits_in l
element_within l p h =
    let le : p + 1 ≤ l.elements = omega arith in
    let m : (p + 1) * element_bits_len l ≤ l.elements * element_bits_len l = mul-le-mul_right (element_bits_len l) le in
    let e : l.elements * element_bits_len l ≡ bits_in l = omega arith in
    omega arith

pub element_some : (l : PackedLayout) → IsPackedLayout l → 0 < element_bits_len l
element_some l s =
    let g : 1 ≤ l.group = omega (arith, s.group) in
    let m : 1 * l.count ≤ l.group * l.count = mul-le-mul_right l.count g in
    omega (arith, s.some)

-- one range more, for the next place
pub more_spans : (rs new : List ByteSpan) (r : ByteSpan) (s e : ℕ) (whole tail rest : List (ℕ × ℕ)) → new ≡ rs ++ r ∷ [] → r.start ≡ s → r.end ≡ e → whole ≡ spans rs ++ tail → tail ≡ (s, e) ∷ rest → whole ≡ spans new ++ rest
more_spans rs new r s e whole tail rest is start end h k =
    let pair : (r.start, r.end) ≡ (s, e) = cc in
    let pushed : spans new ≡ spans rs ++ (s, e) ∷ [] = ap spans is ∙ map-append (λ (x : ByteSpan). (x.start, x.end)) rs (r ∷ []) ∙ ap (λ (x : ℕ × ℕ). spans rs ++ x ∷ []) pair in
    h ∙ ap (λ (xs : List (ℕ × ℕ)). spans rs ++ xs) k ∙ sym (append_assoc (spans rs) ((s, e) ∷ []) rest) ∙ ap (λ (xs : List (ℕ × ℕ)). xs ++ rest) (sym pushed)

-- ---- an element is made of its place's bytes

pub field_of_rest : (v : List ℕ) (n a k : ℕ) → field a k (bits_of (drop n v)) ≡ field (8 * n + a) k (bits_of v)
field_of_rest v n a k = ap (λ bits. take k (drop a bits)) (bits_of-drop n v) ∙ ap (take k) (drop-drop a (8 * n) (bits_of v))

pub field_of_piece : (v : List ℕ) (s m a k : ℕ) → s + m ≤ length v → a + k ≤ 8 * m → field a k (bits_of (take m (drop s v))) ≡ field (8 * s + a) k (bits_of v)
field_of_piece v s m a k h l =
    ap (λ bits. take k (drop a bits)) (bits_of-take m (drop s v) (omega (arith, length-drop s v)))
    ∙ take-drop-take k a (8 * m) (bits_of (drop s v)) l
    ∙ field_of_rest v s a k

pub flat_range_same : (f g : ℕ → List ℕ) (n : ℕ) → ((i : ℕ) → i < n → f i ≡ g i) → flat_map f (range_with_len 0 n) ≡ flat_map g (range_with_len 0 n)
flat_range_same f g zero h = refl
flat_range_same f g (suc n) h =
    let e : suc n ≡ n + 1 = omega arith in
    ap (λ m. flat_map f (range_with_len 0 m)) e ∙ flat_more f n
    ∙ ap (λ xs. xs ++ f n) (flat_range_same f g n (λ i lt. h i (omega arith)))
    ∙ ap (λ xs. flat_map g (range_with_len 0 n) ++ xs) (h n (omega arith))
    ∙ sym (flat_more g n) ∙ ap (λ m. flat_map g (range_with_len 0 m)) (sym e)

pub span_len_holds : (l : PackedLayout) (p : ℕ) → p * element_bits_len l % 8 + element_bits_len l ≤ 8 * (run_end l (p, 1) - run_start l (p, 1))
span_len_holds l p =
    let e : (p + 1) * element_bits_len l ≡ p * element_bits_len l + element_bits_len l = omega arith in
    omega arith

pub element_of_piece : (l : PackedLayout) (v : List ℕ) (p : ℕ) → run_end l (p, 1) ≤ length v → run_start l (p, 1) ≤ run_end l (p, 1)
    → components_from l (p * element_bits_len l % 8) l.group (bits_of (take (run_end l (p, 1) - run_start l (p, 1)) (drop (run_start l (p, 1)) v))) ≡ element_bits l v p
element_of_piece l v p h le =
    let k = l.count in
    let m = run_end l (p, 1) - run_start l (p, 1) in
    let here : ℕ → List ℕ = λ part. field (p * element_bits_len l % 8 + part * k) k (bits_of (take m (drop (run_start l (p, 1)) v))) in
    let there : ℕ → List ℕ = λ part. field (p * element_bits_len l + part * k) k (bits_of (drop (lead l) v)) in
    let same : (part : ℕ) → part < l.group → here part ≡ there part = λ part lt.
    let more : part + 1 ≤ l.group = omega arith in
    let row : (part + 1) * k ≤ element_bits_len l = mul-le-mul_right k more in
    let next : (part + 1) * k ≡ part * k + k = omega arith in
    field_of_piece v (run_start l (p, 1)) m (p * element_bits_len l % 8 + part * k) k (omega arith) (omega (arith, span_len_holds l p))
    ∙ ap (λ n. field n k (bits_of v)) (let e : 8 * run_start l (p, 1) + (p * element_bits_len l % 8 + part * k) ≡ 8 * lead l + (p * element_bits_len l + part * k) = omega arith in e)
    ∙ sym (field_of_rest v (lead l) (p * element_bits_len l + part * k) k) in
    flat_range_same (λ part. full_component l.first l.above l.sign (here part)) (λ part. full_component l.first l.above l.sign (there part)) l.group (λ part lt. ap (full_component l.first l.above l.sign) (same part lt))

-- a run's bytes end no earlier than they start
pub ordered_run : (l : PackedLayout) (start len : ℕ) → lead l + start * element_bits_len l / 8 ≤ lead l + ((start + len) * element_bits_len l + 7) / 8
ordered_run l start len =
    let e : (start + len) * element_bits_len l ≡ start * element_bits_len l + len * element_bits_len l = omega arith in
    omega arith

-- a component's field, read from where the component_bits begins
pub field_from : (size part n first count : ℕ) (bytes : List ℕ) → length bytes ≡ n * size → part < n → first + count ≤ 8 * size → field first count (bits_of (drop (part * size) bytes)) ≡ field first count (component_bits size bytes part)
field_from size part n first count bytes e lt h =
    let more : part + 1 ≤ n = omega arith in
    let row : (part + 1) * size ≤ n * size = mul-le-mul_right size more in
    let next : (part + 1) * size ≡ part * size + size = omega arith in
    sym (ap (λ bits. take count (drop first bits)) (bits_of-take size (drop (part * size) bytes) (omega (arith, length-drop (part * size) bytes)))
    ∙ take-drop-take count first (8 * size) (bits_of (drop (part * size) bytes)) h)

pub component_room : (size part n : ℕ) (bytes : List ℕ) → length bytes ≡ n * size → part < n → part * size + size ≤ length bytes
component_room size part n bytes e lt =
    let more : part + 1 ≤ n = omega arith in
    let row : (part + 1) * size ≤ n * size = mul-le-mul_right size more in
    let next : (part + 1) * size ≡ part * size + size = omega arith in
    omega arith

-- the kept bits of a component, by their place among the bytes
pub field_of_part : (size part n first count : ℕ) (bytes : List ℕ) → length bytes ≡ n * size → part < n → first + count ≤ 8 * size → field (8 * (part * size + first / 8) + first % 8) count (bits_of bytes) ≡ field first count (component_bits size bytes part)
field_of_part size part n first count bytes e lt h =
    ap (λ k. field k count (bits_of bytes)) (let q : 8 * (part * size + first / 8) + first % 8 ≡ 8 * (part * size) + first = omega arith in q)
    ∙ ap (take count) (sym (drop-drop first (8 * (part * size)) (bits_of bytes)) ∙ ap (drop first) (sym (bits_of-drop (part * size) bytes)))
    ∙ field_from size part n first count bytes e lt h
