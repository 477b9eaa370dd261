-- Packing all bits of whole bytes, and streams part by part.
use Rattle.std.proofs.Common.{◌≡◌, ℕ, ◌+◌, ◌*◌, ◌^◌, ◌<◌, ◌≤◌, ◌==◌, ◌&&◌, List, ◌++◌, Bool, true, false, length, drop, replicate, get_or, arith, refl, ap, sym, ◌∙◌}
use Rattle.std.specs.List.{flat_map, range_with_len}
use Rattle.std.proofs.lemmas.List.{append_assoc, append-nil}
use Rattle.std.proofs.lemmas.Bool.Decides.{nat_tests}
use Rattle.std.proofs.lemmas.Bool.{false≢true}
use Rattle.std.proofs.lemmas.List.{take_all}
use Rattle.std.proofs.Common.{◌||◌, nat_lt}
use Rattle.std.proofs.Common.{Ok, Err, if◌then◌else◌}
use Rattle.zarrs_packbits.proofs.LowBits.{length-bits_of}
use Rattle.zarrs_packbits.proofs.FieldLemmas.{flat_more, flat_map_same, joined_fields, joined_components, component-len, packed_bytes, packed_one}
use Rattle.zarrs_packbits.specs.Bits.{low_bits, bits_of, field}
use Rattle.zarrs_packbits.specs.declared.layout.PackedLayout.{PackedLayout}
use Rattle.zarrs_packbits.specs.PackedLayout.{is_in_reach, IsPackedLayout, is_whole, layout_components, bits_in, spare_of}
use Rattle.zarrs_metadata.specs.declared.codec.packbits.PackBitsPaddingEncoding.{PackBitsPaddingEncoding}
use Rattle.zarrs_metadata.specs.declared.codec.packbits.PackBitsPaddingEncoding.TheVariants.{None, FirstByte, LastByte}
use Rattle.zarrs_packbits.specs.KeptBits.{top_of, full_component, component_bits}
use Rattle.zarrs_packbits.specs.Packing.{packing}
use Rattle.zarrs_packbits.specs.PaddingByte.{value_len, lead, trail, padding_bytes_before, padding_bytes_behind}
use Rattle.zarrs_packbits.specs.BitStream.{stream_of_bytes, components_from, bytes_packed}
use Rattle.zarrs_chunk.specs.declared.codec_error.CodecError.TheVariants.{InvalidBytesLength, PaddingByte}
use Rattle.zarrs_chunk.proofs.Inside.{from_lt_test}

pub zero_first : (a b : ℕ) → ((a == 0) && (b == 0)) ≡ true → a ≡ 0
zero_first a b h = grind (arith, nat_tests)

pub zero_second : (a b : ℕ) → ((a == 0) && (b == 0)) ≡ true → b ≡ 0
zero_second a b h = grind (arith, nat_tests)

pub more_behind : (start now new part : List ℕ) (f : ℕ → List ℕ) (n : ℕ) → new ≡ now ++ part → now ≡ start ++ flat_map f (range_with_len 0 n) → part ≡ f n → new ≡ start ++ flat_map f (range_with_len 0 (n + 1))
more_behind start now new part f n e g h =
    e ∙ ap (λ xs. xs ++ part) g ∙ append_assoc start (flat_map f (range_with_len 0 n)) part
    ∙ ap (λ xs. start ++ (flat_map f (range_with_len 0 n) ++ xs)) h ∙ ap (λ xs. start ++ xs) (sym (flat_more f n))

pub whole_bits : (l : PackedLayout) → IsPackedLayout l → is_whole l ≡ true → bits_in l ≡ 8 * (layout_components l * l.size)
whole_bits l s h =
    let f = zero_first l.first l.above h in
    let a = zero_second l.first l.above h in
    let e : l.count ≡ 8 * l.size = omega (arith, s.size) in
    ap (λ k. layout_components l * k) e ∙ (let d : layout_components l * (8 * l.size) ≡ 8 * (layout_components l * l.size) = omega arith in d)

pub whole_spare : (l : PackedLayout) → IsPackedLayout l → is_whole l ≡ true → spare_of l ≡ 0
whole_spare l s h = let e = whole_bits l s h in omega arith

pub whole_len : (l : PackedLayout) → IsPackedLayout l → is_whole l ≡ true → value_len l ≡ layout_components l * l.size
whole_len l s h =
    let e = whole_bits l s h in
    let p : lead l ≡ 0 = ap (λ (p : PackBitsPaddingEncoding). length (padding_bytes_before p 0)) (s.bare h) in
    let q : trail l ≡ 0 = ap (λ (p : PackBitsPaddingEncoding). length (padding_bytes_behind p 0)) (s.bare h) in
    omega arith

whole_stream : (l : PackedLayout) (bytes : List ℕ) → IsPackedLayout l → is_whole l ≡ true → length bytes ≡ layout_components l * l.size → stream_of_bytes l bytes ≡ bits_of bytes
whole_stream l bytes s h len =
    let f = zero_first l.first l.above h in
    let a = zero_second l.first l.above h in
    let each : (part : ℕ) → field l.first l.count (component_bits l.size bytes part) ≡ component_bits l.size bytes part
    = λ part. ap (λ n. field n l.count (component_bits l.size bytes part)) f ∙ take_all l.count (component_bits l.size bytes part) (omega (arith, s.size, component-len l.size bytes part)) in
    flat_map_same (λ part. field l.first l.count (component_bits l.size bytes part)) (component_bits l.size bytes) each (range_with_len 0 (layout_components l))
    ∙ joined_components l.size (layout_components l) bytes
    ∙ ap bits_of (take_all (layout_components l * l.size) bytes (omega arith))

pub whole_encoded : (l : PackedLayout) (bytes : List ℕ) → IsPackedLayout l → is_whole l ≡ true → length bytes ≡ layout_components l * l.size → ((i : ℕ) → get_or bytes i 0 < 256) → bytes_packed l bytes ≡ bytes
whole_encoded l bytes s h len fits =
    let p = ap (λ (p : PackBitsPaddingEncoding). padding_bytes_before p (spare_of l)) (s.bare h) in
    let q = ap (λ (p : PackBitsPaddingEncoding). padding_bytes_behind p (spare_of l)) (s.bare h) in
    ap (λ xs. xs ++ (packing (stream_of_bytes l bytes) ++ padding_bytes_behind l.padding (spare_of l))) p
    ∙ ap (λ xs. packing (stream_of_bytes l bytes) ++ xs) q
    ∙ append-nil (packing (stream_of_bytes l bytes))
    ∙ ap packing (whole_stream l bytes s h len)
    ∙ packed_bytes bytes fits

-- a field by itself, where no bits stand below or above it
bare_widened : (first above : ℕ) (sign : Bool) (kept : List ℕ) → first ≡ 0 → above ≡ 0 → full_component first above sign kept ≡ kept
bare_widened first above sign kept f a =
    ap (λ n. full_component n above sign kept) f ∙ ap (λ n. kept ++ replicate n (top_of sign kept)) a ∙ append-nil kept

pub whole_restored : (l : PackedLayout) (at parts : ℕ) (bits : List ℕ) → is_whole l ≡ true → components_from l at parts bits ≡ field at (parts * l.count) bits
whole_restored l at parts bits h =
    let f = zero_first l.first l.above h in
    let a = zero_second l.first l.above h in
    flat_map_same (λ part. full_component l.first l.above l.sign (field (at + part * l.count) l.count bits)) (λ part. field (at + part * l.count) l.count bits) (λ part. bare_widened l.first l.above l.sign (field (at + part * l.count) l.count bits) f a) (range_with_len 0 parts)
    ∙ joined_fields at l.count parts bits

pub chosen : (n m : ℕ) (b : Bool) (x : List ℕ) → n ≡ m → b ≡ true → (if n == m then (if b then Ok x else Err PaddingByte) else Err (InvalidBytesLength n m)) ≡ Ok x
chosen n m b x e h = rw h (grind (arith, nat_tests))

pub whole_unpacked : (l : PackedLayout) (v : List ℕ) → IsPackedLayout l → is_whole l ≡ true → length v ≡ value_len l → ((i : ℕ) → get_or v i 0 < 256) → packing (components_from l 0 (layout_components l) (bits_of (drop (lead l) v))) ≡ v
whole_unpacked l v s h len fits =
    let n : length v ≡ layout_components l * l.size = len ∙ whole_len l s h in
    let p : lead l ≡ 0 = ap (λ (p : PackBitsPaddingEncoding). length (padding_bytes_before p 0)) (s.bare h) in
    let b = whole_bits l s h in
    ap (λ k. packing (components_from l 0 (layout_components l) (bits_of (drop k v)))) p
    ∙ ap packing (whole_restored l 0 (layout_components l) (bits_of v) h ∙ take_all (layout_components l * l.count) (bits_of v) (omega (arith, length-bits_of v)))
    ∙ packed_bytes v fits

pub spare_small : (l : PackedLayout) → spare_of l < 8
spare_small l = omega arith

-- the padding byte in front
pub packed_before : (p : PackBitsPaddingEncoding) (spare : ℕ) (bits : List ℕ) → spare < 8 → packing (bits_of (padding_bytes_before p spare) ++ bits) ≡ padding_bytes_before p spare ++ packing bits
packed_before None spare bits h = refl
packed_before FirstByte spare bits h = ap (λ xs. packing (xs ++ bits)) (append-nil (low_bits 8 spare)) ∙ packed_one spare bits (omega arith)
packed_before LastByte spare bits h = refl

reach_first : (a w b : Bool) → (a && (w || b)) ≡ true → a ≡ true
reach_first true w b h = refl
reach_first false w b h = h

reach_second : (a w b : Bool) → (a && (w || b)) ≡ true → w ≡ false → b ≡ true
reach_second true true b h e = absurd (false≢true (sym e))
reach_second true false b h e = h
reach_second false w b h e = absurd (false≢true h)

pub layout_sound : (l : PackedLayout) → 0 < l.count → 0 < l.group → l.first + l.count + l.above ≡ 8 * l.size → (is_whole l ≡ true → l.padding ≡ None) → is_in_reach l ≡ true → IsPackedLayout l
layout_sound l some group size bare h = record {
  some = some;
  group = group;
  size = size;
  bytes_fit = from_lt_test (layout_components l * l.size) (2 ^ 64) (reach_first (nat_lt (layout_components l * l.size) (2 ^ 64)) (is_whole l) (nat_lt (bits_in l) (2 ^ 64)) h);
  bits_fit = λ e. from_lt_test (bits_in l) (2 ^ 64) (reach_second (nat_lt (layout_components l * l.size) (2 ^ 64)) (is_whole l) (nat_lt (bits_in l) (2 ^ 64)) h e);
  bare = bare;
}

pub lead_small : (l : PackedLayout) → lead l ≤ 1
lead_small l = small l.padding
  where
    small : (p : PackBitsPaddingEncoding) → length (padding_bytes_before p 0) ≤ 1
    small None = omega arith
    small FirstByte = omega arith
    small LastByte = omega arith

pub bare_padding : (b : Bool) (p : PackBitsPaddingEncoding) → b ≡ true → (if b then None else p) ≡ None
bare_padding b p h = rw h refl
