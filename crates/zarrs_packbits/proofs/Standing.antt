-- What is written_bits stands for the chunk's kept bits, and the other laws.
use Rattle.std.proofs.Common.{◌≡◌, ℕ, zero, suc, ◌+◌, ◌-◌, ◌*◌, ◌/◌, ◌<◌, ◌≤◌, ◌==◌, List, [], ◌∷◌, ◌++◌, Bool, true, false, length, take, drop, replicate, get_or, arith, refl, ap, sym, ◌∙◌, Ok, Err, if◌then◌else◌}
use Rattle.std.specs.List.{flat_map, range_with_len}
use Rattle.std.proofs.lemmas.List.{append_assoc, append-nil, length-append, length-drop, length-take-le, length-replicate, take_at, drop_at}
use Rattle.std.proofs.lemmas.List.Concat.{flat_map-append}
use Rattle.std.proofs.Math.Nat.{mul-le-mul_right}
use Rattle.std.proofs.Common.{subst, eq-eqb, eqb-true}
use Rattle.std.proofs.lemmas.List.{get_or_at}
use Rattle.std.proofs.Common.{nat_lt, ◌&&◌}
use Rattle.std.proofs.lemmas.List.Folds.{list_all-append}
use Rattle.zarrs_packbits.specs.Bits.{low_bits, bits_of, field}
use Rattle.zarrs_array_bytes.proofs.Pieces.{take-drop-take}
use Rattle.zarrs_packbits.proofs.LowBits.{length-bits_of, bits_of-drop, bits_of-take}
use Rattle.zarrs_chunk.specs.declared.codec_error.CodecError.{CodecError}
use Rattle.zarrs_chunk.specs.declared.codec_error.CodecError.TheVariants.{InvalidBytesLength, PaddingByte}
use Rattle.zarrs_packbits.specs.declared.layout.PackedLayout.{PackedLayout}
use Rattle.zarrs_packbits.specs.PackedLayout.{IsPackedLayout, layout_components, bits_in, spare_of, element_bits_len}
use Rattle.zarrs_metadata.specs.declared.codec.packbits.PackBitsPaddingEncoding.{PackBitsPaddingEncoding}
use Rattle.zarrs_metadata.specs.declared.codec.packbits.PackBitsPaddingEncoding.TheVariants.{None, FirstByte, LastByte}
use Rattle.zarrs_packbits.specs.KeptBits.{top_of, full_component, kept_component, component_bits}
use Rattle.zarrs_packbits.specs.Packing.{packing}
use Rattle.zarrs_packbits.specs.PaddingByte.{value_len, lead, padding_bytes_before, padding_bytes_behind, padding_holds, padding_is}
use Rattle.zarrs_packbits.specs.BitStream.{stream_of_bytes, bytes_packed}
use Rattle.zarrs_packbits.proofs.FlatChunk.{nf, decoded, IsFlatChunk, FlatStands}
use Rattle.zarrs_packbits.proofs.LayoutLemmas.{chosen}
use Rattle.zarrs_packbits.specs.PartialRead.{all_below, packed_place_bytes, run_end, run_start}
use Rattle.zarrs_codec.proofs.Fences.{second_true, first_true}
use Rattle.zarrs_chunk.proofs.Inside.{from_lt_test, lt_test}
use Rattle.zarrs_packbits.proofs.LocalLemmas.{element_within, flat_range_same}
use Rattle.zarrs_packbits.proofs.FieldLemmas.{joined_fields}
use Rattle.zarrs_packbits.proofs.BitLemmas.{AreBits, are_bits-flat_map, are_bits-bits_of, are_bits-widened, are_bits-field, bits_of-packed, bits_of-full, length-bytes_of, bytes_of-small, length-pieces, piece_is}

-- ---- one component_bits

pub field_len : (at count : ℕ) (bits : List ℕ) → at + count ≤ length bits → length (field at count bits) ≡ count
field_len at count bits h = length-take-le count (drop at bits) (omega (arith, length-drop at bits))

pub widened_len : (first above : ℕ) (sign : Bool) (kept : List ℕ) → length (full_component first above sign kept) ≡ first + length kept + above
widened_len first above sign kept =
    omega (arith, length-append (replicate first 0) (kept ++ replicate above (top_of sign kept)), length-append kept (replicate above (top_of sign kept)), length-replicate {A = ℕ} first 0, length-replicate above (top_of sign kept))

-- a field is found again in its component_bits
pub field_of_widened : (first above : ℕ) (sign : Bool) (kept : List ℕ) → field first (length kept) (full_component first above sign kept) ≡ kept
field_of_widened first above sign kept =
    ap (take (length kept)) (drop_at (replicate first 0) (kept ++ replicate above (top_of sign kept)) first (length-replicate {A = ℕ} first 0))
    ∙ take_at kept (replicate above (top_of sign kept)) (length kept) refl

-- keeping the bits of a component_bits that was made of a field changes nothing
pub keep_widened : (first count above : ℕ) (sign : Bool) (kept : List ℕ) → length kept ≡ count → kept_component first count sign (full_component first above sign kept) ≡ full_component first above sign kept
keep_widened first count above sign kept e =
    let n : length (full_component first above sign kept) - (first + count) ≡ above = omega (arith, widened_len first above sign kept) in
    ap (λ k. full_component first k sign (field first count (full_component first above sign kept))) n
    ∙ ap (λ k. full_component first above sign (field first k (full_component first above sign kept))) (sym e)
    ∙ ap (full_component first above sign) (field_of_widened first above sign kept)

field_of_made : (first count above : ℕ) (sign : Bool) (kept : List ℕ) → length kept ≡ count → field first count (full_component first above sign kept) ≡ kept
field_of_made first count above sign kept e = ap (λ k. field first k (full_component first above sign kept)) (sym e) ∙ field_of_widened first above sign kept

-- ---- components made of fields, packing into a chunk

-- components of so many fields
abbrev pub made : PackedLayout → (ℕ → List ℕ) → List ℕ
made l fields = flat_map (λ part. full_component l.first l.above l.sign (fields part)) (range_with_len 0 (layout_components l))

pub component_len : (size n part : ℕ) (bytes : List ℕ) → length bytes ≡ n * size → part < n → length (component_bits size bytes part) ≡ 8 * size
component_len size n part bytes e h =
    let more : part + 1 ≤ n = omega arith in
    let row : (part + 1) * size ≤ n * size = mul-le-mul_right size more in
    let next : (part + 1) * size ≡ part * size + size = omega arith in
    let piece = take size (drop (part * size) bytes) in
    let t : length piece ≡ size = length-take-le size (drop (part * size) bytes) (omega (arith, length-drop (part * size) bytes)) in
    length-bits_of piece ∙ ap (λ k. 8 * k) t

component_of_packed : (size n part : ℕ) (bits : List ℕ) → AreBits bits → length bits ≡ n * (8 * size) → part < n → component_bits size (packing bits) part ≡ field (part * (8 * size)) (8 * size) bits
component_of_packed size n part bits h e lt =
    let whole : length bits ≡ 8 * (n * size) = e ∙ (let d : n * (8 * size) ≡ 8 * (n * size) = omega arith in d) in
    let full = bits_of-full (n * size) bits h whole in
    let len : length (packing bits) ≡ n * size = length-bytes_of ((length bits + 7) / 8) bits ∙ (let d : (length bits + 7) / 8 ≡ n * size = omega arith in d) in
    let more : part + 1 ≤ n = omega arith in
    let row : (part + 1) * size ≤ n * size = mul-le-mul_right size more in
    let next : (part + 1) * size ≡ part * size + size = omega arith in
    bits_of-take size (drop (part * size) (packing bits)) (omega (arith, length-drop (part * size) (packing bits)))
    ∙ ap (take (8 * size)) (bits_of-drop (part * size) (packing bits))
    ∙ ap (λ xs. take (8 * size) (drop (8 * (part * size)) xs)) full
    ∙ ap (λ k. take (8 * size) (drop k bits)) (let d : 8 * (part * size) ≡ part * (8 * size) = omega arith in d)

record IsFields (l : PackedLayout) (fields : ℕ → List ℕ) : Type 0 where
  pub len : (part : ℕ) → part < layout_components l → length (fields part) ≡ l.count
  pub bits : (part : ℕ) → AreBits (fields part)

made_bits : (l : PackedLayout) (fields : ℕ → List ℕ) → IsFields l fields → AreBits (made l fields)
made_bits l fields f = are_bits-flat_map (λ part. full_component l.first l.above l.sign (fields part)) (range_with_len 0 (layout_components l)) (λ part. are_bits-widened l.first l.above l.sign (fields part) (f.bits part))

part_len : (l : PackedLayout) (fields : ℕ → List ℕ) → IsPackedLayout l → IsFields l fields → (part : ℕ) → part < layout_components l → length (full_component l.first l.above l.sign (fields part)) ≡ 8 * l.size
part_len l fields s f part lt = omega (arith, widened_len l.first l.above l.sign (fields part), f.len part lt, s.size)

made_len : (l : PackedLayout) (fields : ℕ → List ℕ) → IsPackedLayout l → IsFields l fields → length (made l fields) ≡ layout_components l * (8 * l.size)
made_len l fields s f = length-pieces (λ part. full_component l.first l.above l.sign (fields part)) (8 * l.size) (layout_components l) (part_len l fields s f)

-- the components of such a chunk
made_component : (l : PackedLayout) (fields : ℕ → List ℕ) → IsPackedLayout l → IsFields l fields → (part : ℕ) → part < layout_components l → component_bits l.size (packing (made l fields)) part ≡ full_component l.first l.above l.sign (fields part)
made_component l fields s f part lt =
    let g : ℕ → List ℕ = λ part. full_component l.first l.above l.sign (fields part) in
    component_of_packed l.size (layout_components l) part (made l fields) (made_bits l fields f) (made_len l fields s f) lt
    ∙ ap (field (part * (8 * l.size)) (8 * l.size)) (sym (append-nil (made l fields)))
    ∙ piece_is g (8 * l.size) (layout_components l) [] part (part_len l fields s f) lt

made_same : (l : PackedLayout) (fields others : ℕ → List ℕ) → ((part : ℕ) → part < layout_components l → fields part ≡ others part) → made l fields ≡ made l others
made_same l fields others h =
    flat_range_same (λ part. full_component l.first l.above l.sign (fields part)) (λ part. full_component l.first l.above l.sign (others part)) (layout_components l) (λ part lt. ap (full_component l.first l.above l.sign) (h part lt))

-- the fields of such a chunk
made_stream : (l : PackedLayout) (fields : ℕ → List ℕ) → IsPackedLayout l → IsFields l fields → stream_of_bytes l (packing (made l fields)) ≡ flat_map fields (range_with_len 0 (layout_components l))
made_stream l fields s f =
    flat_range_same (λ part. field l.first l.count (component_bits l.size (packing (made l fields)) part)) fields (layout_components l)
    (λ part lt. ap (field l.first l.count) (made_component l fields s f part lt) ∙ field_of_made l.first l.count l.above l.sign (fields part) (f.len part lt))

-- such a chunk has no other bits
made_kept : (l : PackedLayout) (fields : ℕ → List ℕ) → IsPackedLayout l → IsFields l fields → nf l (packing (made l fields)) ≡ packing (made l fields)
made_kept l fields s f =
    ap packing (flat_range_same (λ part. kept_component l.first l.count l.sign (component_bits l.size (packing (made l fields)) part)) (λ part. full_component l.first l.above l.sign (fields part)) (layout_components l)
    (λ part lt. ap (kept_component l.first l.count l.sign) (made_component l fields s f part lt) ∙ keep_widened l.first l.count l.above l.sign (fields part) (f.len part lt)))

made_chunk : (l : PackedLayout) (fields : ℕ → List ℕ) → IsPackedLayout l → IsFields l fields → IsFlatChunk l (packing (made l fields))
made_chunk l fields s f = record {
  size = length-bytes_of ((length (made l fields) + 7) / 8) (made l fields) ∙ (let e : layout_components l * (8 * l.size) ≡ 8 * (layout_components l * l.size) = omega arith in omega (arith, made_len l fields s f));
  bytes = bytes_of-small ((length (made l fields) + 7) / 8) (made l fields) (made_bits l fields f);
}

-- ---- a chunk's own fields

abbrev pub own : PackedLayout → List ℕ → ℕ → List ℕ
own l c part = field l.first l.count (component_bits l.size c part)

own_fields : (l : PackedLayout) (c : List ℕ) → IsPackedLayout l → length c ≡ layout_components l * l.size → IsFields l (own l c)
own_fields l c s e = record {
  len = λ part lt. field_len l.first l.count (component_bits l.size c part) (omega (arith, component_len l.size (layout_components l) part c e lt, s.size));
  bits = λ part. are_bits-field l.first l.count (component_bits l.size c part) (are_bits-bits_of (take l.size (drop (part * l.size) c)));
}

-- the kept chunk is made of the chunk's own fields
pub nf_is : (l : PackedLayout) (c : List ℕ) → IsPackedLayout l → length c ≡ layout_components l * l.size → nf l c ≡ packing (made l (own l c))
nf_is l c s e =
    ap packing (flat_range_same (λ part. kept_component l.first l.count l.sign (component_bits l.size c part)) (λ part. full_component l.first l.above l.sign (own l c part)) (layout_components l)
    (λ part lt. ap (λ k. full_component l.first k l.sign (own l c part)) (let d : length (component_bits l.size c part) - (l.first + l.count) ≡ l.above = omega (arith, component_len l.size (layout_components l) part c e lt, s.size) in d)))

-- its bytes are below 256
pub nf_small : (l : PackedLayout) (c : List ℕ) (i : ℕ) → get_or (nf l c) i 0 < 256
nf_small l c i =
    let f : ℕ → List ℕ = λ part. kept_component l.first l.count l.sign (component_bits l.size c part) in
    let bits = flat_map f (range_with_len 0 (layout_components l)) in
    bytes_of-small ((length bits + 7) / 8) bits (are_bits-flat_map f (range_with_len 0 (layout_components l)) (λ part.
    let component = component_bits l.size c part in
    are_bits-widened l.first (length component - (l.first + l.count)) l.sign (field l.first l.count component) (are_bits-field l.first l.count component (are_bits-bits_of (take l.size (drop (part * l.size) c)))))) i

-- keeping is done once
pub nf_nf : (l : PackedLayout) (c : List ℕ) → IsPackedLayout l → length c ≡ layout_components l * l.size → nf l (nf l c) ≡ nf l c
nf_nf l c s e =
    let is = nf_is l c s e in
    ap (nf l) is ∙ made_kept l (own l c) s (own_fields l c s e) ∙ sym is

pub stream_nf : (l : PackedLayout) (c : List ℕ) → IsPackedLayout l → length c ≡ layout_components l * l.size → stream_of_bytes l (nf l c) ≡ stream_of_bytes l c
stream_nf l c s e = ap (stream_of_bytes l) (nf_is l c s e) ∙ made_stream l (own l c) s (own_fields l c s e)

-- ---- values and chunks

before_len : (p : PackBitsPaddingEncoding) (spare : ℕ) → length (padding_bytes_before p spare) ≡ length (padding_bytes_before p 0)
before_len None spare = refl
before_len FirstByte spare = refl
before_len LastByte spare = refl

behind_len : (p : PackBitsPaddingEncoding) (spare : ℕ) → length (padding_bytes_behind p spare) ≡ length (padding_bytes_behind p 0)
behind_len None spare = refl
behind_len FirstByte spare = refl
behind_len LastByte spare = refl

padding_stands : (p : PackBitsPaddingEncoding) (spare : ℕ) (bytes : List ℕ) → padding_is p spare (padding_bytes_before p spare ++ (bytes ++ padding_bytes_behind p spare)) ≡ true
padding_stands None spare bytes = refl
padding_stands FirstByte spare bytes = eq-eqb spare spare refl
padding_stands LastByte spare bytes =
    let n : length (bytes ++ spare ∷ []) - 1 ≡ length bytes = omega (arith, length-append bytes (spare ∷ [])) in
    eq-eqb (get_or (bytes ++ spare ∷ []) (length (bytes ++ spare ∷ []) - 1) 0) spare (get_or_at bytes spare [] 0 (length (bytes ++ spare ∷ []) - 1) (sym n))

own_len : (l : PackedLayout) (c : List ℕ) → IsPackedLayout l → length c ≡ layout_components l * l.size → length (stream_of_bytes l c) ≡ bits_in l
own_len l c s e = length-pieces (own l c) l.count (layout_components l) (own_fields l c s e).len

own_bits : (l : PackedLayout) (c : List ℕ) → IsPackedLayout l → length c ≡ layout_components l * l.size → AreBits (stream_of_bytes l c)
own_bits l c s e = are_bits-flat_map (own l c) (range_with_len 0 (layout_components l)) (own_fields l c s e).bits

-- what is written_bits stands for the kept chunk
pub encoded_stands : (l : PackedLayout) (c : List ℕ) → IsPackedLayout l → length c ≡ layout_components l * l.size → FlatStands l (bytes_packed l c) (nf l c)
encoded_stands l c s e =
    let spare = spare_of l in
    let bits = stream_of_bytes l c in
    let n = own_len l c s e in
    let tail = packing bits ++ padding_bytes_behind l.padding spare in
    let b = before_len l.padding spare in
    let cut : drop (lead l) (bytes_packed l c) ≡ tail = drop_at (padding_bytes_before l.padding spare) tail (lead l) b in
    let zeros = replicate (8 * ((length bits + 7) / 8) - length bits) 0 in
    let more = bits_of (padding_bytes_behind l.padding spare) in
    let spread : bits_of tail ≡ bits ++ (zeros ++ more)
    = flat_map-append (low_bits 8) (packing bits) (padding_bytes_behind l.padding spare) ∙ ap (λ xs. xs ++ more) (bits_of-packed bits (own_bits l c s e)) ∙ append_assoc bits zeros more in
    let P : List ℕ → Type 0 = λ x. IsFlatChunk l x in
    record {
      len = length-append (padding_bytes_before l.padding spare) tail ∙ omega (arith, b, behind_len l.padding spare, length-append (packing bits) (padding_bytes_behind l.padding spare), length-bytes_of ((length bits + 7) / 8) bits, n);
      padding = padding_stands l.padding spare (packing bits);
      bits = ap (λ xs. field 0 (bits_in l) (bits_of xs)) cut ∙ ap (take (bits_in l)) spread ∙ take_at bits (zeros ++ more) (bits_in l) n ∙ sym (stream_nf l c s e);
      chunk = subst P (sym (nf_is l c s e)) (made_chunk l (own l c) s (own_fields l c s e));
      kept = nf_nf l c s e;
    }

-- a value's fields
abbrev pub stored : PackedLayout → List ℕ → ℕ → List ℕ
stored l v part = field (0 + part * l.count) l.count (bits_of (drop (lead l) v))

field_within : (n k i : ℕ) → i < n → i * k + k ≤ n * k
field_within n k i h =
    let more : i + 1 ≤ n = omega arith in
    let row : (i + 1) * k ≤ n * k = mul-le-mul_right k more in
    let next : (i + 1) * k ≡ i * k + k = omega arith in
    omega arith

stands_fields : (l : PackedLayout) (v c : List ℕ) → IsPackedLayout l → FlatStands l v c → (part : ℕ) → part < layout_components l → stored l v part ≡ own l c part
stands_fields l v c s h part lt =
    let bits = bits_of (drop (lead l) v) in
    let k = l.count in
    ap (λ n. field n k bits) (let d : 0 + part * k ≡ part * k = omega arith in d)
    ∙ sym (take-drop-take k (part * k) (bits_in l) bits (field_within (layout_components l) k part lt))
    ∙ ap (field (part * k) k) (h.bits ∙ sym (append-nil (stream_of_bytes l c)))
    ∙ piece_is (own l c) k (layout_components l) [] part (own_fields l c s h.chunk.size).len lt

-- a value that stands for a chunk is decoded to it
pub stands_decoded : (l : PackedLayout) (v c : List ℕ) → IsPackedLayout l → FlatStands l v c → decoded l v ≡ Ok c
stands_decoded l v c s h =
    chosen (length v) (value_len l) (padding_holds l v) (packing (made l (stored l v))) h.len h.padding
    ∙ ap Ok (ap packing (made_same l (stored l v) (own l c) (stands_fields l v c s h)) ∙ sym (nf_is l c s h.chunk.size) ∙ h.kept)

record Opened (t b : Bool) (x c : List ℕ) : Type 0 where
  pub test : t ≡ true
  pub holds : b ≡ true
  pub same : x ≡ c

opened : (t b : Bool) (e : CodecError) (x c : List ℕ) → (if t then (if b then Ok x else Err PaddingByte) else Err e) ≡ Ok c → Opened t b x c
opened true true e x c h = record { test = refl; holds = refl; same = cc }
opened true false e x c h = cc
opened false b e x c h = cc

made_stands : (l : PackedLayout) (v : List ℕ) → IsPackedLayout l → length v ≡ value_len l → padding_holds l v ≡ true → FlatStands l v (packing (made l (stored l v)))
made_stands l v s n p =
    let bits = bits_of (drop (lead l) v) in
    let room : bits_in l ≤ length bits = omega (arith, length-bits_of (drop (lead l) v), length-drop (lead l) v) in
    let fields : IsFields l (stored l v) = record {
      len = λ part lt. field_len (0 + part * l.count) l.count bits (omega (arith, field_within (layout_components l) l.count part lt));
      bits = λ part. are_bits-field (0 + part * l.count) l.count bits (are_bits-bits_of (drop (lead l) v));
    } in
    record {
      len = n;
      padding = p;
      bits = sym (made_stream l (stored l v) s fields ∙ joined_fields 0 l.count (layout_components l) bits);
      chunk = made_chunk l (stored l v) s fields;
      kept = made_kept l (stored l v) s fields;
    }

-- and only such values are decoded
pub decoded_stands : (l : PackedLayout) (v c : List ℕ) → IsPackedLayout l → decoded l v ≡ Ok c → FlatStands l v c
decoded_stands l v c s h =
    let o = opened (length v == value_len l) (padding_holds l v) (InvalidBytesLength (length v) (value_len l)) (packing (made l (stored l v))) c h in
    let P : List ℕ → Type 0 = λ x. FlatStands l v x in
    subst P o.same (made_stands l v s (eqb-true (length v) (value_len l) o.test) o.holds)

-- ---- reading in part selects

range_below : (b s n : ℕ) → s + n ≤ b → all_below b (range_with_len s n) ≡ true
range_below b s zero h = refl
range_below b s (suc n) h =
    ap (λ (x : Bool). x && all_below b (range_with_len (s + 1) n)) (lt_test s b (omega arith)) ∙ range_below b (s + 1) n (omega arith)

pub place_inside : (l : PackedLayout) (p : ℕ) → p < l.elements → all_below (value_len l) (packed_place_bytes l p) ≡ true
place_inside l p h =
    let next : (p + 1) * element_bits_len l ≡ p * element_bits_len l + element_bits_len l = omega arith in
    range_below (value_len l) (run_start l (p, 1)) (run_end l (p, 1) - run_start l (p, 1)) (omega (arith, element_within l p h))

pub places_inside : (l : PackedLayout) (ps : List ℕ) → all_below l.elements ps ≡ true → all_below (value_len l) (flat_map (packed_place_bytes l) ps) ≡ true
places_inside l [] h = refl
places_inside l (p ∷ ps) h =
    list_all-append (λ k. nat_lt k (value_len l)) (packed_place_bytes l p) (flat_map (packed_place_bytes l) ps)
    ∙ ap (λ (x : Bool). x && all_below (value_len l) (flat_map (packed_place_bytes l) ps)) (place_inside l p (from_lt_test _ _ (first_true _ _ h)))
    ∙ places_inside l ps (second_true _ _ h)
