-- Values are written and read exactly by the grammar.
use Rattle.zarrs_data_type.specs.Form.{form_of}
use Rattle.std.proofs.Common.{◌≡◌, ℕ, zero, suc, ◌+◌, ◌*◌, ◌<◌, ◌^◌, ◌==◌, Bool, true, nat_lt, Result, Ok, Err, List, [], ◌∷◌, ◌++◌, length, map, get_or, arith, refl, ap, sym, ◌∙◌, subst}
use Rattle.std.specs.List.{concat, flat_map, range_with_len}
use Rattle.std.proofs.lemmas.Bool.Decides.{nat_tests}
use Rattle.std.proofs.lemmas.List.{length-map}
use Rattle.std.proofs.lemmas.Simd.{map-map}
use Rattle.zarrs_chunk.specs.Answer.{◌>>=◌, demand}
use Rattle.zarrs_chunk.specs.ChunkShape.{product}
use Rattle.zarrs_chunk.specs.declared.codec_error.CodecError.{CodecError}
use Rattle.zarrs_chunk.specs.declared.codec_error.CodecError.TheVariants.{InvalidBytesLength, Overflow, PaddingByte}
use Rattle.zarrs_data_type.specs.Element.{Element, plain, Chunk}
use Rattle.zarrs_data_type.specs.ElementType.{ElementType, fixed, text, bytes, optional, element_size}
use Rattle.zarrs_array_bytes.specs.Elements.{elements}
use Rattle.zarrs_array_bytes.specs.Held.{Held, flen, vlen, masked}
use Rattle.zarrs_array_bytes.specs.Pieces.{pieces}
use Rattle.zarrs_array_bytes.specs.Validity.{Holds, validity}
use Rattle.zarrs_array_bytes.proofs.ElementLaw.{AreElements-held}
use Rattle.zarrs_array_bytes.proofs.Pieces.{AllSized, length-pieces as count-pieces, pieces_sized, length-concat, pieces-concat, concat-pieces, elements-pieces}
use Rattle.zarrs_bytes.specs.BytesCodec.{IsChunk}
use Rattle.zarrs_bytes.proofs.Coding.{bind_ok, demand_ok, ok}
use Rattle.zarrs_bytes.proofs.Exact.{pieces_of, chunk_are, bytes_are}
use Rattle.zarrs_packbits.specs.BitStream.{chunk_stream, stream_of_bytes, element_bits, packed_element}
use Rattle.zarrs_packbits.specs.declared.layout.PackedLayout.{PackedLayout}
use Rattle.zarrs_packbits.specs.NormalForm.{normal_bytes, normal_element, normal_chunk}
use Rattle.zarrs_packbits.specs.PackBitsCodec.{packbits_value, packbits_chunk, PackBitsStands, PackBitsWritten}
use Rattle.zarrs_packbits.specs.PackBitsSettings.{PackBitsSettings, packed_layout, has_bits, layout_for}
use Rattle.zarrs_packbits.specs.PackedLayout.{layout_components}
use Rattle.zarrs_packbits.specs.PaddingByte.{value_len, padding_holds, value_with}
use Rattle.zarrs_packbits.specs.Packing.{packing}
use Rattle.zarrs_packbits.proofs.Coding.{two_of, all_places, all_components}
use Rattle.zarrs_packbits.proofs.ElementBits.{packed_joined, packed_sized, stream_of_pieces, normal_joined, normal_sized}
use Rattle.zarrs_packbits.proofs.FlatChunk.{nf, decoded, FlatStands}
use Rattle.zarrs_packbits.proofs.LayoutLemmas.{chosen}
use Rattle.zarrs_packbits.proofs.Standing.{nf_small, encoded_stands, decoded_stands, stands_decoded}
use Rattle.zarrs_packbits.proofs.Taken.{IsTaken, taken}
use Rattle.zarrs_bytes.proofs.PartWrites.{sized_elements}

-- ---- a chunk and its elements' bytes, joined

abbrev pub element_bytes : Element → List ℕ
element_bytes (plain items) = items
element_bytes element = []

abbrev pub joined : Chunk → List ℕ
joined chunk = concat (map element_bytes chunk)

pub joined_plain : (parts : List (List ℕ)) → joined (map plain parts) ≡ concat parts
joined_plain [] = refl
joined_plain (part ∷ parts) = ap (λ (l : List ℕ). part ++ l) (joined_plain parts)

-- the pieces of these bytes, as elements
abbrev pub cut : PackedLayout → List ℕ → Chunk
cut l items = map plain (pieces (l.group * l.size) l.elements items)

pub joined_cut : (l : PackedLayout) (items : List ℕ) → length items ≡ layout_components l * l.size → joined (cut l items) ≡ items
joined_cut l items e =
    joined_plain (pieces (l.group * l.size) l.elements items)
    ∙ concat-pieces (l.group * l.size) l.elements items (e ∙ (let d : layout_components l * l.size ≡ l.elements * (l.group * l.size) = omega arith in d))

-- a chunk of the layout's elements is the pieces of its bytes
pub record IsCut (l : PackedLayout) (chunk : Chunk) : Type 0 where
  pub long : length (joined chunk) ≡ layout_components l * l.size
  pub are : chunk ≡ cut l (joined chunk)

pub is_cut : (l : PackedLayout) (n width components : ℕ) (sign : Bool) (chunk : Chunk) → IsChunk (fixed width components sign) n chunk → element_size width components ≡ l.group * l.size → l.elements ≡ n → IsCut l chunk
is_cut l n width components sign chunk h size count =
    let p = pieces_of width components sign chunk h.each in
    let sized : AllSized (l.group * l.size) p.parts = subst (λ k. AllSized k p.parts) size p.sized in
    let number : length p.parts ≡ l.elements = sym (length-map p.parts plain) ∙ sym (ap length p.are) ∙ h.count_is ∙ sym count in
    let flat : joined chunk ≡ concat p.parts = ap joined p.are ∙ joined_plain p.parts in
    record {
      long = ap length flat ∙ length-concat (l.group * l.size) p.parts sized ∙ ap (λ k. k * (l.group * l.size)) number ∙ (let d : l.elements * (l.group * l.size) ≡ layout_components l * l.size = omega arith in d);
      are = p.are ∙ ap (map plain) (sym (ap (pieces (l.group * l.size) l.elements) flat ∙ ap (λ k. pieces (l.group * l.size) k (concat p.parts)) (sym number) ∙ pieces-concat (l.group * l.size) p.parts sized));
    }

-- the pieces of so many bytes are a chunk
pub cut_chunk : (l : PackedLayout) (n width components : ℕ) (sign : Bool) (items : List ℕ) → length items ≡ layout_components l * l.size → element_size width components ≡ l.group * l.size → l.elements ≡ n → IsChunk (fixed width components sign) n (cut l items)
cut_chunk l n width components sign items e size count = record {
  count_is = length-map (pieces (l.group * l.size) l.elements items) plain ∙ count-pieces (l.group * l.size) l.elements items ∙ count;
  each = sized_elements width components sign (pieces (l.group * l.size) l.elements items) (subst (λ k. AllSized k (pieces (l.group * l.size) l.elements items)) (sym size) (pieces_sized (l.group * l.size) l.elements items (let d : layout_components l * l.size ≡ l.elements * (l.group * l.size) = omega arith in omega (arith, e))));
}

-- ---- the normal form

normal_plain : (settings : PackBitsSettings) (n width components : ℕ) (sign : Bool) (parts : List (List ℕ)) → has_bits settings width ≡ true → normal_chunk settings (fixed width components sign) (map plain parts) ≡ map plain (map (normal_bytes (layout_for settings n width components sign)) parts)
normal_plain settings n width components sign [] h = refl
normal_plain settings n width components sign (part ∷ parts) h =
    let rest = normal_plain settings n width components sign parts h in
    let first : normal_element settings (fixed width components sign) (plain part) ≡ plain (normal_bytes (layout_for settings n width components sign) part) = rw h refl in
    λ i. first i ∷ rest i

-- the normal form of a chunk, of its bytes joined
pub normal_cut : (settings : PackBitsSettings) (sizes : List ℕ) (width components : ℕ) (sign : Bool) (fill items : List ℕ) (l : PackedLayout) → IsTaken settings sizes width components sign fill l → length items ≡ layout_components l * l.size → normal_chunk settings (fixed width components sign) (cut l items) ≡ cut l (nf l items)
normal_cut settings sizes width components sign fill items l t e =
    let size = l.group * l.size in
    let parts = pieces size l.elements items in
    let news = map (normal_bytes l) parts in
    let sized : AllSized size news = normal_sized l items t.sound e in
    let number : length news ≡ l.elements = length-map parts (normal_bytes l) ∙ count-pieces size l.elements items in
    normal_plain settings (product sizes) width components sign parts t.bits
    ∙ ap (λ (k : PackedLayout). map plain (map (normal_bytes k) parts)) (sym t.is)
    ∙ ap (map plain) (sym (ap (pieces size l.elements) (sym (normal_joined l items t.sound e)) ∙ ap (λ k. pieces size k (concat news)) (sym number) ∙ pieces-concat size news sized))

-- ---- values and chunks

pub stream_cut : (l : PackedLayout) (chunk : Chunk) → IsCut l chunk → chunk_stream l chunk ≡ stream_of_bytes l (joined chunk)
stream_cut l chunk h = ap (chunk_stream l) h.are ∙ stream_of_pieces l (joined chunk)

-- a value stands for a chunk as it does for the chunk's bytes
pub flat_stands : (settings : PackBitsSettings) (sizes : List ℕ) (width components : ℕ) (sign : Bool) (fill value : List ℕ) (chunk : Chunk) (h : PackBitsStands settings (form_of sizes (fixed width components sign) fill) value chunk) → FlatStands h.layout value (joined chunk)
flat_stands settings sizes width components sign fill value chunk h =
    let l = h.layout in
    let t = taken settings sizes width components sign fill l h.taken in
    let c = is_cut l (product sizes) width components sign chunk h.elements t.size t.elements in
    let kept : nf l (joined chunk) ≡ joined chunk
    = sym (joined_cut l (nf l (joined chunk)) (nf_long l (joined chunk) t c.long))
    ∙ ap joined (sym (normal_cut settings sizes width components sign fill (joined chunk) l t c.long))
    ∙ ap (λ (k : Chunk). joined (normal_chunk settings (fixed width components sign) k)) (sym c.are)
    ∙ ap joined h.kept in
    record {
      len = h.len;
      padding = h.padding;
      bits = h.bits ∙ stream_cut l chunk c;
      chunk = record { size = c.long; bytes = subst (λ (b : List ℕ). (i : ℕ) → get_or b i 0 < 256) kept (nf_small l (joined chunk)) };
      kept = kept;
    }
  where
    nf_long : (l : PackedLayout) (items : List ℕ) → IsTaken settings sizes width components sign fill l → length items ≡ layout_components l * l.size → length (nf l items) ≡ layout_components l * l.size
    nf_long l items t e = (encoded_stands l items t.sound e).chunk.size

-- and the other way round
pub stands_flat : (settings : PackBitsSettings) (sizes : List ℕ) (width components : ℕ) (sign : Bool) (fill value items : List ℕ) (l : PackedLayout) → packed_layout settings (form_of sizes (fixed width components sign) fill) ≡ Ok l → FlatStands l value items → PackBitsStands settings (form_of sizes (fixed width components sign) fill) value (cut l items)
stands_flat settings sizes width components sign fill value items l e h =
    let t = taken settings sizes width components sign fill l e in
    record {
      layout = l;
      taken = e;
      elements = cut_chunk l (product sizes) width components sign items h.chunk.size t.size t.elements;
      len = h.len;
      padding = h.padding;
      bits = h.bits ∙ sym (stream_of_pieces l items);
      kept = normal_cut settings sizes width components sign fill items l t h.chunk.size ∙ ap (cut l) h.kept;
    }

-- ---- encoding

pub encoded_only : (settings : PackBitsSettings) (sizes : List ℕ) (type : ElementType) (fill value : List ℕ) (held : Held) (chunk : Chunk) → Holds type held chunk → PackBitsWritten settings (form_of sizes type fill) value chunk → packbits_value settings (form_of sizes type fill) held ≡ Ok value
encoded_only settings sizes type fill value held chunk holds written =
    let count = written.elements.count_is in
    let valid : validity type (product sizes) held ≡ Ok tt = ap (λ n. validity type n held) (sym count) ∙ holds.valid in
    let same : elements type (product sizes) held ≡ chunk = ap (λ n. elements type n held) (sym count) ∙ holds.elements_are in
    two_of (packed_layout settings (form_of sizes type fill)) (validity type (product sizes) held) (λ k. value_with k (chunk_stream k (elements type (product sizes) held))) written.layout tt written.taken valid
    ∙ ap (λ (c : Chunk). ok (value_with written.layout (chunk_stream written.layout c))) same
    ∙ ap ok (sym written.spelt)

pub encoded_found : (settings : PackBitsSettings) (sizes : List ℕ) (type : ElementType) (fill value : List ℕ) (held : Held) → packbits_value settings (form_of sizes type fill) held ≡ Ok value → (chunk : Chunk) × Holds type held chunk × PackBitsWritten settings (form_of sizes type fill) value chunk
encoded_found settings sizes (fixed width components sign) fill value (flen raw) e =
    let type = fixed width components sign in
    let size = element_size width components in
    let n = product sizes in
    let a = bind_ok (packed_layout settings (form_of sizes type fill)) _ value e in
    let b = bind_ok (validity type n (flen raw)) _ value a.2 in
    let chunk = elements type n (flen raw) in
    let count : length chunk ≡ n = ap length (elements-pieces width components sign n raw) ∙ length-map (pieces size n raw.items) plain ∙ count-pieces size n raw.items in
    let holds : Holds type (flen raw) chunk = record {
      valid = ap (λ k. validity type k (flen raw)) count ∙ b.1;
      elements_are = ap (λ k. elements type k (flen raw)) count;
    } in (
      chunk,
      holds,
      record {
        layout = a.0;
        taken = a.1;
        elements = record { count_is = count; each = AreElements-held type (flen raw) chunk holds };
        spelt = bytes_are (value_with a.0 (chunk_stream a.0 chunk)) value b.2;
      },
    )
encoded_found settings sizes (fixed width components sign) fill value (vlen raw offsets) e =
    let a = bind_ok (packed_layout settings (form_of sizes (fixed width components sign) fill)) _ value e in
    let b = bind_ok (validity (fixed width components sign) (product sizes) (vlen raw offsets)) _ value a.2 in
    let v = bind_ok (demand (nat_lt (product sizes * element_size width components) (2 ^ 64)) Overflow) _ tt b.1 in
    absurd (let w = v.2 in cc)
encoded_found settings sizes (fixed width components sign) fill value (masked inner mask) e =
    let a = bind_ok (packed_layout settings (form_of sizes (fixed width components sign) fill)) _ value e in
    let b = bind_ok (validity (fixed width components sign) (product sizes) (masked inner mask)) _ value a.2 in
    let v = bind_ok (demand (nat_lt (product sizes * element_size width components) (2 ^ 64)) Overflow) _ tt b.1 in
    absurd (let w = v.2 in cc)
encoded_found settings sizes text fill value held e = absurd cc
encoded_found settings sizes bytes fill value held e = absurd cc
encoded_found settings sizes (optional type) fill value held e = absurd cc

-- ---- decoding

-- the elements of a value are the pieces of their bytes
elements_cut : (settings : PackBitsSettings) (sizes : List ℕ) (width components : ℕ) (sign : Bool) (fill value : List ℕ) (l : PackedLayout) → IsTaken settings sizes width components sign fill l → length value ≡ value_len l
    → map (packed_element l value) (range_with_len 0 (product sizes)) ≡ cut l (packing (flat_map (element_bits l value) (range_with_len 0 l.elements)))
elements_cut settings sizes width components sign fill value l t long =
    let size = l.group * l.size in
    let places = range_with_len 0 l.elements in
    let f : ℕ → List ℕ = λ p. packing (element_bits l value p) in
    let all = all_places l value t.sound long in
    let parts = map f places in
    let number : length parts ≡ l.elements = length-map places f ∙ length-range l.elements 0 in
    ap (λ n. map (packed_element l value) (range_with_len 0 n)) (sym t.elements)
    ∙ sym (map-map plain f places)
    ∙ ap (map plain) (sym (ap (pieces size l.elements) (sym (packed_joined size (element_bits l value) places all)) ∙ ap (λ k. pieces size k (concat parts)) (sym number) ∙ pieces-concat size parts (packed_sized size (element_bits l value) places all)))
  where
    length-range : (n s : ℕ) → length (range_with_len s n) ≡ n
    length-range zero s = refl
    length-range (suc n) s = ap suc (length-range n (s + 1))

pub decoded_found : (settings : PackBitsSettings) (sizes : List ℕ) (type : ElementType) (fill value : List ℕ) (chunk : Chunk) → packbits_chunk settings (form_of sizes type fill) value ≡ Ok chunk → PackBitsStands settings (form_of sizes type fill) value chunk
decoded_found settings sizes (fixed width components sign) fill value chunk e =
    let type = fixed width components sign in
    let a = bind_ok (packed_layout settings (form_of sizes type fill)) _ chunk e in
    let l = a.0 in
    let b = bind_ok (demand (length value == value_len l) (InvalidBytesLength (length value) (value_len l))) _ chunk a.2 in
    let c = bind_ok (demand (padding_holds l value) PaddingByte) _ chunk b.2 in
    let test = demand_ok (length value == value_len l) (InvalidBytesLength (length value) (value_len l)) b.0 b.1 in
    let long : length value ≡ value_len l = grind (arith, nat_tests) in
    let pad = demand_ok (padding_holds l value) PaddingByte c.0 c.1 in
    let t = taken settings sizes width components sign fill l a.1 in
    let items = packing (flat_map (element_bits l value) (range_with_len 0 l.elements)) in
    let is : chunk ≡ cut l items = chunk_are _ chunk c.2 ∙ elements_cut settings sizes width components sign fill value l t long in
    let flat : decoded l value ≡ Ok items = chosen (length value) (value_len l) (padding_holds l value) _ long pad ∙ ap (λ (bits : List ℕ). ok (packing bits)) (all_components l value) in
    subst (PackBitsStands settings (form_of sizes type fill) value) (sym is) (stands_flat settings sizes width components sign fill value items l a.1 (decoded_stands l value items t.sound flat))
decoded_found settings sizes text fill value chunk e = absurd cc
decoded_found settings sizes bytes fill value chunk e = absurd cc
decoded_found settings sizes (optional type) fill value chunk e = absurd cc

three_of : {A B : Type 0} (r : Result A CodecError) (test other : A → Bool) (cause : A → CodecError) (f : A → B) (x : A) → r ≡ Ok x → test x ≡ true → other x ≡ true → (r >>= λ a. demand (test a) (cause a) >>= λ _. demand (other a) PaddingByte >>= λ _. ok (f a)) ≡ ok (f x)
three_of (Ok a) test other cause f x e t u =
    let same : a ≡ x = inside a x e in
    let first : test a ≡ true = ap test same ∙ t in
    let second : other a ≡ true = ap other same ∙ u in
    rw (first, second) (ap (λ z. ok (f z)) same)
  where
    inside : {A : Type 0} (a x : A) → ok a ≡ ok x → a ≡ x
    inside a x e = cc
three_of (Err d) test other cause f x e t u = absurd cc

pub decoded_only : (settings : PackBitsSettings) (sizes : List ℕ) (type : ElementType) (fill value : List ℕ) (chunk : Chunk) → PackBitsStands settings (form_of sizes type fill) value chunk → packbits_chunk settings (form_of sizes type fill) value ≡ Ok chunk
decoded_only settings sizes (fixed width components sign) fill value chunk h =
    let type = fixed width components sign in
    let l = h.layout in
    let t = taken settings sizes width components sign fill l h.taken in
    let c = is_cut l (product sizes) width components sign chunk h.elements t.size t.elements in
    let passed : (length value == value_len l) ≡ true = (let long = h.len in grind (arith, nat_tests)) in
    let items = packing (flat_map (element_bits l value) (range_with_len 0 l.elements)) in
    let flat : decoded l value ≡ Ok items = chosen (length value) (value_len l) (padding_holds l value) _ h.len h.padding ∙ ap (λ (bits : List ℕ). ok (packing bits)) (all_components l value) in
    let same : items ≡ joined chunk = bytes_same items (joined chunk) (sym flat ∙ stands_decoded l value (joined chunk) t.sound (flat_stands settings sizes width components sign fill value chunk h)) in
    three_of (packed_layout settings (form_of sizes type fill)) (λ k. length value == value_len k) (λ k. padding_holds k value) (λ k. InvalidBytesLength (length value) (value_len k)) (λ k. map (packed_element k value) (range_with_len 0 (product sizes))) l h.taken passed h.padding
    ∙ ap ok (elements_cut settings sizes width components sign fill value l t h.len ∙ ap (cut l) same ∙ sym c.are)
  where
    bytes_same : (x y : List ℕ) → ok x ≡ ok y → x ≡ y
    bytes_same x y e = cc
decoded_only settings sizes text fill value chunk h = absurd (let e = h.taken in cc)
decoded_only settings sizes bytes fill value chunk h = absurd (let e = h.taken in cc)
decoded_only settings sizes (optional type) fill value chunk h = absurd (let e = h.taken in cc)
