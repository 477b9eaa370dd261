-- The laws of the codec.
use Rattle.zarrs_data_type.specs.Form.{form_of}
use Rattle.std.proofs.Common.{◌≡◌, ◌==◌, ℕ, zero, suc, ◌+◌, ◌-◌, ◌*◌, ◌%◌, ◌<◌, ◌≤◌, ◌&&◌, Bool, true, false, nat_lt, Some, Result, Ok, List, [], ◌∷◌, length, map, get_or, arith, refl, ap, sym, ◌∙◌, subst, if◌then◌else◌, set}
use Rattle.std.specs.List.{All, range_with_len}
use Rattle.std.proofs.lemmas.Bool.Decides.{nat_tests}
use Rattle.std.proofs.lemmas.List.Elements.{All-head, All-tail}
use Rattle.zarrs_chunk.specs.Answer.{◌>>=◌, demand, seen}
use Rattle.zarrs_chunk.specs.ChunkShape.{product}
use Rattle.zarrs_chunk.specs.declared.codec_error.CodecError.{CodecError}
use Rattle.zarrs_chunk.specs.declared.codec_error.CodecError.TheVariants.{InvalidBytesLength, PaddingByte}
use Rattle.zarrs_data_type.specs.Element.{Element, plain, absent, Chunk}
use Rattle.zarrs_data_type.specs.ElementType.{ElementType, fixed, text, bytes, optional}
use Rattle.zarrs_array_bytes.specs.Elements.{select}
use Rattle.zarrs_array_bytes.specs.Update.{update}
use Rattle.zarrs_bytes.proofs.Coding.{bind_ok, ok, number_is}
use Rattle.zarrs_codec.specs.ByteRanges.{SameByte}
use Rattle.zarrs_packbits.specs.Bits.{bits_of}
use Rattle.zarrs_packbits.specs.BitStream.{chunk_stream, components_from, element_bits, packed_element, bytes_packed}
use Rattle.zarrs_packbits.specs.declared.layout.PackedLayout.{PackedLayout}
use Rattle.zarrs_packbits.specs.Laws as laws
use Rattle.zarrs_packbits.specs.NormalForm.{kept_element, normal_element, normal_chunk}
use Rattle.zarrs_packbits.specs.PackBitsCodec.{PackBitsStands, PackBitsWritten}
use Rattle.zarrs_packbits.specs.PackBitsSettings.{PackBitsSettings, packed_layout, has_bits, layout_for}
use Rattle.zarrs_packbits.specs.PackedLayout.{IsPackedLayout, element_bits_len}
use Rattle.zarrs_packbits.specs.PaddingByte.{padding_holds, value_len, value_with}
use Rattle.zarrs_packbits.specs.Packing.{packing}
use Rattle.zarrs_packbits.specs.PartialRead.{packed_place_bytes, packed_places_bytes, all_below, read_packed_places, run_end, run_start}
use Rattle.zarrs_packbits.proofs.Exact.{joined, cut, is_cut, normal_cut, stream_cut, stands_flat, decoded_only}
use Rattle.zarrs_packbits.proofs.FlatChunk.{nf}
use Rattle.zarrs_packbits.proofs.LocalLemmas.{element_of_piece, element_some}
use Rattle.zarrs_packbits.proofs.Standing.{encoded_stands, stream_nf, places_inside}
use Rattle.zarrs_packbits.proofs.ElementBits.{stream_of_pieces}
use Rattle.zarrs_packbits.proofs.Taken.{taken}
use Rattle.zarrs_packbits.proofs.AsBytes.{same_layout}
use Rattle.zarrs_bytes.proofs.CodecLaws.{chunk_is, read_each}
use Rattle.zarrs_bytes.proofs.Alike.{All-first, All-second, same_taken}

-- ---- the normal form

written_flat : (settings : PackBitsSettings) (sizes : List ℕ) (width components : ℕ) (sign : Bool) (fill value : List ℕ) (chunk : Chunk) → PackBitsWritten settings (form_of sizes (fixed width components sign) fill) value chunk → PackBitsStands settings (form_of sizes (fixed width components sign) fill) value (normal_chunk settings (fixed width components sign) chunk)
written_flat settings sizes width components sign fill value chunk w =
    let type = fixed width components sign in
    let l = w.layout in
    let t = taken settings sizes width components sign fill l w.taken in
    let c = is_cut l (product sizes) width components sign chunk w.elements t.size t.elements in
    let flat = encoded_stands l (joined chunk) t.sound c.long in
    let value_is : bytes_packed l (joined chunk) ≡ value = sym (w.spelt ∙ ap (value_with l) (stream_cut l chunk c)) in
    let normal : cut l (nf l (joined chunk)) ≡ normal_chunk settings type chunk = sym (ap (normal_chunk settings type) c.are ∙ normal_cut settings sizes width components sign fill (joined chunk) l t c.long) in
    subst (λ (v : List ℕ). PackBitsStands settings (form_of sizes type fill) v (normal_chunk settings type chunk)) value_is
    (subst (PackBitsStands settings (form_of sizes type fill) (bytes_packed l (joined chunk))) normal (stands_flat settings sizes width components sign fill (bytes_packed l (joined chunk)) (nf l (joined chunk)) l w.taken flat))

pub written_stands : laws.PackBitsWrittenStands
written_stands settings sizes (fixed width components sign) fill value chunk w = written_flat settings sizes width components sign fill value chunk w
written_stands settings sizes text fill value chunk w = absurd (let e = w.taken in cc)
written_stands settings sizes bytes fill value chunk w = absurd (let e = w.taken in cc)
written_stands settings sizes (optional type) fill value chunk w = absurd (let e = w.taken in cc)

pub decoded_is_normal : laws.DecodedIsNormal
decoded_is_normal settings sizes type fill value chunk w = decoded_only settings sizes type fill value (normal_chunk settings type chunk) (written_stands settings sizes type fill value chunk w)

pub normal_once : laws.NormalOnce
normal_once settings sizes type fill value chunk w = (written_stands settings sizes type fill value chunk w).kept

pub normal_written : laws.NormalWritten
normal_written settings sizes type fill value chunk w =
    let s = written_stands settings sizes type fill value chunk w in
    let same : s.layout ≡ w.layout = same_layout s.layout w.layout (packed_layout settings (form_of sizes type fill)) s.taken w.taken in
    record {
      layout = w.layout;
      taken = w.taken;
      elements = s.elements;
      spelt = w.spelt ∙ ap (value_with w.layout) (normal_stream settings sizes type fill value chunk w);
    }
  where
    normal_stream : (settings : PackBitsSettings) (sizes : List ℕ) (type : ElementType) (fill value : List ℕ) (chunk : Chunk) (w : PackBitsWritten settings (form_of sizes type fill) value chunk) → chunk_stream w.layout chunk ≡ chunk_stream w.layout (normal_chunk settings type chunk)
    normal_stream settings sizes (fixed width components sign) fill value chunk w =
        let type = fixed width components sign in
        let l = w.layout in
        let t = taken settings sizes width components sign fill l w.taken in
        let c = is_cut l (product sizes) width components sign chunk w.elements t.size t.elements in
        let normal : normal_chunk settings type chunk ≡ cut l (nf l (joined chunk)) = ap (normal_chunk settings type) c.are ∙ normal_cut settings sizes width components sign fill (joined chunk) l t c.long in
        stream_cut l chunk c ∙ sym (stream_nf l (joined chunk) t.sound c.long) ∙ sym (stream_of_pieces l (nf l (joined chunk))) ∙ sym (ap (chunk_stream l) normal)
    normal_stream settings sizes text fill value chunk w = absurd (let e = w.taken in cc)
    normal_stream settings sizes bytes fill value chunk w = absurd (let e = w.taken in cc)
    normal_stream settings sizes (optional type) fill value chunk w = absurd (let e = w.taken in cc)

-- what is done to each element is done to those that are selected
map_select : (f : Element → Element) (chunk : Chunk) (places : List ℕ) → f absent ≡ absent → map f (select chunk places) ≡ select (map f chunk) places
map_select f chunk [] h = refl
map_select f chunk (p ∷ ps) h = λ i. one chunk p i ∷ map_select f chunk ps h i
  where
    one : (chunk : Chunk) (p : ℕ) → f (get_or chunk p absent) ≡ get_or (map f chunk) p absent
    one [] p = h
    one (c ∷ chunk) zero = refl
    one (c ∷ chunk) (suc p) = one chunk p

pub map_set : (f : Element → Element) (chunk : Chunk) (p : ℕ) (c : Element) → map f (set chunk p c) ≡ set (map f chunk) p (f c)
map_set f [] p c = refl
map_set f (x ∷ chunk) zero c = refl
map_set f (x ∷ chunk) (suc p) c = ap (λ (k : Chunk). f x ∷ k) (map_set f chunk p c)

map_update : (f : Element → Element) (chunk : Chunk) (places : List ℕ) (new : Chunk) → map f (update chunk places new) ≡ update (map f chunk) places (map f new)
map_update f chunk [] new = refl
map_update f chunk (p ∷ ps) [] = refl
map_update f chunk (p ∷ ps) (c ∷ new) = map_update f (set chunk p c) ps new ∙ ap (λ (k : Chunk). update k ps (map f new)) (map_set f chunk p c)

if_same : (b : Bool) (x y : Element) → x ≡ y → (if b then x else y) ≡ y
if_same true x y e = e
if_same false x y e = refl

pub normal_absent : (settings : PackBitsSettings) (type : ElementType) → normal_element settings type absent ≡ absent
normal_absent settings (fixed width components sign) = if_same (has_bits settings width) (kept_element (layout_for settings 1 width components sign) absent) absent refl
normal_absent settings text = refl
normal_absent settings bytes = refl
normal_absent settings (optional type) = refl

pub normal_selected : laws.NormalSelected
normal_selected settings type chunk places = map_select (normal_element settings type) chunk places (normal_absent settings type)

pub normal_updated : laws.NormalUpdated
normal_updated settings type chunk places new = map_update (normal_element settings type) chunk places new

-- ---- values

pub stands_for_one : laws.PackBitsStandsForOne
stands_for_one settings sizes type fill value chunk other one two =
    chunk_is chunk other (sym (decoded_only settings sizes type fill value chunk one) ∙ decoded_only settings sizes type fill value other two)

pub written_alike : laws.PackBitsWrittenAlike
written_alike settings sizes type fill value other_value chunk other one two = (
  λ e. stands_for_one settings sizes type fill value (normal_chunk settings type chunk) (normal_chunk settings type other) (written_stands settings sizes type fill value chunk one) (subst (λ (v : List ℕ). PackBitsStands settings (form_of sizes type fill) v (normal_chunk settings type other)) (sym e) (written_stands settings sizes type fill other_value other two)),
  λ e.
      let a = normal_written settings sizes type fill value chunk one in
      let b = normal_written settings sizes type fill other_value other two in
      let same : a.layout ≡ b.layout = same_layout a.layout b.layout (packed_layout settings (form_of sizes type fill)) a.taken b.taken in
      a.spelt ∙ ap (λ (k : PackedLayout). value_with k (chunk_stream k (normal_chunk settings type chunk))) same ∙ ap (λ (c : Chunk). value_with b.layout (chunk_stream b.layout c)) e ∙ sym b.spelt,
)

pub has_represented_length : laws.PackBitsHasRepresentedLength
has_represented_length settings sizes type fill value chunk len w e =
    let s = written_stands settings sizes type fill value chunk w in
    s.len ∙ number_is (value_len s.layout) len (sym (ap (seen value_len) s.taken) ∙ e)

-- ---- reading

below_tests : (n : ℕ) (places : List ℕ) → All (λ place. place < n) places → all_below n places ≡ true
below_tests n [] h = refl
below_tests n (p ∷ ps) h =
    let lt : p < n = h 0 p (omega arith) in
    let test : nat_lt p n ≡ true = grind (arith, nat_tests) in
    ap (λ (b : Bool). b && all_below n ps) test ∙ below_tests n ps (λ k d l. h (suc k) d (omega arith))

pub read_at : (r : Result PackedLayout CodecError) (l : PackedLayout) (f : PackedLayout → Result Chunk CodecError) → r ≡ Ok l → (r >>= f) ≡ f l
read_at r l f e = rw e refl

pub read_selects : laws.PackBitsReadSelects
read_selects settings sizes (fixed width components sign) fill value chunk places stands h =
    let type = fixed width components sign in
    let l = stands.layout in
    let n = product sizes in
    let t = taken settings sizes width components sign fill l stands.taken in
    let all = decoded_only settings sizes type fill value chunk stands in
    let a = bind_ok (packed_layout settings (form_of sizes type fill)) _ chunk all in
    let b = bind_ok (demand (length value == value_len a.0) (InvalidBytesLength (length value) (value_len a.0))) _ chunk a.2 in
    let c = bind_ok (demand (padding_holds a.0 value) PaddingByte) _ chunk b.2 in
    let same : a.0 ≡ l = same_layout a.0 l (packed_layout settings (form_of sizes type fill)) a.1 stands.taken in
    let is : map (packed_element l value) (range_with_len 0 n) ≡ chunk = ap (λ (k : PackedLayout). map (packed_element k value) (range_with_len 0 n)) (sym same) ∙ chunk_is _ chunk c.2 in
    let below : All (λ place. place < n) places = subst (λ k. All (λ place. place < k) places) stands.elements.count_is h in
    let tests : all_below l.elements places ≡ true = ap (λ k. all_below k places) t.elements ∙ below_tests n places below in
    let inside : all_below (length value) (packed_places_bytes l places) ≡ true = ap (λ k. all_below k (packed_places_bytes l places)) stands.len ∙ places_inside l places tests in
    let read : map (packed_element l value) places ≡ select chunk places = read_each (packed_element l value) n places below ∙ ap (λ (k : Chunk). select k places) is in
    read_at (packed_layout settings (form_of sizes type fill)) l (λ k. read_packed_places k type fill (Some value) places) stands.taken ∙ rw inside (ap ok read)
read_selects settings sizes text fill value chunk places stands h = absurd (let e = stands.taken in cc)
read_selects settings sizes bytes fill value chunk places stands h = absurd (let e = stands.taken in cc)
read_selects settings sizes (optional type) fill value chunk places stands h = absurd (let e = stands.taken in cc)

reaches : (value other : List ℕ) (start len : ℕ) → All (SameByte value other) (range_with_len start (suc len)) → (start + suc len ≤ length value) × (start + suc len ≤ length other)
reaches value other start zero h =
    let one : SameByte value other start = All-head (SameByte value other) start (range_with_len (start + 1) 0) h in (omega (arith, one.in_value), omega (arith, one.in_other))
reaches value other start (suc len) h =
    let rest = reaches value other (start + 1) len (All-tail (SameByte value other) start (range_with_len (start + 1) (suc len)) h) in (omega (arith, rest.0), omega (arith, rest.1))

all_same : (value other ns : List ℕ) → All (SameByte value other) ns → (all_below (length value) ns ≡ true) × (all_below (length other) ns ≡ true)
all_same value other [] h = (refl, refl)
all_same value other (n ∷ ns) h =
    let one : SameByte value other n = All-head (SameByte value other) n ns h in
    let rest = all_same value other ns (All-tail (SameByte value other) n ns h) in
    let a : nat_lt n (length value) ≡ true = (let e = one.in_value in grind (arith, nat_tests)) in
    let b : nat_lt n (length other) ≡ true = (let e = one.in_other in grind (arith, nat_tests)) in (
      ap (λ (x : Bool). x && all_below (length value) ns) a ∙ rest.0,
      ap (λ (x : Bool). x && all_below (length other) ns) b ∙ rest.1,
    )

same_element : (l : PackedLayout) (value other : List ℕ) (p : ℕ) → IsPackedLayout l → All (SameByte value other) (packed_place_bytes l p) → element_bits l value p ≡ element_bits l other p
same_element l value other p s h =
    let next : (p + 1) * element_bits_len l ≡ p * element_bits_len l + element_bits_len l = omega arith in
    let some : run_start l (p, 1) < run_end l (p, 1) = omega (arith, element_some l s) in
    let len = run_end l (p, 1) - run_start l (p, 1) in
    let one : len ≡ suc (len - 1) = omega arith in
    let ends = reaches value other (run_start l (p, 1)) (len - 1) (subst (λ k. All (SameByte value other) (range_with_len (run_start l (p, 1)) k)) one h) in
    sym (element_of_piece l value p (omega (arith, ends.0)) (omega arith))
    ∙ ap (λ (b : List ℕ). components_from l (p * element_bits_len l % 8) l.group (bits_of b)) (same_taken value other (run_start l (p, 1)) len h)
    ∙ element_of_piece l other p (omega (arith, ends.1)) (omega arith)

same_elements : (l : PackedLayout) (value other places : List ℕ) → IsPackedLayout l → All (SameByte value other) (packed_places_bytes l places) → map (packed_element l value) places ≡ map (packed_element l other) places
same_elements l value other [] s h = refl
same_elements l value other (p ∷ ps) s h =
    let one = ap (λ (b : List ℕ). plain (packing b)) (same_element l value other p s (All-first (SameByte value other) (packed_place_bytes l p) (packed_places_bytes l ps) h)) in
    λ i. one i ∷ same_elements l value other ps s (All-second (SameByte value other) (packed_place_bytes l p) (packed_places_bytes l ps) h) i

pub reads_alike : laws.PackBitsReadsAlike
reads_alike settings sizes (fixed width components sign) fill l value other places e h =
    let t = taken settings sizes width components sign fill l e in
    let both = all_same value other (packed_places_bytes l places) h in
    rw (both.0, both.1) (ap ok (same_elements l value other places t.sound h))
reads_alike settings sizes text fill l value other places e h = absurd cc
reads_alike settings sizes bytes fill l value other places e h = absurd cc
reads_alike settings sizes (optional type) fill l value other places e h = absurd cc
