-- Where all bits of whole bytes are kept, reads in part are those of the codec `bytes` in little order.
use Rattle.zarrs_data_type.specs.Form.{form_of}
use Rattle.std.proofs.Common.{◌≡◌, ℕ, ◌+◌, ◌-◌, ◌*◌, ◌<◌, ◌≤◌, ◌^◌, ◌==◌, ◌&&◌, Bool, true, false, nat_lt, nat_le, Option, Some, None, Result, Ok, Err, List, [], ◌∷◌, ◌++◌, length, map, take, drop, get_or, arith, refl, ap, ap₂, sym, ◌∙◌, subst}
use Rattle.std.specs.List.{concat, flat_map, list_all, range_with_len}
use Rattle.std.specs.Prelude.{IfOk, IsOkAnd}
use Rattle.std.proofs.lemmas.Bool.Decides.{nat_tests}
use Rattle.std.proofs.lemmas.List.{length-drop}
use Rattle.std.proofs.lemmas.List.Concat.{flat_map-append}
use Rattle.std.proofs.lemmas.List.Folds.{list_all-append}
use Rattle.zarrs_chunk.specs.Answer.{◌>>=◌, demand, AnswersBy, memory_or_fault}
use Rattle.zarrs_chunk.specs.declared.codec_error.CodecError.{CodecError}
use Rattle.zarrs_chunk.specs.declared.codec_error.CodecError.TheVariants.{InvalidBytesLength, InvalidByteRange, Overflow}
use Rattle.zarrs_data_type.specs.Element.{Chunk}
use Rattle.zarrs_data_type.specs.ElementType.{ElementType, fixed, text, bytes, optional, element_size}
use Rattle.zarrs_data_type.specs.declared.endianness.Endianness.TheVariants.{Little}
use Rattle.zarrs_array_bytes.specs.Elements.{piece}
use Rattle.zarrs_array_bytes.specs.Held.{Held, Raw, flen, vlen, masked}
use Rattle.zarrs_array_bytes.specs.Pieces.{pieces}
use Rattle.zarrs_array_bytes.specs.Validity.{Holds}
use Rattle.zarrs_array_bytes.proofs.Pieces.{elements-pieces, concat-pieces}
use Rattle.zarrs_array_bytes.proofs.RunLemmas.{piece_is}
use Rattle.zarrs_bytes.specs.BytesCodec.{bytes_element}
use Rattle.zarrs_bytes.specs.PartialRead.{has_place, place_bytes, place_size, read_places}
use Rattle.zarrs_bytes.proofs.Coding.{bind_ok, demand_ok, ok}
use Rattle.zarrs_packbits.specs.Bits.{low_bits, bits_of, field}
use Rattle.zarrs_packbits.specs.BitStream.{element_bits, packed_element}
use Rattle.zarrs_packbits.specs.declared.layout.PackedLayout.{PackedLayout}
use Rattle.zarrs_packbits.specs.PackBitsSettings.{PackBitsSettings, packed_layout}
use Rattle.zarrs_packbits.specs.PackedLayout.{IsPackedLayout, is_whole, element_bits_len}
use Rattle.zarrs_packbits.specs.Packing.{packing}
use Rattle.zarrs_packbits.specs.PaddingByte.{lead, padding_bytes_before}
use Rattle.zarrs_metadata.specs.declared.codec.packbits.PackBitsPaddingEncoding.{PackBitsPaddingEncoding}
use Rattle.zarrs_codec.specs.StorageState.{are_sure}
use Rattle.zarrs_packbits.specs.PartialRead.{all_below, bytes_of_places, packed_place_bytes, packed_places_bytes, read_packed_places, read_places_of, run_end, run_start}
use Rattle.zarrs_packbits.proofs.CodecLaws.{read_at}
use Rattle.zarrs_packbits.proofs.ElementBits.{places_hold}
use Rattle.zarrs_packbits.proofs.Exact.{joined, joined_plain}
use Rattle.zarrs_packbits.proofs.FieldLemmas.{packed_bytes}
use Rattle.zarrs_packbits.proofs.LayoutLemmas.{whole_restored}
use Rattle.zarrs_packbits.proofs.LocalLemmas.{whole_element, whole_start, whole_end}
use Rattle.zarrs_packbits.proofs.LowBits.{bits_of-drop, bits_of-take}
use Rattle.zarrs_packbits.proofs.PartReads.{all_read}
use Rattle.zarrs_packbits.proofs.RunLemmas.{place_end}
use Rattle.zarrs_packbits.proofs.Taken.{taken}
use Rattle.zarrs_codec.proofs.Fences.{second_true, first_true}
use Rattle.zarrs_chunk.proofs.Inside.{from_le_test}

-- ---- the bytes of places

pub whole_places : (l : PackedLayout) (places : List ℕ) → IsPackedLayout l → is_whole l ≡ true → packed_places_bytes l places ≡ place_bytes (l.group * l.size) places
whole_places l [] s h = refl
whole_places l (p ∷ ps) s h =
    let size = l.group * l.size in
    let first : run_start l (p, 1) ≡ p * size = sym (whole_start l p s h) in
    let len : run_end l (p, 1) - run_start l (p, 1) ≡ size = (let e = whole_start l p s h in let f = whole_end l p s h in omega arith) in
    ap₂ (λ (xs ys : List ℕ). xs ++ ys) (ap₂ range_with_len first len) (whole_places l ps s h)

place_tests : (l : PackedLayout) (n size : ℕ) (places : List ℕ) → IsPackedLayout l → is_whole l ≡ true → size ≡ l.group * l.size → all_below n (packed_places_bytes l places) ≡ list_all (λ place. nat_le (place * size + size) n) places
place_tests l n size [] s h is = refl
place_tests l n size (p ∷ ps) s h is =
    let end : run_end l (p, 1) ≡ p * size + size = sym (whole_end l p s h) ∙ ap (λ k. p * k + k) (sym is) in
    list_all-append (λ k. nat_lt k n) (packed_place_bytes l p) (packed_places_bytes l ps)
    ∙ ap₂ (λ (a b : Bool). a && b) (place_end l n p s ∙ ap (λ k. nat_le k n) end) (place_tests l n size ps s h is)

-- ---- their bits

whole_bits_of : (l : PackedLayout) (v : List ℕ) (p : ℕ) → IsPackedLayout l → is_whole l ≡ true → p * (l.group * l.size) + l.group * l.size ≤ length v → element_bits l v p ≡ bits_of (piece (l.group * l.size) v p)
whole_bits_of l v p s h inside =
    let size = l.group * l.size in
    let none : lead l ≡ 0 = ap (λ (padding : PackBitsPaddingEncoding). length (padding_bytes_before padding 0)) (s.bare h) in
    let all : l.group * l.count ≡ 8 * size = whole_element l s h in
    let at : p * element_bits_len l ≡ 8 * (p * size) = ap (λ k. p * k) all ∙ (let d : p * (8 * size) ≡ 8 * (p * size) = omega arith in d) in
    whole_restored l (p * element_bits_len l) l.group (bits_of (drop (lead l) v)) h
    ∙ ap (λ k. field (p * element_bits_len l) (l.group * l.count) (bits_of (drop k v))) none
    ∙ ap₂ (λ a n. field a n (bits_of v)) at all
    ∙ ap (take (8 * size)) (sym (bits_of-drop (p * size) v))
    ∙ sym (bits_of-take size (drop (p * size) v) (omega (arith, length-drop (p * size) v)))
    ∙ ap bits_of (sym (piece_is size p v))

whole_bits_at : (l : PackedLayout) (v places : List ℕ) → IsPackedLayout l → is_whole l ≡ true → list_all (λ place. nat_le (place * (l.group * l.size) + l.group * l.size) (length v)) places ≡ true → flat_map (element_bits l v) places ≡ bits_of (concat (map (piece (l.group * l.size) v) places))
whole_bits_at l v [] s h inside = refl
whole_bits_at l v (p ∷ ps) s h inside =
    let size = l.group * l.size in
    let here : p * size + size ≤ length v = from_le_test _ _ (first_true _ _ inside) in
    ap₂ (λ (xs ys : List ℕ). xs ++ ys) (whole_bits_of l v p s h here) (whole_bits_at l v ps s h (second_true _ _ inside))
    ∙ sym (flat_map-append (low_bits 8) (piece size v p) (concat (map (piece size v) ps)))

-- ---- what a container holds

pub held_flen : (width components : ℕ) (sign : Bool) (held : Held) (chunk : Chunk) → Holds (fixed width components sign) held chunk → (raw : Raw) × (held ≡ flen raw)
held_flen width components sign (flen raw) chunk h = (raw, refl)
held_flen width components sign (vlen raw offsets) chunk h =
    let v = bind_ok (demand (nat_lt (length chunk * element_size width components) (2 ^ 64)) Overflow) _ tt h.valid in
    absurd (let w = v.2 in cc)
held_flen width components sign (masked inner mask) chunk h =
    let v = bind_ok (demand (nat_lt (length chunk * element_size width components) (2 ^ 64)) Overflow) _ tt h.valid in
    absurd (let w = v.2 in cc)

held_bytes : (width components : ℕ) (sign : Bool) (raw : Raw) (chunk : Chunk) → Holds (fixed width components sign) (flen raw) chunk → (raw.items ≡ joined chunk) × (length raw.items < 2 ^ 64)
held_bytes width components sign raw chunk h =
    let size = element_size width components in
    let n = length chunk in
    let a = bind_ok (demand (nat_lt (n * size) (2 ^ 64)) Overflow) _ tt h.valid in
    let fits = demand_ok (nat_lt (n * size) (2 ^ 64)) Overflow a.0 a.1 in
    let test = demand_ok (length raw.items == n * size) (InvalidBytesLength (length raw.items) (n * size)) tt a.2 in
    let long : length raw.items ≡ n * size = grind (arith, nat_tests) in
    let small : n * size < 2 ^ 64 = grind (arith, nat_tests) in (
      sym (ap joined (sym h.elements_are ∙ elements-pieces width components sign n raw) ∙ joined_plain (pieces size n raw.items) ∙ concat-pieces size n raw.items long),
      omega arith,
    )

read_pieces : (width components : ℕ) (sign : Bool) (v places : List ℕ) → joined (map (bytes_element (Some Little) (fixed width components sign) v) places) ≡ concat (map (piece (element_size width components) v) places)
read_pieces width components sign v [] = refl
read_pieces width components sign v (p ∷ ps) = ap (λ (xs : List ℕ). piece (element_size width components) v p ++ xs) (read_pieces width components sign v ps)

-- ---- reads

inside_and : (test : Bool) (chunk : Chunk) (P : Chunk → Type 0) → IsOkAnd (demand test InvalidByteRange >>= λ _. ok chunk) P → (test ≡ true) × P chunk
inside_and true chunk P h = (refl, h)
inside_and false chunk P h = absurd h

inside_if : (test : Bool) (chunk : Chunk) (P : Chunk → Type 0) → test ≡ true → P chunk → IsOkAnd (demand test InvalidByteRange >>= λ _. ok chunk) P
inside_if test chunk P e h = rw e h

refused_alike : (test other : Bool) (chunk another : Chunk) (cause : CodecError) → other ≡ test → (demand test InvalidByteRange >>= λ _. ok chunk) ≡ Err cause → (demand other InvalidByteRange >>= λ _. ok another) ≡ Err cause
refused_alike true other chunk another cause e h = absurd cc
refused_alike false other chunk another cause e h = rw e cc

-- what `bytes` reads of the places
whole_found : (settings : PackBitsSettings) (sizes : List ℕ) (type : ElementType) (fill places : List ℕ) (stored : Option (List ℕ)) (l : PackedLayout) (held : Held) → packed_layout settings (form_of sizes type fill) ≡ Ok l → is_whole l ≡ true → ((raw : Raw) → held ≡ flen raw → (i : ℕ) → get_or raw.items i 0 < 256)
    → IsOkAnd (read_places (Some Little) type fill stored places) (Holds type held) → IsOkAnd (read_packed_places l type fill stored places) (Holds type held)
whole_found settings sizes (fixed width components sign) fill places None l held e h small read = read
whole_found settings sizes (fixed width components sign) fill places (Some v) l held e h small read =
    let type = fixed width components sign in
    let size = l.group * l.size in
    let t = taken settings sizes width components sign fill l e in
    let both = inside_and (list_all (has_place type v) places) (map (bytes_element (Some Little) type v) places) (Holds type held) read in
    let tests = place_tests l (length v) (element_size width components) places t.sound h t.size in
    let inside : all_below (length v) (packed_places_bytes l places) ≡ true = tests ∙ both.0 in
    let within : list_all (λ place. nat_le (place * size + size) (length v)) places ≡ true = sym (place_tests l (length v) size places t.sound h refl) ∙ inside in
    let raw = held_flen width components sign held _ both.1 in
    let holds = subst (λ (held : Held). Holds type held (map (bytes_element (Some Little) type v) places)) raw.1 both.1 in
    let is = held_bytes width components sign raw.0 _ holds in
    let items : raw.0.items ≡ concat (map (piece size v) places) = is.0 ∙ read_pieces width components sign v places ∙ ap (λ k. concat (map (piece k v) places)) t.size in
    let packed : raw.0.items ≡ packing (flat_map (element_bits l v) places) = sym (packed_bytes raw.0.items (small raw.0 raw.1)) ∙ ap (λ (b : List ℕ). packing (bits_of b)) items ∙ ap packing (sym (whole_bits_at l v places t.sound h within)) in
    inside_if (all_below (length v) (packed_places_bytes l places)) (map (packed_element l v) places) (Holds type held) inside
    (subst (λ (held : Held). Holds type held (map (packed_element l v) places)) (sym raw.1) (places_hold l v places width components sign raw.0 t.size (all_read l v places t.sound inside) packed is.1))
whole_found settings sizes text fill places stored l held e h small read = absurd cc
whole_found settings sizes bytes fill places stored l held e h small read = absurd cc
whole_found settings sizes (optional type) fill places stored l held e h small read = absurd cc

-- what it fails to read
whole_not_found : (settings : PackBitsSettings) (sizes : List ℕ) (type : ElementType) (fill places : List ℕ) (stored : Option (List ℕ)) (l : PackedLayout) (cause : CodecError) → packed_layout settings (form_of sizes type fill) ≡ Ok l → is_whole l ≡ true → read_places (Some Little) type fill stored places ≡ Err cause → read_packed_places l type fill stored places ≡ Err cause
whole_not_found settings sizes (fixed width components sign) fill places None l cause e h read = absurd cc
whole_not_found settings sizes (fixed width components sign) fill places (Some v) l cause e h read =
    let t = taken settings sizes width components sign fill l e in
    refused_alike (list_all (has_place (fixed width components sign) v) places) (all_below (length v) (packed_places_bytes l places)) _ (map (packed_element l v) places) cause (place_tests l (length v) (element_size width components) places t.sound h t.size) read
whole_not_found settings sizes text fill places stored l cause e h read = absurd cc
whole_not_found settings sizes bytes fill places stored l cause e h read = absurd cc
whole_not_found settings sizes (optional type) fill places stored l cause e h read = absurd cc

-- its answer
pub whole_read : (settings : PackBitsSettings) (sizes : List ℕ) (type : ElementType) (fill places : List ℕ) (stored : Option (List ℕ)) (l : PackedLayout) (r : Result Held CodecError) → packed_layout settings (form_of sizes type fill) ≡ Ok l → is_whole l ≡ true → IfOk r (λ held. (raw : Raw) → held ≡ flen raw → (i : ℕ) → get_or raw.items i 0 < 256)
    → AnswersBy memory_or_fault (Holds type) r (read_places (Some Little) type fill stored places) → AnswersBy memory_or_fault (Holds type) r (read_places_of settings (form_of sizes type fill) stored places)
whole_read settings sizes type fill places stored l (Ok held) e h small read =
    rw (read_at (packed_layout settings (form_of sizes type fill)) l (λ k. read_packed_places k type fill stored places) e) (whole_found settings sizes type fill places stored l held e h small read)
whole_read settings sizes type fill places stored l (Err cause) e h small read =
    λ not. read_at (packed_layout settings (form_of sizes type fill)) l (λ k. read_packed_places k type fill stored places) e ∙ whole_not_found settings sizes type fill places stored l cause e h (read not)

numbers_at : {A : Type 0} (r : Result PackedLayout CodecError) (l : PackedLayout) (f : PackedLayout → A) → r ≡ Ok l → (r >>= λ k. Ok (f k)) ≡ ok (f l)
numbers_at r l f e = rw e refl

-- what holds where the bytes that `bytes` reads are sure holds where those of the places are
pub whole_sure : (settings : PackBitsSettings) (sizes : List ℕ) (type : ElementType) (fill places : List ℕ) (sure : Option (ℕ → Bool)) (P : Type 0) (l : PackedLayout) → packed_layout settings (form_of sizes type fill) ≡ Ok l → is_whole l ≡ true → (are_sure sure (place_bytes (place_size type) places) ≡ true → P)
    → IfOk (bytes_of_places settings (form_of sizes type fill) places) (λ numbers. are_sure sure numbers ≡ true → P)
whole_sure settings sizes (fixed width components sign) fill places sure P l e h holds =
    let t = taken settings sizes width components sign fill l e in
    rw (numbers_at (packed_layout settings (form_of sizes (fixed width components sign) fill)) l (λ k. packed_places_bytes k places) e) (λ given.
    holds (ap (λ k. are_sure sure (place_bytes k places)) t.size ∙ ap (are_sure sure) (sym (whole_places l places t.sound h)) ∙ given))
whole_sure settings sizes text fill places sure P l e h holds = absurd cc
whole_sure settings sizes bytes fill places sure P l e h holds = absurd cc
whole_sure settings sizes (optional type) fill places sure P l e h holds = absurd cc
