-- Whether a codec `packbits` gives elements back unchanged.
use Rattle.zarrs_data_type.specs.Form.{form_of}
use Rattle.std.proofs.Common.{◌≡◌, ℕ, zero, suc, ◌+◌, ◌*◌, ◌<◌, ◌^◌, nat_eq, ◌&&◌, Bool, true, List, [], ◌∷◌, length, map, take, drop, Some, Result, Ok, Err, IsOk, arith, refl, ap, sym, subst, ◌∙◌}
use Rattle.std.specs.Cmp.Lexicographic.{pointwise}
use Rattle.std.proofs.lemmas.List.{take-append-drop, length-drop, length-take, length-map, nil_from_length}
use Rattle.zarrs_chunk.specs.Answer.{Answers, AnswersBy, memory, seen}
use Rattle.zarrs_chunk.specs.ChunkShape.{product}
use Rattle.zarrs_chunk.specs.declared.codec_error.CodecError.{CodecError}
use Rattle.zarrs_chunk.specs.declared.codec_error.CodecError.TheVariants.{InvalidBytesLength, ArrayBytesKind}
use Rattle.zarrs_data_type.specs.Element.{Element, plain, Chunk}
use Rattle.zarrs_data_type.specs.ElementType.{ElementType, fixed, text, bytes, optional, element_size}
use Rattle.zarrs_array_bytes.specs.Elements.{elements}
use Rattle.zarrs_array_bytes.specs.Held.{Held, Raw, flen, vlen, masked}
use Rattle.zarrs_array_bytes.specs.Parts.{fixed_part}
use Rattle.zarrs_array_bytes.specs.Pieces.{pieces}
use Rattle.zarrs_array_bytes.specs.Tight.{from_first}
use Rattle.zarrs_array_bytes.specs.Validity.{Holds, validity}
use Rattle.zarrs_array_bytes.proofs.Pieces.{elements-pieces, pieces-suc}
use Rattle.zarrs_array_bytes.proofs.ValidLemmas.{both_ok, fixed_fits}
use Rattle.zarrs_packbits.specs.NormalForm.{normal_chunk}
use Rattle.zarrs_packbits.specs.PackBitsCodec.{PackBitsStands, PackBitsWritten}
use Rattle.zarrs_packbits.specs.PackBitsSettings.{PackBitsSettings, packed_layout}
use Rattle.zarrs_packbits.proofs.CodecLaws.{written_stands}
use Rattle.zarrs_chain_meaning.specs.vlen.Vlen.{is_same_bytes, offset_bytes, offset_elements, offset_type}
use Rattle.zarrs_chain_meaning.specs.CodecMeaning.{PlainCodec, packbits_codec, meaning, codec_normal_element, normal_form}
use Rattle.zarrs_chain.specs.ChainView.{plain_codec}
use Rattle.zarrs_chain_meaning.specs.vlen.VlenSteps.{lent_bytes, written_offsets, keeps_offsets, TakesOffsets}
use Rattle.zarrs_chain.specs.declared.array_to_bytes_codec.ArrayToBytesCodec.{ArrayToBytesCodec}
use Rattle.zarrs_chain.specs.declared.array_to_bytes_codec.ArrayToBytesCodec.TheVariants.{PackBits}
use Rattle.zarrs_chain.specs.sharding.ShardingCalls.{KeepsAll}
use Rattle.zarrs_chain_meaning.specs.Chain.{row_sizes}
use Rattle.zarrs_chain_meaning.proofs.VlenOffsets.{index_holds, elements_long}
use Rattle.zarrs_bytes.proofs.Coding.{ok}
use Rattle.zarrs_chain_meaning.proofs.ArraySteps.{err, ok_no_err}
use Rattle.zarrs_chain_meaning.proofs.NestedEncode.{same_bytes}
use Rattle.zarrs_shard_bytes.proofs.SameBytes.{joined_same}
use Rattle.zarrs_packbits.specs.NormalForm as packbits

-- ---- the same bytes, element by element and joined

pieces_same : (size count : ℕ) (xs ys : List ℕ) → length xs ≡ count * size → length ys ≡ count * size → is_same_bytes (map plain (pieces size count xs)) (map plain (pieces size count ys)) ≡ pointwise nat_eq xs ys
pieces_same size zero xs ys a b =
    let x : xs ≡ [] = nil_from_length xs (omega (arith, a)) in
    let y : ys ≡ [] = nil_from_length ys (omega (arith, b)) in
    λ i. pointwise nat_eq (sym x i) (sym y i)
pieces_same size (suc count) xs ys a b =
    let all : suc count * size ≡ size + count * size = omega arith in
    let heads : length (take size xs) ≡ length (take size ys) = omega (arith, length-take size xs, length-take size ys, a, b) in
    let rest = pieces_same size count (drop size xs) (drop size ys) (omega (arith, length-drop size xs, a, all)) (omega (arith, length-drop size ys, b, all)) in
    (λ i. is_same_bytes (map plain (pieces-suc size count xs i)) (map plain (pieces-suc size count ys i)))
    ∙ ap (λ t. pointwise nat_eq (take size xs) (take size ys) && t) rest
    ∙ sym (joined_same (take size xs) (drop size xs) (take size ys) (drop size ys) heads)
    ∙ (λ i. pointwise nat_eq (take-append-drop size xs i) (take-append-drop size ys i))

-- containers of as many elements hold the same bytes
pub held_same : (type : ElementType) (a b : Raw) (chunk other : Chunk) → Holds type (flen a) chunk → Holds type (flen b) other → length chunk ≡ length other → is_same_bytes chunk other ≡ pointwise nat_eq a.items b.items
held_same (fixed width components sign) a b chunk other h k e =
    let size = element_size width components in
    let count = length other in
    let first : length a.items ≡ count * size = fixed_fits InvalidBytesLength (fixed width components sign) (length chunk) a size (both_ok _ _ h.valid).1 refl ∙ ap (λ n. n * size) e in
    let second : length b.items ≡ count * size = fixed_fits InvalidBytesLength (fixed width components sign) count b size (both_ok _ _ k.valid).1 refl in
    let one : chunk ≡ map plain (pieces size count a.items) = sym h.elements_are ∙ ap (λ n. elements (fixed width components sign) n (flen a)) e ∙ elements-pieces width components sign count a in
    let two : other ≡ map plain (pieces size count b.items) = sym k.elements_are ∙ elements-pieces width components sign count b in
    (λ i. is_same_bytes (one i) (two i)) ∙ pieces_same size count a.items b.items first second
held_same text a b chunk other h k e = absurd (ok_no_err tt ArrayBytesKind (sym (both_ok _ _ h.valid).1))
held_same bytes a b chunk other h k e = absurd (ok_no_err tt ArrayBytesKind (sym (both_ok _ _ h.valid).1))
held_same (optional type) a b chunk other h k e = absurd (ok_no_err tt ArrayBytesKind (sym (both_ok _ _ h.valid).1))

-- ---- written and read

-- the chunk of a container is one alone
pub held_once : (type : ElementType) (held : Held) (chunk other : Chunk) → Holds type held chunk → Holds type held other → length chunk ≡ length other → chunk ≡ other
held_once type held chunk other h k e = sym h.elements_are ∙ ap (λ n. elements type n held) e ∙ k.elements_are

-- what is read of the value that was written for a chunk is its normal form
pub kept_of : (settings : PackBitsSettings) (sizes : List ℕ) (type : ElementType) (fill : List ℕ) (held : Held) (value : List ℕ) (r : Result Held CodecError) (chunk : Chunk) → Holds type held chunk → length chunk ≡ product sizes
    → (other : Chunk) × Holds type held other × PackBitsWritten settings (form_of sizes type fill) value other
    → ((c : Chunk) → PackBitsStands settings (form_of sizes type fill) value c → AnswersBy memory (Holds type) r (Ok c))
    → AnswersBy memory (Holds type) r (Ok (normal_chunk settings type chunk))
kept_of settings sizes type fill held value r chunk holds long found only =
    let same : found.0 ≡ chunk = held_once type held found.0 chunk found.1 holds (found.2.elements.count_is ∙ sym long) in
    subst (λ (c : Chunk). AnswersBy memory (Holds type) r (Ok (normal_chunk settings type c))) same (only (normal_chunk settings type found.0) (written_stands settings sizes type fill value found.0 found.2))

kept_equal : (items : List ℕ) (raw : Raw) (r : Result Bool CodecError) (same : Bool) → r ≡ ok (pointwise nat_eq raw.items items) → same ≡ pointwise nat_eq raw.items items → Answers memory (λ (kept : Bool). kept) r (Ok same)
kept_equal items raw (Ok b) same e is = ap ok is ∙ sym e
kept_equal items raw (Err error) same e is = absurd cc

-- and it is the chunk just where it has the same bytes
pub kept_answer : (settings : PackBitsSettings) (type : ElementType) (kept : Held) (items : List ℕ) (r : Result Bool CodecError) (chunk : Chunk) → r ≡ seen (λ (raw : Raw). pointwise nat_eq raw.items items) (fixed_part kept)
    → Holds type (flen (lent_bytes items)) chunk → Holds type kept (normal_chunk settings type chunk) → Answers memory (λ (kept : Bool). kept) r (Ok (is_same_bytes (normal_chunk settings type chunk) chunk))
kept_answer settings type (flen raw) items r chunk e h k =
    kept_equal items raw r (is_same_bytes (normal_chunk settings type chunk) chunk) e (held_same type raw (lent_bytes items) (normal_chunk settings type chunk) chunk k h (length-map chunk (packbits.normal_element settings type)))
kept_answer settings (fixed width components sign) (vlen raw offsets) items r chunk e h k = absurd (ok_no_err tt ArrayBytesKind (sym (both_ok _ _ k.valid).1))
kept_answer settings (fixed width components sign) (masked inner mask) items r chunk e h k = absurd (ok_no_err tt ArrayBytesKind (sym (both_ok _ _ k.valid).1))
kept_answer settings text (vlen raw offsets) items r chunk e h k = absurd (ok_no_err tt ArrayBytesKind (sym (both_ok _ _ h.valid).1))
kept_answer settings text (masked inner mask) items r chunk e h k = absurd (ok_no_err tt ArrayBytesKind (sym (both_ok _ _ h.valid).1))
kept_answer settings bytes (vlen raw offsets) items r chunk e h k = absurd (ok_no_err tt ArrayBytesKind (sym (both_ok _ _ h.valid).1))
kept_answer settings bytes (masked inner mask) items r chunk e h k = absurd (ok_no_err tt ArrayBytesKind (sym (both_ok _ _ h.valid).1))
kept_answer settings (optional type) (vlen raw offsets) items r chunk e h k = absurd (ok_no_err tt ArrayBytesKind (sym (both_ok _ _ h.valid).1))
kept_answer settings (optional type) (masked inner mask) items r chunk e h k = absurd (ok_no_err tt ArrayBytesKind (sym (both_ok _ _ h.valid).1))

pub no_error : (chunk : Chunk) (same : Bool) (error : CodecError) → ok chunk ≡ err error → ok same ≡ err error
no_error chunk same error e = absurd cc

-- ---- offsets

pub map_same : (keep : Element → Element) (chunk : Chunk) → ((element : Element) → keep element ≡ element) → map keep chunk ≡ chunk
map_same keep [] same = refl
map_same keep (element ∷ chunk) same = λ i. same element i ∷ map_same keep chunk same i

all_kept : (keep : Element → Element) (chunk : Chunk) → ((element : Element) → keep element ≡ element) → is_same_bytes (map keep chunk) chunk ≡ true
all_kept keep chunk same = ap (λ (c : Chunk). is_same_bytes c chunk) (map_same keep chunk same) ∙ same_bytes chunk

-- only `packbits` may change a number
pub packed_keeps : {B : Type 0} (codec : ArrayToBytesCodec B) (settings : PackBitsSettings) (wide : Bool) (offsets : List ℕ) → codec ≡ PackBits settings → keeps_offsets (plain_codec codec) wide offsets ≡ keeps_offsets {B = ℕ} (packbits_codec settings) wide offsets
unfolding plain_codec meaning
packed_keeps codec settings wide offsets e = ap (λ c. keeps_offsets (plain_codec c) wide offsets) e

pub packed_takes : {B : Type 0} (codec : ArrayToBytesCodec B) (settings : PackBitsSettings) (wide : Bool) (count : ℕ) → codec ≡ PackBits settings → TakesOffsets (plain_codec codec) wide count → IsOk (packed_layout settings (form_of (count ∷ []) (offset_type wide) (offset_bytes wide 0)))
unfolding plain_codec
packed_takes codec settings wide count e h = subst (λ c. TakesOffsets (plain_codec c) wide count) e h

pub packed_rows : (settings : PackBitsSettings) (wide : Bool) (offsets : List ℕ) → keeps_offsets {B = ℕ} (packbits_codec settings) wide offsets ≡ is_same_bytes (normal_chunk settings (offset_type wide) (offset_elements wide (from_first offsets))) (offset_elements wide (from_first offsets))
unfolding meaning
packed_rows settings wide offsets = refl

row_is : (count : ℕ) (row : List ℕ) → ok (Some (suc count ∷ [])) ≡ ok (Some row) → suc count ∷ [] ≡ row
row_is count row e = cc

pub row_length : (count : ℕ) (row : List ℕ) → ok (row_sizes count) ≡ ok (Some row) → count ≡ product row
row_length zero row e = absurd cc
row_length (suc count) row e = let n : suc count ≡ product (suc count ∷ []) = omega arith in n ∙ ap product (row_is count row e)

-- what is found of the elements of an index is found of its offsets
pub packed_answer : (settings : PackBitsSettings) (wide : Bool) (offsets items row : List ℕ) (type : ElementType) (r : Result Bool CodecError) → written_offsets wide offsets ≡ Ok items → length items < 2 ^ 64 → type ≡ offset_type wide → ok (row_sizes (length offsets)) ≡ ok (Some row)
    → ((chunk : Chunk) → Holds type (flen (lent_bytes items)) chunk → length chunk ≡ product row → Answers memory (λ (kept : Bool). kept) r (Ok (is_same_bytes (normal_chunk settings type chunk) chunk)))
    → Answers memory (λ (kept : Bool). kept) r (Ok (keeps_offsets {B = ℕ} (packbits_codec settings) wide offsets))
packed_answer settings wide offsets items row type r e small t row_so h =
    let rows = offset_elements wide (from_first offsets) in
    let holds : Holds type (flen (lent_bytes items)) rows = subst (λ (u : ElementType). Holds u (flen (lent_bytes items)) rows) (sym t) (index_holds wide offsets (lent_bytes items) e small) in
    let found = h rows holds (elements_long wide offsets ∙ row_length (length offsets) row row_so) in
    subst (λ (b : Bool). Answers memory (λ (kept : Bool). kept) r (Ok b)) ((λ i. is_same_bytes (normal_chunk settings (t i) rows) rows) ∙ sym (packed_rows settings wide offsets)) found

-- ---- of any codec

-- a codec that keeps each element keeps the offsets
pub kept_by_all : {B : Type 0} (codec : PlainCodec B) (wide : Bool) (offsets : List ℕ) → KeepsAll codec → keeps_offsets codec wide offsets ≡ true
kept_by_all codec wide offsets same = all_kept (codec_normal_element codec (offset_type wide)) (offset_elements wide (from_first offsets)) (same (offset_type wide))

-- a container of as many elements, compared by its bytes
kept_told : (type : ElementType) (kept : Held) (items : List ℕ) (chunk other : Chunk) (r : Result Bool CodecError) → Holds type (flen (lent_bytes items)) chunk → Holds type kept other → length other ≡ length chunk
    → r ≡ seen (λ (raw : Raw). pointwise nat_eq raw.items items) (fixed_part kept) → r ≡ Ok (is_same_bytes other chunk)
kept_told type (flen raw) items chunk other r h k long e = e ∙ ap ok (sym (held_same type raw (lent_bytes items) other chunk k h long))
kept_told (fixed width components sign) (vlen raw offsets) items chunk other r h k long e = absurd (ok_no_err tt ArrayBytesKind (sym (both_ok _ _ k.valid).1))
kept_told (fixed width components sign) (masked inner mask) items chunk other r h k long e = absurd (ok_no_err tt ArrayBytesKind (sym (both_ok _ _ k.valid).1))
kept_told text (vlen raw offsets) items chunk other r h k long e = absurd (ok_no_err tt ArrayBytesKind (sym (both_ok _ _ h.valid).1))
kept_told text (masked inner mask) items chunk other r h k long e = absurd (ok_no_err tt ArrayBytesKind (sym (both_ok _ _ h.valid).1))
kept_told bytes (vlen raw offsets) items chunk other r h k long e = absurd (ok_no_err tt ArrayBytesKind (sym (both_ok _ _ h.valid).1))
kept_told bytes (masked inner mask) items chunk other r h k long e = absurd (ok_no_err tt ArrayBytesKind (sym (both_ok _ _ h.valid).1))
kept_told (optional type) (vlen raw offsets) items chunk other r h k long e = absurd (ok_no_err tt ArrayBytesKind (sym (both_ok _ _ h.valid).1))
kept_told (optional type) (masked inner mask) items chunk other r h k long e = absurd (ok_no_err tt ArrayBytesKind (sym (both_ok _ _ h.valid).1))

-- the container of the offsets' bytes holds as many elements
pub offsets_valid : (wide : Bool) (offsets items : List ℕ) (type : ElementType) (rows : Held) (count : ℕ) → written_offsets wide offsets ≡ Ok items → length items < 2 ^ 64 → type ≡ offset_type wide → rows ≡ flen (lent_bytes items) → count ≡ length offsets
    → validity type count rows ≡ Ok tt
offsets_valid wide offsets items type rows count e small t made long =
    let holds = index_holds wide offsets (lent_bytes items) e small in
    (λ i. validity (t i) ((long ∙ sym (elements_long wide offsets)) i) (made i)) ∙ holds.valid

-- the normal forms of the elements that have these bytes, compared with them
pub normal_told : {B : Type 0} (codec : PlainCodec B) (wide : Bool) (offsets items : List ℕ) (type : ElementType) (rows kept : Held) (count : ℕ) (r : Result Bool CodecError)
    → written_offsets wide offsets ≡ Ok items → length items < 2 ^ 64 → type ≡ offset_type wide → rows ≡ flen (lent_bytes items) → count ≡ length offsets
    → Holds type kept (normal_form codec type (elements type count rows)) → r ≡ seen (λ (raw : Raw). pointwise nat_eq raw.items items) (fixed_part kept) → r ≡ Ok (keeps_offsets codec wide offsets)
normal_told codec wide offsets items type rows kept count r e small t made long h told =
    let chunk = offset_elements wide (from_first offsets) in
    let holds = index_holds wide offsets (lent_bytes items) e small in
    let is : elements type count rows ≡ chunk = (λ i. elements (t i) ((long ∙ sym (elements_long wide offsets)) i) (made i)) ∙ holds.elements_are in
    let normal : Holds (offset_type wide) kept (normal_form codec (offset_type wide) chunk) = subst (λ (x : ElementType × Chunk). Holds x.0 kept (normal_form codec x.0 x.1)) (λ i. (t i, is i)) h in
    kept_told (offset_type wide) kept items chunk (normal_form codec (offset_type wide) chunk) r holds normal (length-map chunk (codec_normal_element codec (offset_type wide))) told
