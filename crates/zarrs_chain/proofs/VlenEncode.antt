-- What a codec `vlen` writes, step by step.
use Rattle.zarrs_data_type.specs.Form.{form_of}
use Rattle.std.proofs.Common.{◌≡◌, ℕ, suc, ◌+◌, ◌-◌, ◌<◌, ◌≤◌, ◌^◌, nat_lt, ◌&&◌, Bool, true, false, if◌then◌else◌, List, [], ◌∷◌, length, map, take, drop, slice_index, None, Result, Ok, Err, IsOk, arith, refl, ap, sym, subst, ◌∙◌, add-zero}
use Rattle.std.specs.Prelude.{IsOkAnd}
use Rattle.std.specs.List.{All, concat, range_with_len}
use Rattle.std.proofs.lemmas.List.{length-drop, take_all}
use Rattle.std.proofs.lemmas.List.Folds.{flat_map-map}
use Rattle.std.proofs.lemmas.Simd.{map-map}
use Rattle.zarrs_chunk.specs.Answer.{◌>>=◌, Answers, memory, demand, checked_u64, seen}
use Rattle.zarrs_chunk.specs.ChunkShape.{product}
use Rattle.zarrs_chunk.specs.declared.codec_error.CodecError.{CodecError}
use Rattle.zarrs_chunk.specs.declared.codec_error.CodecError.TheVariants.{InvalidBytesLength, OffsetTooLarge, OffsetNotKept, InvalidFillValue, BitRange, Overflow, UnsupportedDataType}
use Rattle.zarrs_data_type.specs.Element.{plain, Chunk}
use Rattle.zarrs_data_type.specs.ElementType.{ElementType, fixed, text, bytes, optional, element_size, is_variable}
use Rattle.zarrs_data_type.specs.FillValue.{fill_fits}
use Rattle.zarrs_array_to_array.specs.ArrayToArrayCodec.{ArrayMapping, IsMapping}
use Rattle.zarrs_array_bytes.specs.Elements.{cut, elements}
use Rattle.zarrs_array_bytes.specs.Held.{Held, Raw, flen, vlen, masked}
use Rattle.zarrs_array_bytes.specs.Offsets.{is_offsets, last_of}
use Rattle.zarrs_array_bytes.specs.Parts.{variable_part}
use Rattle.zarrs_array_bytes.specs.Pieces.{ends}
use Rattle.zarrs_array_bytes.specs.Tight.{from_first}
use Rattle.zarrs_array_bytes.specs.Validity.{validity, Holds}
use Rattle.zarrs_array_bytes.proofs.OffsetLemmas.{rising_last}
use Rattle.zarrs_array_bytes.proofs.Pieces.{AllSized}
use Rattle.zarrs_array_bytes.proofs.RunLemmas.{cuts_of_run, ends_of_run}
use Rattle.zarrs_array_bytes.proofs.ValidLemmas.{both_ok, variable_fits}
use Rattle.zarrs_codec.specs.BytesToBytesCodec.{BytesCodecs}
use Rattle.zarrs_codec.specs.CoordinateMap.{IsCoordinateMap}
use Rattle.zarrs_codec.specs.declared.bytes_representation.BytesRepresentation.{BytesRepresentation}
use Rattle.zarrs_codec.specs.declared.bytes_representation.BytesRepresentation.TheVariants.{FixedSize}
use Rattle.zarrs_bytes.specs.ByteOrder.{bytes_of, bytes_in_order}
use Rattle.zarrs_bytes.proofs.Spelled.{Holds-pieces}
use Rattle.zarrs_packbits.specs.PackBitsSettings.{PackBitsSettings, packed_layout, packbits_length, has_bits, layout_for}
use Rattle.zarrs_packbits.specs.PackedLayout.{is_in_reach}
use Rattle.zarrs_packbits.specs.PaddingByte.{value_len}
use Rattle.zarrs_chain_meaning.specs.ArrayStages.{arrays_map}
use Rattle.zarrs_chain_meaning.specs.BytesStages.{in_memory}
use Rattle.zarrs_chain_meaning.specs.Chain.{codec_held_value, held_part}
use Rattle.zarrs_chain_meaning.specs.vlen.Vlen.{slices, chunk_offsets, offset_bytes, offset_fits, offset_elements, is_same_bytes, vlen_value, offset_type, vlen_representation, arranged}
use Rattle.zarrs_chain_meaning.specs.Meaning.{Encoder, around_representation, Keeping, in_a_row}
use Rattle.zarrs_chain_meaning.specs.Parts.{byte_elements, all_bytes, byte_type, part_length_bytes}
use Rattle.zarrs_chain_meaning.specs.CodecMeaning.{PlainCodec, packbits_codec, PlainChain, vlen_codec_of, meaning, codec_normal_element, codec_representation, chain_representation, codec_value, chain_value}
use Rattle.zarrs_chain_meaning.specs.Laws.{IsChainOfMappings}
use Rattle.zarrs_chain.specs.ChainView.{plain_vlen, plain_vlen_at}
use Rattle.zarrs_chain.specs.declared.vlen.vlen_codec.VlenCodec.{VlenCodec}
use Rattle.zarrs_chain_meaning.specs.vlen.VlenSteps.{offsets_fit, index_elements, keeps_offsets, TakesOffsets, index_part}
use Rattle.zarrs_bytes.proofs.Coding.{ok, bind_ok}
use Rattle.zarrs_chain_meaning.proofs.ArraySteps.{ok_is, next_answer}
use Rattle.zarrs_chain_meaning.proofs.ChainSteps.{seen_ok, next_err}
use Rattle.zarrs_chain_meaning.proofs.NestedRows.{items_long}
use Rattle.zarrs_chain_meaning.proofs.NestedStages.{arrays_are_map, row_positive}
use Rattle.zarrs_chain_meaning.proofs.NestedEncode.{memory_so}
use Rattle.zarrs_chain_meaning.proofs.ChainRelations.{held_value_is}
use Rattle.zarrs_array_bytes.proofs.FlushLemmas.{some as some_offset}
use Rattle.zarrs_chain_meaning.proofs.VlenOffsets.{elements_long}
use Rattle.zarrs_chain_meaning.specs.declared.codec_name.TheConstants.{VLEN}

-- the data part of bytes through a chain
abbrev pub content_part : {B : Type 0} → BytesCodecs B → PlainChain B → List ℕ → Result (List ℕ) CodecError
content_part f chain items = in_a_row (Ok []) (λ sizes. chain_value f chain sizes byte_type (0 ∷ []) (byte_elements items)) (length (byte_elements items))

-- ---- elements of any length in a container

-- so many elements: offsets that rise to the bytes' end
pub record IsRow (offsets items : List ℕ) (count : ℕ) : Type 0 where
  pub rising : is_offsets offsets ≡ true
  pub ending : last_of offsets ≡ length items
  pub long : length offsets ≡ count + 1

elements_cut : (type : ElementType) (count : ℕ) (raw : Raw) (offsets : List ℕ) → is_variable type ≡ true → elements type count (vlen raw offsets) ≡ slices count offsets raw.items
elements_cut (fixed width components sign) count raw offsets e = absurd cc
elements_cut text count raw offsets e = refl
elements_cut bytes count raw offsets e = refl
elements_cut (optional type) count raw offsets e = absurd cc

last_at : (offsets items : List ℕ) (count : ℕ) → IsRow offsets items count → slice_index offsets (0 + count) ≡ length items
last_at offsets items count r =
    let at : 0 + count ≡ length offsets - 1 = omega (arith, r.long) in
    ap (slice_index offsets) at ∙ r.ending

-- their bytes are those from the first offset on
whole_bytes : (offsets items : List ℕ) (count : ℕ) → IsRow offsets items count → all_bytes (slices count offsets items) ≡ drop (slice_index offsets 0) items
whole_bytes offsets items count r =
    let first : ℕ = slice_index offsets 0 in
    flat_map-map bytes_of (λ place. plain (cut offsets items place)) (range_with_len 0 count)
    ∙ cuts_of_run offsets items r.rising 0 count (omega (arith, r.long))
    ∙ ap (λ n. take (n - first) (drop first items)) (last_at offsets items count r)
    ∙ take_all (length items - first) (drop first items) (omega (arith, length-drop first items))

moved_none : (first : ℕ) (offsets : List ℕ) → map (λ end. end - first + 0) offsets ≡ map (λ offset. offset - first) offsets
moved_none first [] = refl
moved_none first (offset ∷ offsets) = λ i. add-zero (offset - first) i ∷ moved_none first offsets i

from_offsets : (offsets : List ℕ) (count : ℕ) → length offsets ≡ count + 1 → 0 ∷ map (λ end. end - slice_index offsets 0 + 0) (take (0 + count + 1 - (0 + 1)) (drop (0 + 1) offsets)) ≡ from_first offsets
from_offsets [] count e = absurd (omega (arith, e))
from_offsets (first ∷ offsets) count e =
    let n : 0 + count + 1 - (0 + 1) ≡ length offsets = omega (arith, e) in
    let z : 0 ≡ first - first = omega arith in
    let rest : take (0 + count + 1 - (0 + 1)) offsets ≡ offsets = ap (λ k. take k offsets) n ∙ take_all (length offsets) offsets (omega arith) in
    let moved : map (λ end. end - first + 0) (take (0 + count + 1 - (0 + 1)) offsets) ≡ map (λ offset. offset - first) offsets = ap (map (λ end. end - first + 0)) rest ∙ moved_none first offsets in
    λ i. z i ∷ moved i

-- their offsets are counted from the first
whole_offsets : (offsets items : List ℕ) (count : ℕ) → IsRow offsets items count → chunk_offsets (slices count offsets items) ≡ from_first offsets
whole_offsets offsets items count r =
    ap (λ (parts : List (List ℕ)). 0 ∷ ends 0 parts) (map-map bytes_of (λ place. plain (cut offsets items place)) (range_with_len 0 count))
    ∙ ap (λ (ns : List ℕ). 0 ∷ ns) (ends_of_run offsets items r.rising r.ending 0 0 count (omega (arith, r.long)))
    ∙ from_offsets offsets count r.long

-- ---- one level, as the code opens it

-- what is written, by the offsets and the bytes
abbrev vlen_from : Bool → Bool → Keeping → Encoder → Encoder → List ℕ → List ℕ → Result (List ℕ) CodecError
vlen_from wide at_end keep index content offsets all = do
  let rows = offset_elements wide offsets
  items ← in_memory all
  _ ← demand (offset_fits wide (length items)) OffsetTooLarge
  part ← index (length rows ∷ []) (offset_type wide) (offset_bytes wide 0) rows
  _ ← demand (is_same_bytes (map (keep (offset_type wide)) rows) rows) OffsetNotKept
  data_part ← in_a_row (Ok []) (λ sizes. content sizes byte_type (0 ∷ []) (byte_elements items)) (length (byte_elements items))
  in_memory (arranged at_end (part_length_bytes part) part data_part)

last_steps : (r : Result (List ℕ) CodecError) (kept : Bool) (content : Result (List ℕ) CodecError) (join : List ℕ → List ℕ → Result (List ℕ) CodecError)
    → (r >>= λ part. demand kept OffsetNotKept >>= λ _. content >>= λ d. join part d) ≡ (r >>= λ part. demand kept OffsetNotKept >>= λ _. ok part) >>= λ part. content >>= λ d. join part d
last_steps (Ok part) true content join = refl
last_steps (Ok part) false content join = refl
last_steps (Err e) kept content join = refl

all_steps : (fits : Bool) (rows : Chunk) (index : Chunk → Result (List ℕ) CodecError) (kept : Bool) (content : Result (List ℕ) CodecError) (join : List ℕ → List ℕ → Result (List ℕ) CodecError)
    → (demand fits OffsetTooLarge >>= λ _. index rows >>= λ part. demand kept OffsetNotKept >>= λ _. content >>= λ d. join part d)
    ≡ ((demand fits OffsetTooLarge >>= λ _. ok rows) >>= λ r. index r >>= λ part. demand kept OffsetNotKept >>= λ _. ok part) >>= λ part. content >>= λ d. join part d
all_steps true rows index kept content join = last_steps (index rows) kept content join
all_steps false rows index kept content join = refl

-- the index part, the data part and both joined
abbrev pub parts_value : {B : Type 0} → BytesCodecs B → PlainChain B → PlainChain B → Bool → Bool → List ℕ → List ℕ → Result (List ℕ) CodecError
parts_value f index content wide at_end offsets items =
    index_part f index wide offsets >>= λ part. content_part f content (drop (slice_index offsets 0) items) >>= λ d. in_memory (arranged at_end (part_length_bytes part) part d)

vlen_value_is : {B : Type 0} (f : BytesCodecs B) (index content : PlainChain B) (wide at_end : Bool) (offsets items : List ℕ) (count : ℕ) → IsRow offsets items count → length items < 2 ^ 64
    → vlen_value wide at_end (codec_normal_element index.array_to_bytes) (chain_value f index) (chain_value f content) (slices count offsets items) ≡ parts_value f index content wide at_end offsets items
vlen_value_is f index content wide at_end offsets items count r small =
    let first : ℕ = slice_index offsets 0 in
    let rows = offset_elements wide (from_first offsets) in
    let long : length (drop first items) ≡ last_of offsets - first = length-drop first items ∙ ap (λ n. n - first) (sym r.ending) in
    let memory_is : in_memory (drop first items) ≡ Ok (drop first items) = memory_so (drop first items) (omega (arith, length-drop first items)) in
    (λ i. vlen_from wide at_end (codec_normal_element index.array_to_bytes) (chain_value f index) (chain_value f content) (whole_offsets offsets items count r i) (whole_bytes offsets items count r i))
    ∙ next_answer (in_memory (drop first items)) (drop first items) (λ all. demand (offset_fits wide (length all)) OffsetTooLarge >>= λ _. chain_value f index (length rows ∷ []) (offset_type wide) (offset_bytes wide 0) rows >>= λ part. demand (is_same_bytes (map (codec_normal_element index.array_to_bytes (offset_type wide)) rows) rows) OffsetNotKept >>= λ _. in_a_row (Ok []) (λ sizes. chain_value f content sizes byte_type (0 ∷ []) (byte_elements all)) (length (byte_elements all)) >>= λ d. in_memory (arranged at_end (part_length_bytes part) part d)) memory_is
    ∙ ap (λ n. demand (offset_fits wide n) OffsetTooLarge >>= λ _. chain_value f index (length rows ∷ []) (offset_type wide) (offset_bytes wide 0) rows >>= λ part. demand (is_same_bytes (map (codec_normal_element index.array_to_bytes (offset_type wide)) rows) rows) OffsetNotKept >>= λ _. content_part f content (drop first items) >>= λ d. in_memory (arranged at_end (part_length_bytes part) part d)) long
    ∙ all_steps (offsets_fit wide offsets) rows (λ r. chain_value f index (length r ∷ []) (offset_type wide) (offset_bytes wide 0) r) (keeps_offsets index.array_to_bytes wide offsets) (content_part f content (drop first items)) (λ part d. in_memory (arranged at_end (part_length_bytes part) part d))

demand_so : (test : Bool) (cause : CodecError) (r : BytesRepresentation) (rest : Result BytesRepresentation CodecError) → demand test cause >>= (λ _. rest) ≡ Ok r → test ≡ true
demand_so true cause r rest e = refl
demand_so false cause r rest e = absurd cc

-- a container that `vlen` takes
pub record IsTakenRow (sizes : List ℕ) (type : ElementType) (raw : Raw) (offsets : List ℕ) : Type 0 where
  pub size : BytesRepresentation
  pub measured : vlen_representation sizes type [] ≡ Ok size
  pub valid : validity type (product sizes) (vlen raw offsets) ≡ Ok tt
  pub rising : is_offsets offsets ≡ true
  pub ending : last_of offsets ≡ length raw.items
  pub small : length raw.items < 2 ^ 64

pub held_is : {B : Type 0} (f : BytesCodecs B) (codec : PlainCodec B) (index content : PlainChain B) (wide at_end : Bool) (sizes : List ℕ) (type : ElementType) (fill : List ℕ) (raw : Raw) (offsets : List ℕ)
    → codec ≡ vlen_codec_of index content wide at_end → IsTakenRow sizes type raw offsets → codec_held_value f codec sizes type fill (vlen raw offsets) ≡ parts_value f index content wide at_end offsets raw.items
unfolding meaning
held_is f codec index content wide at_end sizes type fill raw offsets e t =
    let count = product sizes in
    let variable : is_variable type ≡ true = demand_so (is_variable type) (UnsupportedDataType VLEN) t.size _ t.measured in
    let row : IsRow offsets raw.items count = record { rising = t.rising; ending = t.ending; long = variable_fits InvalidBytesLength type count raw offsets (both_ok _ _ t.valid).1 } in
    ap (λ c. codec_held_value f c sizes type fill (vlen raw offsets)) e
    ∙ rw (t.measured, t.valid) (ap (vlen_value wide at_end (codec_normal_element index.array_to_bytes) (chain_value f index) (chain_value f content)) (elements_cut type count raw offsets variable)
    ∙ vlen_value_is f index content wide at_end offsets raw.items count row t.small)

-- ---- the elements of a row through a chain

pub part_is : {B : Type 0} (f : BytesCodecs B) (chain : PlainChain B) (type : ElementType) (fill : List ℕ) (held : Held) (chunk : Chunk) → Holds type held chunk → held_part f chain (length chunk) type fill held ≡ in_a_row (Ok []) (λ sizes. chain_value f chain sizes type fill chunk) (length chunk)
part_is f chain type fill held [] h = refl
part_is f chain type fill held (x ∷ chunk) h = held_value_is f chain (suc (length chunk) ∷ []) type fill held (x ∷ chunk) h (omega arith)

pub some_part : (encode : Encoder) (type : ElementType) (fill : List ℕ) (chunk : Chunk) → 0 < length chunk → in_a_row (Ok []) (λ sizes. encode sizes type fill chunk) (length chunk) ≡ encode (length chunk ∷ []) type fill chunk
some_part encode type fill [] l = absurd (omega arith)
some_part encode type fill (x ∷ chunk) l = refl

bytes_sized : (items : List ℕ) → AllSized (element_size 8 1) (map (λ byte. byte ∷ []) items)
bytes_sized [] = tt
bytes_sized (byte ∷ items) = (refl, bytes_sized items)

bytes_joined : (items : List ℕ) → items ≡ concat (map (bytes_in_order None 8 1) (map (λ byte. byte ∷ []) items))
bytes_joined [] = refl
bytes_joined (byte ∷ items) = ap (λ (xs : List ℕ). byte ∷ xs) (bytes_joined items)

-- bytes hold single bytes
pub holds_items : (raw : Raw) → length raw.items < 2 ^ 64 → Holds byte_type (flen raw) (byte_elements raw.items)
holds_items raw small =
    subst (Holds byte_type (flen raw)) (map-map plain (λ (byte : ℕ). byte ∷ []) raw.items)
    (Holds-pieces None 8 1 false raw (map (λ byte. byte ∷ []) raw.items) (bytes_sized raw.items) (bytes_joined raw.items) small)

pub content_is : {B : Type 0} (f : BytesCodecs B) (chain : PlainChain B) (raw : Raw) → length raw.items < 2 ^ 64 → held_part f chain (length raw.items) byte_type (0 ∷ []) (flen raw) ≡ content_part f chain raw.items
content_is f chain raw small =
    ap (λ n. held_part f chain n byte_type (0 ∷ []) (flen raw)) (sym (items_long raw.items))
    ∙ part_is f chain byte_type (0 ∷ []) (flen raw) (byte_elements raw.items) (holds_items raw small)

-- ---- the index

elements_test : (test : Bool) (chunk : Chunk) (P : Chunk → Type 0) → IsOkAnd (demand test OffsetTooLarge >>= λ _. ok chunk) P → (test ≡ true) × P chunk
elements_test true chunk P h = (refl, h)
elements_test false chunk P h = absurd h

-- the elements of an index are held, and the type has all offsets
pub elements_so : (wide : Bool) (offsets : List ℕ) (P : Chunk → Type 0) → IsOkAnd (index_elements wide offsets) P → (offsets_fit wide offsets ≡ true) × P (offset_elements wide (from_first offsets))
elements_so wide offsets P h = elements_test (offsets_fit wide offsets) (offset_elements wide (from_first offsets)) P h

-- what a chain makes of the elements of an index
pub index_is : {B : Type 0} (f : BytesCodecs B) (chain : PlainChain B) (wide : Bool) (offsets : List ℕ) (held : Held) → is_offsets offsets ≡ true → Holds (offset_type wide) held (offset_elements wide (from_first offsets))
    → held_part f chain (length offsets) (offset_type wide) (offset_bytes wide 0) held ≡ chain_value f chain (length (offset_elements wide (from_first offsets)) ∷ []) (offset_type wide) (offset_bytes wide 0) (offset_elements wide (from_first offsets))
index_is f chain wide offsets held rising h =
    let rows = offset_elements wide (from_first offsets) in
    ap (λ n. held_part f chain n (offset_type wide) (offset_bytes wide 0) held) (sym (elements_long wide offsets))
    ∙ part_is f chain (offset_type wide) (offset_bytes wide 0) held rows h
    ∙ some_part (chain_value f chain) (offset_type wide) (offset_bytes wide 0) rows (omega (arith, elements_long wide offsets, some_offset offsets rising))

abbrev index_rest : {B : Type 0} → BytesCodecs B → PlainChain B → Bool → List ℕ → Chunk → Result (List ℕ) CodecError
index_rest f chain wide offsets rows =
    chain_value f chain (length rows ∷ []) (offset_type wide) (offset_bytes wide 0) rows >>= λ part. demand (keeps_offsets chain.array_to_bytes wide offsets) OffsetNotKept >>= λ _. ok part

fits_so : {B : Type 0} (f : BytesCodecs B) (chain : PlainChain B) (wide : Bool) (offsets : List ℕ) → offsets_fit wide offsets ≡ true → index_part f chain wide offsets ≡ index_rest f chain wide offsets (offset_elements wide (from_first offsets))
fits_so f chain wide offsets fits = rw fits refl

pub index_refused : {B : Type 0} (f : BytesCodecs B) (chain : PlainChain B) (wide : Bool) (offsets : List ℕ) (held : Held) (error : CodecError) → is_offsets offsets ≡ true → IsOkAnd (index_elements wide offsets) (Holds (offset_type wide) held)
    → held_part f chain (length offsets) (offset_type wide) (offset_bytes wide 0) held ≡ Err error → index_part f chain wide offsets ≡ Err error
index_refused f chain wide offsets held error rising h e =
    let so = elements_so wide offsets (Holds (offset_type wide) held) h in
    let rows = offset_elements wide (from_first offsets) in
    fits_so f chain wide offsets so.0 ∙ next_err (chain_value f chain (length rows ∷ []) (offset_type wide) (offset_bytes wide 0) rows) error (λ part. demand (keeps_offsets chain.array_to_bytes wide offsets) OffsetNotKept >>= λ _. ok part) (sym (index_is f chain wide offsets held rising so.1) ∙ e)

kept_error : (test : Bool) (part : List ℕ) (error : CodecError) → demand test OffsetNotKept ≡ Err error → (demand test OffsetNotKept >>= λ _. ok part) ≡ Err error
kept_error true part error h = absurd cc
kept_error false part error h = cc

index_goes : {B : Type 0} (f : BytesCodecs B) (chain : PlainChain B) (wide : Bool) (offsets : List ℕ) (held : Held) (part : List ℕ) → is_offsets offsets ≡ true → IsOkAnd (index_elements wide offsets) (Holds (offset_type wide) held)
    → held_part f chain (length offsets) (offset_type wide) (offset_bytes wide 0) held ≡ Ok part → index_part f chain wide offsets ≡ (demand (keeps_offsets chain.array_to_bytes wide offsets) OffsetNotKept >>= λ _. ok part)
index_goes f chain wide offsets held part rising h e =
    let so = elements_so wide offsets (Holds (offset_type wide) held) h in
    let rows = offset_elements wide (from_first offsets) in
    fits_so f chain wide offsets so.0 ∙ next_answer (chain_value f chain (length rows ∷ []) (offset_type wide) (offset_bytes wide 0) rows) part (λ part. demand (keeps_offsets chain.array_to_bytes wide offsets) OffsetNotKept >>= λ _. ok part) (sym (index_is f chain wide offsets held rising so.1) ∙ e)

pub index_not_kept : {B : Type 0} (f : BytesCodecs B) (chain : PlainChain B) (wide : Bool) (offsets : List ℕ) (held : Held) (part : List ℕ) (error : CodecError) → is_offsets offsets ≡ true → IsOkAnd (index_elements wide offsets) (Holds (offset_type wide) held)
    → held_part f chain (length offsets) (offset_type wide) (offset_bytes wide 0) held ≡ Ok part → demand (keeps_offsets chain.array_to_bytes wide offsets) OffsetNotKept ≡ Err error → index_part f chain wide offsets ≡ Err error
index_not_kept f chain wide offsets held part error rising h e kept =
    index_goes f chain wide offsets held part rising h e ∙ kept_error (keeps_offsets chain.array_to_bytes wide offsets) part error kept

-- ---- the codec of a chain that took offsets takes them

abbrev layout_taken : PackBitsSettings → ℕ → ℕ → Bool → List ℕ → ℕ → Type 0
layout_taken settings width components sign fill number =
    IsOk (demand (fill_fits (fixed width components sign) fill) InvalidFillValue >>= λ _. demand (has_bits settings width && nat_lt 0 components) BitRange >>= λ _. checked_u64 number >>= λ count. demand (is_in_reach (layout_for settings count width components sign)) Overflow >>= λ _. ok (layout_for settings count width components sign))

same_layout : (settings : PackBitsSettings) (width components : ℕ) (sign : Bool) (fill sizes others : List ℕ) → product sizes ≡ product others → IsOk (packed_layout settings (form_of sizes (fixed width components sign) fill)) → IsOk (packed_layout settings (form_of others (fixed width components sign) fill))
same_layout settings width components sign fill sizes others e h = subst (layout_taken settings width components sign fill) e h

is_ok : {A : Type 0} (r : Result A CodecError) (x : A) → r ≡ Ok x → IsOk r
is_ok (Ok y) x e = cc
is_ok (Err error) x e = absurd cc

takes_codec : {B : Type 0} (f : BytesCodecs B) (arrays : List ArrayMapping) (codec : PlainCodec B) (outer : List B) (wide : Bool) (count : ℕ) (r : BytesRepresentation) → All IsMapping arrays → 0 < count
    → around_representation f arrays (codec_representation f codec) outer (count ∷ []) (offset_type wide) (offset_bytes wide 0) ≡ Ok r → TakesOffsets codec wide count
unfolding meaning
takes_codec f arrays (packbits_codec settings) outer wide count r mappings some e =
    let type = offset_type wide in
    let fill = offset_bytes wide 0 in
    let m = bind_ok (arrays_map type arrays (count ∷ [])) _ r e in
    let size = bind_ok (seen FixedSize (packbits_length settings (form_of m.0.encoded type fill))) _ r m.2 in
    let n = seen_ok FixedSize (packbits_length settings (form_of m.0.encoded type fill)) size.0 size.1 in
    let l = seen_ok value_len (packed_layout settings (form_of m.0.encoded type fill)) n.0 n.1 in
    let h : IsCoordinateMap (count ∷ []) m.0 = arrays_are_map arrays (count ∷ []) type m.0 mappings (row_positive count some) m.1 in
    same_layout settings (if wide then 64 else 32) 1 false fill m.0.encoded (count ∷ []) h.count (is_ok (packed_layout settings (form_of m.0.encoded type fill)) l.0 l.1)
takes_codec f arrays _ outer wide count r mappings some e = tt

-- a chain that wrote offsets takes them
pub takes_so : {B : Type 0} (f : BytesCodecs B) (chain : PlainChain B) (wide : Bool) (offsets : List ℕ) (held : Held) (part : List ℕ) → IsChainOfMappings chain → is_offsets offsets ≡ true → IsOkAnd (index_elements wide offsets) (Holds (offset_type wide) held)
    → held_part f chain (length offsets) (offset_type wide) (offset_bytes wide 0) held ≡ Ok part → TakesOffsets chain.array_to_bytes wide (length offsets)
takes_so f chain wide offsets held part is rising h e =
    let so = elements_so wide offsets (Holds (offset_type wide) held) h in
    let rows = offset_elements wide (from_first offsets) in
    let whole : chain_value f chain (length offsets ∷ []) (offset_type wide) (offset_bytes wide 0) rows ≡ Ok part =
    ap (λ n. chain_value f chain (n ∷ []) (offset_type wide) (offset_bytes wide 0) rows) (sym (elements_long wide offsets)) ∙ sym (index_is f chain wide offsets held rising so.1) ∙ e in
    let a = bind_ok (chain_representation f chain (length offsets ∷ []) (offset_type wide) (offset_bytes wide 0)) _ part whole in
    takes_codec f chain.array_to_array chain.array_to_bytes chain.bytes_to_bytes wide (length offsets) a.0 is.mappings (some_offset offsets rising) a.1

-- ---- the same, by the type and the fill value that the code makes

-- a row of offsets that a chain was given
pub record IsIndexRow (wide : Bool) (offsets : List ℕ) (held : Held) (type : ElementType) (fill : List ℕ) : Type 0 where
  pub rising : is_offsets offsets ≡ true
  pub rows : IsOkAnd (index_elements wide offsets) (Holds (offset_type wide) held)
  pub type_is : type ≡ offset_type wide
  pub fill_is : ok (offset_bytes wide 0) ≡ ok fill

part_at : {B : Type 0} (f : BytesCodecs B) (chain : PlainChain B) (wide : Bool) (offsets : List ℕ) (held : Held) (type : ElementType) (fill : List ℕ) → IsIndexRow wide offsets held type fill
    → held_part f chain (length offsets) (offset_type wide) (offset_bytes wide 0) held ≡ held_part f chain (length offsets) type fill held
part_at f chain wide offsets held type fill r =
    let fill_so : offset_bytes wide 0 ≡ fill = ok_is (offset_bytes wide 0) fill r.fill_is in
    λ i. held_part f chain (length offsets) (sym r.type_is i) (fill_so i) held

pub index_refused_at : {B : Type 0} (f : BytesCodecs B) (chain : PlainChain B) (wide : Bool) (offsets : List ℕ) (held : Held) (type : ElementType) (fill : List ℕ) (error : CodecError) → IsIndexRow wide offsets held type fill
    → held_part f chain (length offsets) type fill held ≡ Err error → index_part f chain wide offsets ≡ Err error
index_refused_at f chain wide offsets held type fill error r e = index_refused f chain wide offsets held error r.rising r.rows (part_at f chain wide offsets held type fill r ∙ e)

pub index_not_kept_at : {B : Type 0} (f : BytesCodecs B) (chain : PlainChain B) (wide : Bool) (offsets : List ℕ) (held : Held) (type : ElementType) (fill part : List ℕ) (error : CodecError) → IsIndexRow wide offsets held type fill
    → held_part f chain (length offsets) type fill held ≡ Ok part → demand (keeps_offsets chain.array_to_bytes wide offsets) OffsetNotKept ≡ Err error → index_part f chain wide offsets ≡ Err error
index_not_kept_at f chain wide offsets held type fill part error r e kept = index_not_kept f chain wide offsets held part error r.rising r.rows (part_at f chain wide offsets held type fill r ∙ e) kept

pub takes_at : {B : Type 0} (f : BytesCodecs B) (chain : PlainChain B) (wide : Bool) (offsets : List ℕ) (held : Held) (type : ElementType) (fill part : List ℕ) → IsChainOfMappings chain → IsIndexRow wide offsets held type fill
    → held_part f chain (length offsets) type fill held ≡ Ok part → TakesOffsets chain.array_to_bytes wide (length offsets)
takes_at f chain wide offsets held type fill part is r e = takes_so f chain wide offsets held part is r.rising r.rows (part_at f chain wide offsets held type fill r ∙ e)

pub content_at : {B X : Type 0} (view : X → List ℕ) (result : Result X CodecError) (f : BytesCodecs B) (chain : PlainChain B) (raw : Raw) (held : Held) (fill : List ℕ) → length raw.items < 2 ^ 64 → held ≡ flen raw → ok (0 ∷ []) ≡ ok fill
    → Answers memory view result (held_part f chain (length raw.items) byte_type fill held) → Answers memory view result (content_part f chain raw.items)
content_at view result f chain raw held fill small made e h =
    let fill_so : 0 ∷ [] ≡ fill = ok_is (0 ∷ []) fill e in
    let is : held_part f chain (length raw.items) byte_type fill held ≡ content_part f chain raw.items = (λ i. held_part f chain (length raw.items) byte_type (sym fill_so i) (made i)) ∙ content_is f chain raw small in
    subst (λ (x : Result (List ℕ) CodecError). Answers memory view result x) is h

-- ---- the value

pub variable_is : (held : Held) (raw : Raw) (offsets : List ℕ) → variable_part held ≡ Ok (raw, offsets) → held ≡ vlen raw offsets
variable_is (flen other) raw offsets e = absurd cc
variable_is (vlen other others) raw offsets e =
    let p : (other, others) ≡ (raw, offsets) = ok_is (other, others) (raw, offsets) e in
    λ i. vlen (p i).0 (p i).1
variable_is (masked inner mask) raw offsets e = absurd cc

-- what the code knows of the container
pub record IsVariableHeld (sizes : List ℕ) (type : ElementType) (held : Held) (raw : Raw) (offsets : List ℕ) : Type 0 where
  pub size : BytesRepresentation
  pub measured : vlen_representation sizes type [] ≡ Ok size
  pub valid : validity type (product sizes) held ≡ Ok tt
  pub parts : variable_part held ≡ Ok (raw, offsets)
  pub rising : is_offsets offsets ≡ true
  pub ending : last_of offsets ≡ length raw.items
  pub small : length raw.items < 2 ^ 64

value_is : {B : Type 0} (f : BytesCodecs B) (codec : PlainCodec B) (index content : PlainChain B) (wide at_end : Bool) (sizes : List ℕ) (type : ElementType) (fill : List ℕ) (held : Held) (raw : Raw) (offsets : List ℕ)
    → codec ≡ vlen_codec_of index content wide at_end → IsVariableHeld sizes type held raw offsets → codec_held_value f codec sizes type fill held ≡ parts_value f index content wide at_end offsets raw.items
value_is f codec index content wide at_end sizes type fill held raw offsets e v =
    let is : held ≡ vlen raw offsets = variable_is held raw offsets v.parts in
    ap (codec_held_value f codec sizes type fill) is
    ∙ held_is f codec index content wide at_end sizes type fill raw offsets e
    (record { size = v.size; measured = v.measured; valid = subst (λ (x : Held). validity type (product sizes) x ≡ Ok tt) is v.valid; rising = v.rising; ending = v.ending; small = v.small })

pub value_index_refused : {B : Type 0} (f : BytesCodecs B) (codec : PlainCodec B) (index content : PlainChain B) (wide at_end : Bool) (sizes : List ℕ) (type : ElementType) (fill : List ℕ) (held : Held) (raw : Raw) (offsets : List ℕ) (error : CodecError)
    → codec ≡ vlen_codec_of index content wide at_end → IsVariableHeld sizes type held raw offsets → index_part f index wide offsets ≡ Err error → codec_held_value f codec sizes type fill held ≡ Err error
value_index_refused f codec index content wide at_end sizes type fill held raw offsets error e v h =
    value_is f codec index content wide at_end sizes type fill held raw offsets e v
    ∙ next_err (index_part f index wide offsets) error (λ part. content_part f content (drop (slice_index offsets 0) raw.items) >>= λ d. in_memory (arranged at_end (part_length_bytes part) part d)) h

pub value_content_refused : {B : Type 0} (f : BytesCodecs B) (codec : PlainCodec B) (index content : PlainChain B) (wide at_end : Bool) (sizes : List ℕ) (type : ElementType) (fill : List ℕ) (held : Held) (raw : Raw) (offsets part : List ℕ) (error : CodecError)
    → codec ≡ vlen_codec_of index content wide at_end → IsVariableHeld sizes type held raw offsets → index_part f index wide offsets ≡ Ok part → content_part f content (drop (slice_index offsets 0) raw.items) ≡ Err error → codec_held_value f codec sizes type fill held ≡ Err error
value_content_refused f codec index content wide at_end sizes type fill held raw offsets part error e v h k =
    value_is f codec index content wide at_end sizes type fill held raw offsets e v
    ∙ next_answer (index_part f index wide offsets) part (λ part. content_part f content (drop (slice_index offsets 0) raw.items) >>= λ d. in_memory (arranged at_end (part_length_bytes part) part d)) h
    ∙ next_err (content_part f content (drop (slice_index offsets 0) raw.items)) error (λ d. in_memory (arranged at_end (part_length_bytes part) part d)) k

pub value_joined : {B : Type 0} (f : BytesCodecs B) (codec : PlainCodec B) (index content : PlainChain B) (wide at_end : Bool) (sizes : List ℕ) (type : ElementType) (fill : List ℕ) (held : Held) (raw : Raw) (offsets part items : List ℕ)
    → codec ≡ vlen_codec_of index content wide at_end → IsVariableHeld sizes type held raw offsets → index_part f index wide offsets ≡ Ok part → content_part f content (drop (slice_index offsets 0) raw.items) ≡ Ok items
    → codec_held_value f codec sizes type fill held ≡ in_memory (arranged at_end (part_length_bytes part) part items)
value_joined f codec index content wide at_end sizes type fill held raw offsets part items e v h k =
    value_is f codec index content wide at_end sizes type fill held raw offsets e v
    ∙ next_answer (index_part f index wide offsets) part (λ part. content_part f content (drop (slice_index offsets 0) raw.items) >>= λ d. in_memory (arranged at_end (part_length_bytes part) part d)) h
    ∙ next_answer (content_part f content (drop (slice_index offsets 0) raw.items)) items (λ d. in_memory (arranged at_end (part_length_bytes part) part d)) k

-- ---- the first errors, one level as the code opens it

-- a codec `vlen` asks its representation, the container, and then the content
pub held_checked : {B : Type 0} (f : BytesCodecs B) (codec : VlenCodec B) (sizes : List ℕ) (type : ElementType) (fill : List ℕ) (held : Held)
    → codec_held_value f (plain_vlen codec) sizes type fill held ≡ vlen_representation sizes type [] >>= λ _. validity type (product sizes) held >>= λ _. codec_value f (plain_vlen codec) sizes type fill (elements type (product sizes) held)
unfolding meaning
held_checked f codec sizes type fill held = rw (plain_vlen_at codec) refl

-- the first offset stands inside
pub first_inside : (offsets items : List ℕ) → is_offsets offsets ≡ true → last_of offsets ≡ length items → slice_index offsets 0 ≤ length items
first_inside offsets items rising ending =
    let l = rising_last offsets rising 0 (some_offset offsets rising) in
    subst (λ (n : ℕ). slice_index offsets 0 ≤ n) ending l
