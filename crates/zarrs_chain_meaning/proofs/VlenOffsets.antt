-- Offsets written one behind another, and read again.
use Rattle.std.proofs.Common.{◌≡◌, ℕ, ◌+◌, ◌-◌, ◌*◌, ◌/◌, ◌<◌, ◌≤◌, ◌^◌, Bool, true, false, if◌then◌else◌, List, [], ◌∷◌, ◌++◌, length, map, take, drop, get_or, slice_index, Ok, Err, arith, refl, ap, sym, subst, ◌∙◌}
use Rattle.std.specs.Prelude.{IsOkAnd, None}
use Rattle.std.specs.List.{All, concat, flat_map, range_with_len}
use Rattle.std.proofs.lemmas.List.{length-map, take_all, ext_get_or}
use Rattle.std.proofs.lemmas.List.Concat.{flat_map-append}
use Rattle.std.proofs.lemmas.List.FromFn.{length-map-range_with_len, get_or-map-range_with_len}
use Rattle.std.proofs.lemmas.Grind.{get_or_default_zero}
use Rattle.std.proofs.lemmas.Simd.{map-map}
use Rattle.zarrs_chunk.specs.Answer.{◌>>=◌, demand}
use Rattle.zarrs_chunk.specs.declared.codec_error.CodecError.{CodecError}
use Rattle.zarrs_chunk.specs.declared.codec_error.CodecError.TheVariants.{OffsetTooLarge, InvalidBytesLength}
use Rattle.zarrs_data_type.specs.Element.{Chunk, plain}
use Rattle.zarrs_data_type.specs.ElementType.{element_size}
use Rattle.zarrs_array_bytes.specs.Elements.{piece}
use Rattle.zarrs_array_bytes.specs.Held.{Raw, flen, Held, vlen, masked}
use Rattle.zarrs_array_bytes.specs.Offsets.{is_offsets, last_of, rises}
use Rattle.zarrs_array_bytes.specs.Pieces.{pieces}
use Rattle.zarrs_array_bytes.specs.Validity.{Holds}
use Rattle.zarrs_array_bytes.proofs.OffsetLemmas.{rising_last}
use Rattle.zarrs_array_bytes.proofs.Pieces.{AllSized, read_pieces, elements-pieces}
use Rattle.zarrs_array_bytes.proofs.RunLemmas.{take_two, rising_between}
use Rattle.zarrs_array_bytes.proofs.ValidLemmas.{both_ok, fixed_fits}
use Rattle.zarrs_bytes.specs.ByteOrder.{bytes_of, bytes_in_order}
use Rattle.zarrs_bytes.proofs.Spelled.{Holds-pieces}
use Rattle.zarrs_chain_meaning.specs.vlen.Vlen.{offset_of, offsets_in_chunk, offset_bytes, offset_elements, offset_type}
use Rattle.zarrs_chain_meaning.specs.vlen.VlenSteps.{offset_size, bytes_from, offsets_fit, written_offsets, index_elements, read_offsets}
use Rattle.zarrs_bytes.proofs.Coding.{ok}
use Rattle.zarrs_chain_meaning.proofs.ArraySteps.{err, ok_is}
use Rattle.zarrs_data_type.specs.FillValue.{fill_fits}
use Rattle.zarrs_array_bytes.specs.Parts.{fixed_part}
use Rattle.zarrs_array_bytes.specs.Tight.{from_first}

-- the offset zero, as a fill value
pub zero_fits : (wide : Bool) → fill_fits (offset_type wide) (offset_bytes wide 0) ≡ true
unfolding offset_bytes
zero_fits true = refl
zero_fits false = refl

pub fixed_held : (held : Held) (raw : Raw) → fixed_part held ≡ Ok raw → held ≡ flen raw
fixed_held (flen raw) other e = cc
fixed_held (vlen raw offsets) other e = absurd cc
fixed_held (masked inner mask) other e = absurd cc

pub rises_are : (numbers : List ℕ) → 0 < length numbers → is_offsets numbers ≡ rises numbers
rises_are [] l = absurd (omega arith)
rises_are (number ∷ numbers) l = refl

pub offset_long : (wide : Bool) (offset : ℕ) → length (offset_bytes wide offset) ≡ offset_size wide
unfolding offset_bytes
offset_long true offset = refl
offset_long false offset = refl

-- numbers that are those of the pieces, place by place
pub numbers_are : (f : List ℕ → ℕ) (size count : ℕ) (items numbers : List ℕ) → length numbers ≡ count → ((k : ℕ) → k < count → get_or numbers k 0 ≡ f (piece size items k)) → numbers ≡ map f (pieces size count items)
numbers_are f size count items numbers long each =
    let made : ℕ → ℕ = λ place. f (piece size items place) in
    ext_get_or 0 numbers (map made (range_with_len 0 count)) (omega (arith, long, length-map-range_with_len made 0 count))
    (λ place below. each place (omega (arith, below, long)) ∙ sym (get_or-map-range_with_len made 0 count place place 0 (omega (arith, below, long)) (omega arith)))
    ∙ read_pieces f size count items

-- ---- blocks of offsets

pub more_from : (wide : Bool) (first at n next : ℕ) (offsets old new : List ℕ) → old ≡ bytes_from wide first (take at offsets) → new ≡ old ++ bytes_from wide first (take n (drop at offsets)) → at + n ≡ next
    → new ≡ bytes_from wide first (take next offsets)
more_from wide first at n next offsets old new was put e =
    let f : ℕ → List ℕ = λ offset. offset_bytes wide (offset - first) in
    put ∙ ap (λ (xs : List ℕ). xs ++ flat_map f (take n (drop at offsets))) was ∙ sym (flat_map-append f (take at offsets) (take n (drop at offsets)))
    ∙ ap (flat_map f) (take_two at n offsets) ∙ ap (λ k. flat_map f (take k offsets)) e

pub whole_from : (wide : Bool) (first index blocks n : ℕ) (offsets old new : List ℕ) → index ≡ blocks → old ≡ bytes_from wide first (take (index * 32) offsets) → new ≡ old ++ bytes_from wide first (take n (drop (blocks * 32) offsets)) → blocks * 32 + n ≡ length offsets
    → new ≡ bytes_from wide first offsets
whole_from wide first index blocks n offsets old new is was put e =
    more_from wide first (blocks * 32) n (length offsets) offsets old new (was ∙ ap (λ k. bytes_from wide first (take (k * 32) offsets)) is) put e
    ∙ ap (bytes_from wide first) (take_all (length offsets) offsets (omega arith))

-- ---- offsets that rise

pub first_below : (offsets : List ℕ) → is_offsets offsets ≡ true → All (λ offset. slice_index offsets 0 ≤ offset) offsets
first_below offsets h = λ k d l.
    let z : 0 + k ≡ k = omega arith in
    let up : slice_index offsets 0 ≤ slice_index offsets k = rw z at (rising_between offsets h 0 k (omega arith)) in
    rw (get_or_default_zero offsets k d l) up

pub all_within : (offsets : List ℕ) (limit : ℕ) → is_offsets offsets ≡ true → last_of offsets - slice_index offsets 0 < limit → All (λ offset. offset - slice_index offsets 0 < limit) offsets
all_within offsets limit h lt = λ k d l. rw (get_or_default_zero offsets k d l) (omega (arith, rising_last offsets h k l, lt))

-- ---- offsets in a container

-- the bits of an offset
abbrev width_of : Bool → ℕ
width_of wide = if wide then 64 else 32

size_is : (wide : Bool) → element_size (width_of wide) 1 ≡ offset_size wide
size_is true = refl
size_is false = refl

rows_sized : (wide : Bool) (numbers : List ℕ) → AllSized (element_size (width_of wide) 1) (map (offset_bytes wide) numbers)
rows_sized wide [] = tt
rows_sized wide (n ∷ ns) = (offset_long wide n ∙ sym (size_is wide), rows_sized wide ns)

rows_joined : (wide : Bool) (first : ℕ) (offsets : List ℕ) → bytes_from wide first offsets ≡ concat (map (bytes_in_order None (width_of wide) 1) (map (offset_bytes wide) (map (λ offset. offset - first) offsets)))
rows_joined wide first [] = refl
rows_joined wide first (offset ∷ offsets) = ap (λ (xs : List ℕ). offset_bytes wide (offset - first) ++ xs) (rows_joined wide first offsets)

-- the bytes of numbers hold them, counted from any one
pub holds_from : (wide : Bool) (first : ℕ) (numbers : List ℕ) (raw : Raw) → raw.items ≡ bytes_from wide first numbers → length raw.items < 2 ^ 64
    → Holds (offset_type wide) (flen raw) (offset_elements wide (map (λ number. number - first) numbers))
holds_from wide first numbers raw is small =
    let parts = map (offset_bytes wide) (map (λ number. number - first) numbers) in
    subst (Holds (offset_type wide) (flen raw)) (map-map plain (offset_bytes wide) (map (λ number. number - first) numbers))
    (Holds-pieces None (width_of wide) 1 false raw parts (rows_sized wide (map (λ number. number - first) numbers)) (is ∙ rows_joined wide first numbers) small)

holds_offsets : (wide : Bool) (offsets : List ℕ) (raw : Raw) → raw.items ≡ bytes_from wide (slice_index offsets 0) offsets → length raw.items < 2 ^ 64
    → Holds (offset_type wide) (flen raw) (offset_elements wide (from_first offsets))
holds_offsets wide offsets raw is small = holds_from wide (slice_index offsets 0) offsets raw is small

index_test : (test : Bool) (wide : Bool) (offsets : List ℕ) (raw : Raw) → (demand test OffsetTooLarge >>= λ _. ok (bytes_from wide (slice_index offsets 0) offsets)) ≡ ok raw.items → length raw.items < 2 ^ 64
    → IsOkAnd (demand test OffsetTooLarge >>= λ _. ok (offset_elements wide (from_first offsets))) (Holds (offset_type wide) (flen raw))
index_test true wide offsets raw e small = holds_offsets wide offsets raw (sym (ok_is (bytes_from wide (slice_index offsets 0) offsets) raw.items e)) small
index_test false wide offsets raw e small = absurd cc

-- the bytes of offsets hold the elements of the index
pub index_found : (wide : Bool) (offsets : List ℕ) (raw : Raw) → written_offsets wide offsets ≡ Ok raw.items → length raw.items < 2 ^ 64 → IsOkAnd (index_elements wide offsets) (Holds (offset_type wide) (flen raw))
index_found wide offsets raw e small = index_test (offsets_fit wide offsets) wide offsets raw e small

holds_test : (test : Bool) (wide : Bool) (offsets : List ℕ) (raw : Raw) → (demand test OffsetTooLarge >>= λ _. ok (bytes_from wide (slice_index offsets 0) offsets)) ≡ ok raw.items → length raw.items < 2 ^ 64
    → Holds (offset_type wide) (flen raw) (offset_elements wide (from_first offsets))
holds_test true wide offsets raw e small = holds_offsets wide offsets raw (sym (ok_is (bytes_from wide (slice_index offsets 0) offsets) raw.items e)) small
holds_test false wide offsets raw e small = absurd cc

pub index_holds : (wide : Bool) (offsets : List ℕ) (raw : Raw) → written_offsets wide offsets ≡ Ok raw.items → length raw.items < 2 ^ 64 → Holds (offset_type wide) (flen raw) (offset_elements wide (from_first offsets))
index_holds wide offsets raw e small = holds_test (offsets_fit wide offsets) wide offsets raw e small

pub elements_long : (wide : Bool) (offsets : List ℕ) → length (offset_elements wide (from_first offsets)) ≡ length offsets
elements_long wide offsets =
    length-map (from_first offsets) (λ offset. plain (offset_bytes wide offset)) ∙ length-map offsets (λ offset. offset - slice_index offsets 0)

refused_test : (test : Bool) (items : List ℕ) (chunk : Chunk) (error : CodecError) → (demand test OffsetTooLarge >>= λ _. ok items) ≡ err error → (demand test OffsetTooLarge >>= λ _. ok chunk) ≡ err error
refused_test true items chunk error e = absurd cc
refused_test false items chunk error e = cc

pub index_refused : (wide : Bool) (offsets : List ℕ) (error : CodecError) → written_offsets wide offsets ≡ Err error → index_elements wide offsets ≡ Err error
index_refused wide offsets error e = refused_test (offsets_fit wide offsets) (bytes_from wide (slice_index offsets 0) offsets) (offset_elements wide (from_first offsets)) error e

counted_rows : (wide : Bool) (n m : ℕ) → m ≡ n * element_size (width_of wide) 1 → m / offset_size wide ≡ n
counted_rows true n m e = let f : m ≡ n * 8 = e in omega arith
counted_rows false n m e = let f : m ≡ n * 4 = e in omega arith

-- the offsets that the bytes of a chunk's container spell are those in the chunk
pub numbers_in : (wide : Bool) (raw : Raw) (chunk : Chunk) → Holds (offset_type wide) (flen raw) chunk → read_offsets wide raw.items ≡ offsets_in_chunk wide chunk
numbers_in wide raw chunk h =
    let size = element_size (width_of wide) 1 in
    let count = length chunk in
    let long : length raw.items ≡ count * size = fixed_fits InvalidBytesLength (offset_type wide) count raw size (both_ok _ _ h.valid).1 refl in
    let is : chunk ≡ map plain (pieces size count raw.items) = sym h.elements_are ∙ elements-pieces (width_of wide) 1 false count raw in
    ap (λ n. map (offset_of wide) (pieces (offset_size wide) n raw.items)) (counted_rows wide count (length raw.items) long)
    ∙ ap (λ n. map (offset_of wide) (pieces n count raw.items)) (sym (size_is wide))
    ∙ sym (map-map (λ element. offset_of wide (bytes_of element)) plain (pieces size count raw.items))
    ∙ ap (offsets_in_chunk wide) (sym is)

pub numbers_long : (wide : Bool) (chunk : Chunk) → length (offsets_in_chunk wide chunk) ≡ length chunk
numbers_long wide chunk = length-map chunk (λ element. offset_of wide (bytes_of element))
