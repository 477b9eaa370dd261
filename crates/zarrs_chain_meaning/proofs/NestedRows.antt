-- Parts of values and of chunks that are found again.
use Rattle.std.proofs.Common.{◌≡◌, ℕ, suc, ◌+◌, ◌<◌, ◌≤◌, ◌^◌, Bool, true, false, List, [], ◌∷◌, ◌++◌, length, get_or, map, arith, add-one, refl, ap, sym, ◌∙◌}
use Rattle.std.proofs.lemmas.List.{ext_get_or, length-append}
use Rattle.std.proofs.lemmas.List.FromFn.{length-map-range_with_len, get_or-map-range_with_len}
use Rattle.std.proofs.lemmas.Nat.{from_le_bytes-to_le_bytes_8, from_le_bytes-to_le_bytes_4}
use Rattle.zarrs_data_type.specs.ElementType.{ElementType, is_variable}
use Rattle.zarrs_data_type.specs.Element.{Element, plain, absent, Chunk, AreElements}
use Rattle.zarrs_array_bytes.specs.Elements.{cut}
use Rattle.zarrs_array_bytes.specs.Offsets.{rises, last_of}
use Rattle.zarrs_array_bytes.specs.Pieces.{ends}
use Rattle.zarrs_array_bytes.proofs.ElementLemmas.{cut_at, length_ends}
use Rattle.zarrs_array_bytes.proofs.OffsetLemmas.{ends_rise, offsets_end}
use Rattle.zarrs_bytes.specs.ByteOrder.{bytes_of}
use Rattle.zarrs_vlen_v2.proofs.Rows.{plain_is}
use Rattle.zarrs_chain_meaning.specs.Parts.{length_of, part_length_bytes, byte_elements, all_bytes}
use Rattle.zarrs_chain_meaning.specs.vlen.Vlen.{offset_of, offsets_in_chunk, slices, chunk_offsets, offset_bytes, offset_elements, offset_fits, arranged}
use Rattle.zarrs_chunk.proofs.Inside.{from_lt_test, lt_test}

-- ---- lengths

pub length_again : (part : List ℕ) → length part < 2 ^ 64 → length_of (part_length_bytes part) ≡ length part
unfolding length_of part_length_bytes
length_again part lt = from_le_bytes-to_le_bytes_8 (length part) lt

-- the index is no longer than the value
pub index_small : (at_end : Bool) (index items : List ℕ) → length (arranged at_end (part_length_bytes index) index items) < 2 ^ 64 → length index < 2 ^ 64
index_small false index items lt = omega (arith, lt, length-append (part_length_bytes index) (index ++ items), length-append index items)
index_small true index items lt = omega (arith, lt, length-append items (index ++ part_length_bytes index), length-append index (part_length_bytes index))

-- ---- offsets

pub offset_again : (wide : Bool) (offset : ℕ) → offset < 2 ^ 64 → offset_fits wide offset ≡ true → offset_of wide (offset_bytes wide offset) ≡ offset
unfolding offset_of offset_bytes
offset_again true offset lt h = from_le_bytes-to_le_bytes_8 offset lt
offset_again false offset lt h = from_le_bytes-to_le_bytes_4 offset (from_lt_test offset (2 ^ 32) h)

fits_below : (wide : Bool) (m n : ℕ) → m ≤ n → offset_fits wide n ≡ true → offset_fits wide m ≡ true
fits_below true m n le h = refl
fits_below false m n le h = let lt = from_lt_test n (2 ^ 32) h in lt_test m (2 ^ 32) (omega arith)

row_again : (wide : Bool) (at : ℕ) (chunk : Chunk) → at + length (all_bytes chunk) < 2 ^ 64 → offset_fits wide (at + length (all_bytes chunk)) ≡ true
    → offsets_in_chunk wide (offset_elements wide (at ∷ ends at (map bytes_of chunk))) ≡ at ∷ ends at (map bytes_of chunk)
row_again wide at [] lt h = λ i. offset_again wide at (omega arith) (fits_below wide at (at + 0) (omega arith) h) i ∷ []
row_again wide at (element ∷ chunk) lt h =
    let long = length-append (bytes_of element) (all_bytes chunk) in
    let next : at + length (all_bytes (element ∷ chunk)) ≡ (at + length (bytes_of element)) + length (all_bytes chunk) = omega (arith, long) in
    λ i. offset_again wide at (omega arith) (fits_below wide at (at + length (all_bytes (element ∷ chunk))) (omega arith) h) i
    ∷ row_again wide (at + length (bytes_of element)) chunk (omega (arith, next, lt)) (ap (offset_fits wide) (sym next) ∙ h) i

-- the offsets of a chunk are found again
pub offsets_again : (wide : Bool) (chunk : Chunk) → length (all_bytes chunk) < 2 ^ 64 → offset_fits wide (length (all_bytes chunk)) ≡ true → offsets_in_chunk wide (offset_elements wide (chunk_offsets chunk)) ≡ chunk_offsets chunk
offsets_again wide chunk lt h = let z : 0 + length (all_bytes chunk) ≡ length (all_bytes chunk) = omega arith in row_again wide 0 chunk (omega (arith, lt)) (ap (offset_fits wide) z ∙ h)

pub offsets_rise : (chunk : Chunk) → rises (chunk_offsets chunk) ≡ true
offsets_rise chunk = ends_rise 0 (map bytes_of chunk)

pub offsets_last : (chunk : Chunk) → last_of (chunk_offsets chunk) ≡ length (all_bytes chunk)
offsets_last chunk = offsets_end bytes_of chunk

elements_long : (wide : Bool) (offsets : List ℕ) → length (offset_elements wide offsets) ≡ length offsets
elements_long wide [] = refl
elements_long wide (offset ∷ offsets) = ap suc (elements_long wide offsets)

bytes_long : (chunk : Chunk) → length (map bytes_of chunk) ≡ length chunk
bytes_long [] = refl
bytes_long (element ∷ chunk) = ap suc (bytes_long chunk)

-- one offset more than elements
pub offsets_long : (wide : Bool) (chunk : Chunk) → length (offset_elements wide (chunk_offsets chunk)) ≡ length chunk + 1
offsets_long wide chunk = omega (arith, elements_long wide (chunk_offsets chunk), length_ends 0 (map bytes_of chunk), bytes_long chunk)

-- ---- elements

slice_again : (chunk : Chunk) (place : ℕ) → place < length chunk → cut (chunk_offsets chunk) (all_bytes chunk) place ≡ bytes_of (get_or chunk place absent)
slice_again chunk place lt = rw add-one (cut_at bytes_of [] 0 chunk place absent refl lt)

-- the elements are cut of their bytes again
pub slices_again : (type : ElementType) (chunk : Chunk) → is_variable type ≡ true → AreElements type chunk → slices (length chunk) (chunk_offsets chunk) (all_bytes chunk) ≡ chunk
slices_again type chunk v each =
    let made : ℕ → Element = λ place. plain (cut (chunk_offsets chunk) (all_bytes chunk) place) in
    ext_get_or absent (slices (length chunk) (chunk_offsets chunk) (all_bytes chunk)) chunk (length-map-range_with_len made 0 (length chunk))
    (λ place below.
    let lt : place < length chunk = omega (arith, below, length-map-range_with_len made 0 (length chunk)) in
    get_or-map-range_with_len made 0 (length chunk) place place absent lt (omega arith) ∙ ap plain (slice_again chunk place lt) ∙ plain_is type (get_or chunk place absent) v (each place absent lt))

-- the bytes of bytes as elements
pub items_again : (items : List ℕ) → all_bytes (byte_elements items) ≡ items
items_again [] = refl
items_again (byte ∷ items) = ap (λ (xs : List ℕ). byte ∷ xs) (items_again items)

pub items_long : (items : List ℕ) → length (byte_elements items) ≡ length items
items_long [] = refl
items_long (byte ∷ items) = ap suc (items_long items)
