-- The container of the bytes and the offsets of elements holds them.
use Rattle.std.proofs.Common.{◌≡◌, ℕ, zero, suc, ◌+◌, ◌<◌, ◌^◌, nat_lt, nat_eq, true, List, [], ◌∷◌, length, map, get_or, Ok, arith, refl, ap, sym, add-one, ◌∙◌}
use Rattle.std.specs.List.{flat_map, range_with_len}
use Rattle.std.proofs.lemmas.Bool.{eq-eqb}
use Rattle.std.proofs.lemmas.List.{length-map}
use Rattle.std.proofs.lemmas.List.Elements.{All-head, All-tail}
use Rattle.std.proofs.lemmas.List.FromFn.{fill_by_all}
use Rattle.zarrs_chunk.proofs.Inside.{lt_test}
use Rattle.zarrs_data_type.specs.Element.{plain, absent, Chunk, IsElement, AreElements}
use Rattle.zarrs_data_type.specs.ElementType.{ElementType, fixed, text, bytes, optional, is_variable}
use Rattle.zarrs_array_bytes.specs.Elements.{elements, cut}
use Rattle.zarrs_array_bytes.specs.Held.{Raw, vlen}
use Rattle.zarrs_array_bytes.specs.Pieces.{ends}
use Rattle.zarrs_array_bytes.specs.Validity.{Holds, validity}
use Rattle.zarrs_array_bytes.proofs.ElementLemmas.{cut_at, length_ends}
use Rattle.zarrs_bytes.specs.ByteOrder.{bytes_of}
use Rattle.zarrs_vlen_v2.proofs.Rows.{plain_is}

-- ---- how many offsets there are

pub offsets_long : (chunk : Chunk) → length (0 ∷ ends 0 (map bytes_of chunk)) ≡ length chunk + 1
offsets_long chunk = omega (arith, length_ends 0 (map bytes_of chunk), length-map chunk bytes_of)

-- ---- the elements

all_plain : (type : ElementType) (chunk : Chunk) (k : ℕ) → is_variable type ≡ true → AreElements type chunk → k < length chunk → plain (bytes_of (get_or chunk k absent)) ≡ get_or chunk k absent
all_plain type [] k v each l = absurd (omega arith)
all_plain type (element ∷ chunk) zero v each l = plain_is type element v (All-head (IsElement type) element chunk each)
all_plain type (element ∷ chunk) (suc k) v each l = all_plain type chunk k v (All-tail (IsElement type) element chunk each) (omega (arith, l))

cut_is : (chunk : Chunk) (k : ℕ) → k < length chunk → cut (0 ∷ ends 0 (map bytes_of chunk)) (flat_map bytes_of chunk) k ≡ bytes_of (get_or chunk k absent)
cut_is chunk k l = rw add-one (cut_at bytes_of [] 0 chunk k absent refl l)

cut_there : (type : ElementType) (chunk : Chunk) (k : ℕ) → is_variable type ≡ true → AreElements type chunk → k < length chunk → get_or chunk k absent ≡ plain (cut (0 ∷ ends 0 (map bytes_of chunk)) (flat_map bytes_of chunk) k)
cut_there type chunk k v each l =
    sym (all_plain type chunk k v each l) ∙ ap plain (sym (cut_is chunk k l))

-- the bytes and offsets of the elements, as the elements of a variable type
cuts_are : (type : ElementType) (chunk : Chunk) → is_variable type ≡ true → AreElements type chunk → chunk ≡ map (λ k. plain (cut (0 ∷ ends 0 (map bytes_of chunk)) (flat_map bytes_of chunk) k)) (range_with_len 0 (length chunk))
cuts_are type chunk v each = fill_by_all (λ k. plain (cut (0 ∷ ends 0 (map bytes_of chunk)) (flat_map bytes_of chunk) k)) chunk (length chunk) absent refl (λ k l. cut_there type chunk k v each l)

are_elements : (type : ElementType) (raw : Raw) (offsets : List ℕ) (chunk : Chunk) → is_variable type ≡ true → AreElements type chunk → raw.items ≡ flat_map bytes_of chunk → offsets ≡ 0 ∷ ends 0 (map bytes_of chunk) → elements type (length chunk) (vlen raw offsets) ≡ chunk
are_elements (fixed width components sign) raw offsets chunk v each b o = absurd cc
are_elements text raw offsets chunk v each b o = rw (b, o) (sym (cuts_are text chunk v each))
are_elements bytes raw offsets chunk v each b o = rw (b, o) (sym (cuts_are bytes chunk v each))
are_elements (optional type) raw offsets chunk v each b o = absurd cc

-- ---- the container

is_valid : (type : ElementType) (raw : Raw) (offsets : List ℕ) (count : ℕ) → is_variable type ≡ true → length offsets ≡ count + 1 → length offsets < 2 ^ 64 → validity type count (vlen raw offsets) ≡ Ok tt
is_valid (fixed width components sign) raw offsets count v long small = absurd cc
is_valid text raw offsets count v long small =
    let a : nat_lt (count + 1) (2 ^ 64) ≡ true = lt_test (count + 1) (2 ^ 64) (omega (arith, long, small)) in
    let b : nat_eq (length offsets) (count + 1) ≡ true = eq-eqb (length offsets) (count + 1) long in
    rw (a, b) refl
is_valid bytes raw offsets count v long small =
    let a : nat_lt (count + 1) (2 ^ 64) ≡ true = lt_test (count + 1) (2 ^ 64) (omega (arith, long, small)) in
    let b : nat_eq (length offsets) (count + 1) ≡ true = eq-eqb (length offsets) (count + 1) long in
    rw (a, b) refl
is_valid (optional type) raw offsets count v long small = absurd cc

pub holds_parts : (type : ElementType) (raw : Raw) (offsets : List ℕ) (chunk : Chunk) → is_variable type ≡ true → AreElements type chunk → raw.items ≡ flat_map bytes_of chunk → offsets ≡ 0 ∷ ends 0 (map bytes_of chunk) → length offsets < 2 ^ 64 → Holds type (vlen raw offsets) chunk
holds_parts type raw offsets chunk v each b o small = record {
  valid = is_valid type raw offsets (length chunk) v (ap length o ∙ offsets_long chunk) small;
  elements_are = are_elements type raw offsets chunk v each b o;
}
