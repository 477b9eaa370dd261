-- Values of one length that agree at bytes are read alike by `bytes` and `packbits`.
use Rattle.std.proofs.Common.{◌≡◌, ℕ, zero, suc, ◌+◌, ◌*◌, ◌<◌, ◌≤◌, Bool, true, false, nat_le, nat_lt, Option, Some, List, [], ◌∷◌, length, slice_index, get_or, refl, ap, sym, ◌∙◌, arith}
use Rattle.std.specs.Prelude.{Ok}
use Rattle.std.specs.List.{All, list_all, range_with_len}
use Rattle.std.proofs.lemmas.Bool.{and_from}
use Rattle.std.proofs.lemmas.Bool.Decides.{nat_tests}
use Rattle.std.proofs.lemmas.List.Folds.{list_all-append}
use Rattle.zarrs_data_type.specs.ElementType.{ElementType}
use Rattle.zarrs_data_type.specs.Form.{form_of}
use Rattle.zarrs_data_type.specs.declared.endianness.Endianness.{Endianness}
use Rattle.zarrs_codec.specs.ByteRanges.{SameByte}
use Rattle.zarrs_bytes.specs.PartialRead.{place_bytes, place_size, has_place, read_places}
use Rattle.zarrs_bytes.proofs.Alike as bytes
use Rattle.zarrs_packbits.specs.PackBitsSettings.{PackBitsSettings, packed_layout}
use Rattle.zarrs_packbits.specs.PartialRead.{all_below, packed_places_bytes, read_packed_places}
use Rattle.zarrs_packbits.proofs.CodecLaws as packed
use Rattle.zarrs_chunk.proofs.Inside.{from_lt_test, from_le_test}

-- ---- bytes inside values of one length

-- the values agree there
abbrev pub Agree : List ℕ → List ℕ → List ℕ → Type 0
Agree value other numbers = All (λ number. slice_index value number ≡ slice_index other number) numbers

pub passes_at : (test : ℕ → Bool) (numbers : List ℕ) (k d : ℕ) → list_all test numbers ≡ true → k < length numbers → test (get_or numbers k d) ≡ true
passes_at test [] k d all l = absurd (omega arith)
passes_at test (n ∷ numbers) zero d all l = grind (arith, nat_tests)
passes_at test (n ∷ numbers) (suc k) d all l = grind (arith, nat_tests, passes_at test numbers k d)

-- values of one length that agree at numbers inside both have these bytes
same_bytes : (value other numbers : List ℕ) → length value ≡ length other → all_below (length value) numbers ≡ true → Agree value other numbers → All (SameByte value other) numbers
same_bytes value other numbers long inside same k d l =
    let n : ℕ = get_or numbers k d in
    let here : n < length value = from_lt_test n (length value) (passes_at (λ number. nat_lt number (length value)) numbers k d inside l) in
    record { in_value = here; in_other = omega (arith, here, long); same = same k d l }

row_below : (start len count : ℕ) → start + len ≤ count → all_below count (range_with_len start len) ≡ true
row_below start zero count l = refl
row_below start (suc len) count l = grind (arith, nat_tests, row_below (start + 1) len count)

-- where a value has places, it has their bytes
places_below : (type : ElementType) (value places : List ℕ) → list_all (has_place type value) places ≡ true → all_below (length value) (place_bytes (place_size type) places) ≡ true
places_below type value [] all = refl
places_below type value (place ∷ places) all =
    let size : ℕ = place_size type in
    let first : has_place type value place ≡ true = grind (arith, nat_tests) in
    let rest : list_all (has_place type value) places ≡ true = grind (arith, nat_tests) in
    list_all-append (λ number. nat_lt number (length value)) (range_with_len (place * size) size) (place_bytes size places)
    ∙ and_from _ _ (row_below (place * size) size (length value) (from_le_test _ _ first)) (places_below type value places rest)

-- ---- values of one length

same_test : (type : ElementType) (value other places : List ℕ) → length value ≡ length other → list_all (has_place type value) places ≡ list_all (has_place type other) places
same_test type value other places long = ap (λ (n : ℕ). list_all (λ place. nat_le (place * place_size type + place_size type) n) places) long

pub bytes_sized : (order : Option Endianness) (type : ElementType) (fill value other places : List ℕ) → length value ≡ length other → Agree value other (place_bytes (place_size type) places)
    → read_places order type fill (Some value) places ≡ read_places order type fill (Some other) places
bytes_sized order type fill value other places long same = by (list_all (has_place type value) places) refl
  where
    by : (t : Bool) → list_all (has_place type value) places ≡ t → read_places order type fill (Some value) places ≡ read_places order type fill (Some other) places
    by true e = bytes.reads_alike order type fill value other places (same_bytes value other (place_bytes (place_size type) places) long (places_below type value places e) same)
    by false e =
        let f : list_all (has_place type other) places ≡ false = sym (same_test type value other places long) ∙ e in
        rw (e, f) refl

pub packed_sized : (settings : PackBitsSettings) (sizes : List ℕ) (type : ElementType) (fill : List ℕ) (l : _) (value other places : List ℕ) → length value ≡ length other → packed_layout settings (form_of sizes type fill) ≡ Ok l → Agree value other (packed_places_bytes l places)
    → read_packed_places l type fill (Some value) places ≡ read_packed_places l type fill (Some other) places
packed_sized settings sizes type fill l value other places long is same = by (all_below (length value) (packed_places_bytes l places)) refl
  where
    by : (t : Bool) → all_below (length value) (packed_places_bytes l places) ≡ t → read_packed_places l type fill (Some value) places ≡ read_packed_places l type fill (Some other) places
    by true e = packed.reads_alike settings sizes type fill l value other places is (same_bytes value other (packed_places_bytes l places) long e same)
    by false e =
        let f : all_below (length other) (packed_places_bytes l places) ≡ false = ap (λ (n : ℕ). all_below n (packed_places_bytes l places)) (sym long) ∙ e in
        rw (e, f) refl
