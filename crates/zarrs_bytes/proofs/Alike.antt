-- Values that have the same bytes at some places are read alike there.
use Rattle.std.proofs.Common.{◌≡◌, ℕ, zero, suc, ◌+◌, ◌-◌, ◌*◌, ◌≤◌, true, Option, Some, List, [], ◌∷◌, ◌++◌, length, take, drop, map, arith, refl, ap, sym, ◌∙◌}
use Rattle.std.specs.List.{All, list_all, range_with_len}
use Rattle.std.proofs.lemmas.Bool.{and_from}
use Rattle.std.proofs.lemmas.List.{drop_more, get_or-append-add, get_or_append_left, length-append}
use Rattle.std.proofs.lemmas.List.Elements.{All-head, All-tail, All-weaker}
use Rattle.zarrs_data_type.specs.Element.{plain}
use Rattle.zarrs_data_type.specs.ElementType.{ElementType, fixed, text, bytes, optional, element_size}
use Rattle.zarrs_data_type.specs.declared.endianness.Endianness.{Endianness}
use Rattle.zarrs_array_bytes.specs.Elements.{piece}
use Rattle.zarrs_codec.specs.ByteRanges.{SameByte}
use Rattle.zarrs_bytes.specs.ByteOrder.{bytes_in_order}
use Rattle.zarrs_bytes.specs.BytesCodec.{bytes_element}
use Rattle.zarrs_bytes.specs.PartialRead.{place_bytes, place_size, has_place, read_places}
use Rattle.zarrs_bytes.proofs.Coding.{ok}
use Rattle.zarrs_chunk.proofs.Inside.{le_test}

-- ---- a list in two parts

pub All-first : {X : Type 0} (P : X → Type 0) (xs ys : List X) → All P (xs ++ ys) → All P xs
All-first P xs ys h k d l = rw (← get_or_append_left xs ys d k l) (h k d (omega (arith, length-append xs ys, l)))

pub All-second : {X : Type 0} (P : X → Type 0) (xs ys : List X) → All P (xs ++ ys) → All P ys
All-second P xs ys h k d l = rw (← get_or-append-add xs ys k d) (h (length xs + k) d (omega (arith, length-append xs ys, l)))

-- ---- one place

pub same_taken : (value other : List ℕ) (start len : ℕ) → All (SameByte value other) (range_with_len start len) → take len (drop start value) ≡ take len (drop start other)
same_taken value other start zero h = refl
same_taken value other start (suc len) h =
    let one : SameByte value other start = All-head (SameByte value other) start (range_with_len (start + 1) len) h in
    let rest = same_taken value other (start + 1) len (All-tail (SameByte value other) start (range_with_len (start + 1) len) h) in
    ap (take (suc len)) (drop_more value start 0 one.in_value)
    ∙ (λ i. one.same i ∷ rest i)
    ∙ sym (ap (take (suc len)) (drop_more other start 0 one.in_other))

reaches : (value other : List ℕ) (start len : ℕ) → All (SameByte value other) (range_with_len start (suc len)) → start + suc len ≤ length value
reaches value other start zero h =
    let one : SameByte value other start = All-head (SameByte value other) start (range_with_len (start + 1) 0) h in
    omega (arith, one.in_value)
reaches value other start (suc len) h =
    let rest = reaches value other (start + 1) len (All-tail (SameByte value other) start (range_with_len (start + 1) (suc len)) h) in
    omega (arith, rest)

has_bytes : (value other : List ℕ) (size place : ℕ) → All (SameByte value other) (range_with_len (place * size) size) → place * size + size ≤ length value
has_bytes value other zero place h = omega arith
has_bytes value other (suc size) place h = reaches value other (place * suc size) size h

same_piece : (value other : List ℕ) (size place : ℕ) → All (SameByte value other) (range_with_len (place * size) size) → piece size value place ≡ piece size other place
same_piece value other size place h =
    let len : place * size + size - place * size ≡ size = omega arith in
    ap (λ n. take n (drop (place * size) value)) len ∙ same_taken value other (place * size) size h ∙ sym (ap (λ n. take n (drop (place * size) other)) len)

same_element : (order : Option Endianness) (type : ElementType) (value other : List ℕ) (place : ℕ) → All (SameByte value other) (range_with_len (place * place_size type) (place_size type)) → bytes_element order type value place ≡ bytes_element order type other place
same_element order (fixed width components sign) value other place h =
    ap (λ items. plain (bytes_in_order order width components items)) (same_piece value other (element_size width components) place h)
same_element order text value other place h = refl
same_element order bytes value other place h = refl
same_element order (optional type) value other place h = refl

-- ---- all places

all_there : (type : ElementType) (value other places : List ℕ) → All (SameByte value other) (place_bytes (place_size type) places) → list_all (has_place type value) places ≡ true
all_there type value other [] h = refl
all_there type value other (place ∷ places) h =
    let size = place_size type in
    let first = All-first (SameByte value other) (range_with_len (place * size) size) (place_bytes size places) h in
    let rest = All-second (SameByte value other) (range_with_len (place * size) size) (place_bytes size places) h in
    and_from _ _ (le_test _ _ (has_bytes value other size place first)) (all_there type value other places rest)

same_elements : (order : Option Endianness) (type : ElementType) (value other places : List ℕ) → All (SameByte value other) (place_bytes (place_size type) places) → map (bytes_element order type value) places ≡ map (bytes_element order type other) places
same_elements order type value other [] h = refl
same_elements order type value other (place ∷ places) h =
    let size = place_size type in
    let first = All-first (SameByte value other) (range_with_len (place * size) size) (place_bytes size places) h in
    let rest = All-second (SameByte value other) (range_with_len (place * size) size) (place_bytes size places) h in
    λ i. same_element order type value other place first i ∷ same_elements order type value other places rest i

turned_round : (value other : List ℕ) (number : ℕ) → SameByte value other number → SameByte other value number
turned_round value other number h = record { in_value = h.in_other; in_other = h.in_value; same = sym h.same }

pub reads_alike : (order : Option Endianness) (type : ElementType) (fill value other places : List ℕ) → All (SameByte value other) (place_bytes (place_size type) places) → read_places order type fill (Some value) places ≡ read_places order type fill (Some other) places
reads_alike order type fill value other places h =
    let back = All-weaker (SameByte value other) (SameByte other value) (turned_round value other) (place_bytes (place_size type) places) h in
    let first = all_there type value other places h in
    let second = all_there type other value places back in
    rw (first, second) (ap ok (same_elements order type value other places h))
