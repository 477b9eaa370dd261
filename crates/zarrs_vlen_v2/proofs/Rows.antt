-- Elements in a row, each behind its length: a row stands for one list of elements, and is read exactly so.
use Rattle.std.proofs.Common.{◌≡◌, ℕ, zero, suc, ◌+◌, ◌-◌, ◌^◌, nat_eq, nat_le, true, List, [], ◌∷◌, ◌++◌, length, take, drop, Ok, arith, refl, ap, sym, subst, ◌∙◌}
use Rattle.std.specs.List.{flat_map, list_all}
use Rattle.std.proofs.lemmas.Bool.{eqb-true, eq-eqb}
use Rattle.std.proofs.lemmas.List.{append_assoc, length-append, length-drop, length-take-le, take-append-drop, take_at, drop_at}
use Rattle.std.proofs.lemmas.List.Elements.{All-nil, All-cons, All-head, All-tail}
use Rattle.std.proofs.lemmas.Nat.{from_le_bytes-to_le_bytes_4}
use Rattle.zarrs_chunk.proofs.Inside.{from_lt_test, from_le_test, le_test}
use Rattle.zarrs_chunk.specs.Answer.{demand}
use Rattle.zarrs_chunk.specs.declared.codec_error.CodecError.TheVariants.{InvalidBytesLength}
use Rattle.zarrs_data_type.specs.Element.{Element, plain, absent, present, Chunk, IsElement, AreElements}
use Rattle.zarrs_data_type.specs.ElementType.{ElementType, fixed, text, bytes, optional, is_variable}
use Rattle.zarrs_codec.proofs.Fences.{second_true, first_true}
use Rattle.zarrs_codec.specs.CountLaws.{same_value}
use Rattle.zarrs_bytes.specs.ByteOrder.{bytes_of}
use Rattle.zarrs_bytes.proofs.Coding.{demand_ok, bind_ok}
use Rattle.zarrs_vlen_v2.specs.VlenV2Codec.{u32_bytes, u32_of, fits_u32, prefixed_element, is_short, elements_in, IsRow}

-- ---- lists

-- the parts of a list are found by the length of the first
pub front_same : (a b c d : List ℕ) → length a ≡ length c → a ++ b ≡ c ++ d → (a ≡ c) × (b ≡ d)
front_same a b c d l e = (
  sym (take_at a b (length a) refl) ∙ ap (take (length a)) e ∙ take_at c d (length a) (sym l),
  sym (drop_at a b (length a) refl) ∙ ap (drop (length a)) e ∙ drop_at c d (length a) (sym l),
)

-- ---- numbers

pub u32_long : (n : ℕ) → length (u32_bytes n) ≡ 4
unfolding u32_bytes
u32_long n = refl

pub u32_again : (n : ℕ) → fits_u32 n ≡ true → u32_of (u32_bytes n) ≡ n
unfolding u32_bytes u32_of
u32_again n h = from_le_bytes-to_le_bytes_4 n (from_lt_test n (2 ^ 32) h)

-- ---- a row stands for one list of elements

pub row_once : (chunk other : Chunk) (row : List ℕ) → length chunk ≡ length other → IsRow chunk row → IsRow other row → chunk ≡ other
row_once [] [] row l a b = refl
row_once [] (y ∷ other) row l a b = absurd (omega (arith, l))
row_once (x ∷ chunk) [] row l a b = absurd (omega (arith, l))
row_once (absent ∷ chunk) (y ∷ other) row l a b = absurd a
row_once (present x ∷ chunk) (y ∷ other) row l a b = absurd a
row_once (plain xs ∷ chunk) (absent ∷ other) row l a b = absurd b
row_once (plain xs ∷ chunk) (present y ∷ other) row l a b = absurd b
row_once (plain xs ∷ chunk) (plain ys ∷ other) row l a b =
    let one = front_same a.head (xs ++ a.behind) b.head (ys ++ b.behind) (a.head_size ∙ sym b.head_size) (sym a.parts ∙ b.parts) in
    let two = front_same xs a.behind ys b.behind (sym a.head_is ∙ ap u32_of one.0 ∙ b.head_is) one.1 in
    let rest = row_once chunk other a.behind (omega (arith, l)) a.rest (subst (IsRow other) (sym two.1) b.rest) in
    λ i. plain (two.0 i) ∷ rest i

-- ---- what is written

-- an element of a variable type is bytes
pub plain_is : (type : ElementType) (element : Element) → is_variable type ≡ true → IsElement type element → plain (bytes_of element) ≡ element
plain_is (fixed width components sign) element v h = absurd cc
plain_is text (plain items) v h = refl
plain_is text absent v h = absurd h
plain_is text (present element) v h = absurd h
plain_is bytes (plain items) v h = refl
plain_is bytes absent v h = absurd h
plain_is bytes (present element) v h = absurd h
plain_is (optional type) element v h = absurd cc

plain_not : plain [] ≡ absent → ⊥
plain_not e = absurd cc

plain_not_present : (x : Element) → plain [] ≡ present x → ⊥
plain_not_present x e = absurd cc

pub row_written : (type : ElementType) (chunk : Chunk) → is_variable type ≡ true → AreElements type chunk → list_all is_short chunk ≡ true → IsRow chunk (flat_map prefixed_element chunk)
row_written type [] v each fit = refl
row_written type (plain items ∷ chunk) v each fit =
    let short = first_true (is_short (plain items)) (list_all is_short chunk) fit in
    record {
      head = u32_bytes (length items);
      behind = flat_map prefixed_element chunk;
      parts = append_assoc (u32_bytes (length items)) items (flat_map prefixed_element chunk);
      head_size = u32_long (length items);
      head_is = u32_again (length items) short;
      rest = row_written type chunk v (All-tail (IsElement type) (plain items) chunk each) (second_true (is_short (plain items)) (list_all is_short chunk) fit);
    }
row_written type (absent ∷ chunk) v each fit = absurd (plain_not (plain_is type absent v (All-head (IsElement type) absent chunk each)))
row_written type (present x ∷ chunk) v each fit = absurd (plain_not_present x (plain_is type (present x) v (All-head (IsElement type) (present x) chunk each)))

-- ---- what is read

items_step : (count whole at n : ℕ) (row items behind : List ℕ) (chunk : Chunk) → nat_le 4 (length row) ≡ true → u32_of (take 4 row) ≡ n → nat_le n (length row - 4) ≡ true → take n (drop 4 row) ≡ items → drop n (drop 4 row) ≡ behind
    → elements_in count whole (at + 4 + n) behind ≡ Ok chunk → elements_in (suc count) whole at row ≡ Ok (plain items ∷ chunk)
items_step count whole at n row items behind chunk a b c d e g = rw (a, b, c, d, e, g) refl

pub row_only : (chunk : Chunk) (whole at : ℕ) (row : List ℕ) → IsRow chunk row → elements_in (length chunk) whole at row ≡ Ok chunk
row_only [] whole at row s = let z : nat_eq (length row) 0 ≡ true = eq-eqb (length row) 0 (ap length s) in rw z refl
row_only (absent ∷ chunk) whole at row s = absurd s
row_only (present x ∷ chunk) whole at row s = absurd s
row_only (plain items ∷ chunk) whole at row s =
    let long : length row ≡ 4 + (length items + length s.behind) = ap length s.parts ∙ omega (arith, length-append s.head (items ++ s.behind), length-append items s.behind, s.head_size) in
    let front : take 4 row ≡ s.head = ap (take 4) s.parts ∙ take_at s.head (items ++ s.behind) 4 s.head_size in
    let back : drop 4 row ≡ items ++ s.behind = ap (drop 4) s.parts ∙ drop_at s.head (items ++ s.behind) 4 s.head_size in
    items_step (length chunk) whole at (length items) row items s.behind chunk
    (le_test 4 (length row) (omega (arith, long)))
    (ap u32_of front ∙ s.head_is)
    (le_test (length items) (length row - 4) (omega (arith, long)))
    (ap (take (length items)) back ∙ take_at items s.behind (length items) refl)
    (ap (drop (length items)) back ∙ drop_at items s.behind (length items) refl)
    (row_only chunk whole (at + 4 + length items) s.behind s.rest)

-- so many elements of the type, in a row
pub record RowReads (type : ElementType) (count : ℕ) (row : List ℕ) (chunk : Chunk) : Type 0 where
  pub long : length chunk ≡ count
  pub each : AreElements type chunk
  pub entries : IsRow chunk row

pub string_is : (type : ElementType) (items : List ℕ) → is_variable type ≡ true → IsElement type (plain items)
string_is (fixed width components sign) items v = absurd cc
string_is text items v = tt
string_is bytes items v = tt
string_is (optional type) items v = absurd cc

none_left : (row : List ℕ) → length row ≡ 0 → row ≡ []
none_left [] e = refl
none_left (x ∷ row) e = absurd (omega (arith, e))

pub row_read : (type : ElementType) (count whole at : ℕ) (row : List ℕ) (chunk : Chunk) → is_variable type ≡ true → elements_in count whole at row ≡ Ok chunk → RowReads type count row chunk
row_read type zero whole at row chunk v e =
    let a = bind_ok (demand (nat_eq (length row) 0) (InvalidBytesLength whole at)) _ chunk e in
    let none : row ≡ [] = none_left row (eqb-true (length row) 0 (demand_ok (nat_eq (length row) 0) (InvalidBytesLength whole at) a.0 a.1)) in
    subst (RowReads type zero row) (same_value [] chunk a.2) (record { long = refl; each = All-nil (IsElement type); entries = none })
row_read type (suc count) whole at row chunk v e =
    let size = u32_of (take 4 row) in
    let items = take size (drop 4 row) in
    let behind = drop size (drop 4 row) in
    let a = bind_ok (demand (nat_le 4 (length row)) (InvalidBytesLength whole (at + 4))) _ chunk e in
    let b = bind_ok (demand (nat_le size (length row - 4)) (InvalidBytesLength whole (at + 4 + size))) _ chunk a.2 in
    let c = bind_ok (elements_in count whole (at + 4 + size) behind) _ chunk b.2 in
    let enough = from_le_test 4 (length row) (demand_ok (nat_le 4 (length row)) (InvalidBytesLength whole (at + 4)) a.0 a.1) in
    let inside = from_le_test size (length row - 4) (demand_ok (nat_le size (length row - 4)) (InvalidBytesLength whole (at + 4 + size)) b.0 b.1) in
    let rest = row_read type count whole (at + 4 + size) behind c.0 v c.1 in
    let long : length items ≡ size = length-take-le size (drop 4 row) (omega (arith, length-drop 4 row)) in
    let parts : row ≡ take 4 row ++ (items ++ behind) = sym (ap (λ (xs : List ℕ). take 4 row ++ xs) (take-append-drop size (drop 4 row)) ∙ take-append-drop 4 row) in
    subst (RowReads type (suc count) row) (same_value (plain items ∷ c.0) chunk c.2)
    (record {
      long = ap suc rest.long;
      each = All-cons (IsElement type) (plain items) c.0 (string_is type items v) rest.each;
      entries = record { head = take 4 row; behind = behind; parts = parts; head_size = length-take-le 4 row enough; head_is = sym long; rest = rest.entries };
    })
