-- What is read of a span of a value is read of the value, at ranges that are moved.
use Rattle.std.proofs.Common.{◌≡◌, ℕ, zero, suc, ◌+◌, ◌-◌, ◌≤◌, nat_le, ◌&&◌, Bool, true, false, Option, Some, None, List, [], ◌∷◌, ◌++◌, length, take, drop, Ok, Err, arith, refl, ap, sym, ◌∙◌}
use Rattle.std.specs.List.{list_all, range_with_len, between}
use Rattle.std.specs.Option.{option_map}
use Rattle.std.proofs.lemmas.Bool.Decides.{nat_tests}
use Rattle.std.proofs.lemmas.List.{append-nil, drop-take, drop-drop, length-drop, length-take-le}
use Rattle.std.proofs.Math.Nat.{add_assoc}
use Rattle.zarrs_chunk.proofs.Inside.{from_le_test, le_test}
use Rattle.std.proofs.lemmas.List.Folds.{list_all-append}
use Rattle.zarrs_chunk.specs.declared.codec_error.CodecError.TheVariants.{InvalidByteRange}
use Rattle.zarrs_codec.specs.ByteRanges.{range_indices, bytes_in_ranges, read_ranges}
use Rattle.zarrs_codec.specs.ByteSpan.{ByteSpan}
use Rattle.zarrs_codec.specs.StorageState.{StorageState, are_sure, value_indices}
use Rattle.zarrs_codec.specs.Lent.{Lent, whole_reference}
use Rattle.std.specs.Borrow.{GName}
use Rattle.zarrs_codec.proofs.Fences.{second_true, first_true}
use Rattle.zarrs_lent_handles.specs.SpanHandle.{spanned, is_span_of, moved_ranges, span_state}

abbrev ends_within : ℕ → ByteSpan → Bool
ends_within len range = nat_le range.end len

not_le : (a b : ℕ) → nat_le a b ≡ false → b ≤ a
not_le a b h = grind (arith, nat_tests)

pub spanned_long : (at len : ℕ) (value : List ℕ) → at + len ≤ length value → length (spanned at len value) ≡ len
spanned_long at len value l = length-take-le len (drop at value) (omega (arith, length-drop at value, l))

take_less : (k m : ℕ) (xs : List ℕ) → k ≤ m → take k (take m xs) ≡ take k xs
take_less zero m xs h = refl
take_less (suc k) zero xs h = absurd (omega (arith, h))
take_less (suc k) (suc m) [] h = refl
take_less (suc k) (suc m) (x ∷ xs) h = ap (λ (ys : List ℕ). x ∷ ys) (take_less k m xs (omega (arith, h)))

-- the bytes of a range
piece_moved : (at len : ℕ) (value : List ℕ) (range : ByteSpan) → range.end ≤ len → between range.start range.end (spanned at len value) ≡ between (at + range.start) (at + range.end) value
piece_moved at len value range l = by (nat_le range.start range.end) refl
  where
    by : (test : Bool) → nat_le range.start range.end ≡ test → between range.start range.end (spanned at len value) ≡ between (at + range.start) (at + range.end) value
    by true e =
        let h = from_le_test range.start range.end e in
        let rest = len - range.start in
        let whole : len ≡ range.start + rest = omega (arith, h, l) in
        let count : range.end - range.start ≡ at + range.end - (at + range.start) = omega arith in
        let few : range.end - range.start ≤ rest = omega (arith, h, l) in
        ap (λ (n : ℕ). take (range.end - range.start) (drop range.start (take n (drop at value)))) whole
        ∙ ap (take (range.end - range.start)) (drop-take range.start rest (drop at value))
        ∙ take_less (range.end - range.start) rest (drop range.start (drop at value)) few
        ∙ ap (take (range.end - range.start)) (drop-drop range.start at value)
        ∙ ap (λ (n : ℕ). take n (drop (at + range.start) value)) count
    by false e =
        let h = not_le range.start range.end e in
        let none : range.end - range.start ≡ 0 = omega (arith, h) in
        let also : 0 ≡ at + range.end - (at + range.start) = omega (arith, h) in
        ap (λ (n : ℕ). take n (drop range.start (spanned at len value))) none ∙ ap (λ (n : ℕ). take n (drop (at + range.start) value)) also

pieces_moved : (at len : ℕ) (value : List ℕ) (ranges : List ByteSpan) → list_all (ends_within len) ranges ≡ true → bytes_in_ranges (spanned at len value) ranges ≡ bytes_in_ranges value (moved_ranges at ranges)
pieces_moved at len value [] h = refl
pieces_moved at len value (range ∷ ranges) h =
    let first = piece_moved at len value range (from_le_test range.end len (first_true (ends_within len range) (list_all (ends_within len) ranges) h)) in
    let rest = pieces_moved at len value ranges (second_true (ends_within len range) (list_all (ends_within len) ranges) h) in
    λ i. first i ++ rest i

all_moved : (at len : ℕ) (value : List ℕ) (ranges : List ByteSpan) → at + len ≤ length value → list_all (ends_within len) ranges ≡ true → list_all (ends_within (length value)) (moved_ranges at ranges) ≡ true
all_moved at len value [] l h = refl
all_moved at len value (range ∷ ranges) l h =
    let here = from_le_test range.end len (first_true (ends_within len range) (list_all (ends_within len) ranges) h) in
    let first = le_test (at + range.end) (length value) (omega (arith, here, l)) in
    rw first (all_moved at len value ranges l (second_true (ends_within len range) (list_all (ends_within len) ranges) h))

-- ranges that end inside the span are read of it as of the value
pub span_read : (at len : ℕ) (stored : Option (List ℕ)) (ranges : List ByteSpan) → is_span_of at len stored ≡ true → list_all (ends_within len) ranges ≡ true → read_ranges (option_map (spanned at len) stored) ranges ≡ read_ranges stored (moved_ranges at ranges)
span_read at len None ranges s h = absurd cc
span_read at len (Some value) ranges s h =
    let l = from_le_test (at + len) (length value) s in
    let long = spanned_long at len value l in
    let one : list_all (ends_within (length (spanned at len value))) ranges ≡ true = ap (λ (n : ℕ). list_all (ends_within n) ranges) long ∙ h in
    rw (one, all_moved at len value ranges l h) (ap (λ (bytes : List ℕ). Ok (Some bytes)) (pieces_moved at len value ranges h))

-- and others are rejected
pub span_refused : (at len : ℕ) (stored : Option (List ℕ)) (ranges : List ByteSpan) → is_span_of at len stored ≡ true → list_all (ends_within len) ranges ≡ false → read_ranges (option_map (spanned at len) stored) ranges ≡ Err InvalidByteRange
span_refused at len None ranges s h = absurd cc
span_refused at len (Some value) ranges s h =
    let l = from_le_test (at + len) (length value) s in
    let one : list_all (ends_within (length (spanned at len value))) ranges ≡ false = ap (λ (n : ℕ). list_all (ends_within n) ranges) (spanned_long at len value l) ∙ h in
    rw one refl

-- ---- what is sure

pub moved_numbers : (p : ℕ → Bool) (at from k : ℕ) → list_all (λ n. p (at + n)) (range_with_len from k) ≡ list_all p (range_with_len (at + from) k)
moved_numbers p at from zero = refl
moved_numbers p at from (suc k) =
    let next : at + (from + 1) ≡ at + from + 1 = omega arith in
    ap (λ (b : Bool). p (at + from) && b) (moved_numbers p at (from + 1) k ∙ ap (λ (n : ℕ). list_all p (range_with_len n k)) next)

sure_by : (p : ℕ → Bool) (at : ℕ) (ranges : List ByteSpan) → list_all (λ n. p (at + n)) (range_indices ranges) ≡ list_all p (range_indices (moved_ranges at ranges))
sure_by p at [] = refl
sure_by p at (range ∷ ranges) =
    let count : range.end - range.start ≡ at + range.end - (at + range.start) = omega arith in
    let first = moved_numbers p at range.start (range.end - range.start) ∙ ap (λ (n : ℕ). list_all p (range_with_len (at + range.start) n)) count in
    list_all-append (λ n. p (at + n)) (range_with_len range.start (range.end - range.start)) (range_indices ranges)
    ∙ (λ i. first i && sure_by p at ranges i)
    ∙ sym (list_all-append p (range_with_len (at + range.start) (at + range.end - (at + range.start))) (range_indices (moved_ranges at ranges)))

pub span_sure : (at : ℕ) (sure : Option (ℕ → Bool)) (ranges : List ByteSpan) → are_sure (option_map (λ p number. p (at + number)) sure) (range_indices ranges) ≡ are_sure sure (range_indices (moved_ranges at ranges))
span_sure at None ranges = refl
span_sure at (Some p) ranges = sure_by p at ranges

-- all bytes of a span are sure where those of its range are
whole_by : (at len : ℕ) (sure : Option (ℕ → Bool)) (value : List ℕ) → at + len ≤ length value → are_sure (option_map (λ p number. p (at + number)) sure) (range_with_len 0 (length (spanned at len value))) ≡ are_sure sure (range_indices (record { start = at; end = at + len } ∷ []))
whole_by at len None value l = refl
whole_by at len (Some p) value l =
    let count : len ≡ at + len - at = omega arith in
    let from : at + 0 ≡ at = omega arith in
    ap (λ (n : ℕ). list_all (λ number. p (at + number)) (range_with_len 0 n)) (spanned_long at len value l)
    ∙ moved_numbers p at 0 len
    ∙ (λ i. list_all p (range_with_len (from i) (count i)))
    ∙ ap (list_all p) (sym (append-nil (range_with_len at (at + len - at))))

pub span_whole : (at len : ℕ) (sure : Option (ℕ → Bool)) (stored : Option (List ℕ)) → is_span_of at len stored ≡ true → are_sure (option_map (λ p number. p (at + number)) sure) (value_indices (option_map (spanned at len) stored)) ≡ are_sure sure (range_indices (record { start = at; end = at + len } ∷ []))
span_whole at len sure None s = absurd cc
span_whole at len sure (Some value) s = whole_by at len sure value (from_le_test (at + len) (length value) s)

-- ---- a span in a span

pub span_inside : (outer size at len : ℕ) (stored : Option (List ℕ)) → is_span_of outer size stored ≡ true → at + len ≤ size → is_span_of (outer + at) len stored ≡ true
span_inside outer size at len None s l = absurd cc
span_inside outer size at len (Some value) s l =
    let h = from_le_test (outer + size) (length value) s in
    le_test (outer + at + len) (length value) (omega (arith, h, l))

spanned_twice : (outer size at len : ℕ) (value : List ℕ) → at + len ≤ size → spanned (outer + at) len value ≡ spanned at len (spanned outer size value)
spanned_twice outer size at len value l =
    let rest = size - at in
    let whole : size ≡ at + rest = omega (arith, l) in
    let few : len ≤ rest = omega (arith, l) in
    sym (ap (λ (n : ℕ). take len (drop at (take n (drop outer value)))) whole
    ∙ ap (take len) (drop-take at rest (drop outer value))
    ∙ take_less len rest (drop at (drop outer value)) few
    ∙ ap (take len) (drop-drop at outer value))

values_twice : (outer size at len : ℕ) (stored : Option (List ℕ)) → at + len ≤ size → option_map (spanned (outer + at) len) stored ≡ option_map (spanned at len) (option_map (spanned outer size) stored)
values_twice outer size at len None l = refl
values_twice outer size at len (Some value) l = ap (λ (v : List ℕ). Some v) (spanned_twice outer size at len value l)

sure_twice : (outer at : ℕ) (sure : Option (ℕ → Bool)) → option_map {U = ℕ → Bool} (λ p number. p (outer + at + number)) sure ≡ option_map {U = ℕ → Bool} (λ p number. p (at + number)) (option_map {U = ℕ → Bool} (λ p number. p (outer + number)) sure)
sure_twice outer at None = refl
sure_twice outer at (Some p) = λ i. Some (λ number. p (add_assoc outer at number i))

-- is the span of both
pub span_of_span : (outer size at len : ℕ) (state : StorageState) → at + len ≤ size → span_state (outer + at) len state ≡ span_state at len (span_state outer size state)
span_of_span outer size at len state l = λ i. record state { value = values_twice outer size at len state.value l i; sure = sure_twice outer at state.sure i }

-- ---- what is left of the handle behind a span

first_name : List Lent → GName → GName
first_name [] name = name
first_name (one ∷ rest) name = one.name

-- The same reference, and the same ones behind it.
pub record IsSameWhole {H : Type 0} (lent : H → List Lent) (name other : GName) (before after : H) : Type 0 where
  pub name_is : other ≡ name
  pub lent_is : lent after ≡ lent before

pub same_whole : {H : Type 0} (lent : H → List Lent) (name other : GName) (before after : H) → whole_reference other ∷ lent after ≡ whole_reference name ∷ lent before → IsSameWhole lent name other before after
unfolding first_name
same_whole lent name other before after e = record {
  name_is = ap (λ (ls : List Lent). first_name ls name) e;
  lent_is = ap (λ (ls : List Lent). drop 1 ls) e;
}
