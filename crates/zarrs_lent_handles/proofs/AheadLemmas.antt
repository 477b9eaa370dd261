-- What has been read ahead, of which the first ranges are asked for.
use Rattle.std.proofs.Common.{◌≡◌, ℕ, suc, ◌+◌, ◌-◌, ◌<◌, ◌≤◌, ◌^◌, ◌&&◌, ◌||◌, nat_le, nat_lt, nat_eq, min, Bool, true, false, Option, Some, None, List, [], ◌∷◌, ◌++◌, length, take, drop, Ok, arith, refl, ap, sym, subst, ◌∙◌}
use Rattle.std.specs.List.{list_all, between, range_with_len}
use Rattle.std.specs.Cmp.Lexicographic.{pointwise}
use Rattle.std.specs.Prelude.{is_some}
use Rattle.std.proofs.lemmas.Bool.Decides.{nat_tests}
use Rattle.std.proofs.lemmas.List.{length-append, length-drop, length-take, take-append-drop, drop-drop, take_all}
use Rattle.std.proofs.lemmas.List.Concat.{flat_map-append}
use Rattle.std.proofs.lemmas.List.Folds.{list_all-append}
use Rattle.std.proofs.lemmas.List.FromFn.{length-range_with_len}
use Rattle.std.proofs.Math.Seq.{take-append_seam, drop-append_seam}
use Rattle.zarrs_codec.proofs.Fences.{first_true, second_true}
use Rattle.zarrs_codec.specs.ByteRanges.{bytes_in_ranges, range_indices, read_ranges}
use Rattle.zarrs_codec.specs.ByteSpan.{ByteSpan}
use Rattle.zarrs_lent_handles.specs.AheadHandle.{are_next, bytes_ahead, end_inside, is_same_range, none_or_stored}

abbrev ends_within : List ℕ → ByteSpan → Bool
ends_within value range = nat_le range.end (length value)

piece_long : (value : List ℕ) (range : ByteSpan) → ends_within value range ≡ true → length (between range.start range.end value) ≡ range.end - range.start
piece_long value range h =
    let l : range.end ≤ length value = grind (arith, nat_tests) in
    omega (arith, l, length-take (range.end - range.start) (drop range.start value), length-drop range.start value)

-- ranges that are the same one by one are the same
pub ranges_same : (ranges others : List ByteSpan) → pointwise is_same_range ranges others ≡ true → ranges ≡ others
ranges_same [] [] e = refl
ranges_same [] (other ∷ others) e = absurd cc
ranges_same (range ∷ ranges) [] e = absurd cc
ranges_same (range ∷ ranges) (other ∷ others) e =
    let here = first_true (is_same_range range other) (pointwise is_same_range ranges others) e in
    let start : range.start ≡ other.start = let h = first_true (nat_eq range.start other.start) (nat_eq range.end other.end) here in grind (arith, nat_tests) in
    let end : range.end ≡ other.end = let h = second_true (nat_eq range.start other.start) (nat_eq range.end other.end) here in grind (arith, nat_tests) in
    let rest = ranges_same ranges others (second_true (is_same_range range other) (pointwise is_same_range ranges others) e) in
    λ i. record { start = start i; end = end i } ∷ rest i

-- what is behind a number of elements of a list that is seen
pub behind : {X : Type 0} (xs seen : List X) (n : ℕ) → seen ≡ xs → take (length seen - n) (drop n seen) ≡ drop n xs
behind xs seen n e = take_all (length seen - n) (drop n seen) (omega (arith, length-drop n seen)) ∙ ap (drop n) e

-- ranges that end inside have as many bytes as numbers
bytes_long : (value : List ℕ) (ranges : List ByteSpan) → list_all (ends_within value) ranges ≡ true → length (bytes_in_ranges value ranges) ≡ length (range_indices ranges)
bytes_long value [] h = refl
bytes_long value (range ∷ ranges) h =
    let here = piece_long value range (first_true (ends_within value range) (list_all (ends_within value) ranges) h) in
    let rest = bytes_long value ranges (second_true (ends_within value range) (list_all (ends_within value) ranges) h) in
    let a = length-append (between range.start range.end value) (bytes_in_ranges value ranges) in
    let b = length-append (range_with_len range.start (range.end - range.start)) (range_indices ranges) in
    let c = length-range_with_len range.start (range.end - range.start) in
    omega (arith, here, rest, a, b, c)

-- the first ranges are taken, and the others stay
pub record IsTaken (stored : Option (List ℕ)) (ranges asked : List ByteSpan) (bytes : List ℕ) (len : ℕ) : Type 0 where
  pub few : length asked ≤ length ranges
  pub enough : len ≤ length bytes
  pub read : read_ranges stored asked ≡ Ok (Some (take len bytes))
  pub some_left : none_or_stored stored (drop (length asked) ranges) ≡ true
  pub inside_left : end_inside stored (drop (length asked) ranges) ≡ true
  pub bytes_left : drop len bytes ≡ bytes_ahead stored (drop (length asked) ranges)

taken_of : (value : List ℕ) (asked rest : List ByteSpan) (bytes : List ℕ) (len : ℕ) → list_all (ends_within value) (asked ++ rest) ≡ true → bytes ≡ bytes_in_ranges value (asked ++ rest) → len ≡ length (range_indices asked)
    → (read_ranges (Some value) asked ≡ Ok (Some (take len bytes))) × (list_all (ends_within value) rest ≡ true) × (drop len bytes ≡ bytes_in_ranges value rest)
taken_of value asked rest bytes len inside are long =
    let both = sym (list_all-append (ends_within value) asked rest) ∙ inside in
    let first = first_true (list_all (ends_within value) asked) (list_all (ends_within value) rest) both in
    let second = second_true (list_all (ends_within value) asked) (list_all (ends_within value) rest) both in
    let own = bytes_in_ranges value asked in
    let others = bytes_in_ranges value rest in
    let parts : bytes ≡ own ++ others = are ∙ flat_map-append (λ (range : ByteSpan). between range.start range.end value) asked rest in
    let count : len ≡ length own = long ∙ sym (bytes_long value asked first) in
    let front : take len bytes ≡ own = (λ i. take (count i) (parts i)) ∙ take-append_seam own others in
    let back : drop len bytes ≡ others = (λ i. drop (count i) (parts i)) ∙ drop-append_seam own others in
    (given first ∙ ap (λ (bs : List ℕ). Ok (Some bs)) (sym front), second, back)
  where
    given : list_all (ends_within value) asked ≡ true → read_ranges (Some value) asked ≡ Ok (Some (bytes_in_ranges value asked))
    given h = rw h refl

some_of : (stored : Option (List ℕ)) (ranges : List ByteSpan) → 0 < length ranges → none_or_stored stored ranges ≡ true → is_some stored ≡ true
some_of stored [] l h = absurd (omega (arith, l))
some_of stored (range ∷ ranges) l h =
    let more : nat_le (suc (length ranges)) 0 ≡ false = grind (arith, nat_tests) in
    sym (ap (λ (b : Bool). b || is_some stored) more) ∙ h

all_of : (asked ranges : List ByteSpan) → take (length asked) ranges ≡ asked → asked ++ drop (length asked) ranges ≡ ranges
all_of asked ranges e = ap (λ (front : List ByteSpan). front ++ drop (length asked) ranges) (sym e) ∙ take-append-drop (length asked) ranges

any_left : (test : Bool) → (test || true) ≡ true
any_left true = refl
any_left false = refl

pub is_taken : (stored : Option (List ℕ)) (ranges asked : List ByteSpan) (bytes : List ℕ) (len : ℕ) → none_or_stored stored ranges ≡ true → end_inside stored ranges ≡ true → bytes ≡ bytes_ahead stored ranges
    → take (length asked) ranges ≡ asked → 0 < length asked → length asked ≤ length ranges → len ≡ min (length (range_indices asked)) (2 ^ 64 - 1) → length bytes < 2 ^ 64 → IsTaken stored ranges asked bytes len
is_taken None ranges asked bytes len some inside are first any few long small = absurd (not_some (some_of None ranges (omega (arith, any, few)) some))
  where
    not_some : false ≡ true → ⊥
    not_some e = cc
is_taken (Some value) ranges asked bytes len some inside are first any few long small =
    let rest = drop (length asked) ranges in
    let all = all_of asked ranges first in
    let inside' : list_all (ends_within value) (asked ++ rest) ≡ true = ap (list_all (ends_within value)) all ∙ inside in
    let are' : bytes ≡ bytes_in_ranges value (asked ++ rest) = are ∙ ap (bytes_in_ranges value) (sym all) in
    let first_inside = first_true (list_all (ends_within value) asked) (list_all (ends_within value) rest) (sym (list_all-append (ends_within value) asked rest) ∙ inside') in
    let own = bytes_long value asked first_inside in
    let sum = ap length (are' ∙ flat_map-append (λ (range : ByteSpan). between range.start range.end value) asked rest) ∙ length-append (bytes_in_ranges value asked) (bytes_in_ranges value rest) in
    let count : len ≡ length (range_indices asked) = omega (arith, own, sum, long, small) in
    let t = taken_of value asked rest bytes len inside' are' count in
    record {
      few = few;
      enough = omega (arith, own, sum, long, ap length are');
      read = t.0;
      some_left = any_left (nat_le (length rest) 0);
      inside_left = t.1;
      bytes_left = t.2;
    }

-- behind what has been passed by before, as the code sees it
pub is_taken_on : (stored : Option (List ℕ)) (ranges seen asked : List ByteSpan) (bytes : List ℕ) (next at len : ℕ) → none_or_stored stored (drop next ranges) ≡ true → end_inside stored (drop next ranges) ≡ true → drop at bytes ≡ bytes_ahead stored (drop next ranges)
    → seen ≡ ranges → take (length asked) (take (length seen - next) (drop next seen)) ≡ asked → 0 < length asked → length asked ≤ length (take (length seen - next) (drop next seen)) → len ≡ min (length (range_indices asked)) (2 ^ 64 - 1) → length bytes < 2 ^ 64 → IsTaken stored (drop next ranges) asked (drop at bytes) len
is_taken_on stored ranges seen asked bytes next at len some inside are same first any few long small =
    let rest = behind ranges seen next same in
    is_taken stored (drop next ranges) asked (drop at bytes) len some inside are (sym (ap (take (length asked)) rest) ∙ first) any (subst (λ (rs : List ByteSpan). length asked ≤ length rs) rest few) long (omega (arith, small, length-drop at bytes))

pub record IsLeft (stored : Option (List ℕ)) (ranges : List ByteSpan) (bytes : List ℕ) (next at : ℕ) : Type 0 where
  pub some : none_or_stored stored (drop next ranges) ≡ true
  pub inside : end_inside stored (drop next ranges) ≡ true
  pub kept : drop at bytes ≡ bytes_ahead stored (drop next ranges)

pub is_left : (stored : Option (List ℕ)) (ranges asked : List ByteSpan) (bytes : List ℕ) (next at len : ℕ) → IsTaken stored (drop next ranges) asked (drop at bytes) len → IsLeft stored ranges bytes (next + length asked) (at + len)
is_left stored ranges asked bytes next at len t =
    let on : drop (length asked) (drop next ranges) ≡ drop (next + length asked) ranges = drop-drop (length asked) next ranges in
    record {
      some = subst (λ (rs : List ByteSpan). none_or_stored stored rs ≡ true) on t.some_left;
      inside = subst (λ (rs : List ByteSpan). end_inside stored rs ≡ true) on t.inside_left;
      kept = sym (drop-drop len at bytes) ∙ t.bytes_left ∙ ap (bytes_ahead stored) on;
    }

-- as many elements behind a place as there are
pub within_on : {X : Type 0} (xs : List X) (n k : ℕ) → n ≤ length xs → k ≤ length (drop n xs) → n + k ≤ length xs
within_on xs n k l h = omega (arith, l, h, length-drop n xs)

-- ranges, one at least, come first where those that stand first are the same
pub next_is : (asked ahead : List ByteSpan) → 0 < length asked → are_next asked ahead ≡ pointwise is_same_range (take (length asked) ahead) asked
next_is asked ahead some =
    let yes : nat_lt 0 (length asked) ≡ true = grind (arith, nat_tests) in
    ap (λ (some : Bool). some && pointwise is_same_range (take (length asked) ahead) asked) yes
