-- Rows in the order of their keys: what a search finds, and when no key has two values.
use Rattle.std.proofs.Common.{◌≡◌, ℕ, zero, suc, ◌+◌, ◌-◌, ◌<◌, ◌≤◌, false, List, [], ◌∷◌, length, get_or, nat_eq, Option, Some, None, Err, inl, inr, refl, sym, ap, ◌∙◌, subst, arith}
use Rattle.std.specs.Prelude.{Contains}
use Rattle.std.specs.Cmp.Lexicographic.{pointwise, slice_cmp, texts_ties}
use Rattle.std.specs.List.{AllAdjacentBelow}
use Rattle.std.specs.List.Sorted.{IsBinarySearchResult, IsPermutation}
use Rattle.std.specs.Ordering.{nat_cmp, ordering_reverse, is_lt, is_eq}
use Rattle.std.specs.declared.cmp.Ordering.{Ordering}
use Rattle.std.specs.declared.cmp.Ordering.TheVariants.{Less, Equal, Greater}
use Rattle.std.proofs.lemmas.Bool.{cases_Bool, cases_lt, false≢true}
use Rattle.std.proofs.lemmas.Cmp.{nat_list_cmp_total, tied_itself}
use Rattle.std.proofs.lemmas.List.Sorted.{Contains-permutation, IsPermutation-sym, ranks_by, searchable_from_sorted, sorted_far}
use Rattle.zarrs_array_bytes.specs.SameBytesLaws.{same_numbers, numbers_same}
use Rattle.zarrs_pairs.specs.Lawful.{found_is_there, found_of_member, row_cases, member_head, member_is_found, no_member, none_beside, none_is_not, row_behind}
use Rattle.zarrs_pairs.specs.Pairs.{Pairs, beside}
use Rattle.zarrs_pairs.specs.Rows.{row_seen, rows_seen, HaveClash, IsFunction, IsRising}
use Rattle.zarrs_pairs.specs.declared.rows.Row.{Row}

-- the order of keys, and the key of a row
abbrev bytes_cmp : List ℕ → List ℕ → Ordering
bytes_cmp = slice_cmp nat_cmp

abbrev key_of : Row → List ℕ
key_of row = row.key.now

greater_is_not_less : Greater ≡ Less → ⊥
greater_is_not_less e = cc

not_less : (a b : Ordering) → a ≡ ordering_reverse b → is_lt a ≡ false → is_lt b ≡ false → a ≡ Equal
not_less Equal b e l m = refl
not_less Less b e l m = absurd (false≢true (sym l))
not_less Greater Less e l m = absurd (false≢true (sym m))
not_less Greater Equal e l m = e
not_less Greater Greater e l m = absurd (greater_is_not_less e)

-- bytes that tie are the same
tied_same : (xs ys : List ℕ) → bytes_cmp xs ys ≡ Equal → xs ≡ ys
tied_same xs ys e = same_numbers xs ys (texts_ties xs ys ∙ ap is_eq e)

-- of two, neither of which is less than the other
both_up : (xs ys : List ℕ) → is_lt (bytes_cmp xs ys) ≡ false → is_lt (bytes_cmp ys xs) ≡ false → xs ≡ ys
both_up xs ys a b = tied_same xs ys (not_less (bytes_cmp xs ys) (bytes_cmp ys xs) (nat_list_cmp_total.antisymm xs ys) a b)

less_is_not_equal : Less ≡ Equal → ⊥
less_is_not_equal e = cc

greater_is_not_equal : Greater ≡ Equal → ⊥
greater_is_not_equal e = cc

-- ---- members

-- the row_seen of a row at a place are a member
pub row_is_member : (rows : List Row) (place : ℕ) (d : Row) → place < length rows → Contains (rows_seen rows) (row_seen (get_or rows place d))
row_is_member [] place d l = absurd (omega (arith, l))
row_is_member (row ∷ rows) zero d l = member_head (row_seen row) (rows_seen rows)
row_is_member (row ∷ rows) (suc place) d l = row_behind (row_seen row) (rows_seen rows) _ (row_is_member rows place d (omega arith))

-- where a member stands
record StandsAt (rows : List Row) (q : List ℕ × List ℕ) (d : Row) : Type 0 where
  place : ℕ
  below : place < length rows
  is : row_seen (get_or rows place d) ≡ q

place_of : (rows : List Row) (q : List ℕ × List ℕ) (d : Row) → Contains (rows_seen rows) q → StandsAt rows q d
place_of [] q d member = absurd (no_member q member)
place_of (row ∷ rows) q d member =
    elim (row_cases (row_seen row) (rows_seen rows) q member) [
      | inl same ↦ record { place = 0; below = omega arith; is = same }
      | inr later ↦ let rest = place_of rows q d later in record { place = suc rest.place; below = omega (arith, rest.below); is = rest.is }
    ]

-- ---- no key has two values

-- a key that stands at two places stands at each place between
key_between : (rows : List Row) (rising : IsRising rows) (d : Row) (i k j : ℕ) → i ≤ k → k ≤ j → j < length rows → key_of (get_or rows i d) ≡ key_of (get_or rows j d) → key_of (get_or rows k d) ≡ key_of (get_or rows j d)
key_between rows rising d i k j low high below same =
    let order = ranks_by nat_list_cmp_total key_of in
    let lt = λ (x y : Row). is_lt (bytes_cmp (key_of x) (key_of y)) in
    let first = sorted_far lt order rows rising i k d low (omega (arith, high, below)) in
    let second = sorted_far lt order rows rising k j d high below in
    both_up _ _ (subst (λ (x : List ℕ). is_lt (bytes_cmp (key_of (get_or rows k d)) x) ≡ false) same first) second

abbrev NoClash : Row → Row → Type 0
NoClash front behind = HaveClash front behind → ⊥

-- two places with one key have one value, where neighbours have
one_value : (rows : List Row) → IsRising rows → AllAdjacentBelow NoClash rows (length rows) → (d : Row) (i n k : ℕ) → k ≡ i + n → k < length rows → key_of (get_or rows i d) ≡ key_of (get_or rows k d) → (get_or rows i d).value.now ≡ (get_or rows k d).value.now
one_value rows rising each d i zero k is below same =
    let at : i ≡ k = omega (arith, is) in
    ap (λ (j : ℕ). (get_or rows j d).value.now) at
one_value rows rising each d i (suc n) k is below same =
    let before = i + n in
    let key = key_between rows rising d i before k (omega arith) (omega (arith, is)) below same in
    let rest = one_value rows rising each d i n before refl (omega (arith, is, below)) (same ∙ sym key) in
    let next : before + 1 ≡ k = omega (arith, is) in
    let apart = subst (λ (j : ℕ). NoClash (get_or rows before d) (get_or rows j d)) next (each before d (omega (arith, is, below))) in
    let last = (get_or rows k d).value.now in
    elim (cases_Bool (pointwise nat_eq (get_or rows before d).value.now last)) [
      | inl equal ↦ rest ∙ same_numbers _ _ equal
      | inr other ↦ absurd (apart (record { key = key; value = λ e. false≢true (sym other ∙ (ap (λ (x : List ℕ). pointwise nat_eq x last) e ∙ numbers_same last)) }))
    ]

one_value_of : (rows : List Row) → IsRising rows → AllAdjacentBelow NoClash rows (length rows) → (d : Row) (i j : ℕ) → i < length rows → j < length rows → key_of (get_or rows i d) ≡ key_of (get_or rows j d) → (get_or rows i d).value.now ≡ (get_or rows j d).value.now
one_value_of rows rising each d i j l m same =
    elim (cases_lt j i) [
      | inl behind ↦ sym (one_value rows rising each d j (i - j) i (omega (arith, behind)) l (sym same))
      | inr before ↦ one_value rows rising each d i (j - i) j (omega (arith, before)) m same
    ]

-- rows whose neighbours don't clash are a function
pub is_function_of : (rows : List Row) → IsRising rows → AllAdjacentBelow NoClash rows (length rows) → IsFunction (rows_seen rows)
is_function_of [] rising each key first second a b = absurd (no_member _ a)
is_function_of (row ∷ rows) rising each key first second a b =
    let x = place_of (row ∷ rows) (key, first) row a in
    let y = place_of (row ∷ rows) (key, second) row b in
    let same = ap (λ (p : List ℕ × List ℕ). p.0) x.is ∙ sym (ap (λ (p : List ℕ × List ℕ). p.0) y.is) in
    sym (ap (λ (p : List ℕ × List ℕ). p.1) x.is) ∙ one_value_of (row ∷ rows) rising each row x.place y.place x.below y.below same ∙ ap (λ (p : List ℕ × List ℕ). p.1) y.is

-- rows that are a function have no clash
pub no_clash : (rows : List Row) → IsFunction (rows_seen rows) → (i j : ℕ) (d : Row) → i < length rows → j < length rows → NoClash (get_or rows i d) (get_or rows j d)
no_clash rows one i j d l m clash =
    let front = get_or rows i d in
    let behind = get_or rows j d in
    clash.value (one behind.key.now front.value.now behind.value.now (subst (λ (k : List ℕ). Contains (rows_seen rows) (k, front.value.now)) clash.key (row_is_member rows i d l)) (row_is_member rows j d m))

-- ---- a search

-- where a search ends at a row, the row has the key
pub search_found : (rows : List Row) (key : List ℕ) (place : ℕ) (d : Row) → place < length rows → bytes_cmp (key_of (get_or rows place d)) key ≡ Equal → Contains (rows_seen rows) (key, (get_or rows place d).value.now)
search_found rows key place d below e =
    subst (λ (k : List ℕ). Contains (rows_seen rows) (k, (get_or rows place d).value.now)) (tied_same _ _ e) (row_is_member rows place d below)

-- where it ends between rows, none has it
pub search_lacking : (rows : List Row) (key : List ℕ) (place : ℕ) → IsRising rows → IsBinarySearchResult (λ row. bytes_cmp (key_of row) key) rows (Err place) → (value : List ℕ) → Contains (rows_seen rows) (key, value) → ⊥
search_lacking [] key place rising parted value member = no_member _ member
search_lacking (row ∷ rows) key place rising parted value member =
    let x = place_of (row ∷ rows) (key, value) row member in
    let parts = parted (searchable_from_sorted nat_list_cmp_total key_of (row ∷ rows) key rising) in
    let same : key_of (get_or (row ∷ rows) x.place row) ≡ key = ap (λ (p : List ℕ × List ℕ). p.0) x.is in
    let tied : bytes_cmp (key_of (get_or (row ∷ rows) x.place row)) key ≡ Equal = subst (λ (k : List ℕ). bytes_cmp k key ≡ Equal) (sym same) (tied_itself nat_list_cmp_total key) in
    elim (cases_lt x.place place) [
      | inl low ↦ less_is_not_equal (sym (parts.0 x.place row (omega arith) low) ∙ tied)
      | inr high ↦ greater_is_not_equal (sym (parts.1 x.place row high x.below) ∙ tied)
    ]

-- ---- two lists with the same rows

-- a list that has the rows of a function is one
pub function_moved : (rows other : Pairs) → IsPermutation rows other → IsFunction rows → IsFunction other
function_moved rows other same one key first second a b =
    let back = IsPermutation-sym rows other same in
    one key first second (Contains-permutation other rows (key, first) back a) (Contains-permutation other rows (key, second) back b)

found_moved : (rows other : Pairs) (key : List ℕ) (o : Option (List ℕ)) → IsPermutation rows other → IsFunction other → beside rows key ≡ o → beside other key ≡ o
found_moved rows other key None same one e =
    none_beside other key (λ value member.
    let found = found_of_member rows key value (Contains-permutation other rows (key, value) (IsPermutation-sym rows other same) member) in
    none_is_not found.value (sym e ∙ found.is))
found_moved rows other key (Some value) same one e = member_is_found other one key value (Contains-permutation rows other (key, value) same (found_is_there rows key value e))

pub same_found : (rows other : Pairs) (key : List ℕ) → IsPermutation rows other → IsFunction other → beside other key ≡ beside rows key
same_found rows other key same one = found_moved rows other key (beside rows key) same one refl
