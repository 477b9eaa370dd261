-- Groups of rising numbers are the inner chunks that have any of the places.
use Rattle.std.proofs.Common.{◌≡◌, ℕ, zero, suc, ◌+◌, ◌<◌, ◌≤◌, ◌++◌, nat_eq, Bool, true, false, cond, List, [], ◌∷◌, length, map, arith, refl, ap, sym, subst, ◌∙◌, ⊎_elim}
use Rattle.std.specs.List.{All, filter, range_with_len}
use Rattle.std.proofs.lemmas.Bool.{cases_eq}
use Rattle.std.proofs.lemmas.Bool.Decides.{nat_tests}
use Rattle.std.proofs.lemmas.List.{append-nil}
use Rattle.std.proofs.lemmas.List.Elements.{All-head, All-tail}
use Rattle.zarrs_chain_meaning.specs.sharding.InnerChunks.{inner_chunk_of, place_inside}
use Rattle.zarrs_shard_runs.specs.CutRuns.{cell, cells_at}
use Rattle.zarrs_shard_runs.specs.Groups.{AreRising, cells_of_groups}
use Rattle.zarrs_shard_runs.specs.PlacesInside.{if_any, places_of_inner, groups_among}

-- a place of the inner chunk of this number before others, where that is the one
abbrev pub if_inside : Bool → ℕ → List ℕ → List ℕ
if_inside true inside places = inside ∷ places
if_inside false inside places = places

one_mapped : (test : Bool) (f : ℕ → ℕ) (place : ℕ) (rest : List ℕ) → map f (cond test (place ∷ rest) rest) ≡ if_inside test (f place) (map f rest)
one_mapped true f place rest = refl
one_mapped false f place rest = refl

-- one place after another
pub inner_step : (shape sizes : List ℕ) (number place : ℕ) (places : List ℕ)
    → places_of_inner shape sizes number (place ∷ places) ≡ if_inside (nat_eq (inner_chunk_of shape sizes place) number) (place_inside shape sizes place) (places_of_inner shape sizes number places)
inner_step shape sizes number place places =
    one_mapped (nat_eq (inner_chunk_of shape sizes place) number) (place_inside shape sizes) place (filter (λ other. nat_eq (inner_chunk_of shape sizes other) number) places)

-- of places with the numbers of their inner chunks those of one number
abbrev pub cells_in : ℕ → List (ℕ × ℕ) → List ℕ
cells_in number [] = []
cells_in number (it ∷ cells) = if_inside (nat_eq it.0 number) it.1 (cells_in number cells)

-- those that have any, each with its own
abbrev pub cell_groups : List (ℕ × ℕ) → List ℕ → List (ℕ × List ℕ)
cell_groups cells [] = []
cell_groups cells (number ∷ numbers) = if_any number (cells_in number cells) (cell_groups cells numbers)

pub places_are_cells : (shape sizes places : List ℕ) (number : ℕ) → places_of_inner shape sizes number places ≡ cells_in number (map (cell shape sizes) places)
places_are_cells shape sizes [] number = refl
places_are_cells shape sizes (place ∷ places) number =
    inner_step shape sizes number place places ∙ ap (if_inside (nat_eq (cell shape sizes place).0 number) (cell shape sizes place).1) (places_are_cells shape sizes places number)

pub groups_are_cells : (shape sizes places numbers : List ℕ) → groups_among shape sizes places numbers ≡ cell_groups (map (cell shape sizes) places) numbers
groups_are_cells shape sizes places [] = refl
groups_are_cells shape sizes places (number ∷ numbers) = λ i. if_any number (places_are_cells shape sizes places number i) (groups_are_cells shape sizes places numbers i)

-- what has the same places of each number has the same groups
pub groups_agree : (cells others : List (ℕ × ℕ)) (low count : ℕ) → ((number : ℕ) → low ≤ number → number < low + count → cells_in number cells ≡ cells_in number others) → cell_groups cells (range_with_len low count) ≡ cell_groups others (range_with_len low count)
groups_agree cells others low zero h = refl
groups_agree cells others low (suc count) h = λ i. if_any low (h low (omega arith) (omega arith) i) (groups_agree cells others (low + 1) count (λ number l b. h number (omega (arith, l)) (omega (arith, b))) i)

if_inside-append : (test : Bool) (place : ℕ) (places others : List ℕ) → if_inside test place (places ++ others) ≡ if_inside test place places ++ others
if_inside-append true place places others = refl
if_inside-append false place places others = refl

pub cells_in-append : (number : ℕ) (cells others : List (ℕ × ℕ)) → cells_in number (cells ++ others) ≡ cells_in number cells ++ cells_in number others
cells_in-append number [] others = refl
cells_in-append number (it ∷ cells) others =
    ap (if_inside (nat_eq it.0 number) it.1) (cells_in-append number cells others) ∙ if_inside-append (nat_eq it.0 number) it.1 (cells_in number cells) (cells_in number others)

pub eq_same : (a b : ℕ) → a ≡ b → nat_eq a b ≡ true
eq_same a b e = grind (arith, nat_tests)

pub eq_other : (a b : ℕ) → (a ≡ b → ⊥) → nat_eq a b ≡ false
eq_other a b e = grind (arith, nat_tests)

-- those of one inner chunk
pub cells_in-same : (number other : ℕ) (places : List ℕ) → other ≡ number → cells_in number (cells_at other places) ≡ places
cells_in-same number other [] e = refl
cells_in-same number other (place ∷ places) e =
    ap (λ test. if_inside test place (cells_in number (cells_at other places))) (eq_same other number e) ∙ ap (λ xs. place ∷ xs) (cells_in-same number other places e)

-- and of another one
pub cells_in-other : (number other : ℕ) (places : List ℕ) → (other ≡ number → ⊥) → cells_in number (cells_at other places) ≡ []
cells_in-other number other [] e = refl
cells_in-other number other (place ∷ places) e =
    ap (λ test. if_inside test place (cells_in number (cells_at other places))) (eq_other other number e) ∙ cells_in-other number other places e

-- below those of rising numbers there is none
pub none_below : (low number : ℕ) (groups : List (ℕ × List ℕ)) → AreRising low groups → number < low → cells_in number (cells_of_groups groups) ≡ []
none_below low number [] r l = refl
none_below low number (it ∷ groups) r l =
    cells_in-append number (cells_at it.0 it.1) (cells_of_groups groups)
    ∙ ap (λ xs. xs ++ cells_in number (cells_of_groups groups)) (cells_in-other number it.0 it.1 (λ e. omega (arith, e, r.0, l)))
    ∙ none_below (it.0 + 1) number groups r.2 (omega (arith, r.0, l))

no_groups : (low count : ℕ) → cell_groups [] (range_with_len low count) ≡ []
no_groups low zero = refl
no_groups low (suc count) = no_groups (low + 1) count

any_some : (number : ℕ) (places : List ℕ) (groups : List (ℕ × List ℕ)) → 0 < length places → if_any number places groups ≡ (number, places) ∷ groups
any_some number [] groups l = absurd (omega (arith, l))
any_some number (place ∷ places) groups l = refl

-- groups of rising numbers are those that their places have
pub groups_again : (count low : ℕ) (groups : List (ℕ × List ℕ)) → AreRising low groups → All (λ it. it.0 < low + count) groups → cell_groups (cells_of_groups groups) (range_with_len low count) ≡ groups
groups_again count low [] r b = no_groups low count
groups_again zero low (it ∷ groups) r b = absurd (let h = All-head (λ (it : ℕ × List ℕ). it.0 < low + 0) it groups b in omega (arith, h, r.0))
groups_again (suc count) low (it ∷ groups) r b =
    ⊎_elim
    (λ (same : it.0 ≡ low).
    let own : cells_in low (cells_of_groups (it ∷ groups)) ≡ it.1 =
    cells_in-append low (cells_at it.0 it.1) (cells_of_groups groups)
    ∙ (λ i. cells_in-same low it.0 it.1 same i ++ none_below (it.0 + 1) low groups r.2 (omega (arith, same)) i)
    ∙ append-nil it.1 in
    let rest : cell_groups (cells_of_groups (it ∷ groups)) (range_with_len (low + 1) count) ≡ groups =
    groups_agree (cells_of_groups (it ∷ groups)) (cells_of_groups groups) (low + 1) count (λ number l _.
    cells_in-append number (cells_at it.0 it.1) (cells_of_groups groups) ∙ ap (λ xs. xs ++ cells_in number (cells_of_groups groups)) (cells_in-other number it.0 it.1 (λ e. omega (arith, e, same, l))))
    ∙ groups_again count (low + 1) groups (subst (λ n. AreRising (n + 1) groups) same r.2) (λ k d l. let h = All-tail (λ (it : ℕ × List ℕ). it.0 < low + suc count) it groups b k d l in omega (arith, h)) in
    (λ i. if_any low (own i) (rest i)) ∙ any_some low it.1 groups r.1 ∙ ap (λ n. (n, it.1) ∷ groups) (sym same))
    (λ (other : it.0 ≡ low → ⊥).
    let above : low + 1 ≤ it.0 = let h = r.0 in omega (arith, h, other) in
    let rises : AreRising (low + 1) (it ∷ groups) = (above, r.1, r.2) in
    ap (λ xs. if_any low xs (cell_groups (cells_of_groups (it ∷ groups)) (range_with_len (low + 1) count))) (none_below (low + 1) low (it ∷ groups) rises (omega arith))
    ∙ groups_again count (low + 1) (it ∷ groups) rises (λ k d l. let h = b k d l in omega (arith, h)))
    (cases_eq it.0 low)
