-- What the two lists of a table say of its pairs, and what a look-up says of its answer.
use Rattle.std.proofs.Common.{◌≡◌, ℕ, List, map, Option, Some, None, option_map, sym, ap, ◌∙◌, Bor}
use Rattle.std.specs.Prelude.{All, Contains, IfSome}
use Rattle.std.specs.List.Sorted.{IsPermutation}
use Rattle.std.proofs.lemmas.List.Elements.{All-map}
use Rattle.std.proofs.lemmas.List.Sorted.{All-permutation, Contains-permutation, IsPermutation-sym}
use Rattle.zarrs_codec.specs.BytesToBytesCodec.{AreBytes}
use Rattle.zarrs_pairs.proofs.SortedRows.{function_moved, same_found}
use Rattle.zarrs_pairs.specs.Lawful.{found_is_there, found_of_member, none_is_not, turned_back, turned_is_function, turned_member}
use Rattle.zarrs_pairs.specs.Pairs.{Pairs, sides, turned, beside, IsPair, AreOneToOne, HaveSamePairs}
use Rattle.zarrs_pairs.specs.Rows.{AreTurned, IsFunction}
use Rattle.zarrs_pairs.specs.declared.pair.Pair.{Pair}

pub same_pairs : (rows other : Pairs) → IsPermutation rows other → HaveSamePairs other rows
same_pairs rows other same decoded encoded =
    (Contains-permutation other rows (decoded, encoded) (IsPermutation-sym rows other same), Contains-permutation rows other (decoded, encoded) same)

-- one to one, since the list and the list turned round are functions
pub one_to_one_of_both : (pairs : Pairs) → IsFunction pairs → IsFunction (map turned pairs) → AreOneToOne pairs
one_to_one_of_both pairs one other = record {
  one_encoded = one;
  one_decoded = λ first second encoded a b. other encoded first second (turned_member pairs first encoded a) (turned_member pairs second encoded b);
}

pub one_to_one_moved : (pairs other : Pairs) → HaveSamePairs other pairs → AreOneToOne pairs → AreOneToOne other
one_to_one_moved pairs other same one = record {
  one_encoded = λ decoded first second a b. one.one_encoded decoded first second ((same decoded first).0 a) ((same decoded second).0 b);
  one_decoded = λ first second encoded a b. one.one_decoded first second encoded ((same first encoded).0 a) ((same second encoded).0 b);
}

pub turned_function : (pairs rows : Pairs) → IsPermutation (map turned pairs) rows → AreOneToOne pairs → IsFunction rows
turned_function pairs rows same one = function_moved (map turned pairs) rows same (turned_is_function pairs one)

pub back_turned : (pairs rows : Pairs) → IsPermutation (map turned pairs) rows → IsFunction rows → IsFunction (map turned pairs)
back_turned pairs rows same one = function_moved rows (map turned pairs) (IsPermutation-sym (map turned pairs) rows same) one

pub are_turned : (pairs rows : Pairs) → IsPermutation (map turned pairs) rows → IsFunction rows → AreTurned pairs rows
are_turned pairs rows same one bytes = same_found (map turned pairs) rows bytes same one

pub bytes_moved : (pairs : List Pair) (rows : Pairs) → IsPermutation (map sides pairs) rows → All (λ pair. AreBytes pair.encoded.now) pairs → All (λ row. AreBytes row.1) rows
bytes_moved pairs rows same each = All-permutation (λ row. AreBytes row.1) (map sides pairs) rows same (All-map (λ row. AreBytes row.1) sides pairs each)

-- ---- what is looked up

pub found_by : (rows : Pairs) (key : List ℕ) (result : Option (Bor (List ℕ))) → option_map (λ it. it.now) result ≡ beside rows key → IfSome result (λ value. Contains rows (key, value.now))
found_by rows key None e = tt
found_by rows key (Some value) e = found_is_there rows key value.now (sym e)

pub lacking_by : (rows : Pairs) (key : List ℕ) (result : Option (Bor (List ℕ))) → option_map (λ it. it.now) result ≡ beside rows key → result ≡ None → (value : List ℕ) → Contains rows (key, value) → ⊥
lacking_by rows key result e none value member =
    let found = found_of_member rows key value member in
    none_is_not found.value (sym (ap (λ r. option_map (λ (it : Bor (List ℕ)). it.now) r) none) ∙ e ∙ found.is)

pub found_by_turned : (pairs : Pairs) (key : List ℕ) (result : Option (Bor (List ℕ))) → option_map (λ it. it.now) result ≡ beside (map turned pairs) key → IfSome result (λ value. IsPair pairs value.now key)
found_by_turned pairs key None e = tt
found_by_turned pairs key (Some value) e = turned_back pairs value.now key (found_is_there (map turned pairs) key value.now (sym e))

pub lacking_by_turned : (pairs : Pairs) (key : List ℕ) (result : Option (Bor (List ℕ))) → option_map (λ it. it.now) result ≡ beside (map turned pairs) key → result ≡ None → (value : List ℕ) → IsPair pairs value key → ⊥
lacking_by_turned pairs key result e none value member = lacking_by (map turned pairs) key result e none value (turned_member pairs value key member)
