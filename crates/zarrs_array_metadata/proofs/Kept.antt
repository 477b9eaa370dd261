-- Members that are kept as they are.
use Rattle.std.proofs.Common.{◌≡◌, ◌∙◌, ℕ, List, [], ◌∷◌, ◌++◌, Bool, true, false, cond, Less, Greater, string_bytes, string_cmp, nat_cmp, refl, ap}
use Rattle.std.proofs.lemmas.Cmp.{nat_list_cmp_total}
use Rattle.std.specs.Cmp.Lexicographic.{slice_cmp}
use Rattle.std.specs.List.{AllByRecursion}
use Rattle.std.specs.List.Sorted.{IsStrictlySortedBy}
use Rattle.std.specs.Map.{keys_of}
use Rattle.std.specs.Ordering.{ordering_reverse}
use Rattle.serde_json.specs.Data.{Data, Members, member, put}
use Rattle.serde_json.specs.View.{view, members_view}
use Rattle.serde_json.proofs.Views.{Entry}
use Rattle.zarrs_array_metadata.specs.Additional.{is_array_key, additional_of, with_additional}

below_middle : (first : Entry) (es : List Entry) (e : Entry) (more : List Entry) → AllByRecursion (λ y. string_cmp first.0 y ≡ Less) (keys_of (es ++ e ∷ more)) → string_cmp first.0 e.0 ≡ Less
below_middle first [] e more h = h.0
below_middle first (x ∷ es) e more h = below_middle first es e more h.1

-- a member whose key has a meaning isn't kept, wherever it stands
skipped_last : (done : List Entry) (e : Entry) → is_array_key (string_bytes e.0) ≡ true → additional_of (members_view done) ≡ additional_of (members_view (done ++ e ∷ []))
skipped_last [] e h = rw h refl
skipped_last (first ∷ done) e h =
    ap (λ rest. cond (is_array_key (string_bytes first.0)) rest (member (string_bytes first.0) (view first.1) rest)) (skipped_last done e h)

-- any other member that is above those before it goes last
kept_behind : (b : Bool) (first : Entry) (k : List ℕ) (d : Data) (done all : Members) → slice_cmp nat_cmp k (string_bytes first.0) ≡ Greater → put k d done ≡ all
    → put k d (cond b done (member (string_bytes first.0) (view first.1) done)) ≡ cond b all (member (string_bytes first.0) (view first.1) all)
kept_behind true first k d done all above later = later
kept_behind false first k d done all above later = rw above (ap (member (string_bytes first.0) (view first.1)) later)

kept_last : (done : List Entry) (e : Entry) (more : List Entry) → IsStrictlySortedBy string_cmp (keys_of (done ++ e ∷ more)) → is_array_key (string_bytes e.0) ≡ false
    → put (string_bytes e.0) (view e.1) (additional_of (members_view done)) ≡ additional_of (members_view (done ++ e ∷ []))
unfolding IsStrictlySortedBy
kept_last [] e more h known = rw known refl
kept_last (first ∷ done) e more h known =
    kept_behind (is_array_key (string_bytes first.0)) first (string_bytes e.0) (view e.1) (additional_of (members_view done)) (additional_of (members_view (done ++ e ∷ [])))
    (nat_list_cmp_total.antisymm (string_bytes e.0) (string_bytes first.0) ∙ ap ordering_reverse (below_middle first done e more h.0))
    (kept_last done e more h.1 known)

-- those so far that are kept, with one more
pub kept_next : (done : List Entry) (e : Entry) (more : List Entry) → IsStrictlySortedBy string_cmp (keys_of (done ++ e ∷ more))
    → with_additional (string_bytes e.0) (view e.1) (additional_of (members_view done)) ≡ additional_of (members_view (done ++ e ∷ []))
kept_next done e more sorted = by_test (is_array_key (string_bytes e.0)) refl
  where
    by_test : (b : Bool) → is_array_key (string_bytes e.0) ≡ b
        → cond b (additional_of (members_view done)) (put (string_bytes e.0) (view e.1) (additional_of (members_view done))) ≡ additional_of (members_view (done ++ e ∷ []))
    by_test true is = skipped_last done e is
    by_test false is = kept_last done e more sorted is
