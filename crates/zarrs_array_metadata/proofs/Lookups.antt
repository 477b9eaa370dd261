-- What stands at a key of members that were put.
use Rattle.std.proofs.Common.{◌≡◌, ◌∙◌, ℕ, Bool, true, false, cond, List, [], ◌∷◌, Option, Some, None, Ordering, Less, Equal, Greater, nat_cmp, is_eq, bytes_eq, true≢false, refl, ap, sym}
use Rattle.std.proofs.lemmas.Bool.{and_parts}
use Rattle.std.proofs.lemmas.Map.Text.{is_eq-slice_cmp}
use Rattle.std.proofs.lemmas.Slice.Eq.{bytes_eq-Decides}
use Rattle.std.specs.Cmp.Lexicographic.{slice_cmp}
use Rattle.std.specs.List.{list_all}
use Rattle.std.specs.Ordering.{match_ordering}
use Rattle.serde_json.specs.Data.{Data, Members, no_members, member, put}
use Rattle.serde_json.specs.Find.{get_member}
use Rattle.serde_json.proofs.Views.{get_member-put, get_member-put_other}
use Rattle.zarrs_array_metadata.specs.Additional.{is_array_key, is_accepted, additional_of, first_unknown}
use Rattle.zarrs_array_metadata.specs.Written.{put_all}

pub apart : (xs ys : List ℕ) → bytes_eq xs ys ≡ false → xs ≡ ys → ⊥
apart xs ys h e = true≢false (sym ((bytes_eq-Decides xs ys).1 e) ∙ h)

-- ---- lookups

-- what stands at a key of members that were put, by their keys
abbrev pub found : List ℕ → List (List ℕ × Data) → Members → Option Data
found key [] members = get_member key members
found key (entry ∷ entries) members = cond (bytes_eq key entry.0) (Some entry.1) (found key entries members)

found_by : (b : Bool) (q k : List ℕ) (d : Data) (members : Members) (o : Option Data) → bytes_eq q k ≡ b → get_member q members ≡ o → get_member q (put k d members) ≡ cond b (Some d) o
found_by true q k d members o is h = rw ((bytes_eq-Decides q k).0 is) (get_member-put k d members)
found_by false q k d members o is h = get_member-put_other q k d members (apart q k is) ∙ h

-- a key has the first tree that was put there, or what stood there
pub put_all-found : (key : List ℕ) (entries : List (List ℕ × Data)) (members : Members) → get_member key (put_all entries members) ≡ found key entries members
put_all-found key [] members = refl
put_all-found key (entry ∷ entries) members =
    found_by (bytes_eq key entry.0) key entry.0 entry.1 (put_all entries members) (found key entries members) refl (put_all-found key entries members)

-- ---- keys that have no meaning

known_at : (o : Ordering) (k l : List ℕ) (d e : Data) (members : Members) → slice_cmp nat_cmp k l ≡ o → is_array_key k ≡ true → additional_of (put k d members) ≡ additional_of members
    → additional_of (match_ordering o (member k d (member l e members)) (member l d members) (member l e (put k d members))) ≡ additional_of (member l e members)
known_at Less k l d e members is known later = rw known refl
known_at Equal k l d e members is known later =
    let same : k ≡ l = (bytes_eq-Decides k l).0 (sym (is_eq-slice_cmp k l) ∙ ap is_eq is) in
    let l-known : is_array_key l ≡ true = ap is_array_key (sym same) ∙ known in
    rw l-known refl
known_at Greater k l d e members is known later = ap (λ rest. cond (is_array_key l) rest (member l e rest)) later

-- a member whose key has a meaning isn't one of the others
pub additional-put : (k : List ℕ) (d : Data) (members : Members) → is_array_key k ≡ true → additional_of (put k d members) ≡ additional_of members
additional-put k d no_members known = rw known refl
additional-put k d (member l e members) known = known_at (slice_cmp nat_cmp k l) k l d e members refl known (additional-put k d members known)

-- each of these keys has a meaning
abbrev pub all_known : List (List ℕ × Data) → Bool
all_known entries = list_all (λ entry. is_array_key entry.0) entries

pub additional-put_all : (entries : List (List ℕ × Data)) (members : Members) → all_known entries ≡ true → additional_of (put_all entries members) ≡ additional_of members
additional-put_all [] members h = refl
additional-put_all (entry ∷ entries) members h =
    let parts = and_parts (is_array_key entry.0) (all_known entries) h in
    additional-put entry.0 entry.1 (put_all entries members) parts.0 ∙ additional-put_all entries members parts.1

unknown_at : (o : Ordering) (k l : List ℕ) (d e : Data) (members : Members) → slice_cmp nat_cmp k l ≡ o → is_array_key k ≡ true → first_unknown (member l e members) ≡ None
    → (first_unknown members ≡ None → first_unknown (put k d members) ≡ None)
    → first_unknown (match_ordering o (member k d (member l e members)) (member l d members) (member l e (put k d members))) ≡ None
unknown_at Less k l d e members is known h later = rw known h
unknown_at Equal k l d e members is known h later =
    let same : k ≡ l = (bytes_eq-Decides k l).0 (sym (is_eq-slice_cmp k l) ∙ ap is_eq is) in
    let l-known : is_array_key l ≡ true = ap is_array_key (sym same) ∙ known in
    rw l-known (rw l-known at h)
unknown_at Greater k l d e members is known h later = by_test (is_accepted l e) h
  where
    by_test : (b : Bool) → cond b (first_unknown members) (Some l) ≡ None → cond b (first_unknown (put k d members)) (Some l) ≡ None
    by_test true n = later n
    by_test false n = absurd (cc)

-- a member whose key has a meaning is understood
pub unknown-put : (k : List ℕ) (d : Data) (members : Members) → is_array_key k ≡ true → first_unknown members ≡ None → first_unknown (put k d members) ≡ None
unknown-put k d no_members known h = rw known refl
unknown-put k d (member l e members) known h = unknown_at (slice_cmp nat_cmp k l) k l d e members refl known h (unknown-put k d members known)

pub unknown-put_all : (entries : List (List ℕ × Data)) (members : Members) → all_known entries ≡ true → first_unknown members ≡ None → first_unknown (put_all entries members) ≡ None
unknown-put_all [] members h none = none
unknown-put_all (entry ∷ entries) members h none =
    let parts = and_parts (is_array_key entry.0) (all_known entries) h in
    unknown-put entry.0 entry.1 (put_all entries members) parts.0 (unknown-put_all entries members parts.1 none)

-- another key's member is passed over
skips : (q l : List ℕ) (e : Data) (members : Members) → (q ≡ l → ⊥) → get_member q (member l e members) ≡ get_member q members
skips q l e members other = by_order (slice_cmp nat_cmp q l) refl
  where
    by_order : (o : Ordering) → slice_cmp nat_cmp q l ≡ o → match_ordering o (get_member q members) (Some e) (get_member q members) ≡ get_member q members
    by_order Less is = refl
    by_order Greater is = refl
    by_order Equal is = absurd (other ((bytes_eq-Decides q l).0 (sym (is_eq-slice_cmp q l) ∙ ap is_eq is)))

lookup_other : (b : Bool) (q l : List ℕ) (e : Data) (members : Members) → is_array_key q ≡ false → is_array_key l ≡ b → get_member q (additional_of members) ≡ get_member q members
    → get_member q (cond b (additional_of members) (member l e (additional_of members))) ≡ get_member q (member l e members)
lookup_other true q l e members q-known l-known later =
    later ∙ sym (skips q l e members (λ same. true≢false (sym l-known ∙ ap is_array_key (sym same) ∙ q-known)))
lookup_other false q l e members q-known l-known later = ap (λ o. match_ordering (slice_cmp nat_cmp q l) o (Some e) o) later

-- a key that has no meaning has what it had
pub additional-other : (q : List ℕ) (members : Members) → is_array_key q ≡ false → get_member q (additional_of members) ≡ get_member q members
additional-other q no_members h = refl
additional-other q (member l e members) h = lookup_other (is_array_key l) q l e members h refl (additional-other q members h)

lookup_known : (b : Bool) (q l : List ℕ) (e : Data) (members : Members) → is_array_key q ≡ true → is_array_key l ≡ b → get_member q (additional_of members) ≡ None
    → get_member q (cond b (additional_of members) (member l e (additional_of members))) ≡ None
lookup_known true q l e members q-known l-known later = later
lookup_known false q l e members q-known l-known later =
    skips q l e (additional_of members) (λ same. true≢false (sym q-known ∙ ap is_array_key same ∙ l-known)) ∙ later

-- a key that has a meaning has nothing there
pub additional-known : (q : List ℕ) (members : Members) → is_array_key q ≡ true → get_member q (additional_of members) ≡ None
additional-known q no_members h = refl
additional-known q (member l e members) h = lookup_known (is_array_key l) q l e members h refl (additional-known q members h)

again_at : (b : Bool) (l : List ℕ) (e : Data) (members : Members) → is_array_key l ≡ b → additional_of (additional_of members) ≡ additional_of members
    → additional_of (cond b (additional_of members) (member l e (additional_of members))) ≡ cond b (additional_of members) (member l e (additional_of members))
again_at true l e members is later = later
again_at false l e members is later = rw is (ap (member l e) later)

-- the others have no other others
pub additional-again : (members : Members) → additional_of (additional_of members) ≡ additional_of members
additional-again no_members = refl
additional-again (member l e members) = again_at (is_array_key l) l e members refl (additional-again members)

understood_at : (b c : Bool) (l : List ℕ) (e : Data) (members : Members) → is_array_key l ≡ b → is_accepted l e ≡ c → cond c (first_unknown members) (Some l) ≡ None
    → (first_unknown members ≡ None → first_unknown (additional_of members) ≡ None)
    → first_unknown (cond b (additional_of members) (member l e (additional_of members))) ≡ None
understood_at b false l e members known accepted h later = absurd (cc)
understood_at true true l e members known accepted h later = later h
understood_at false true l e members known accepted h later = rw accepted (later h)

-- where all members are understood, the others are
pub additional-understood : (members : Members) → first_unknown members ≡ None → first_unknown (additional_of members) ≡ None
additional-understood no_members h = refl
additional-understood (member l e members) h =
    understood_at (is_array_key l) (is_accepted l e) l e members refl refl h (additional-understood members)
