-- Types that objects name.
use Rattle.std.proofs.Common.{◌≡◌, ◌∙◌, ◌≤◌, ℕ, Bool, true, false, cond, List, [], ◌∷◌, length, Option, Some, None, Ordering, Less, Equal, Greater, codes, refl, ap, max, arith, String}
use Rattle.std.specs.Prelude.{Result, is_some, IsTrue, ◌↔◌}
use Rattle.std.specs.Ordering.{nat_cmp, match_ordering}
use Rattle.std.specs.Cmp.Lexicographic.{slice_cmp}
use Rattle.std.specs.declared.alloc.Global.{Global}
use Rattle.std.proofs.lemmas.Bool.{false≢true}
use Rattle.serde_json.specs.Data.{Data, null, boolean, number, string, array, object, Members, no_members, member, depth, members_depth}
use Rattle.serde_json.specs.Find.{get_member}
use Rattle.serde_json.specs.View.{members_view}
use Rattle.serde_json.specs.declared.value.Value.{Value}
use Rattle.zarrs_fill_values.specs.NameTree.{name_in, name_configured, inner_tree, configuration_at, object_in, names_optional, name_at, level_round, bare_name, has_no_members}
use Rattle.zarrs_fill_values.specs.declared.element_error.ElementError.{ElementError}
use Rattle.zarrs_fill_values.specs.declared.element_name.ElementName.{ElementName}

found_here : (o : Ordering) (first tree : Data) (rest : Option Data) (later : Result ElementName ElementError) → (rest ≡ Some tree → later ≡ name_in tree) → match_ordering o rest (Some first) rest ≡ Some tree → match_ordering o later (name_in first) later ≡ name_in tree
found_here Less first tree rest later f h = f h
found_here Equal first tree rest later f h = ap name_in (let e : first ≡ tree = cc in e)
found_here Greater first tree rest later f h = f h

-- the type that a configuration names is that of its tree
pub name_configured-found : (members : Members) (tree : Data) → configuration_at members ≡ Some tree → name_configured members ≡ name_in tree
name_configured-found no_members tree h = absurd (cc)
name_configured-found (member key first rest) tree h =
    found_here (slice_cmp nat_cmp (codes "configuration") key) first tree (configuration_at rest) (name_configured rest) (name_configured-found rest tree) h

lent_object : (o : Option Data) (tree : Data) → object_in o ≡ Some tree → o ≡ Some tree
lent_object None tree h = absurd (cc)
lent_object (Some null) tree h = absurd (cc)
lent_object (Some (boolean truth)) tree h = absurd (cc)
lent_object (Some (number n)) tree h = absurd (cc)
lent_object (Some (string text)) tree h = absurd (cc)
lent_object (Some (array items)) tree h = absurd (cc)
lent_object (Some (object entries)) tree h = h

inner_is : (b : Bool) (o : Option Data) (tree : Data) → cond b (object_in o) None ≡ Some tree → o ≡ Some tree
inner_is true o tree h = lent_object o tree h
inner_is false o tree h = absurd (cc)

-- the tree inside is that of the configuration
pub inner_tree-configuration : (members : Members) (tree : Data) → inner_tree members ≡ Some tree → configuration_at members ≡ Some tree
inner_tree-configuration members tree h = inner_is (names_optional (name_at members)) (configuration_at members) tree h

-- the type that an object names with a type inside
pub name_in-inner : (members : Members) (tree : Data) → inner_tree members ≡ Some tree → name_in (object members) ≡ level_round (name_in tree)
name_in-inner members tree h =
    ap (λ o. cond (is_some o) (level_round (name_configured members)) (bare_name members)) h
    ∙ ap level_round (name_configured-found members tree (inner_tree-configuration members tree h))

-- the type that any other object names
pub name_in-bare : (members : Members) → inner_tree members ≡ None → name_in (object members) ≡ bare_name members
name_in-bare members h = ap (λ o. cond (is_some o) (level_round (name_configured members)) (bare_name members)) h

deep_here : (o : Ordering) (first tree : Data) (rest : Option Data) (deep : ℕ) → (rest ≡ Some tree → depth tree ≤ deep) → match_ordering o rest (Some first) rest ≡ Some tree → depth tree ≤ max (depth first) deep
deep_here Less first tree rest deep f h = let l : depth tree ≤ deep = f h in omega (arith, l)
deep_here Equal first tree rest deep f h = let e : first ≡ tree = cc in let d : depth first ≡ depth tree = ap depth e in omega (arith, d)
deep_here Greater first tree rest deep f h = let l : depth tree ≤ deep = f h in omega (arith, l)

-- what stands at a key is no deeper than the members
pub get_member-depth : (key : List ℕ) (members : Members) (tree : Data) → get_member key members ≡ Some tree → depth tree ≤ members_depth members
get_member-depth key no_members tree h = absurd (cc)
get_member-depth key (member name first rest) tree h =
    deep_here (slice_cmp nat_cmp key name) first tree (get_member key rest) (members_depth rest) (get_member-depth key rest tree) h

-- an object of no entries has no members
pub has_no_members-entries : (r : Bool) (entries : List (String Global × Value)) → (IsTrue r ↔ (length entries ≡ 0)) → r ≡ has_no_members (members_view entries)
has_no_members-entries true [] h = refl
has_no_members-entries false [] h = absurd (false≢true (h.1 refl))
has_no_members-entries true (entry ∷ entries) h = let e : length (entry ∷ entries) ≡ 0 = h.0 refl in absurd (omega (arith, e))
has_no_members-entries false (entry ∷ entries) h = refl
