-- The types that objects with one key name.
use Rattle.std.proofs.Common.{◌≡◌, ◌∙◌, ◌≤◌, ℕ, List, Bool, true, false, cond, Some, None, Ordering, Less, Equal, Greater, codes, refl, ap, sym, arith}
use Rattle.std.specs.Prelude.{Err, option_and_then, ok_or}
use Rattle.std.specs.Ordering.{nat_cmp, match_ordering, is_eq}
use Rattle.std.specs.Str.{bytes_eq}
use Rattle.std.specs.Cmp.Lexicographic.{slice_cmp}
use Rattle.std.proofs.lemmas.Map.Text.{is_eq-slice_cmp}
use Rattle.serde_json.specs.Data.{Data, object, Members, no_members, member, depth, members_depth}
use Rattle.serde_json.specs.Find.{as_object}
use Rattle.zarrs_chunk.specs.Answer.{seen, ◌>>=◌}
use Rattle.zarrs_data_type.specs.ElementType.{optional}
use Rattle.zarrs_json.specs.declared.refusal.Refusal.TheVariants.{Syntax}
use Rattle.zarrs_json.specs.DataType.{type_in, components_shown, components_at, components_among}
use Rattle.zarrs_json.specs.Json.{only_member}

found_at : (o : Ordering) (tree : Data) → match_ordering o None (Some tree) None ≡ cond (is_eq o) (Some tree) None
found_at Less tree = refl
found_at Equal tree = refl
found_at Greater tree = refl

-- of an object with one key
lone_key : (key name : List ℕ) (tree : Data) → only_member key (member name tree no_members) ≡ cond (bytes_eq key name) (Some tree) None
lone_key key name tree =
    found_at (slice_cmp nat_cmp key name) tree ∙ ap (λ b. cond b (Some tree) None) (is_eq-slice_cmp key name)

at_components : (b : Bool) (tree : Data) → cond b (components_at tree) (Err Syntax) ≡ (ok_or (option_and_then as_object (cond b (Some tree) None)) Syntax >>= components_shown)
at_components true tree = refl
at_components false tree = refl

is_there : (b : Bool) (tree inner : Data) → cond b (Some tree) None ≡ Some inner → (b ≡ true) × (tree ≡ inner)
is_there true tree inner h = (refl, cc)
is_there false tree inner h = absurd (cc)

is_missing : (b : Bool) (tree : Data) → cond b (Some tree) None ≡ None → b ≡ false
is_missing true tree h = absurd (cc)
is_missing false tree h = refl

-- the type that {"optional":T} names
pub type_in-optional : (members : Members) (tree : Data) → only_member (codes "optional") members ≡ Some tree → type_in (object members) ≡ seen optional (type_in tree)
type_in-optional no_members tree h = absurd (cc)
type_in-optional (member key first no_members) tree h =
    let there = is_there (bytes_eq (codes "optional") key) first tree (sym (lone_key (codes "optional") key first) ∙ h) in
    ap (λ b. cond b (seen optional (type_in first)) (cond (bytes_eq (codes "components") key) (components_at first) (Err Syntax))) there.0
    ∙ ap (λ t. seen optional (type_in t)) there.1
type_in-optional (member key first (member other more rest)) tree h = absurd (cc)

-- the type that any other object names
pub type_in-components : (members : Members) → only_member (codes "optional") members ≡ None → type_in (object members) ≡ components_among members
type_in-components no_members h = refl
type_in-components (member key first no_members) h =
    let missing = is_missing (bytes_eq (codes "optional") key) first (sym (lone_key (codes "optional") key first) ∙ h) in
    ap (λ b. cond b (seen optional (type_in first)) (cond (bytes_eq (codes "components") key) (components_at first) (Err Syntax))) missing
    ∙ at_components (bytes_eq (codes "components") key) first
    ∙ ap (λ o. ok_or (option_and_then as_object o) Syntax >>= components_shown) (sym (lone_key (codes "components") key first))
type_in-components (member key first (member other more rest)) h = refl

-- the type inside is less deep
pub only_member-depth : (key : List ℕ) (members : Members) (tree : Data) → only_member key members ≡ Some tree → depth tree ≤ members_depth members
only_member-depth key no_members tree h = absurd (cc)
only_member-depth key (member name first no_members) tree h =
    let there = is_there (bytes_eq key name) first tree (sym (lone_key key name first) ∙ h) in
    let same : depth first ≡ depth tree = ap depth there.1 in
    omega (arith, same)
only_member-depth key (member name first (member other more rest)) tree h = absurd (cc)
