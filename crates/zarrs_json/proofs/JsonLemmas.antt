-- Trees of texts, and objects with one key.
use Rattle.std.proofs.Common.{◌≡◌, ℕ, suc, List, [], ◌∷◌, length, Bool, true, false, cond, Some, None, Ok, Err, refl, ap, arith, Global}
use Rattle.std.specs.Prelude.{option_and_then, ok_or, IsUtf8, String}
use Rattle.std.specs.Str.{is_utf8}
use Rattle.std.proofs.lemmas.Str.{IsUtf8-from_is_utf8, is_utf8-from_IsUtf8}
use Rattle.json.specs.Token.{Token}
use Rattle.json.specs.Print.{print}
use Rattle.serde_json.specs.Data.{Data, string}
use Rattle.serde_json.specs.Read.{read}
use Rattle.serde_json.specs.Find.{get_member}
use Rattle.serde_json.specs.Written.{has_float, compact_text}
use Rattle.serde_json.specs.View.{members_view}
use Rattle.serde_json.specs.declared.value.Value.{Value}
use Rattle.serde_json.proofs.Texts.{print-outline}
use Rattle.zarrs_json.specs.declared.refusal.Refusal.TheVariants.{Syntax}
use Rattle.zarrs_json.specs.Json.{tree_of, tree_without_floats, only_member, member_count}

-- a text that reads, without floats
pub tree_of-read : (text : List ℕ) (tree : Data) → IsUtf8 text → read text ≡ Some tree → has_float tree ≡ false → tree_of text ≡ Ok tree
tree_of-read text tree utf8 at clean = rw (is_utf8-from_IsUtf8 text utf8, at, clean) refl

unread_by : (text : List ℕ) (b : Bool) → is_utf8 text ≡ b → (IsUtf8 text → read text ≡ None) → ok_or (cond b (option_and_then tree_without_floats (read text)) None) Syntax ≡ Err Syntax
unread_by text false is h = refl
unread_by text true is h = rw (h (IsUtf8-from_is_utf8 text is)) refl

-- a text that doesn't read
pub tree_of-unread : (text : List ℕ) → (IsUtf8 text → read text ≡ None) → tree_of text ≡ Err Syntax
tree_of-unread text h = unread_by text (is_utf8 text) refl h

abbrev Entries : Type 0
Entries = List (String Global × Value)

-- of one key
pub only_member-one : (key : List ℕ) (entries : Entries) → length entries ≡ 1 → get_member key (members_view entries) ≡ only_member key (members_view entries)
only_member-one key [] one = absurd (omega (arith, one))
only_member-one key (e ∷ []) one = refl
only_member-one key (e ∷ f ∷ es) one = absurd (omega (arith, one))

-- of no key, or of several
pub only_member-none : (key : List ℕ) (entries : Entries) → (length entries ≡ 1 → ⊥) → None ≡ only_member key (members_view entries)
only_member-none key [] other = refl
only_member-none key (e ∷ []) other = absurd (other refl)
only_member-none key (e ∷ f ∷ es) other = refl

-- as many keys as members
pub member_count_of_view : (entries : Entries) → member_count (members_view entries) ≡ length entries
member_count_of_view [] = refl
member_count_of_view (e ∷ es) = ap suc (member_count_of_view es)

-- the text of a string alone
pub print_text : (text : List ℕ) → print (Token.string text ∷ []) ≡ compact_text (string text)
print_text text = print-outline (string text)
