-- JSON texts, what is read of them, and how an answer shows JSON.
-- Source: RFC 8259.
use Rattle.std.specs.Prelude.{ℕ, suc, List, [], ◌∷◌, ◌++◌, Option, Some, None, option_and_then, ok_or, Result, Ok, String, codes, if◌then◌else◌}
use Rattle.std.specs.Result.{result_ok}
use Rattle.std.specs.Str.{is_utf8}
use Rattle.std.proofs.Common.{Bor}
use Rattle.std.specs.declared.alloc.Global.{Global}
use Rattle.std.specs.declared.collections.BTreeMap.{BTreeMap}
use Rattle.hex.specs.Hex.{decode_of, encode_lower}
use Rattle.serde_json.specs.Data.{Data, string, Items, no_items, item, Members, no_members, member}
use Rattle.serde_json.specs.Find.{as_u64, as_number, as_str, as_array, get_member}
use Rattle.serde_json.specs.Read.{read}
use Rattle.serde_json.specs.View.{members_view}
use Rattle.serde_json.specs.Written.{has_float, compact_text}
use Rattle.serde_json.specs.declared.value.Value.{Value}
use Rattle.zarrs_chunk.specs.Answer.{◌>>=◌}
use Rattle.zarrs_json.specs.declared.refusal.Refusal.{Refusal}
use Rattle.zarrs_json.specs.declared.refusal.Refusal.TheVariants.{Syntax}

-- the members of an object
abbrev pub members_seen : BTreeMap (String Global) Value Global → Members
members_seen members = members_view members.entries

-- the members of a lent object
abbrev pub lent_object : Bor (BTreeMap (String Global) Value Global) → Members
lent_object members = members_seen members.now

-- a tree with a float at any depth doesn't count
abbrev pub tree_without_floats : Data → Option Data
tree_without_floats tree = if has_float tree then None else Some tree

-- the tree of a text, which is UTF-8 and one JSON value without floats; or the first error
abbrev pub tree_of : List ℕ → Result Data Refusal
tree_of text = ok_or (if is_utf8 text then option_and_then tree_without_floats (read text) else None) Syntax

-- the whole numbers of a list's items, among which nothing else may stand
abbrev pub numbers_shown : Items → Result (List ℕ) Refusal
numbers_shown no_items = Ok []
numbers_shown (item tree items) = do
  number ← ok_or (option_and_then as_u64 (as_number tree)) Syntax
  numbers ← numbers_shown items
  Ok (number ∷ numbers)

-- the whole numbers of a list, or the error
abbrev pub number_list_shown : Data → Result (List ℕ) Refusal
number_list_shown tree = do
  items ← ok_or (as_array tree) Syntax
  numbers_shown items

-- the bytes of a hex text, of upper or lower case, where it is one
abbrev pub hex_of : Data → Option (List ℕ)
hex_of tree = option_and_then (λ text. result_ok (decode_of text)) (as_str tree)

-- the hex text of bytes, of lower case
abbrev pub hex_tree : List ℕ → Data
hex_tree bytes = string (encode_lower bytes)

-- the value of this key, where an object has no other key
abbrev pub only_member : List ℕ → Members → Option Data
only_member key no_members = None
only_member key (member name tree no_members) = get_member key (member name tree no_members)
only_member key (member name tree (member other more rest)) = None

-- the value of a key that has to be there
abbrev pub needed_member : List ℕ → Members → Result Data Refusal
needed_member key members = ok_or (get_member key members) Syntax

-- how many keys an object has
abbrev pub member_count : Members → ℕ
member_count no_members = 0
member_count (member key tree members) = suc (member_count members)

-- the only tree of a list
abbrev pub lone_item : Items → Option Data
lone_item no_items = None
lone_item (item tree no_items) = Some tree
lone_item (item tree (item other items)) = None

-- the answer that shows a tree: compact JSON
abbrev pub ok_line : Data → List ℕ
ok_line tree = codes "ok " ++ compact_text tree
