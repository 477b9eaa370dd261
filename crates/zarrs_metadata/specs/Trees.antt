-- What is read from JSON trees, and written as them.
use Rattle.std.specs.Prelude.{ℕ, not, List, [], ◌∷◌, Option, Some, None, map, option_map, option_and_then, is_some, ok_or, Result, Ok, if◌then◌else◌}
use Rattle.std.proofs.Common.{Bor}
use Rattle.serde_json.specs.Data.{Data, unsigned, number, array, Items, no_items, item, Members}
use Rattle.serde_json.specs.Find.{as_array, as_null, as_number, as_str, as_u64}
use Rattle.serde_json.specs.View.{view, items_of}
use Rattle.serde_json.specs.Written.{members_have_float}
use Rattle.serde_json.specs.declared.value.Value.{Value}
use Rattle.zarrs_chunk.specs.Answer.{◌>>=◌, demand, seen}
use Rattle.zarrs_metadata.specs.declared.plugin_create_error.PluginCreateError.{PluginCreateError}
use Rattle.zarrs_metadata.specs.declared.plugin_create_error.PluginCreateError.TheVariants.{InvalidConfiguration}

-- the JSON tree of a value that is lent, where there is one
abbrev pub lent_tree : Option (Bor Value) → Option Data
lent_tree value = option_map (λ v. view v.now) value

-- no number of the configuration, at any depth, may be a float
abbrev pub without_floats : Members → Result (Unit {0}) PluginCreateError
without_floats configuration = demand (not (members_have_float configuration)) InvalidConfiguration

-- something that a configuration has to have
abbrev pub needed : {A : Type 0} → Option A → Result A PluginCreateError
needed found = ok_or found InvalidConfiguration

-- a text that has to be there
abbrev pub needed_text : Option Data → Result (List ℕ) PluginCreateError
needed_text tree = needed (option_and_then as_str tree)

-- the value at a key that may be missing, where null counts as missing too; a value of another kind is rejected
abbrev pub optional_key : {A : Type 0} → (Data → Option A) → Option Data → Result (Option A) PluginCreateError
optional_key kind None = Ok None
optional_key kind (Some tree) =
    if is_some (as_null tree) then Ok None else seen Some (needed (kind tree))

-- a whole number
abbrev pub whole_number : Data → Option ℕ
whole_number tree = option_and_then as_u64 (as_number tree)

-- the whole numbers of a list's items, among which nothing else may stand
abbrev pub numbers_in : Items → Result (List ℕ) PluginCreateError
numbers_in no_items = Ok []
numbers_in (item tree items) = do
  n ← needed (whole_number tree)
  ns ← numbers_in items
  Ok (n ∷ ns)

-- a list of whole numbers
abbrev pub number_list : Data → Result (List ℕ) PluginCreateError
number_list tree = do
  items ← needed (as_array tree)
  numbers_in items

-- how whole numbers are written
abbrev pub numbers_tree : List ℕ → Data
numbers_tree numbers = array (items_of (map (λ n. number (unsigned n)) numbers))
