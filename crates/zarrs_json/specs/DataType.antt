-- The types of a header: by name, {"optional":T}, or {"components":{"bits":w,"count":c,"signed":b}}.
use Rattle.std.specs.Prelude.{ℕ, ◌==◌, Bool, true, false, List, Option, Some, None, option_and_then, ok_or, Result, Err, codes, if◌then◌else◌}
use Rattle.std.specs.Str.{bytes_eq}
use Rattle.serde_json.specs.Data.{Data, null, boolean, number, string, array, object, Members, no_members, member}
use Rattle.serde_json.specs.Find.{as_bool, as_number, as_object, as_u64, get_member}
use Rattle.zarrs_chunk.specs.Answer.{◌>>=◌, demand, seen}
use Rattle.zarrs_data_type.specs.ElementType.{ElementType, fixed, text, bytes, optional, components_type}
use Rattle.zarrs_json.specs.declared.refusal.Refusal.{Refusal}
use Rattle.zarrs_json.specs.declared.refusal.Refusal.TheVariants.{Syntax}
use Rattle.zarrs_json.specs.Refusal.{codec_answer}
use Rattle.zarrs_json.specs.Json.{only_member, member_count}

-- a type by its name: of one component, or of any length
abbrev pub type_named : List ℕ → Option ElementType
type_named name =
    if bytes_eq name (codes "bool") then Some (fixed 1 1 false)
    else if bytes_eq name (codes "int2") then Some (fixed 2 1 true)
    else if bytes_eq name (codes "int4") then Some (fixed 4 1 true)
    else if bytes_eq name (codes "int8") then Some (fixed 8 1 true)
    else if bytes_eq name (codes "int16") then Some (fixed 16 1 true)
    else if bytes_eq name (codes "int32") then Some (fixed 32 1 true)
    else if bytes_eq name (codes "int64") then Some (fixed 64 1 true)
    else if bytes_eq name (codes "uint2") then Some (fixed 2 1 false)
    else if bytes_eq name (codes "uint4") then Some (fixed 4 1 false)
    else if bytes_eq name (codes "uint8") then Some (fixed 8 1 false)
    else if bytes_eq name (codes "uint16") then Some (fixed 16 1 false)
    else if bytes_eq name (codes "uint32") then Some (fixed 32 1 false)
    else if bytes_eq name (codes "uint64") then Some (fixed 64 1 false)
    else if bytes_eq name (codes "string") then Some text
    else if bytes_eq name (codes "bytes") then Some bytes
    else None

-- a whole number at a key
abbrev pub number_at : List ℕ → Members → Option ℕ
number_at key members = option_and_then as_u64 (option_and_then as_number (get_member key members))

-- true or false at a key
abbrev pub truth_at : List ℕ → Members → Option Bool
truth_at key members = option_and_then as_bool (get_member key members)

-- the bits of a component, the components of an element, and whether they have a sign: these keys and no other
abbrev pub components_shown : Members → Result ElementType Refusal
components_shown members = do
  _ ← demand (member_count members == 3) Syntax
  bits ← ok_or (number_at (codes "bits") members) Syntax
  count ← ok_or (number_at (codes "count") members) Syntax
  signed ← ok_or (truth_at (codes "signed") members) Syntax
  codec_answer (components_type bits count signed)

-- a type of several components, by the object that has them
abbrev pub components_at : Data → Result ElementType Refusal
components_at tree = do
  members ← ok_or (as_object tree) Syntax
  components_shown members

-- the members of the object that stands alone under its key
abbrev pub components_alone : Members → Result Members Refusal
components_alone members = ok_or (option_and_then as_object (only_member (codes "components") members)) Syntax

-- the same, by an object with its key alone
abbrev pub components_among : Members → Result ElementType Refusal
components_among members = do
  inner ← components_alone members
  components_shown inner

-- The type that a tree names, or the error: a text; {"optional":T}, with the type of the elements that are present; or {"components":..}.
abbrev pub type_in : Data → Result ElementType Refusal
type_in null = Err Syntax
type_in (boolean truth) = Err Syntax
type_in (number value) = Err Syntax
type_in (string name) = ok_or (type_named name) Syntax
type_in (array items) = Err Syntax
type_in (object no_members) = Err Syntax
type_in (object (member key tree no_members)) =
    if bytes_eq (codes "optional") key then seen optional (type_in tree)
    else if bytes_eq (codes "components") key then components_at tree
    else Err Syntax
type_in (object (member key tree (member other more rest))) = Err Syntax
