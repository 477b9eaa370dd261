-- How a type is named is read as the type.
use Rattle.std.proofs.Common.{◌≡◌, ◌∙◌, ◌≤◌, ℕ, zero, suc, true, false, cond, Some, List, codes, decimal, refl, ap, arith}
use Rattle.std.specs.Prelude.{nat_lt, option_map, ok_or, Ok, Err}
use Rattle.std.proofs.lemmas.Bool.{lt-ltb}
use Rattle.serde_json.specs.Data.{string, object, Members, no_members, member}
use Rattle.zarrs_chunk.specs.Answer.{seen}
use Rattle.zarrs_fill_values.specs.ElementName.{plain_name}
use Rattle.zarrs_fill_values.specs.Laws.{IsNamed, NameIsRead}
use Rattle.zarrs_fill_values.specs.Names.{plain_named, text_of}
use Rattle.zarrs_fill_values.specs.NameTree.{named, is_optional_text, name_in, level_round, optional_object, name_object, name_written}
use Rattle.zarrs_fill_values.specs.declared.element_error.ElementError.TheVariants.{UnsupportedDataType}
use Rattle.zarrs_fill_values.specs.declared.element_name.FloatName.{FloatName}
use Rattle.zarrs_fill_values.specs.declared.element_name.FloatName.TheVariants.{Float16, Bfloat16, Float32, Float64}
use Rattle.zarrs_fill_values.specs.declared.element_name.IntegerName.{IntegerName}
use Rattle.zarrs_fill_values.specs.declared.element_name.IntegerName.TheVariants.{Int2, Int4, Int8, Int16, Int32, Int64, Uint2, Uint4, Uint8, Uint16, Uint32, Uint64}
use Rattle.zarrs_fill_values.specs.declared.element_name.PlainName.{PlainName}
use Rattle.zarrs_fill_values.specs.declared.element_name.PlainName.TheVariants as plain
use Rattle.zarrs_fill_values.proofs.RawNames.{raw_bits_of-found}

integer-named : (integer : IntegerName) → plain_named (text_of (plain.Integer integer)) ≡ Some (plain.Integer integer)
integer-named Int2 = refl
integer-named Int4 = refl
integer-named Int8 = refl
integer-named Int16 = refl
integer-named Int32 = refl
integer-named Int64 = refl
integer-named Uint2 = refl
integer-named Uint4 = refl
integer-named Uint8 = refl
integer-named Uint16 = refl
integer-named Uint32 = refl
integer-named Uint64 = refl

float-named : (name : FloatName) → plain_named (text_of (plain.Float name)) ≡ Some (plain.Float name)
float-named Float16 = refl
float-named Bfloat16 = refl
float-named Float32 = refl
float-named Float64 = refl

complex-named : (name : FloatName) → plain_named (text_of (plain.Complex name)) ≡ Some (plain.Complex name)
complex-named Float16 = refl
complex-named Bfloat16 = refl
complex-named Float32 = refl
complex-named Float64 = refl

-- the name of a type names it
plain-named : (it : PlainName) → IsNamed it → plain_named (text_of it) ≡ Some it
plain-named plain.Bool h = refl
plain-named (plain.Integer integer) h = integer-named integer
plain-named (plain.Float name) h = float-named name
plain-named (plain.Complex name) h = complex-named name
plain-named (plain.Raw bits) h = ap (option_map plain.Raw) (raw_bits_of-found (decimal bits) bits h.1 h.0 refl)
plain-named plain.String h = refl
plain-named plain.Bytes h = refl

integer-other : (integer : IntegerName) → is_optional_text (text_of (plain.Integer integer)) ≡ false
integer-other Int2 = refl
integer-other Int4 = refl
integer-other Int8 = refl
integer-other Int16 = refl
integer-other Int32 = refl
integer-other Int64 = refl
integer-other Uint2 = refl
integer-other Uint4 = refl
integer-other Uint8 = refl
integer-other Uint16 = refl
integer-other Uint32 = refl
integer-other Uint64 = refl

float-other : (name : FloatName) → is_optional_text (text_of (plain.Float name)) ≡ false
float-other Float16 = refl
float-other Bfloat16 = refl
float-other Float32 = refl
float-other Float64 = refl

complex-other : (name : FloatName) → is_optional_text (text_of (plain.Complex name)) ≡ false
complex-other Float16 = refl
complex-other Bfloat16 = refl
complex-other Float32 = refl
complex-other Float64 = refl

-- it isn't the name of an optional type
plain-other : (it : PlainName) → is_optional_text (text_of it) ≡ false
plain-other plain.Bool = refl
plain-other (plain.Integer integer) = integer-other integer
plain-other (plain.Float name) = float-other name
plain-other (plain.Complex name) = complex-other name
plain-other (plain.Raw bits) = refl
plain-other plain.String = refl
plain-other plain.Bytes = refl

-- an object of a name alone names what the text names
lone_name : (text : List ℕ) → is_optional_text text ≡ false → name_in (object (member (codes "name") (string text) no_members)) ≡ named (Some text)
lone_name text h = rw h refl

-- the type that an object of an optional type names
inside : (inner : Members) → name_in (object (optional_object inner)) ≡ level_round (name_in (object inner))
inside inner = refl

object-named : (levels : ℕ) (it : PlainName) → IsNamed it → levels ≤ 255 → name_in (object (name_object levels it)) ≡ Ok (record { plain = it; levels = levels })
object-named zero it h l = lone_name (text_of it) (plain-other it) ∙ ap (λ o. seen plain_name (ok_or o UnsupportedDataType)) (plain-named it h)
object-named (suc levels) it h l =
    let below : nat_lt levels 255 ≡ true = lt-ltb levels 255 (omega (arith, l)) in
    inside (name_object levels it) ∙ ap level_round (object-named levels it h (omega (arith, l)))
    ∙ ap (λ b. cond b (Ok (record { plain = it; levels = suc levels })) (Err UnsupportedDataType)) below

name-named : (levels : ℕ) (it : PlainName) → IsNamed it → levels ≤ 255 → name_in (name_written levels it) ≡ Ok (record { plain = it; levels = levels })
name-named zero it h l = rw (plain-named it h) refl
name-named (suc levels) it h l = object-named (suc levels) it h l

pub name_is_read : NameIsRead
name_is_read name h l = name-named name.levels name.plain h l
