-- The name of a type that is read is one that can be written.
use Rattle.std.proofs.Common.{◌≡◌, ◌≤◌, ◌^◌, ◌&&◌, ℕ, suc, Bool, true, false, cond, List, Option, Some, None, Ok, Err, Ordering, Less, Equal, Greater, bytes_eq, nat_cmp, decimal, codes, refl, subst, arith, ltb-true}
use Rattle.std.proofs.lemmas.Bool.{and_parts}
use Rattle.std.specs.Prelude.{ok_or, Result, option_map, option_and_then, is_some, nat_lt}
use Rattle.std.specs.Cmp.Lexicographic.{slice_cmp}
use Rattle.std.specs.Ordering.{match_ordering}
use Rattle.std.specs.Str.Parse.{digits_value}
use Rattle.serde_json.specs.Data.{Data, null, boolean, number, string, array, object, Members, no_members, member}
use Rattle.zarrs_chunk.specs.Answer.{seen}
use Rattle.zarrs_fill_values.specs.ElementName.{is_raw, plain_name}
use Rattle.zarrs_fill_values.specs.Laws.{IsNamed}
use Rattle.zarrs_fill_values.specs.Names.{raw_bits_of, raw_bits_in, integer_named, other_named, integer_or, plain_named}
use Rattle.zarrs_fill_values.specs.NameTree.{named, name_in, name_configured, name_at, configuration_at, is_unconfigured, inner_tree, bare_name, one_level_more, level_round}
use Rattle.zarrs_fill_values.specs.Words.{behind_prefix}
use Rattle.zarrs_fill_values.specs.declared.element_error.ElementError.{ElementError}
use Rattle.zarrs_fill_values.specs.declared.element_error.ElementError.TheVariants.{UnsupportedDataType}
use Rattle.zarrs_fill_values.specs.declared.element_name.ElementName.{ElementName}
use Rattle.zarrs_fill_values.specs.declared.element_name.FloatName.TheVariants.{Float16, Bfloat16, Float32, Float64}
use Rattle.zarrs_fill_values.specs.declared.element_name.IntegerName.{IntegerName}
use Rattle.zarrs_fill_values.specs.declared.element_name.PlainName.{PlainName}
use Rattle.zarrs_fill_values.specs.declared.element_name.PlainName.TheVariants as plain
use Rattle.zarrs_array_metadata.proofs.ReadParts.{step_ok}

-- the bits that a name of raw bits says are whole bytes
raw_of-named : (digits : List ℕ) (bits : ℕ) → raw_bits_of digits ≡ Some bits → IsNamed (plain.Raw bits)
raw_of-named digits bits h = by_test (nat_lt (digits_value 10 digits) (2 ^ 64) && is_raw (digits_value 10 digits) && bytes_eq digits (decimal (digits_value 10 digits))) refl h
  where
    by_test : (b : Bool) → (nat_lt (digits_value 10 digits) (2 ^ 64) && is_raw (digits_value 10 digits) && bytes_eq digits (decimal (digits_value 10 digits))) ≡ b
        → cond b (Some (digits_value 10 digits)) None ≡ Some bits → IsNamed (plain.Raw bits)
    by_test false is e = absurd (cc)
    by_test true is e =
        let parts = and_parts (nat_lt (digits_value 10 digits) (2 ^ 64) && is_raw (digits_value 10 digits)) (bytes_eq digits (decimal (digits_value 10 digits))) is in
        let whole = and_parts (nat_lt (digits_value 10 digits) (2 ^ 64)) (is_raw (digits_value 10 digits)) parts.0 in
        let same : digits_value 10 digits ≡ bits = cc in
        subst (λ n. IsNamed (plain.Raw n)) same (whole.1, ltb-true (digits_value 10 digits) (2 ^ 64) whole.0)

raw_in-named : (name : List ℕ) (bits : ℕ) → raw_bits_in name ≡ Some bits → IsNamed (plain.Raw bits)
raw_in-named name bits h = by_digits (behind_prefix (codes "r") name) h
  where
    by_digits : (o : Option (List ℕ)) → option_and_then raw_bits_of o ≡ Some bits → IsNamed (plain.Raw bits)
    by_digits None e = absurd (cc)
    by_digits (Some digits) e = raw_of-named digits bits e

raw-named : (name : List ℕ) (it : PlainName) → option_map plain.Raw (raw_bits_in name) ≡ Some it → IsNamed it
raw-named name it h = by_bits (raw_bits_in name) refl h
  where
    by_bits : (o : Option ℕ) → raw_bits_in name ≡ o → option_map plain.Raw o ≡ Some it → IsNamed it
    by_bits None is e = absurd (cc)
    by_bits (Some bits) is e = let same : plain.Raw bits ≡ it = cc in subst IsNamed same (raw_in-named name bits is)

pick : (b : Bool) (here it : PlainName) (rest : Option PlainName) → IsNamed here → (rest ≡ Some it → IsNamed it) → cond b (Some here) rest ≡ Some it → IsNamed it
pick true here it rest h later e = let same : here ≡ it = cc in subst IsNamed same h
pick false here it rest h later e = later e

other-named : (name : List ℕ) (it : PlainName) → other_named name ≡ Some it → IsNamed it
other-named name it =
    pick (bytes_eq name (codes "bool")) plain.Bool it _ tt (pick (bytes_eq name (codes "float16")) (plain.Float Float16) it _ tt (pick (bytes_eq name (codes "bfloat16")) (plain.Float Bfloat16) it _ tt (pick (bytes_eq name (codes "float32")) (plain.Float Float32) it _ tt
    (pick (bytes_eq name (codes "float64")) (plain.Float Float64) it _ tt (pick (bytes_eq name (codes "complex64")) (plain.Complex Float32) it _ tt (pick (bytes_eq name (codes "complex_float32")) (plain.Complex Float32) it _ tt (pick (bytes_eq name (codes "complex128")) (plain.Complex Float64) it _ tt
    (pick (bytes_eq name (codes "complex_float64")) (plain.Complex Float64) it _ tt (pick (bytes_eq name (codes "complex_float16")) (plain.Complex Float16) it _ tt (pick (bytes_eq name (codes "complex_bfloat16")) (plain.Complex Bfloat16) it _ tt (pick (bytes_eq name (codes "string")) plain.String it _ tt
    (pick (bytes_eq name (codes "bytes")) plain.Bytes it _ tt (pick (bytes_eq name (codes "variable_length_bytes")) plain.Bytes it _ tt (raw-named name it))))))))))))))

plain_named-named : (name : List ℕ) (it : PlainName) → plain_named name ≡ Some it → IsNamed it
plain_named-named name it h = by_integer (integer_named name) h
  where
    by_integer : (o : Option IntegerName) → integer_or o (other_named name) ≡ Some it → IsNamed it
    by_integer None e = other-named name it e
    by_integer (Some integer) e = let same : plain.Integer integer ≡ it = cc in subst IsNamed same tt

-- a name that can be written: that of a type, with at most 255 optional types round it
pub record IsWritable (name : ElementName) : Type 0 where
  pub named : IsNamed name.plain
  pub levels : name.levels ≤ 255

text-writable : (text : Option (List ℕ)) (name : ElementName) → named text ≡ Ok name → IsWritable name
text-writable text name h = by_text (option_and_then plain_named text) refl h
  where
    whole : (o : Option (List ℕ)) (it : PlainName) → option_and_then plain_named o ≡ Some it → IsNamed it
    whole None it e = absurd (cc)
    whole (Some text) it e = plain_named-named text it e

    by_text : (o : Option PlainName) → option_and_then plain_named text ≡ o → seen plain_name (ok_or o UnsupportedDataType) ≡ Ok name → IsWritable name
    by_text None is e = absurd (cc)
    by_text (Some it) is e = let same : plain_name it ≡ name = cc in subst IsWritable same (record { named = whole text it is; levels = omega arith })

level-writable : (inner name : ElementName) → IsWritable inner → one_level_more inner ≡ Ok name → IsWritable name
level-writable inner name h e = by_test (nat_lt inner.levels 255) refl e
  where
    by_test : (b : Bool) → nat_lt inner.levels 255 ≡ b → cond b (Ok (record { plain = inner.plain; levels = suc inner.levels })) (Err UnsupportedDataType) ≡ Ok name → IsWritable name
    by_test false is f = absurd (cc)
    by_test true is f =
        let same : record { plain = inner.plain; levels = suc inner.levels } ≡ name = cc in
        subst IsWritable same (record { named = h.named; levels = omega (arith, ltb-true inner.levels 255 is) })

round-writable : (inner : Result ElementName ElementError) (name : ElementName) → ((found : ElementName) → inner ≡ Ok found → IsWritable found) → level_round inner ≡ Ok name → IsWritable name
round-writable inner name h e = let found = step_ok inner one_level_more name e in level-writable found.0 name (h found.0 found.1) found.2

bare-writable : (members : Members) (name : ElementName) → bare_name members ≡ Ok name → IsWritable name
bare-writable members name h = by_test (is_unconfigured (configuration_at members)) h
  where
    by_test : (b : Bool) → cond b (named (name_at members)) (Err UnsupportedDataType) ≡ Ok name → IsWritable name
    by_test true e = text-writable (name_at members) name e
    by_test false e = absurd (cc)

object-writable : (b : Bool) (members : Members) (name : ElementName) → ((found : ElementName) → name_configured members ≡ Ok found → IsWritable found)
    → cond b (level_round (name_configured members)) (bare_name members) ≡ Ok name → IsWritable name
object-writable true members name h e = round-writable (name_configured members) name h e
object-writable false members name h e = bare-writable members name e

configured-writable : (o : Ordering) (here rest : Result ElementName ElementError) (name : ElementName) → (here ≡ Ok name → IsWritable name) → (rest ≡ Ok name → IsWritable name)
    → match_ordering o rest here rest ≡ Ok name → IsWritable name
configured-writable Less here rest name h later e = later e
configured-writable Equal here rest name h later e = h e
configured-writable Greater here rest name h later e = later e

mutual
  -- the name of a type that a tree names can be written
  pub name_in-writable : (tree : Data) (name : ElementName) → name_in tree ≡ Ok name → IsWritable name
  name_in-writable null name h = absurd (cc)
  name_in-writable (boolean truth) name h = absurd (cc)
  name_in-writable (number n) name h = absurd (cc)
  name_in-writable (string text) name h = text-writable (Some text) name h
  name_in-writable (array items) name h = absurd (cc)
  name_in-writable (object members) name h = object-writable (is_some (inner_tree members)) members name (λ found is. name_configured-writable members found is) h

  name_configured-writable : (members : Members) (name : ElementName) → name_configured members ≡ Ok name → IsWritable name
  name_configured-writable no_members name h = absurd (cc)
  name_configured-writable (member key tree rest) name h =
      configured-writable (slice_cmp nat_cmp (codes "configuration") key) (name_in tree) (name_configured rest) name (name_in-writable tree name) (name_configured-writable rest name) h
