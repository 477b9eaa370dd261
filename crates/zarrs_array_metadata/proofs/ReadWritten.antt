-- What is read can be written, and what is kept is written as it was.
use Rattle.std.proofs.Common.{◌≡◌, ◌∙◌, ℕ, Bool, true, false, cond, List, [], ◌∷◌, length, Option, Some, None, Ok, Err, bytes_eq, true≢false, refl, ap, sym, subst, codes}
use Rattle.std.proofs.lemmas.Bool.{and_parts}
use Rattle.std.proofs.lemmas.Slice.Eq.{bytes_eq-Decides}
use Rattle.std.specs.Prelude.{ok_or, Result, option_map, IsOk, IsSome}
use Rattle.serde_json.specs.Data.{Data, null, boolean, number, string, array, object, Members}
use Rattle.serde_json.specs.Find.{as_object, get_member}
use Rattle.zarrs_chunk.specs.Answer.{◌>>=◌, demand}
use Rattle.zarrs_fill_values.specs.ElementName.{type_of}
use Rattle.zarrs_fill_values.specs.FillValues.{fill_of}
use Rattle.zarrs_fill_values.specs.NameTree.{name_in}
use Rattle.zarrs_fill_values.specs.Shown.{shown}
use Rattle.zarrs_fill_values.specs.declared.element_error.ElementError.{ElementError}
use Rattle.zarrs_fill_values.specs.declared.element_name.ElementName.{ElementName}
use Rattle.zarrs_fill_values.proofs.FillLaws.{read_is_shown}
use Rattle.zarrs_array_metadata.specs.Additional.{is_array_key, additional_of, first_unknown, all_understood, unless_unknown}
use Rattle.zarrs_array_metadata.specs.ArrayMetadata.{ArrayMetadata, element_name_at, data_type_of, fill_at, array_in}
use Rattle.zarrs_array_metadata.specs.ArrayMetadataError.{element_answer}
use Rattle.zarrs_array_metadata.specs.ChunksRead.{array_shape_at, chunk_shape_at, chunk_key_encoding_at}
use Rattle.zarrs_array_metadata.specs.Extensions.{codec_list_at}
use Rattle.zarrs_array_metadata.specs.Laws.{IsArrayMetadata, ReadIsWritten, KeptAsItWas}
use Rattle.zarrs_array_metadata.specs.NeededKeys.{is_of_array}
use Rattle.zarrs_array_metadata.specs.OtherKeys.{attributes_at, has_no_transformers, dimension_names_at}
use Rattle.zarrs_array_metadata.specs.Written.{with_attributes, with_names, needed_entries, array_members, write_array}
use Rattle.zarrs_array_metadata.specs.OthersRead.{Others, others_in}
use Rattle.zarrs_array_metadata.specs.declared.array_metadata_error.ArrayMetadataError.{ArrayMetadataError}
use Rattle.zarrs_array_metadata.specs.declared.array_metadata_error.ArrayMetadataError.TheVariants.{NotAnObject, UnsupportedStorageTransformers, InvalidFillValue}
use Rattle.zarrs_array_metadata.proofs.Lookups.{found, all_known, put_all-found, additional-known, additional-other, additional-again, additional-understood}
use Rattle.zarrs_array_metadata.proofs.NamedTypes.{IsWritable, name_in-writable}
use Rattle.zarrs_array_metadata.proofs.ReadParts.{step_ok, there, chunk_shape-parts, codec_list-parts, names-parts}
use Rattle.zarrs_array_metadata.proofs.WrittenAgain.{skip_attributes, skip_names, attributes-there, written_by}

-- what each key says of metadata that is read
record ReadParts (members : Members) (m : ArrayMetadata) : Type 0 where
  pub element_name : element_name_at (get_member (codes "data_type") members) ≡ Ok m.element_name
  pub data_type : data_type_of m.element_name ≡ Ok m.data_type
  pub chunk_shape : chunk_shape_at (length m.shape) (get_member (codes "chunk_grid") members) ≡ Ok m.chunk_shape
  pub fill_value : fill_at m.element_name (get_member (codes "fill_value") members) ≡ Ok m.fill_value
  pub codecs : codec_list_at (get_member (codes "codecs") members) ≡ Ok m.codecs
  pub attributes : attributes_at (get_member (codes "attributes") members) ≡ Ok m.attributes
  pub dimension_names : dimension_names_at (length m.shape) (get_member (codes "dimension_names") members) ≡ Ok m.dimension_names
  pub understood : all_understood members ≡ Ok tt
  pub additional : additional_of members ≡ m.additional

abbrev answer_of : ArrayMetadata → Result ArrayMetadata ArrayMetadataError
answer_of m = Ok m

the_same : (a b : ArrayMetadata) → answer_of a ≡ Ok b → a ≡ b
the_same a b e = cc

abbrev others_answer : Others → Result Others ArrayMetadataError
others_answer it = Ok it

the_same_others : (a b : Others) → others_answer a ≡ Ok b → a ≡ b
the_same_others a b e = cc

array_parts : (members : Members) (m : ArrayMetadata) → array_in members ≡ Ok m → ReadParts members m
array_parts members m h =
    let whole = step_ok (is_of_array members) _ m h in
    let shape = step_ok (array_shape_at (get_member (codes "shape") members)) _ m whole.2 in
    let name = step_ok (element_name_at (get_member (codes "data_type") members)) _ m shape.2 in
    let type = step_ok (data_type_of name.0) _ m name.2 in
    let chunks = step_ok (chunk_shape_at (length shape.0) (get_member (codes "chunk_grid") members)) _ m type.2 in
    let keys = step_ok (chunk_key_encoding_at (get_member (codes "chunk_key_encoding") members)) _ m chunks.2 in
    let fill = step_ok (fill_at name.0 (get_member (codes "fill_value") members)) _ m keys.2 in
    let codecs = step_ok (codec_list_at (get_member (codes "codecs") members)) _ m fill.2 in
    let others = step_ok (others_in (length shape.0) members) _ m codecs.2 in
    let attributes = step_ok (attributes_at (get_member (codes "attributes") members)) _ others.0 others.1 in
    let none = step_ok (demand (has_no_transformers (get_member (codes "storage_transformers") members)) UnsupportedStorageTransformers) _ others.0 attributes.2 in
    let names = step_ok (dimension_names_at (length shape.0) (get_member (codes "dimension_names") members)) _ others.0 none.2 in
    let known = step_ok (all_understood members) _ others.0 names.2 in
    let same = the_same_others _ others.0 known.2 in
    subst (ReadParts members) (the_same _ m others.2)
    (record {
      element_name = name.1;
      data_type = type.1;
      chunk_shape = chunks.1;
      fill_value = fill.1;
      codecs = codecs.1;
      attributes = attributes.1 ∙ ap (λ (it : Others). Ok it.attributes) same;
      dimension_names = names.1 ∙ ap (λ (it : Others). Ok it.dimension_names) same;
      understood = known.1;
      additional = ap (λ (it : Others). it.additional) same;
    })

-- ---- what is kept

unlike : (q k : List ℕ) → is_array_key q ≡ false → is_array_key k ≡ true → bytes_eq q k ≡ false
unlike q k other known = by_test (bytes_eq q k) refl
  where
    by_test : (b : Bool) → bytes_eq q k ≡ b → b ≡ false
    by_test false is = refl
    by_test true is = absurd (true≢false (sym known ∙ ap is_array_key (sym ((bytes_eq-Decides q k).0 is)) ∙ other))

found-other : (key : List ℕ) (entries : List (List ℕ × Data)) (members : Members) → all_known entries ≡ true → is_array_key key ≡ false → found key entries members ≡ get_member key members
found-other key [] members h other = refl
found-other key (entry ∷ entries) members h other =
    let parts = and_parts (is_array_key entry.0) (all_known entries) h in
    ap (λ b. cond b (Some entry.1) (found key entries members)) (unlike key entry.0 other parts.0) ∙ found-other key entries members parts.1 other

attributes-said : (o : Option Data) (attributes : Option Members) → attributes_at o ≡ Ok attributes → option_map object attributes ≡ o
attributes-said None attributes h = let same : None ≡ attributes = cc in ap (option_map object) (sym same)
attributes-said (Some null) attributes h = absurd (cc)
attributes-said (Some (boolean truth)) attributes h = absurd (cc)
attributes-said (Some (number n)) attributes h = absurd (cc)
attributes-said (Some (string text)) attributes h = absurd (cc)
attributes-said (Some (array items)) attributes h = absurd (cc)
attributes-said (Some (object members)) attributes h = let same : Some members ≡ attributes = cc in ap (option_map object) (sym same)

pub kept_as_it_was : KeptAsItWas
kept_as_it_was members written m h e =
    let parts = array_parts members m h in
    let it = written_by m (object written) e in
    let entries = needed_entries m it.0 in
    let names = with_names m.dimension_names m.additional in
    let kept = with_attributes m.attributes names in
    let same : written ≡ array_members m it.0 = let is = it.2 in cc in
    let here : (key : List ℕ) → get_member key written ≡ found key entries kept = λ key. ap (get_member key) same ∙ put_all-found key entries kept in
    let no_attributes : get_member (codes "attributes") m.additional ≡ None = ap (get_member (codes "attributes")) (sym parts.additional) ∙ additional-known (codes "attributes") members refl in (
      here (codes "attributes") ∙ attributes-there m.attributes names (skip_names (codes "attributes") m.dimension_names m.additional refl ∙ no_attributes)
          ∙ attributes-said (get_member (codes "attributes") members) m.attributes parts.attributes,
      λ key other.
          here key ∙ found-other key entries kept refl other ∙ skip_attributes key m.attributes names (unlike key (codes "attributes") other refl)
          ∙ skip_names key m.dimension_names m.additional (unlike key (codes "dimension_names") other refl)
          ∙ ap (get_member key) (sym parts.additional) ∙ additional-other key members other,
    )

-- ---- what is read

answered : {A : Type 0} (r : Result A ElementError) (x : A) → element_answer r ≡ Ok x → r ≡ Ok x
answered (Ok y) x h = let same : y ≡ x = cc in ap Ok same
answered (Err e) x h = absurd (cc)

name-writable : (o : Option Data) (name : ElementName) → element_name_at o ≡ Ok name → IsWritable name
name-writable None name h = absurd (cc)
name-writable (Some tree) name h = name_in-writable tree name (answered (name_in tree) name h)

fill-shown : (name : ElementName) (o : Option Data) (fill : List ℕ) → fill_at name o ≡ Ok fill → IsSome (shown name fill)
fill-shown name None fill h = absurd (cc)
fill-shown name (Some tree) fill h = read_is_shown name tree fill (there (fill_of name tree) InvalidFillValue fill h)

none_unknown : (o : Option (List ℕ)) → unless_unknown o ≡ Ok tt → o ≡ None
none_unknown None h = refl
none_unknown (Some key) h = absurd (cc)

some_ok : {B : Type 0} (o : Option Data) (f : Data → B) → IsSome o → IsOk (ok_or o InvalidFillValue >>= λ fill. Ok (f fill))
some_ok None f h = absurd (true≢false (sym h))
some_ok (Some fill) f h = refl

members-valid : (members : Members) (m : ArrayMetadata) → array_in members ≡ Ok m → IsArrayMetadata m × IsOk (write_array m)
members-valid members m h =
    let parts = array_parts members m h in
    let name = name-writable (get_member (codes "data_type") members) m.element_name parts.element_name in
    let chunks = chunk_shape-parts (length m.shape) (get_member (codes "chunk_grid") members) m.chunk_shape parts.chunk_shape in
    let known = none_unknown (first_unknown members) parts.understood in (
      record {
        named = name.named;
        levels = name.levels;
        typed = answered (type_of m.element_name) m.data_type parts.data_type;
        positive = chunks.0;
        axes = chunks.1;
        codecs = codec_list-parts (get_member (codes "codecs") members) m.codecs parts.codecs;
        names = names-parts m.shape (get_member (codes "dimension_names") members) m.dimension_names parts.dimension_names;
        additional = ap additional_of (sym parts.additional) ∙ additional-again members ∙ parts.additional;
        understood = ap first_unknown (sym parts.additional) ∙ additional-understood members known;
      },
      some_ok (shown m.element_name m.fill_value) (λ fill. object (array_members m fill)) (fill-shown m.element_name (get_member (codes "fill_value") members) m.fill_value parts.fill_value),
    )

pub read_is_written : ReadIsWritten
read_is_written tree m h =
    let members = step_ok (ok_or (as_object tree) NotAnObject) array_in m h in members-valid members.0 m members.2
