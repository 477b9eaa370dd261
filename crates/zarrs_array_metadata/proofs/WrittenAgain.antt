-- What is written of metadata is read again as the same.
use Rattle.std.proofs.Common.{◌≡◌, ◌∙◌, ℕ, true, false, List, length, Option, Some, None, Ok, bytes_eq, refl, ap, sym, codes}
use Rattle.std.specs.Prelude.{ok_or, option_map}
use Rattle.serde_json.specs.Data.{Data, number, unsigned, string, object, Members}
use Rattle.serde_json.specs.Find.{get_member}
use Rattle.serde_json.proofs.Views.{get_member-put, get_member-put_other}
use Rattle.zarrs_chunk.specs.Answer.{◌>>=◌}
use Rattle.zarrs_fill_values.specs.FillValues.{fill_of}
use Rattle.zarrs_fill_values.specs.Shown.{shown}
use Rattle.zarrs_fill_values.proofs.FillLaws.{shown_is_read}
use Rattle.zarrs_fill_values.proofs.NameLaws.{name_is_read}
use Rattle.zarrs_array_metadata.specs.Additional.{additional_of, first_unknown, all_understood, unless_unknown}
use Rattle.zarrs_array_metadata.specs.ArrayMetadata.{ArrayMetadata, element_name_at, data_type_of, fill_at, array_in, array_of}
use Rattle.zarrs_array_metadata.specs.ArrayMetadataError.{element_answer}
use Rattle.zarrs_array_metadata.specs.ChunksRead.{array_shape_at, chunk_shape_at, chunk_key_encoding_at}
use Rattle.zarrs_array_metadata.specs.Extensions.{codec_list_at}
use Rattle.zarrs_array_metadata.specs.Laws.{AreNamesOf, IsArrayMetadata, WrittenIsRead}
use Rattle.zarrs_array_metadata.specs.NeededKeys.{is_of_array}
use Rattle.zarrs_array_metadata.specs.OtherKeys.{attributes_at, has_no_transformers, dimension_names_at}
use Rattle.zarrs_array_metadata.specs.Written.{dimension_names_tree, with_attributes, with_names, needed_entries, array_members, write_array}
use Rattle.zarrs_array_metadata.specs.declared.array_metadata_error.ArrayMetadataError.TheVariants.{InvalidFillValue}
use Rattle.zarrs_array_metadata.proofs.Lookups.{apart, found, put_all-found, additional-put, additional-put_all, unknown-put, unknown-put_all, additional-known}
use Rattle.zarrs_array_metadata.proofs.ReadAgain.{shape-read, grid-read, keys-read, codecs-read, names-read}

-- ---- reading, by what each key says

of_array_from : (members : Members) (shape type grid keys fill codecs : Data)
    → get_member (codes "zarr_format") members ≡ Some (number (unsigned 3)) → get_member (codes "node_type") members ≡ Some (string (codes "array"))
    → get_member (codes "shape") members ≡ Some shape → get_member (codes "data_type") members ≡ Some type → get_member (codes "chunk_grid") members ≡ Some grid
    → get_member (codes "chunk_key_encoding") members ≡ Some keys → get_member (codes "fill_value") members ≡ Some fill → get_member (codes "codecs") members ≡ Some codecs
    → is_of_array members ≡ Ok tt
of_array_from members shape type grid keys fill codecs a b c d e f g h = rw (a, b, c, d, e, f, g, h) refl

array_from : (members : Members) (m : ArrayMetadata) → is_of_array members ≡ Ok tt → array_shape_at (get_member (codes "shape") members) ≡ Ok m.shape
    → element_name_at (get_member (codes "data_type") members) ≡ Ok m.element_name → data_type_of m.element_name ≡ Ok m.data_type
    → chunk_shape_at (length m.shape) (get_member (codes "chunk_grid") members) ≡ Ok m.chunk_shape
    → chunk_key_encoding_at (get_member (codes "chunk_key_encoding") members) ≡ Ok m.chunk_key_encoding
    → fill_at m.element_name (get_member (codes "fill_value") members) ≡ Ok m.fill_value → codec_list_at (get_member (codes "codecs") members) ≡ Ok m.codecs
    → attributes_at (get_member (codes "attributes") members) ≡ Ok m.attributes → has_no_transformers (get_member (codes "storage_transformers") members) ≡ true
    → dimension_names_at (length m.shape) (get_member (codes "dimension_names") members) ≡ Ok m.dimension_names → all_understood members ≡ Ok tt
    → additional_of members ≡ m.additional → array_in members ≡ Ok m
array_from members m a b c d e f g h i j k l n = rw (a, b, c, d, e, f, g, h, i, j, k, l, n) refl

-- ---- what stands at keys that may be missing

nothing_at : (key : List ℕ) (additional : Members) → additional_of additional ≡ additional → get_member key (additional_of additional) ≡ None → get_member key additional ≡ None
nothing_at key additional h none = ap (get_member key) (sym h) ∙ none

pub skip_attributes : (key : List ℕ) (attributes : Option Members) (members : Members) → bytes_eq key (codes "attributes") ≡ false → get_member key (with_attributes attributes members) ≡ get_member key members
skip_attributes key None members other = refl
skip_attributes key (Some attributes) members other = get_member-put_other key (codes "attributes") (object attributes) members (apart key (codes "attributes") other)

pub skip_names : (key : List ℕ) (names : Option (List (Option (List ℕ)))) (members : Members) → bytes_eq key (codes "dimension_names") ≡ false → get_member key (with_names names members) ≡ get_member key members
skip_names key None members other = refl
skip_names key (Some names) members other =
    get_member-put_other key (codes "dimension_names") (dimension_names_tree names) members (apart key (codes "dimension_names") other)

pub attributes-there : (attributes : Option Members) (members : Members) → get_member (codes "attributes") members ≡ None → get_member (codes "attributes") (with_attributes attributes members) ≡ option_map object attributes
attributes-there None members none = none
attributes-there (Some attributes) members none = get_member-put (codes "attributes") (object attributes) members

names-there : (names : Option (List (Option (List ℕ)))) (members : Members) → get_member (codes "dimension_names") members ≡ None
    → get_member (codes "dimension_names") (with_names names members) ≡ option_map dimension_names_tree names
names-there None members none = none
names-there (Some names) members none = get_member-put (codes "dimension_names") (dimension_names_tree names) members

attributes-read : (attributes : Option Members) → attributes_at (option_map object attributes) ≡ Ok attributes
attributes-read None = refl
attributes-read (Some attributes) = refl

names-listed : (shape : List ℕ) (names : Option (List (Option (List ℕ)))) → AreNamesOf shape names → dimension_names_at (length shape) (option_map dimension_names_tree names) ≡ Ok names
names-listed shape None h = refl
names-listed shape (Some names) h = names-read names (length shape) h

additional-attributes : (attributes : Option Members) (members : Members) → additional_of (with_attributes attributes members) ≡ additional_of members
additional-attributes None members = refl
additional-attributes (Some attributes) members = additional-put (codes "attributes") (object attributes) members refl

additional-names : (names : Option (List (Option (List ℕ)))) (members : Members) → additional_of (with_names names members) ≡ additional_of members
additional-names None members = refl
additional-names (Some names) members = additional-put (codes "dimension_names") (dimension_names_tree names) members refl

unknown-attributes : (attributes : Option Members) (members : Members) → first_unknown members ≡ None → first_unknown (with_attributes attributes members) ≡ None
unknown-attributes None members h = h
unknown-attributes (Some attributes) members h = unknown-put (codes "attributes") (object attributes) members refl h

unknown-names : (names : Option (List (Option (List ℕ)))) (members : Members) → first_unknown members ≡ None → first_unknown (with_names names members) ≡ None
unknown-names None members h = h
unknown-names (Some names) members h = unknown-put (codes "dimension_names") (dimension_names_tree names) members refl h

-- ---- the whole

-- what metadata is written as is read again as the same, where the tree is one of its fill value
pub members_read : (m : ArrayMetadata) (fill : Data) → IsArrayMetadata m → fill_of m.element_name fill ≡ Some m.fill_value → array_in (array_members m fill) ≡ Ok m
members_read m fill h filled =
    let entries = needed_entries m fill in
    let names = with_names m.dimension_names m.additional in
    let kept = with_attributes m.attributes names in
    let members = array_members m fill in
    let here : (key : List ℕ) → get_member key members ≡ found key entries kept = λ key. put_all-found key entries kept in
    let no_names : get_member (codes "dimension_names") m.additional ≡ None = nothing_at (codes "dimension_names") m.additional h.additional (additional-known (codes "dimension_names") m.additional refl) in
    let no_attributes : get_member (codes "attributes") names ≡ None =
    skip_names (codes "attributes") m.dimension_names m.additional refl ∙ nothing_at (codes "attributes") m.additional h.additional (additional-known (codes "attributes") m.additional refl) in
    let no_transformers : get_member (codes "storage_transformers") kept ≡ None =
    skip_attributes (codes "storage_transformers") m.attributes names refl ∙ skip_names (codes "storage_transformers") m.dimension_names m.additional refl
    ∙ nothing_at (codes "storage_transformers") m.additional h.additional (additional-known (codes "storage_transformers") m.additional refl) in
    array_from members m
    (of_array_from members _ _ _ _ fill _ (here (codes "zarr_format")) (here (codes "node_type")) (here (codes "shape")) (here (codes "data_type")) (here (codes "chunk_grid"))
    (here (codes "chunk_key_encoding")) (here (codes "fill_value")) (here (codes "codecs")))
    (ap array_shape_at (here (codes "shape")) ∙ shape-read m.shape)
    (ap element_name_at (here (codes "data_type")) ∙ ap element_answer (name_is_read m.element_name h.named h.levels))
    (ap element_answer h.typed)
    (ap (chunk_shape_at (length m.shape)) (here (codes "chunk_grid")) ∙ grid-read m.chunk_shape (length m.shape) h.positive h.axes)
    (ap chunk_key_encoding_at (here (codes "chunk_key_encoding")) ∙ keys-read m.chunk_key_encoding)
    (ap (fill_at m.element_name) (here (codes "fill_value")) ∙ ap (λ o. ok_or o InvalidFillValue) filled)
    (ap codec_list_at (here (codes "codecs")) ∙ codecs-read m.codecs h.codecs)
    (ap attributes_at (here (codes "attributes") ∙ attributes-there m.attributes names no_attributes) ∙ attributes-read m.attributes)
    (ap has_no_transformers (here (codes "storage_transformers") ∙ no_transformers))
    (ap (dimension_names_at (length m.shape)) (here (codes "dimension_names") ∙ skip_attributes (codes "dimension_names") m.attributes names refl ∙ names-there m.dimension_names m.additional no_names)
    ∙ names-listed m.shape m.dimension_names h.names)
    (ap unless_unknown (unknown-put_all entries kept refl (unknown-attributes m.attributes names (unknown-names m.dimension_names m.additional h.understood))))
    (additional-put_all entries kept refl ∙ additional-attributes m.attributes names ∙ additional-names m.dimension_names m.additional ∙ h.additional)

-- what is written shows the fill value
pub written_by : (m : ArrayMetadata) (tree : Data) → write_array m ≡ Ok tree → (fill : Data) × (shown m.element_name m.fill_value ≡ Some fill) × (tree ≡ object (array_members m fill))
written_by m tree h = by_shown (shown m.element_name m.fill_value) refl h
  where
    by_shown : (o : Option Data) → shown m.element_name m.fill_value ≡ o → (ok_or o InvalidFillValue >>= λ fill. Ok (object (array_members m fill))) ≡ Ok tree
        → (fill : Data) × (shown m.element_name m.fill_value ≡ Some fill) × (tree ≡ object (array_members m fill))
    by_shown None is e = absurd (cc)
    by_shown (Some fill) is e = (fill, is, cc)

pub written_is_read : WrittenIsRead
written_is_read m tree h bytes written =
    let it = written_by m tree written in
    ap array_of it.2 ∙ members_read m it.0 h (shown_is_read m.element_name m.fill_value it.0 bytes it.1)
