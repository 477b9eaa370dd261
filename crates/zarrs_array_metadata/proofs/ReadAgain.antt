-- What is written of each key is read again.
use Rattle.std.proofs.Common.{◌≡◌, ℕ, suc, eq-eqb, Bool, true, false, List, [], ◌∷◌, map, length, Option, Some, None, Ok, refl, ap}
use Rattle.std.proofs.lemmas.Bool.{and_parts, not-true}
use Rattle.std.specs.Prelude.{ok_or}
use Rattle.serde_json.specs.Data.{number, unsigned, Members}
use Rattle.serde_json.specs.Events.{items_len}
use Rattle.serde_json.specs.View.{items_of}
use Rattle.serde_json.specs.Written.{has_float}
use Rattle.zarrs_array_plan.specs.declared.chunk_key_encoding.ChunkKeyEncoding.{ChunkKeyEncoding}
use Rattle.zarrs_array_plan.specs.declared.chunk_key_encoding.ChunkKeyEncoding.TheVariants.{Default, V2}
use Rattle.zarrs_array_plan.specs.declared.chunk_key_encoding.ChunkKeySeparator.TheVariants.{Slash, Dot}
use Rattle.zarrs_chunk.specs.ChunkShape.{shape_of}
use Rattle.zarrs_metadata.specs.Metadata.{Metadata, read_metadata, has_no_float}
use Rattle.zarrs_metadata.specs.MetadataList.{have_no_float}
use Rattle.zarrs_metadata.specs.Trees.{numbers_tree}
use Rattle.zarrs_array_metadata.specs.ChunksRead.{sizes_among, array_shape_at, chunk_shape_at, chunk_key_encoding_at}
use Rattle.zarrs_array_metadata.specs.Extensions.{codecs_among, codec_list_at}
use Rattle.zarrs_array_metadata.specs.OtherKeys.{names_among, dimension_names_at}
use Rattle.zarrs_array_metadata.specs.Written.{grid_tree, key_encoding_tree, codec_tree, codecs_tree, dimension_name_tree, dimension_names_tree}
use Rattle.zarrs_array_metadata.specs.declared.array_metadata_error.ArrayMetadataError.TheVariants.{InvalidShape}

sizes-read : (sizes : List ℕ) → sizes_among (items_of (map (λ n. number (unsigned n)) sizes)) ≡ Some sizes
sizes-read [] = refl
sizes-read (size ∷ sizes) = rw (sizes-read sizes) refl

pub shape-read : (shape : List ℕ) → array_shape_at (Some (numbers_tree shape)) ≡ Ok shape
shape-read shape = ap (λ o. ok_or o InvalidShape) (sizes-read shape)

sizes-float : (sizes : List ℕ) → has_float (numbers_tree sizes) ≡ false
sizes-float [] = refl
sizes-float (size ∷ sizes) = sizes-float sizes

pub grid-read : (chunk_shape : List ℕ) (axes : ℕ) → shape_of chunk_shape ≡ Some chunk_shape → length chunk_shape ≡ axes → chunk_shape_at axes (Some (grid_tree chunk_shape)) ≡ Ok chunk_shape
grid-read chunk_shape axes positive same =
    rw (sizes-float chunk_shape, sizes-read chunk_shape, positive, same, eq-eqb axes axes refl) refl

pub keys-read : (keys : ChunkKeyEncoding) → chunk_key_encoding_at (Some (key_encoding_tree keys)) ≡ Ok keys
keys-read (Default Slash) = refl
keys-read (Default Dot) = refl
keys-read (V2 Slash) = refl
keys-read (V2 Dot) = refl

codec-read : (m : Metadata) → has_no_float m.configuration ≡ true → read_metadata (codec_tree m) ≡ Ok m
codec-read m = by m.name m.configuration m.must_understand
  where
    by : (name : List ℕ) (configuration : Option Members) (must_understand : Bool) → has_no_float configuration ≡ true
        → read_metadata (codec_tree (record { name = name; configuration = configuration; must_understand = must_understand }))
        ≡ Ok (record { name = name; configuration = configuration; must_understand = must_understand })
    by name None true h = refl
    by name None false h = refl
    by name (Some configuration) true h = rw (not-true _ h) refl
    by name (Some configuration) false h = rw (not-true _ h) refl

codecs-among : (codecs : List Metadata) → have_no_float codecs ≡ true → codecs_among (items_of (map codec_tree codecs)) ≡ Ok codecs
codecs-among [] h = refl
codecs-among (codec ∷ codecs) h =
    let parts = and_parts (has_no_float codec.configuration) (have_no_float codecs) h in
    rw (codec-read codec parts.0, codecs-among codecs parts.1) refl

pub codecs-read : (codecs : List Metadata) → have_no_float codecs ≡ true → codec_list_at (Some (codecs_tree codecs)) ≡ Ok codecs
codecs-read codecs h = codecs-among codecs h

names-among : (names : List (Option (List ℕ))) → names_among (items_of (map dimension_name_tree names)) ≡ Some names
names-among [] = refl
names-among (None ∷ names) = rw (names-among names) refl
names-among (Some name ∷ names) = rw (names-among names) refl

names-counted : (names : List (Option (List ℕ))) → items_len (items_of (map dimension_name_tree names)) ≡ length names
names-counted [] = refl
names-counted (name ∷ names) = ap suc (names-counted names)

pub names-read : (names : List (Option (List ℕ))) (axes : ℕ) → length names ≡ axes → dimension_names_at axes (Some (dimension_names_tree names)) ≡ Ok (Some names)
names-read names axes same = rw (names-counted names, same, eq-eqb axes axes refl, names-among names) refl
