-- What is read of each key, where all of them are read.
use Rattle.std.proofs.Common.{◌≡◌, ◌∙◌, ℕ, suc, ◌==◌, Bool, true, false, cond, not, ◌||◌, List, [], ◌∷◌, length, Option, Some, None, Ok, Err, Ordering, Less, Equal, Greater, bytes_eq, nat_cmp, refl, ap, sym, subst, codes, eqb-true}
use Rattle.std.proofs.lemmas.Bool.{and_from, not-true}
use Rattle.std.specs.Prelude.{ok_or, Result, option_map, option_and_then}
use Rattle.std.specs.Cmp.Lexicographic.{slice_cmp}
use Rattle.std.specs.List.{list_any}
use Rattle.std.specs.Ordering.{match_ordering}
use Rattle.std.specs.Result.{result_ok}
use Rattle.serde_json.specs.Data.{Data, null, boolean, number, string, array, object, Items, no_items, item, Members, no_members, member}
use Rattle.serde_json.specs.Events.{items_len}
use Rattle.serde_json.specs.Find.{as_array, as_bool, as_object, get_member}
use Rattle.serde_json.specs.Written.{has_float, members_have_float}
use Rattle.zarrs_chunk.specs.Answer.{◌>>=◌, demand, seen}
use Rattle.zarrs_chunk.specs.ChunkShape.{shape_of}
use Rattle.zarrs_metadata.specs.Metadata.{Metadata, metadata_of, metadata_in, read_metadata, has_no_float, unless_false}
use Rattle.zarrs_metadata.specs.MetadataList.{have_no_float}
use Rattle.zarrs_metadata.specs.Trees.{needed_text, optional_key}
use Rattle.zarrs_metadata.specs.declared.plugin_create_error.PluginCreateError.TheVariants.{InvalidConfiguration}
use Rattle.zarrs_array_metadata.specs.ChunksRead.{sizes_in, member_of, chunk_shape_at}
use Rattle.zarrs_array_metadata.specs.Extensions.{extension_of, extension_at, codecs_among, codec_list_at}
use Rattle.zarrs_array_metadata.specs.Laws.{AreNamesOf}
use Rattle.zarrs_array_metadata.specs.OtherKeys.{dimension_name_in, names_among, names_in, dimension_names_at}
use Rattle.zarrs_array_metadata.specs.declared.array_metadata_error.ArrayMetadataError.{ArrayMetadataError}
use Rattle.zarrs_array_metadata.specs.declared.array_metadata_error.ArrayMetadataError.TheVariants.{UnsupportedChunkGrid, InvalidChunkShape, ZeroSize, IncompatibleDimensionality, InvalidCodecs, InvalidDimensionNames}

-- ---- steps

-- a chain that passes has passed its first step
pub step_ok : {E A B : Type 0} (r : Result A E) (f : A → Result B E) (y : B) → r >>= f ≡ Ok y → (x : A) × (r ≡ Ok x) × (f x ≡ Ok y)
step_ok (Ok x) f y h = (x, refl, h)
step_ok (Err e) f y h = absurd (cc)

-- a test that a chain has passed
pub passed : {E : Type 0} (e : E) (b : Bool) (u : Unit {0}) → demand b e ≡ Ok u → b ≡ true
passed e true u h = refl
passed e false u h = absurd (cc)

-- what was there
pub there : {E A : Type 0} (o : Option A) (e : E) (x : A) → ok_or o e ≡ Ok x → o ≡ Some x
there None e x h = absurd (cc)
there (Some y) e x h = cc

-- ---- chunks

shape-again : (sizes found : List ℕ) → shape_of sizes ≡ Some found → sizes ≡ found
shape-again sizes found h = by_test (list_any (λ size. size == 0) sizes) h
  where
    by_test : (b : Bool) → cond b None (Some sizes) ≡ Some found → sizes ≡ found
    by_test true e = absurd (cc)
    by_test false e = cc

-- the shape of chunks that is read has no size of zero, and so many axes
pub chunk_shape-parts : (axes : ℕ) (tree : Option Data) (found : List ℕ) → chunk_shape_at axes tree ≡ Ok found → (shape_of found ≡ Some found) × (length found ≡ axes)
chunk_shape-parts axes tree found h =
    let grid = step_ok (ok_or (extension_at tree) UnsupportedChunkGrid) _ found h in
    let named = step_ok (demand (bytes_eq grid.0.name (codes "regular")) UnsupportedChunkGrid) _ found grid.2 in
    let sizes = step_ok (ok_or (sizes_in (member_of (codes "chunk_shape") grid.0.configuration)) InvalidChunkShape) _ found named.2 in
    let shape = step_ok (ok_or (shape_of sizes.0) ZeroSize) _ found sizes.2 in
    let many = step_ok (demand (length sizes.0 == axes) IncompatibleDimensionality) _ found shape.2 in
    let last : shape.0 ≡ found = let is = many.2 in cc in
    let whole : shape_of sizes.0 ≡ Some found = there (shape_of sizes.0) ZeroSize shape.0 shape.1 ∙ ap Some last in
    let same : sizes.0 ≡ found = shape-again sizes.0 found whole in
    let count : length sizes.0 ≡ axes = eqb-true (length sizes.0) axes (passed IncompatibleDimensionality (length sizes.0 == axes) many.0 many.1) in
    (ap shape_of (sym same) ∙ whole, ap length (sym same) ∙ count)

-- ---- codecs

float_at : (o : Ordering) (first tree : Data) (rest : Option Data) → has_float first ≡ false → (rest ≡ Some tree → has_float tree ≡ false) → match_ordering o rest (Some first) rest ≡ Some tree → has_float tree ≡ false
float_at Less first tree rest clean f h = f h
float_at Equal first tree rest clean f h = let same : first ≡ tree = cc in ap has_float (sym same) ∙ clean
float_at Greater first tree rest clean f h = f h

none_of : (a b : Bool) → a || b ≡ false → (a ≡ false) × (b ≡ false)
none_of false false h = (refl, refl)
none_of true b h = absurd (cc)
none_of false true h = absurd (cc)

-- what stands at a key of members without floats has none
get_member-float : (key : List ℕ) (members : Members) (tree : Data) → members_have_float members ≡ false → get_member key members ≡ Some tree → has_float tree ≡ false
get_member-float key no_members tree clean h = absurd (cc)
get_member-float key (member name first rest) tree clean h =
    let parts = none_of (has_float first) (members_have_float rest) clean in
    float_at (slice_cmp nat_cmp key name) first tree (get_member key rest) parts.0 (get_member-float key rest tree parts.1) h

object-float : (tree : Data) (configuration : Option Members) → has_float tree ≡ false → optional_key as_object (Some tree) ≡ Ok configuration → has_no_float configuration ≡ true
object-float null configuration clean h = let same : None ≡ configuration = cc in ap has_no_float (sym same)
object-float (boolean truth) configuration clean h = absurd (cc)
object-float (number n) configuration clean h = absurd (cc)
object-float (string text) configuration clean h = absurd (cc)
object-float (array items) configuration clean h = absurd (cc)
object-float (object members) configuration clean h = let same : Some members ≡ configuration = cc in ap has_no_float (sym same) ∙ ap not clean

configuration-float : (o : Option Data) (configuration : Option Members) → ((tree : Data) → o ≡ Some tree → has_float tree ≡ false) → optional_key as_object o ≡ Ok configuration → has_no_float configuration ≡ true
configuration-float None configuration clean h = let same : None ≡ configuration = cc in ap has_no_float (sym same)
configuration-float (Some tree) configuration clean h = object-float tree configuration (clean tree refl) h

members-float : (members : Members) (m : Metadata) → members_have_float members ≡ false → metadata_in members ≡ Ok m → has_no_float m.configuration ≡ true
members-float members m clean h =
    let name = step_ok (needed_text (get_member (codes "name") members)) _ m h in
    let configuration = step_ok (optional_key as_object (get_member (codes "configuration") members)) _ m name.2 in
    let must = step_ok (optional_key as_bool (get_member (codes "must_understand") members)) _ m configuration.2 in
    let same : record { name = name.0; configuration = configuration.0; must_understand = unless_false must.0 } ≡ m = let is = must.2 in cc in
    ap (λ x. has_no_float x.configuration) (sym same)
    ∙ configuration-float (get_member (codes "configuration") members) configuration.0 (λ tree is. get_member-float (codes "configuration") members tree clean is) configuration.1

tree-float : (tree : Data) (m : Metadata) → has_float tree ≡ false → metadata_of tree ≡ Ok m → has_no_float m.configuration ≡ true
tree-float null m clean h = absurd (cc)
tree-float (boolean truth) m clean h = absurd (cc)
tree-float (number n) m clean h = absurd (cc)
tree-float (string name) m clean h = let same : record { name = name; configuration = None; must_understand = true } ≡ m = cc in subst (λ x. has_no_float x.configuration ≡ true) same refl
tree-float (array items) m clean h = absurd (cc)
tree-float (object members) m clean h = members-float members m clean h

read-float : (tree : Data) (m : Metadata) → read_metadata tree ≡ Ok m → has_no_float m.configuration ≡ true
read-float tree m h =
    let clean = step_ok (demand (not (has_float tree)) InvalidConfiguration) _ m h in
    tree-float tree m (not-true (has_float tree) (passed InvalidConfiguration (not (has_float tree)) clean.0 clean.1)) clean.2

found_ok : {E A : Type 0} (r : Result A E) (x : A) → result_ok r ≡ Some x → r ≡ Ok x
found_ok (Ok y) x h = let same : y ≡ x = cc in ap Ok same
found_ok (Err e) x h = absurd (cc)

codecs-float : (items : Items) (codecs : List Metadata) → codecs_among items ≡ Ok codecs → have_no_float codecs ≡ true
codecs-float no_items codecs h = let same : [] ≡ codecs = cc in ap have_no_float (sym same)
codecs-float (item tree items) codecs h =
    let first = step_ok (ok_or (extension_of tree) InvalidCodecs) _ codecs h in
    let others = step_ok (codecs_among items) _ codecs first.2 in
    let same : first.0 ∷ others.0 ≡ codecs = let is = others.2 in cc in
    ap have_no_float (sym same)
    ∙ and_from (has_no_float first.0.configuration) (have_no_float others.0)
    (read-float tree first.0 (found_ok (read_metadata tree) first.0 (there (extension_of tree) InvalidCodecs first.0 first.1)))
    (codecs-float items others.0 others.1)

-- no number of the codecs that are read is a float
pub codec_list-parts : (tree : Option Data) (codecs : List Metadata) → codec_list_at tree ≡ Ok codecs → have_no_float codecs ≡ true
codec_list-parts tree codecs h =
    let items = step_ok (ok_or (option_and_then as_array tree) InvalidCodecs) _ codecs h in
    codecs-float items.0 codecs items.2

-- ---- names of axes

names-count : (items : Items) (names : List (Option (List ℕ))) → names_among items ≡ Some names → length names ≡ items_len items
names-count no_items names h = let same : [] ≡ names = cc in ap length (sym same)
names-count (item tree items) names h = by_name (dimension_name_in tree) (names_among items) (λ rest is. names-count items rest is) refl h
  where
    by_name : (name : Option (Option (List ℕ))) (others : Option (List (Option (List ℕ))))
        → ((rest : List (Option (List ℕ))) → names_among items ≡ Some rest → length rest ≡ items_len items) → names_among items ≡ others
        → option_and_then (λ name. option_map (λ names. name ∷ names) others) name ≡ Some names → length names ≡ suc (items_len items)
    by_name None others counted is e = absurd (cc)
    by_name (Some name) None counted is e = absurd (cc)
    by_name (Some name) (Some rest) counted is e = let same : name ∷ rest ≡ names = cc in ap length (sym same) ∙ ap suc (counted rest is)

listed-names : (shape : List ℕ) (items : Items) (names : Option (List (Option (List ℕ)))) → seen Some (names_in (length shape) items) ≡ Ok names → AreNamesOf shape names
listed-names shape items names h = by_result (names_in (length shape) items) refl h
  where
    by_result : (r : Result (List (Option (List ℕ))) ArrayMetadataError) → names_in (length shape) items ≡ r → seen Some r ≡ Ok names → AreNamesOf shape names
    by_result (Err e) is h = absurd (cc)
    by_result (Ok found) is h =
        let counted = step_ok (demand (items_len items == length shape) InvalidDimensionNames) _ found is in
        let same : Some found ≡ names = cc in
        let count : items_len items ≡ length shape = eqb-true (items_len items) (length shape) (passed InvalidDimensionNames (items_len items == length shape) counted.0 counted.1) in
        subst (AreNamesOf shape) same (names-count items found (there (names_among items) InvalidDimensionNames found counted.2) ∙ count)

-- there is one name for each axis, or that it has none
pub names-parts : (shape : List ℕ) (tree : Option Data) (names : Option (List (Option (List ℕ)))) → dimension_names_at (length shape) tree ≡ Ok names → AreNamesOf shape names
names-parts shape None names h = let same : None ≡ names = cc in subst (AreNamesOf shape) same tt
names-parts shape (Some null) names h = let same : None ≡ names = cc in subst (AreNamesOf shape) same tt
names-parts shape (Some (boolean truth)) names h = absurd (cc)
names-parts shape (Some (number n)) names h = absurd (cc)
names-parts shape (Some (string text)) names h = absurd (cc)
names-parts shape (Some (array items)) names h = listed-names shape items names h
names-parts shape (Some (object members)) names h = absurd (cc)
