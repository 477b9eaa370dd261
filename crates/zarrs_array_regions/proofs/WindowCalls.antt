-- What the calls on windows ask for and answer.
use Rattle.std.proofs.Common.{◌≡◌, ◌^◌, ◌<◌, ℕ, true, Option, Some, None, List, [], ◌∷◌, length, get_or, map, Result, Ok, Err, ◌≤◌, arith, refl, ap, ◌∙◌, sym, subst}
use Rattle.std.specs.Prelude.{is_ok, IsSome}
use Rattle.std.proofs.lemmas.List.Elements.{All-tail}
use Rattle.zarrs_chunk.specs.Answer.{◌>>=◌}
use Rattle.zarrs_chunk.specs.ChunkShape.{product, shape_of}
use Rattle.zarrs_chunk.specs.Region.{Region}
use Rattle.zarrs_chunk.specs.Tuples.{is_box_inside}
use Rattle.zarrs_chunk.specs.declared.codec_error.CodecError.{CodecError}
use Rattle.zarrs_chunk.proofs.Inside.{is_box_inside-lengths}
use Rattle.zarrs_chunk.proofs.Rising.{Rises-box, Rises-room}
use Rattle.zarrs_data_type.specs.ElementType.{ElementType}
use Rattle.zarrs_codec.specs.CoordinateMap.{CoordinateMap, IsCoordinateMap, same_places, composition}
use Rattle.zarrs_array_to_array.specs.ArrayToArrayCodec.{ArrayMapping, IsMapping, coordinates, chained}
use Rattle.zarrs_array_to_array.specs.CodecAnswers.{type_taken}
use Rattle.zarrs_array_to_array.specs.Mapping.{mapping_of}
use Rattle.zarrs_array_to_array.specs.declared.array_to_array_codec.ArrayToArrayCodec.{ArrayToArrayCodec}
use Rattle.zarrs_array_to_array.proofs.Transposition.{shape_of-positive}
use Rattle.zarrs_array_regions.specs.declared.window.Window.{Window}
use Rattle.zarrs_array_regions.specs.Parts.{FitsRegion}
use Rattle.zarrs_array_regions.specs.Windows.{IsWindow, TakesRegion, TakeType, window_of, window_places, next_window, part_map, behind_window, last_window, region_map}
use Rattle.zarrs_array_regions.proofs.KeptChains.{next_sizes}
use Rattle.zarrs_array_to_array.proofs.BoxNumbers.{factors_positive}
use Rattle.zarrs_array_regions.proofs.KeptWindows.{codec_keeps}
use Rattle.zarrs_array_regions.proofs.WindowMaps.{places_count, here_is}
use Rattle.zarrs_array_to_array.proofs.ArrayLaws.{array_laws}
use Rattle.zarrs_array_to_array.proofs.CodecLists.{rest_of, mappings_are, no_mappings}

-- ---- the parts of a list of codecs

pub one_mapping : (codecs : List ArrayToArrayCodec) (first : ArrayToArrayCodec) → 1 ≤ length codecs → length codecs < 2 → first ≡ get_or codecs 0 first → map mapping_of codecs ≡ mapping_of first ∷ []
one_mapping [] first l m e = absurd (omega arith)
one_mapping (x ∷ []) first l m e = ap (λ (y : ArrayToArrayCodec). mapping_of y ∷ []) (sym e)
one_mapping (x ∷ (y ∷ xs)) first l m e = absurd (omega arith)

pub some_codecs : (codecs : List ArrayToArrayCodec) → 2 ≤ length codecs → 1 ≤ length codecs
some_codecs codecs l = omega arith

-- ---- what is taken

first_takes : (all codecs : List ArrayMapping) (codec : ArrayMapping) (type : ElementType) → all ≡ codec ∷ codecs → TakeType all type → type_taken codec type ≡ Ok tt
first_takes all codecs codec type e takes = let here = subst (λ cs. TakeType cs type) e takes in here 0 codec (omega arith)

rest_takes : (all codecs : List ArrayMapping) (codec : ArrayMapping) (type : ElementType) → all ≡ codec ∷ codecs → TakeType all type → TakeType codecs type
rest_takes all codecs codec type e takes = All-tail (λ codec. type_taken codec type ≡ Ok tt) codec codecs (subst (λ cs. TakeType cs type) e takes)

-- a region has no more elements than its chunk
pub few_places : (codecs : List ArrayMapping) (sizes : List ℕ) (region : Region) → TakesRegion codecs sizes region → product region.lengths < 2 ^ 64
few_places codecs sizes region takes =
    let room = Rises-room 0 (product sizes) (window_places (window_of sizes region)) (Rises-box sizes region.starts region.lengths takes.inside) in
    omega (arith, room, places_count (product sizes) (window_of sizes region) (here_is sizes region takes.inside), takes.counted)

bind_ok : (r : Result CoordinateMap CodecError) (f : CoordinateMap → Result CoordinateMap CodecError) → is_ok (r >>= f) ≡ true → (m : CoordinateMap) × (r ≡ Ok m) × (is_ok (f m) ≡ true)
bind_ok (Ok m) f h = (m, refl, h)
bind_ok (Err e) f h = absurd (cc)

-- the first codec takes the chunk, and the others what it makes of it
pub record FirstTakes (codec : ArrayMapping) (codecs : List ArrayMapping) (sizes : List ℕ) : Type 0 where
  pub m : CoordinateMap
  pub is : coordinates codec sizes ≡ Ok m
  pub rest : is_ok (chained codecs m.encoded) ≡ true

pub first_taken : (all codecs : List ArrayMapping) (codec : ArrayMapping) (sizes : List ℕ) → all ≡ codec ∷ codecs → is_ok (chained all sizes) ≡ true → FirstTakes codec codecs sizes
first_taken all codecs codec sizes e h =
    let first = bind_ok (coordinates codec sizes) (λ first. chained codecs first.encoded >>= λ rest. Ok (composition first rest)) (subst (λ cs. is_ok (chained cs sizes) ≡ true) e h) in
    let rest = bind_ok (chained codecs first.0.encoded) (λ rest. Ok (composition first.0 rest)) first.2 in
    record { m = first.0; is = first.1; rest = rw rest.1 refl }

first_coordinates : (all codecs : List ArrayMapping) (codec : ArrayMapping) (sizes : List ℕ) (region : Region) → all ≡ codec ∷ codecs → TakesRegion all sizes region → is_ok (coordinates codec sizes) ≡ true
first_coordinates all codecs codec sizes region e takes = let f = first_taken all codecs codec sizes e takes.taken in rw f.is refl

fits_at : (codec : ArrayMapping) (sizes : List ℕ) (region : Region) → is_ok (coordinates codec sizes) ≡ true → is_box_inside sizes region.starts region.lengths ≡ true → FitsRegion codec region
fits_at codec sizes region h inside = (array_laws codec).part_fits sizes region.lengths (is_box_inside-lengths sizes region.starts region.lengths inside).1 h

first_fits : (all codecs : List ArrayMapping) (codec : ArrayMapping) (sizes : List ℕ) (region : Region) → all ≡ codec ∷ codecs → TakesRegion all sizes region → FitsRegion codec region
first_fits all codecs codec sizes region e takes = fits_at codec sizes region (first_coordinates all codecs codec sizes region e takes) takes.inside

-- what is known where the first codec has a next window
pub record WindowStep (all codecs : List ArrayMapping) (codec : ArrayMapping) (sizes : List ℕ) (region : Region) (next : Window) : Type 0 where
  pub next_is : IsWindow (product sizes) next
  pub takes : TakesRegion codecs next.sizes next.region
  pub part_is : IsCoordinateMap region.lengths (part_map codec (window_of sizes region))
  pub encoded : (part_map codec (window_of sizes region)).encoded ≡ next.region.lengths
  pub count : product next.region.lengths ≡ product region.lengths
  pub last_is : last_window all (window_of sizes region) ≡ last_window codecs next
  pub map_is : region_map all (window_of sizes region) ≡ composition (part_map codec (window_of sizes region)) (region_map codecs next)

window_step : (all codecs : List ArrayMapping) (codec : ArrayMapping) (sizes : List ℕ) (region : Region) (next : Window) → all ≡ codec ∷ codecs → IsMapping codec → TakesRegion all sizes region → next_window codec (window_of sizes region) ≡ Some next → WindowStep all codecs codec sizes region next
window_step all codecs codec sizes region next e mapping takes is =
    let f = first_taken all codecs codec sizes e takes.taken in
    let keeps = codec_keeps codec sizes region f.m next mapping f.is takes.inside is in
    let same : f.m.encoded ≡ next.sizes = next_sizes codec sizes region f.m next f.is is in
    record {
      next_is = keeps.next_is;
      takes = record {
        taken = subst (λ s. is_ok (chained codecs s) ≡ true) same f.rest;
        counted = subst (λ n. n < 2 ^ 64) (sym keeps.next_is.count_is) takes.counted;
        inside = keeps.next_is.inside;
      };
      part_is = keeps.part_is;
      encoded = keeps.lengths;
      count = ap product (sym keeps.lengths) ∙ keeps.part_is.count;
      last_is = ap (λ cs. last_window cs (window_of sizes region)) e ∙ ap (λ (o : Option Window). behind_window o (window_of sizes region) (last_window codecs)) is;
      map_is = ap (λ cs. region_map cs (window_of sizes region)) e ∙ ap (λ (o : Option Window). behind_window o (same_places region.lengths) (λ next. composition (part_map codec (window_of sizes region)) (region_map codecs next))) is;
    }

-- where it has none, the window stays
pub record WindowStays (all : List ArrayMapping) (sizes : List ℕ) (region : Region) : Type 0 where
  pub last_is : last_window all (window_of sizes region) ≡ window_of sizes region
  pub map_is : region_map all (window_of sizes region) ≡ same_places region.lengths

window_stays : (all codecs : List ArrayMapping) (codec : ArrayMapping) (sizes : List ℕ) (region : Region) → all ≡ codec ∷ codecs → next_window codec (window_of sizes region) ≡ None → WindowStays all sizes region
window_stays all codecs codec sizes region e is = record {
  last_is = ap (λ cs. last_window cs (window_of sizes region)) e ∙ ap (λ (o : Option Window). behind_window o (window_of sizes region) (last_window codecs)) is;
  map_is = ap (λ cs. region_map cs (window_of sizes region)) e ∙ ap (λ (o : Option Window). behind_window o (same_places region.lengths) (λ next. composition (part_map codec (window_of sizes region)) (region_map codecs next))) is;
}

no_codecs_stay : (all : List ArrayMapping) (sizes : List ℕ) (region : Region) → all ≡ [] → WindowStays all sizes region
no_codecs_stay all sizes region e = record {
  last_is = ap (λ cs. last_window cs (window_of sizes region)) e;
  map_is = ap (λ cs. region_map cs (window_of sizes region)) e;
}

-- ---- the same, of the codecs themselves

abbrev given : Option Window → Result (Option Window) CodecError
given o = Ok o

given_is : (x y : Option Window) → given x ≡ given y → x ≡ y
given_is x y e = cc

module _ (codecs : List ArrayToArrayCodec) (first : ArrayToArrayCodec) (l : 1 ≤ length codecs) (e : first ≡ get_or codecs 0 first) (sizes : List ℕ) (region : Region) (takes : TakesRegion (map mapping_of codecs) sizes region) where
  are : map mapping_of codecs ≡ mapping_of first ∷ map mapping_of (rest_of codecs)
  are = mappings_are codecs first l e

  pub codec_fits : FitsRegion (mapping_of first) region
  codec_fits = first_fits (map mapping_of codecs) (map mapping_of (rest_of codecs)) (mapping_of first) sizes region are takes

  pub codec_takes : (type : ElementType) → TakeType (map mapping_of codecs) type → type_taken (mapping_of first) type ≡ Ok tt
  codec_takes type = first_takes (map mapping_of codecs) (map mapping_of (rest_of codecs)) (mapping_of first) type are

  pub codecs_take : (type : ElementType) → TakeType (map mapping_of codecs) type → TakeType (map mapping_of (rest_of codecs)) type
  codecs_take type = rest_takes (map mapping_of codecs) (map mapping_of (rest_of codecs)) (mapping_of first) type are

  pub codec_step : IsMapping (mapping_of first) → (o : Option Window) (next : Window) → given (next_window (mapping_of first) (window_of sizes region)) ≡ given o → o ≡ Some next → WindowStep (map mapping_of codecs) (map mapping_of (rest_of codecs)) (mapping_of first) sizes region next
  codec_step mapping o next found is = window_step (map mapping_of codecs) (map mapping_of (rest_of codecs)) (mapping_of first) sizes region next are mapping takes (given_is (next_window (mapping_of first) (window_of sizes region)) o found ∙ is)

  pub codec_stays : (o : Option Window) → given (next_window (mapping_of first) (window_of sizes region)) ≡ given o → o ≡ None → WindowStays (map mapping_of codecs) sizes region
  codec_stays o found is = window_stays (map mapping_of codecs) (map mapping_of (rest_of codecs)) (mapping_of first) sizes region are (given_is (next_window (mapping_of first) (window_of sizes region)) o found ∙ is)

pub none_stay : (codecs : List ArrayToArrayCodec) (sizes : List ℕ) (region : Region) → length codecs < 1 → WindowStays (map mapping_of codecs) sizes region
none_stay codecs sizes region l = no_codecs_stay (map mapping_of codecs) sizes region (no_mappings codecs l)

-- sizes of a positive product are a shape
pub shape_there : (sizes xs : List ℕ) (r : Option (List ℕ)) → 0 < product sizes → xs ≡ sizes → r ≡ shape_of xs → IsSome r
shape_there sizes xs r p e is =
    let made : r ≡ Some sizes = is ∙ ap shape_of e ∙ shape_of-positive sizes (factors_positive sizes p) in
    rw made refl
