-- Regions that are written as regions.
use Rattle.std.proofs.Common.{◌≡◌, ◌==◌, ◌^◌, ◌<◌, ℕ, Bool, true, false, Option, Some, None, List, [], ◌∷◌, length, map, Ok, if◌then◌else◌, refl, ap, ◌∙◌, sym, subst, arith}
use Rattle.std.specs.Prelude.{is_some, option_map, IfNone, IfSome}
use Rattle.std.specs.List.{All}
use Rattle.std.proofs.lemmas.Bool.{eqb-true}
use Rattle.std.proofs.lemmas.List.{map-id}
use Rattle.zarrs_chunk.specs.ChunkShape.{product}
use Rattle.zarrs_chunk.specs.Region.{Region}
use Rattle.zarrs_chunk.specs.Runs.{EndWithin, joined_runs}
use Rattle.zarrs_chunk.specs.Selection.{Selection, subset, indices}
use Rattle.zarrs_chunk.specs.Tuples.{is_box_inside}
use Rattle.zarrs_data_type.specs.ElementType.{ElementType}
use Rattle.zarrs_data_type.specs.declared.endianness.Endianness.{Endianness}
use Rattle.zarrs_array_bytes.specs.Held.{Held}
use Rattle.zarrs_array_bytes.specs.Validity.{Holds}
use Rattle.zarrs_codec.specs.BytesToBytesCodec.{BytesCodecs}
use Rattle.zarrs_codec.specs.declared.bytes_representation.BytesRepresentation.{BytesRepresentation}
use Rattle.zarrs_array_to_array.specs.ArrayToArrayCodec.{ArrayMapping, IsMapping}
use Rattle.zarrs_array_to_array.specs.Mapping.{mapping_of}
use Rattle.zarrs_array_to_array.specs.declared.array_to_array_codec.ArrayToArrayCodec.{ArrayToArrayCodec}
use Rattle.zarrs_array_regions.specs.KeptRegions.{kept_region, IsKept}
use Rattle.zarrs_array_regions.specs.FewRuns.{HasRegionRuns}
use Rattle.zarrs_array_regions.specs.Windows.{TakesRegion, TakeType, window_of, window_places, window_elements, encoded_elements}
use Rattle.zarrs_array_regions.specs.declared.window.Window.{Window}
use Rattle.zarrs_array_regions.proofs.KeptWindows.{places_are}
use Rattle.zarrs_bytes.proofs.Coding.{ok}
use Rattle.zarrs_chain_meaning.specs.ChunkForm.{ChunkForm}
use Rattle.zarrs_chain_meaning.proofs.ArraySteps.{ok_is}
use Rattle.zarrs_codecs.specs.ChunkCoder.{coder_form, coder_keeps_regions, IsInPlace}
use Rattle.zarrs_codecs.specs.ChunkRead.{encoded_places, form_in_place, planned_order, standing_places}
use Rattle.zarrs_codecs.specs.ChunkWrite.{LendsData}
use Rattle.zarrs_codecs.specs.ChunkWriter.{reader_functions, StandsThere}
use Rattle.zarrs_codecs.specs.declared.chunk_coder.ChunkCoder.{ChunkCoder}
use Rattle.zarrs_codecs.proofs.Counting.{in_place_region}
use Rattle.zarrs_codecs.proofs.PartialReads.{IsReadable, is_readable}
use Rattle.zarrs_codecs.proofs.PlannedPlaces.{others_are, standing_is}
use Rattle.zarrs_codecs.proofs.RegionReads.{region_goes, runs_at, takes_region, takes_type}
use Rattle.zarrs_codecs.proofs.RegionWrites.{region_leaves, region_fits}

-- ---- one that is kept

pub kept_planned : {B : Type 0} (f : BytesCodecs B) (form : ChunkForm B) (encoded : List ℕ) (r : BytesRepresentation) (h : IsReadable f form.chain form.sizes form.type form.fill encoded r) (are : All IsMapping form.chain.array_to_array) (positive : All (λ size. 0 < size) form.sizes) (counted : product form.sizes < 2 ^ 64)
    (selection : Selection) (region : Region) → IsKept form.chain.array_to_array form.sizes selection region → kept_region form.chain.array_to_array form.sizes selection ≡ Some region
    → (order : Option Endianness) → form_in_place form ≡ Some order → planned_order form selection ≡ Ok (standing_places form.chain.array_to_array form.sizes region)
kept_planned f form encoded r h are positive counted selection region kept is order alone =
    let goes = region_goes f form encoded r h are positive counted region kept.inside kept.kept in
    standing_is form selection region _ (in_place_region form selection (Some region) order alone is) (ap (λ s. encoded_places form.type form.chain.array_to_array form.sizes s) kept.selection_is ∙ goes)

-- a region that is found is the kept one
pub found_kept : {X : Type 0} (found : Option X) (now : X → Region) (codecs : List ArrayMapping) (sizes : List ℕ) (selection : Selection) → option_map now found ≡ kept_region codecs sizes selection → IfSome found (λ x. IsKept codecs sizes selection (now x))
    → IfSome found (λ x. IsKept codecs sizes selection (now x) × (kept_region codecs sizes selection ≡ Some (now x)))
found_kept None now codecs sizes selection e kept = tt
found_kept (Some x) now codecs sizes selection e kept = (kept, sym e)

-- and where none is found, none is kept
pub none_found : {X : Type 0} (found : Option X) (now : X → Region) (kept : Option Region) → option_map now found ≡ kept → IfNone found (kept ≡ None)
none_found None now kept e = sym e
none_found (Some x) now kept e = tt

-- ---- one of a chunk that goes through no array-to-array codecs

pub no_arrays : (codecs : List ArrayToArrayCodec) (arrays : List ArrayMapping) → map mapping_of codecs ≡ arrays → (length codecs == 0) ≡ true → arrays ≡ []
no_arrays [] arrays e h = sym e
no_arrays (codec ∷ codecs) arrays e h = absurd (omega (arith, eqb-true (length (codec ∷ codecs)) 0 h))

none_of : (sizes : List ℕ) (selection : Selection) → kept_region [] sizes selection ≡ None
none_of sizes (subset region) = refl
none_of sizes (indices tuples) = refl

pub none_kept : (codecs : List ArrayMapping) (sizes : List ℕ) (selection : Selection) → codecs ≡ [] → kept_region codecs sizes selection ≡ None
none_kept codecs sizes selection e = ap (λ (cs : List ArrayMapping). kept_region cs sizes selection) e ∙ none_of sizes selection

-- what holds anyway holds where there is none
pub none_anyway : {X : Type 0} (found : Option X) (P : Type 0) → P → IfNone found P
none_anyway None P h = h
none_anyway (Some x) P h = tt

planned_none : (t : Bool) (found : Option Region) → found ≡ None → (if t then found else None) ≡ None
planned_none true found e = e
planned_none false found e = refl

own_places : (type : ElementType) (sizes : List ℕ) (region : Region) → is_box_inside sizes region.starts region.lengths ≡ true → product sizes < 2 ^ 64 → encoded_places type [] sizes (subset region) ≡ ok (window_places (window_of sizes region))
own_places type sizes region inside counted = rw (places_are sizes region inside counted) (ap ok (map-id (window_places (window_of sizes region))))

pub own_planned : {B : Type 0} (form : ChunkForm B) (selection : Selection) (region : Region) → form.chain.array_to_array ≡ [] → IsKept [] form.sizes selection region → product form.sizes < 2 ^ 64 → planned_order form selection ≡ Ok (standing_places form.chain.array_to_array form.sizes region)
own_planned form selection region e kept counted =
    others_are form selection (planned_none (is_some (form_in_place form)) (kept_region form.chain.array_to_array form.sizes selection) (none_kept form.chain.array_to_array form.sizes selection e))
    ∙ ap (λ (cs : List ArrayMapping). encoded_places form.type cs form.sizes selection) e
    ∙ ap (λ (s : Selection). encoded_places form.type [] form.sizes s) kept.selection_is
    ∙ own_places form.type form.sizes region kept.inside counted
    ∙ sym (ap (λ (cs : List ArrayMapping). ok (standing_places cs form.sizes region)) e)

-- ---- its new elements there

module _ {B : Type 0} {b : _} (coder : ChunkCoder B b) (are : All IsMapping (coder_form coder).chain.array_to_array) (positive : All (λ size. 0 < size) (coder_form coder).sizes) (region : Region) (inside : is_box_inside (coder_form coder).sizes region.starts region.lengths ≡ true)
    (kept : coder_keeps_regions coder ≡ true) (codecs : List ArrayMapping) (same : codecs ≡ (coder_form coder).chain.array_to_array) where
  abbrev form : ChunkForm B
  form = coder_form coder

  abbrev window : Window
  window = window_of form.sizes region

  readable : IsReadable (reader_functions coder) form.chain form.sizes form.type form.fill coder.encoded coder.representation
  readable = is_readable (reader_functions coder) form.chain form.sizes form.type form.fill coder.encoded coder.representation are positive coder.taken

  -- the codecs accept the chunk and its type
  pub coder_takes : TakesRegion codecs form.sizes region
  coder_takes = subst (λ cs. TakesRegion cs form.sizes region) (sym same) (takes_region (reader_functions coder) form coder.encoded coder.representation readable are positive coder.counted_whole region inside kept)

  pub coder_takes_type : TakeType codecs form.type
  coder_takes_type = subst (λ cs. TakeType cs form.type) (sym same) (takes_type (reader_functions coder) form coder.encoded coder.representation readable are positive coder.counted_whole region inside kept)

  -- runs of the last window, and a container of its elements, are those of the new elements as they stand there
  pub stands_there : (order : Option Endianness) (new lent held : Held) (runs : List (ℕ × ℕ)) → IsInPlace coder order → LendsData form.type region new lent → HasRegionRuns codecs form.sizes region runs → Holds form.type held (encoded_elements codecs window (window_elements form.type window lent))
      → StandsThere coder order region new runs held
  stands_there order new lent held runs alone lends made holds =
      let f = reader_functions coder in
      let at = runs_at form.chain.array_to_array codecs window runs runs same (ap ok (sym made.places)) refl in
      let there = subst (λ cs. Holds form.type held (encoded_elements cs window (window_elements form.type window lent))) same holds in
      record {
        same_edit = region_leaves f form coder.encoded coder.representation readable are positive coder.counted_whole region inside order alone kept new lent held lends (joined_runs runs) at there coder.filling;
        filled = made.filled;
        inside = subst (λ n. EndWithin n runs) (sym readable.count) made.below;
        apart = made.apart;
        places = sym (ok_is _ _ at);
        fit = region_fits f form coder.encoded coder.representation readable are positive coder.counted_whole region inside order alone kept new lent held lends (joined_runs runs) at there;
      }
