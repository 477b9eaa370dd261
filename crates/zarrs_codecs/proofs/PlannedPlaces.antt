-- The places whose bytes are planned.
use Rattle.std.proofs.Common.{◌≡◌, ◌&&◌, ◌<◌, ℕ, Bool, true, false, Option, Some, None, List, [], ◌∷◌, length, get_or, map, Result, Ok, Err, if◌then◌else◌, arith, refl, ap, sym, ◌∙◌, subst}
use Rattle.std.specs.Prelude.{is_ok, is_some, IfSome}
use Rattle.std.specs.List.{All, range_with_len}
use Rattle.std.specs.List.Sorted.{IsPermutation, IsStrictlyIncreasing}
use Rattle.std.proofs.lemmas.List.FromFn.{get_or-map-range_with_len, length-map-range_with_len}
use Rattle.std.proofs.lemmas.List.Sorted.{IsPermutation-refl, IsPermutation-sym, IsPermutation-map}
use Rattle.std.proofs.lemmas.Simd.{map-map}
use Rattle.zarrs_chunk.specs.Answer.{◌>>=◌, seen}
use Rattle.zarrs_chunk.specs.ChunkShape.{product}
use Rattle.zarrs_chunk.specs.Region.{Region}
use Rattle.zarrs_chunk.specs.Selection.{Selection, subset, indices, bounds_of, places_of}
use Rattle.zarrs_chunk.specs.Tuples.{row_major, box_tuples}
use Rattle.zarrs_chunk.specs.declared.codec_error.CodecError.{CodecError}
use Rattle.zarrs_chunk.proofs.PlaceLaws.{subset_where_passed}
use Rattle.zarrs_chunk.proofs.Rising.{Rises-box, Rises-increasing}
use Rattle.zarrs_data_type.specs.ElementType.{ElementType}
use Rattle.zarrs_metadata.proofs.Named.{Names, named_permutation}
use Rattle.zarrs_codec.specs.CoordinateMap.{CoordinateMap, IsOneToOne}
use Rattle.zarrs_array_to_array.specs.ArrayToArrayCodec.{ArrayMapping, IsMapping}
use Rattle.zarrs_array_regions.specs.declared.window.Window.{Window}
use Rattle.zarrs_array_regions.specs.KeptRegions.{keeps_regions, is_filled, is_kept, kept_region, IsKept}
use Rattle.zarrs_array_regions.specs.Windows.{window_of, window_places, last_window, region_map}
use Rattle.zarrs_array_regions.proofs.KeptChains.{chain_keeps}
use Rattle.zarrs_array_regions.proofs.KeptRegions.{is_kept_by}
use Rattle.zarrs_array_regions.proofs.PlaceReads.{places_back}
use Rattle.zarrs_array_regions.proofs.Rearranged.{rearranged, is_rearranged}
use Rattle.zarrs_array_regions.proofs.WindowMaps.{next_count}
use Rattle.zarrs_chain_meaning.specs.ArrayStages.{arrays_map}
use Rattle.zarrs_bytes.proofs.Coding.{ok, bind_ok}
use Rattle.zarrs_chain_meaning.proofs.ArraySteps.{ok_is}
use Rattle.zarrs_chain_meaning.proofs.NestedStages.{chained_of}
use Rattle.zarrs_codecs.specs.ChunkRead.{encoded_places, planned_order, planned_region, form_in_place, standing_places}
use Rattle.zarrs_chain_meaning.specs.ChunkForm.{ChunkForm}
use Rattle.zarrs_codecs.specs.ReadLaws.{PlannedPlacesAreMeant}
use Rattle.std.specs.Option.{option_map_or}

-- ---- items that are rearranged one to one

names_all : (n : ℕ) (to from : ℕ → ℕ) → IsOneToOne n to from → Names 0 n (map to (range_with_len 0 n))
names_all n to from one q low high =
    let below : q < n = omega arith in
    let there = one.from_below q below in (
      from q,
      omega (arith, there, length-map-range_with_len to 0 n),
      get_or-map-range_with_len to 0 n (from q) (from q) 0 there (omega arith) ∙ one.to_from q below,
    )

own_items : (n : ℕ) (xs : List ℕ) → length xs ≡ n → map (λ k. get_or xs k 0) (range_with_len 0 n) ≡ xs
own_items n xs e = sym (is_rearranged (λ k. k) n 0 xs xs e (λ k l. refl))

pub rearranged_permutes : (n : ℕ) (to from : ℕ → ℕ) (xs : List ℕ) → IsOneToOne n to from → length xs ≡ n → IsPermutation (rearranged to n 0 xs) xs
rearranged_permutes n to from xs one e =
    let numbers = range_with_len 0 n in
    let item : ℕ → ℕ = λ k. get_or xs k 0 in
    let moved = IsPermutation-map item numbers (map to numbers) (named_permutation n 0 (map to numbers) (length-map-range_with_len to 0 n) (names_all n to from one)) in
    let own : IsPermutation xs (map item (map to numbers)) = subst (λ ys. IsPermutation ys (map item (map to numbers))) (own_items n xs e) moved in
    IsPermutation-sym xs (rearranged to n 0 xs) (subst (λ ys. IsPermutation xs ys) (map-map item to numbers) own)

-- ---- regions that are kept

three_parts : (a b c : Bool) → (a && b && c) ≡ true → (a ≡ true) × (b ≡ true) × (c ≡ true)
three_parts true true true h = (refl, refl, refl)
three_parts true true false h = absurd (cc)
three_parts true false c h = absurd (cc)
three_parts false b c h = absurd (cc)

kept_where : (t : Bool) (given region : Region) → (if t then Some given else None) ≡ Some region → (t ≡ true) × (given ≡ region)
kept_where true given region e = (refl, cc)
kept_where false given region e = absurd (cc)

pub kept_is : (codecs : List ArrayMapping) (sizes : List ℕ) (selection : Selection) (region : Region) → kept_region codecs sizes selection ≡ Some region → IsKept codecs sizes selection region
kept_is codecs sizes (indices tuples) region e = absurd (cc)
kept_is [] sizes (subset given) region e = absurd (cc)
kept_is (codec ∷ codecs) sizes (subset given) region e =
    let w = kept_where (is_kept (codec ∷ codecs) sizes given) given region e in
    let p = three_parts (is_ok (bounds_of (subset given) sizes)) (is_filled given) (keeps_regions (codec ∷ codecs)) w.0 in
    subst (λ r. IsKept (codec ∷ codecs) sizes (subset given) r) w.1 (is_kept_by (codec ∷ codecs) sizes (subset given) given refl p.0 p.1 p.2)

-- ---- the order of places

places_known : (sizes : List ℕ) (region : Region) (places : List ℕ) → places_of (subset region) sizes ≡ Ok places → places ≡ window_places (window_of sizes region)
places_known sizes region places e = rw e at (subset_where_passed (λ ps. ps ≡ map (row_major sizes) (box_tuples region.starts region.lengths)) region sizes (λ h f. refl))

module _ (type : ElementType) (arrays : List ArrayMapping) (sizes : List ℕ) (selection : Selection) (meant : List ℕ) (are : All IsMapping arrays) (positive : All (λ size. 0 < size) sizes) (e : encoded_places type arrays sizes selection ≡ Ok meant) where
  -- where the places of a region that is kept stand
  stands : (region : Region) → IsKept arrays sizes selection region → IsPermutation meant (standing_places arrays sizes region) × IsStrictlyIncreasing (standing_places arrays sizes region)
  stands region kept =
      let a = bind_ok (places_of selection sizes) (λ places. arrays_map type arrays sizes >>= λ m. ok (map m.to places)) meant e in
      let b = bind_ok (arrays_map type arrays sizes) (λ m. ok (map m.to a.0)) meant a.2 in
      let m : CoordinateMap = b.0 in
      let window : Window = window_of sizes region in
      let last : Window = last_window arrays window in
      let part : CoordinateMap = region_map arrays window in
      let chained_is = chained_of type arrays sizes m b.1 in
      let keeps = chain_keeps arrays sizes m region are positive chained_is kept.kept kept.inside in
      let known : a.0 ≡ window_places window = places_known sizes region a.0 (ap (λ s. places_of s sizes) (sym kept.selection_is) ∙ a.1) in
      let back : meant ≡ rearranged part.to (product region.lengths) 0 (window_places last)
      = sym (ok_is (map m.to a.0) meant b.2) ∙ ap (map m.to) known ∙ places_back arrays sizes m region are positive chained_is kept.kept kept.inside in (
        subst (λ ps. IsPermutation ps (window_places last)) (sym back) (rearranged_permutes (product region.lengths) part.to part.from (window_places last) keeps.part_is.places (next_count (product sizes) m window last part keeps)),
        Rises-increasing 0 (product last.sizes) (window_places last) (Rises-box last.sizes last.region.starts last.region.lengths keeps.next_is.inside),
      )

  in_order : (planned : Option Region) (ordered : List ℕ) → ((region : Region) → planned ≡ Some region → IsKept arrays sizes selection region) → seen (option_map_or (standing_places arrays sizes) planned) (ok meant) ≡ Ok ordered
      → IsPermutation meant ordered × IfSome planned (λ _. IsStrictlyIncreasing ordered)
  in_order None ordered kept is = (subst (λ ps. IsPermutation meant ps) (ok_is meant ordered is) (IsPermutation-refl meant), tt)
  in_order (Some region) ordered kept is =
      let s = stands region (kept region refl) in
      let same : standing_places arrays sizes region ≡ ordered = ok_is (standing_places arrays sizes region) ordered is in
      (subst (λ ps. IsPermutation meant ps) same s.0, subst (λ ps. IsStrictlyIncreasing ps) same s.1)

planned_kept : (t : Bool) (found : Option Region) (region : Region) → (if t then found else None) ≡ Some region → found ≡ Some region
planned_kept true found region e = e
planned_kept false found region e = absurd (cc)

pub planned_are_meant : (B : Type 0) → PlannedPlacesAreMeant B
planned_are_meant B form selection meant ordered mappings positive e is =
    in_order form.type form.chain.array_to_array form.sizes selection meant mappings.mappings positive e (planned_region form selection) ordered
    (λ region p. kept_is form.chain.array_to_array form.sizes selection region (planned_kept (is_some (form_in_place form)) (kept_region form.chain.array_to_array form.sizes selection) region p))
    (ap (seen (option_map_or (standing_places form.chain.array_to_array form.sizes) (planned_region form selection))) (sym e) ∙ is)

-- ---- calls

-- the places where a region that is kept stands are its places in order
pub standing_is : {B : Type 0} (form : ChunkForm B) (selection : Selection) (region : Region) (meant : List ℕ) → planned_region form selection ≡ Some region → encoded_places form.type form.chain.array_to_array form.sizes selection ≡ Ok meant
    → planned_order form selection ≡ Ok (standing_places form.chain.array_to_array form.sizes region)
standing_is form selection region meant p e =
    ap (λ (r : Option Region). seen (option_map_or (standing_places form.chain.array_to_array form.sizes) r) (encoded_places form.type form.chain.array_to_array form.sizes selection)) p
    ∙ ap (seen (option_map_or (standing_places form.chain.array_to_array form.sizes) (Some region))) e

own_order : (arrays : List ArrayMapping) (sizes : List ℕ) (r : Result (List ℕ) CodecError) → seen (option_map_or (standing_places arrays sizes) None) r ≡ r
own_order arrays sizes (Ok places) = refl
own_order arrays sizes (Err e) = refl

-- and all others come in their own
pub others_are : {B : Type 0} (form : ChunkForm B) (selection : Selection) → planned_region form selection ≡ None → planned_order form selection ≡ encoded_places form.type form.chain.array_to_array form.sizes selection
others_are form selection p =
    ap (λ (r : Option Region). seen (option_map_or (standing_places form.chain.array_to_array form.sizes) r) (encoded_places form.type form.chain.array_to_array form.sizes selection)) p
    ∙ own_order form.chain.array_to_array form.sizes (encoded_places form.type form.chain.array_to_array form.sizes selection)
