-- The runs of a region where codecs take it with its elements there, encoded from those of the region.
use Rattle.std.proofs.Common.{◌≡◌, ℕ, Bool, true, false, if◌then◌else◌, List, [], length, Vec, Global, Result, Ok, Err, refl, ap, ap₂, ◌∙◌, sym, subst}
use Rattle.std.specs.Prelude.{IfOk}
use Rattle.zarrs_chunk.specs.Answer.{GivesBy, seen}
use Rattle.zarrs_chunk.specs.ChunkShape.{product}
use Rattle.zarrs_chunk.specs.Region.{Region}
use Rattle.zarrs_chunk.specs.Runs.{EndWithin}
use Rattle.zarrs_chunk.specs.declared.codec_error.CodecError.{CodecError}
use Rattle.zarrs_data_type.specs.Element.{Chunk}
use Rattle.zarrs_data_type.specs.ElementType.{ElementType}
use Rattle.zarrs_array_bytes.specs.Elements.{elements}
use Rattle.zarrs_array_bytes.specs.Held.{Held}
use Rattle.zarrs_array_bytes.specs.Tight.{IsTight, KeepsTight}
use Rattle.zarrs_array_bytes.specs.Validity.{Holds, validity}
use Rattle.zarrs_codec.specs.CoordinateMap.{IsCoordinateMap, moved_chunk, same_places}
use Rattle.zarrs_array_to_array.specs.ArrayToArrayCodec.{ArrayMapping, keeps_places}
use Rattle.zarrs_array_to_array.specs.EncodedBoxes.{part_moves}
use Rattle.zarrs_array_to_array.proofs.CoordinateMaps.{kept_places, length-moved, moved_twice, same_places_map, composed_map}
use Rattle.zarrs_array_regions.specs.declared.window.Window.{Window}
use Rattle.zarrs_array_regions.specs.Parts.{part_encoded}
use Rattle.zarrs_array_regions.specs.Windows.{window_of, window_places, next_lengths, part_map, region_map, encoded_of, IsEncodedRegion, GivesRegionRuns}
use Rattle.zarrs_array_regions.proofs.WindowCalls.{WindowStep, WindowStays}
use Rattle.zarrs_array_to_array.proofs.MappedChunks.{holds_elements}
use Rattle.zarrs_array_bytes.proofs.UpdatedLemmas.{length-elements}

-- the elements of the next window are those of the region, moved
part_is_encoded : (codec : ArrayMapping) (type : ElementType) (sizes : List ℕ) (region : Region) (held : Held) → product (part_map codec (window_of sizes region)).encoded ≡ product region.lengths
    → part_encoded codec type region held ≡ moved_chunk (part_map codec (window_of sizes region)) (elements type (product region.lengths) held)
part_is_encoded codec type sizes region held n = by (keeps_places codec) (next_lengths codec (window_of sizes region)) (elements type (product region.lengths) held) (length-elements type (product region.lengths) held) n
  where
    by : (keeps : Bool) (lengths : List ℕ) (chunk : Chunk) → length chunk ≡ product region.lengths → product (if keeps then same_places lengths else part_moves codec region.lengths).encoded ≡ product region.lengths
        → (if keeps then chunk else moved_chunk (part_moves codec region.lengths) chunk) ≡ moved_chunk (if keeps then same_places lengths else part_moves codec region.lengths) chunk
    by true lengths chunk long n = sym (kept_places lengths chunk (long ∙ sym n))
    by false lengths chunk long n = refl

-- where the window stays, so do its elements
pub encoded_stay : (all : List ArrayMapping) (sizes : List ℕ) (region : Region) (type : ElementType) (held : Held) (r : Result (Vec (ℕ × ℕ) Global × Held) CodecError) → WindowStays all sizes region → GivesRegionRuns [] sizes region (seen (λ answer. answer.0) r) → IfOk r (λ answer. answer.1 ≡ held) → validity type (product region.lengths) held ≡ Ok tt → GivesBy (IsEncodedRegion type) r (Ok (encoded_of all type (window_of sizes region) held))
encoded_stay all sizes region type held (Ok answer) s places same v = record {
  is = (
    same_places_in _ _ places.is ∙ sym (ap window_places s.last_is),
    subst (λ there. Holds type there (encoded_of all type (window_of sizes region) held).1) (sym same) (subst (Holds type held)
        (sym (kept_places region.lengths (elements type (product region.lengths) held) (length-elements type (product region.lengths) held)) ∙ sym (ap (λ m. moved_chunk m (elements type (product region.lengths) held)) s.map_is))
        (holds_elements type (product region.lengths) held v)),
  );
  no_fault = refl;
}
  where
    same_places_in : (xs ys : List ℕ) → ◌≡◌ {A = Result (List ℕ) CodecError} (Ok xs) (Ok ys) → ys ≡ xs
    same_places_in xs ys h = cc
encoded_stay all sizes region type held (Err e) s places same v = record { is = λ m. absurd (bad _ e (places.is m)); no_fault = places.no_fault }
  where
    bad : (v : List ℕ) (e : CodecError) → ◌≡◌ {A = Result (List ℕ) CodecError} (Ok v) (Err e) → ⊥
    bad v e x = cc

pub tight_stays : (type : ElementType) (held : Held) (r : Result (Vec (ℕ × ℕ) Global × Held) CodecError) → IfOk r (λ answer. answer.1 ≡ held) → KeepsTight type held (seen (λ answer. answer.1) r)
tight_stays type held (Ok answer) same = λ tight. subst (IsTight type) (sym same) tight
tight_stays type held (Err e) same = λ tight. tt

pub map_stays : {T : Type 0} (all : List ArrayMapping) (sizes : List ℕ) (region : Region) (r : Result T CodecError) → WindowStays all sizes region → IfOk r (λ _. IsCoordinateMap region.lengths (region_map all (window_of sizes region)))
map_stays all sizes region (Ok x) s = subst (IsCoordinateMap region.lengths) (sym s.map_is) (same_places_map region.lengths region.lengths refl (λ p. p))
map_stays all sizes region (Err e) s = tt

module _ (all codecs : List ArrayMapping) (codec : ArrayMapping) (sizes : List ℕ) (region : Region) (next : Window) (s : WindowStep all codecs codec sizes region next) where
  map_goes : IsCoordinateMap next.region.lengths (region_map codecs next) → IsCoordinateMap region.lengths (region_map all (window_of sizes region))
  map_goes is =
      subst (IsCoordinateMap region.lengths) (sym s.map_is)
      (composed_map region.lengths (part_map codec (window_of sizes region)) (region_map codecs next) s.part_is (subst (λ ls. IsCoordinateMap ls (region_map codecs next)) (sym s.encoded) is))

  pub map_goes_on : {T : Type 0} (r : Result T CodecError) → IfOk r (λ _. IsCoordinateMap next.region.lengths (region_map codecs next)) → IfOk r (λ _. IsCoordinateMap region.lengths (region_map all (window_of sizes region)))
  map_goes_on (Ok x) is = map_goes is
  map_goes_on (Err e) is = tt

  module _ (type : ElementType) (held above : Held) (encoded : Holds type above (part_encoded codec type region held)) where
    abbrev moved : Chunk
    moved = moved_chunk (part_map codec (window_of sizes region)) (elements type (product region.lengths) held)

    holds_moved : Holds type above moved
    holds_moved = subst (Holds type above) (part_is_encoded codec type sizes region held (ap product s.encoded ∙ s.count)) encoded

    counted : length moved ≡ product next.region.lengths
    counted = length-moved (part_map codec (window_of sizes region)) (elements type (product region.lengths) held) ∙ ap product s.encoded

    pub above_valid : validity type (product next.region.lengths) above ≡ Ok tt
    above_valid = subst (λ n. validity type n above ≡ Ok tt) counted holds_moved.valid

    encoded_is : IsCoordinateMap next.region.lengths (region_map codecs next) → encoded_of codecs type next above ≡ encoded_of all type (window_of sizes region) held
    encoded_is rest_is =
        let own : elements type (product next.region.lengths) above ≡ moved = ap (λ n. elements type n above) (sym counted) ∙ holds_moved.elements_are in
        let there : IsCoordinateMap (part_map codec (window_of sizes region)).encoded (region_map codecs next) = subst (λ ls. IsCoordinateMap ls (region_map codecs next)) (sym s.encoded) rest_is in
        let chunk : Chunk = elements type (product region.lengths) held in
        let same : moved_chunk (region_map codecs next) (elements type (product next.region.lengths) above) ≡ moved_chunk (region_map all (window_of sizes region)) chunk
        = ap (moved_chunk (region_map codecs next)) own
        ∙ sym (moved_twice region.lengths (part_map codec (window_of sizes region)) (region_map codecs next) chunk s.part_is there)
        ∙ sym (ap (λ m. moved_chunk m chunk) s.map_is) in
        ap₂ (λ (w : Window) (c : Chunk). pair w c) (sym s.last_is) same
      where
        pair : Window → Chunk → Window × Chunk
        pair w c = (w, c)

    pub encoded_here : (r : Result (Vec (ℕ × ℕ) Global × Held) CodecError) → GivesBy (IsEncodedRegion type) r (Ok (encoded_of codecs type next above)) → IfOk r (λ _. IsCoordinateMap next.region.lengths (region_map codecs next)) → GivesBy (IsEncodedRegion type) r (Ok (encoded_of all type (window_of sizes region) held))
    encoded_here (Ok x) g is = subst (λ (e : Window × Chunk). GivesBy (IsEncodedRegion type) (Ok x) (Ok e)) (encoded_is is) g
    encoded_here (Err e) g is = refused e g
      where
        bad : (v : Window × Chunk) (e : CodecError) → ◌≡◌ {A = Result (Window × Chunk) CodecError} (Ok v) (Err e) → ⊥
        bad v e x = cc

        refused : (e : CodecError) → GivesBy {T = Vec (ℕ × ℕ) Global × Held} (IsEncodedRegion type) (Err e) (Ok (encoded_of codecs type next above)) → GivesBy {T = Vec (ℕ × ℕ) Global × Held} (IsEncodedRegion type) (Err e) (Ok (encoded_of all type (window_of sizes region) held))
        refused e g = record { is = λ m. absurd (bad (encoded_of codecs type next above) e (g.is m)); no_fault = g.no_fault }

-- runs that end within chunks of as many elements
pub ends_here : (r : Result (Vec (ℕ × ℕ) Global × Held) CodecError) (count other : ℕ) → count ≡ other → IfOk r (λ answer. EndWithin count answer.0.items) → IfOk r (λ answer. EndWithin other answer.0.items)
ends_here r count other e h = subst (λ n. IfOk r (λ answer. EndWithin n answer.0.items)) e h
