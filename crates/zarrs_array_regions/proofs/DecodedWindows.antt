-- Elements of a region, decoded from those of its last window.
use Rattle.std.proofs.Common.{◌≡◌, ℕ, Bool, true, false, if◌then◌else◌, Option, Some, None, List, [], ◌∷◌, length, Result, Ok, arith, refl, ap, ◌∙◌, sym, subst}
use Rattle.zarrs_chunk.specs.Answer.{GivesBy}
use Rattle.zarrs_chunk.specs.ChunkShape.{product}
use Rattle.zarrs_chunk.specs.Region.{Region}
use Rattle.zarrs_chunk.specs.declared.codec_error.CodecError.{CodecError}
use Rattle.zarrs_data_type.specs.Element.{absent, Chunk}
use Rattle.zarrs_data_type.specs.ElementType.{ElementType}
use Rattle.zarrs_array_bytes.specs.Elements.{elements}
use Rattle.zarrs_array_bytes.specs.Held.{Held}
use Rattle.zarrs_array_bytes.specs.Validity.{Holds, validity}
use Rattle.zarrs_codec.specs.CoordinateMap.{CoordinateMap, IsCoordinateMap, composition, inverse_map, moved_chunk, same_places}
use Rattle.zarrs_array_to_array.specs.ArrayToArrayCodec.{ArrayMapping, array_meaning, keeps_places}
use Rattle.zarrs_array_to_array.specs.EncodedBoxes.{part_moves}
use Rattle.zarrs_array_to_array.specs.ArrayMeaning.{BoxMap}
use Rattle.zarrs_array_to_array.proofs.ArrayLaws.{array_laws}
use Rattle.zarrs_array_to_array.proofs.CoordinateMaps.{kept_places, length-moved, moved_at}
use Rattle.zarrs_array_regions.specs.declared.window.Window.{Window}
use Rattle.zarrs_array_regions.specs.Parts.{part_decoded}
use Rattle.zarrs_array_regions.specs.Windows.{window_of, next_lengths, behind_window, part_map, region_map, decoded_of}
use Rattle.zarrs_array_regions.proofs.Rearranged.{rearranged, is_rearranged, length-rearranged, rearranged_at}
use Rattle.zarrs_array_regions.proofs.WindowMaps.{moved_back_is}
use Rattle.zarrs_array_regions.proofs.KeptChains.{next_of}
use Rattle.zarrs_array_regions.proofs.WindowCalls.{WindowStep, WindowStays}
use Rattle.zarrs_array_to_array.proofs.MappedChunks.{holds_elements}
use Rattle.zarrs_array_bytes.proofs.UpdatedLemmas.{length-elements}

-- ---- one codec after others

back_twice : (lengths middle : List ℕ) (part rest : CoordinateMap) (chunk : Chunk) → IsCoordinateMap lengths part → part.encoded ≡ middle → moved_chunk (inverse_map lengths part) (moved_chunk (inverse_map middle rest) chunk) ≡ moved_chunk (inverse_map lengths (composition part rest)) chunk
back_twice lengths middle part rest chunk is e =
    let n : ℕ = product lengths in
    let inner : Chunk = moved_chunk (inverse_map middle rest) chunk in
    let same : product middle ≡ n = ap product (sym e) ∙ is.count in
    moved_back_is lengths part inner
    ∙ is_rearranged (λ k. rest.to (part.to k)) n absent chunk (rearranged part.to n absent inner) (length-rearranged part.to n absent inner)
    (λ k l. let below = is.places.to_below k l in
    sym (rearranged_at part.to n absent inner k l ∙ moved_at (inverse_map middle rest) chunk (part.to k) (omega (arith, below, same))))
    ∙ sym (moved_back_is lengths (composition part rest) chunk)

-- the region's elements are those of the next window, moved back
part_is_moved : (codec : ArrayMapping) (type : ElementType) (sizes : List ℕ) (region : Region) (held : Held)
    → part_decoded codec type region held ≡ moved_chunk (inverse_map region.lengths (part_map codec (window_of sizes region))) (elements type (product region.lengths) held)
part_is_moved codec type sizes region held = by (keeps_places codec) (next_lengths codec (window_of sizes region)) (elements type (product region.lengths) held) (length-elements type (product region.lengths) held)
  where
    by : (keeps : Bool) (lengths : List ℕ) (chunk : Chunk) → length chunk ≡ product region.lengths
        → (if keeps then chunk else moved_chunk (inverse_map region.lengths (part_moves codec region.lengths)) chunk) ≡ moved_chunk (inverse_map region.lengths (if keeps then same_places lengths else part_moves codec region.lengths)) chunk
    by true lengths chunk long = sym (kept_places region.lengths chunk long)
    by false lengths chunk long = refl

module _ (all codecs : List ArrayMapping) (codec : ArrayMapping) (sizes : List ℕ) (region : Region) (next : Window) (s : WindowStep all codecs codec sizes region next) (type : ElementType) (held below : Held) (h : Holds type below (decoded_of codecs type next held)) where
  abbrev whole : Chunk
  whole = elements type (product next.region.lengths) held

  abbrev inner : Chunk
  inner = moved_chunk (inverse_map next.region.lengths (region_map codecs next)) whole

  counted : length inner ≡ product region.lengths
  counted = length-moved (inverse_map next.region.lengths (region_map codecs next)) whole ∙ s.count

  pub below_valid : validity type (product region.lengths) below ≡ Ok tt
  below_valid = subst (λ n. validity type n below ≡ Ok tt) counted h.valid

  decoded_is : part_decoded codec type region below ≡ decoded_of all type (window_of sizes region) held
  decoded_is =
      part_is_moved codec type sizes region below
      ∙ ap (moved_chunk (inverse_map region.lengths (part_map codec (window_of sizes region)))) (ap (λ n. elements type n below) (sym counted) ∙ h.elements_are)
      ∙ back_twice region.lengths next.region.lengths (part_map codec (window_of sizes region)) (region_map codecs next) whole s.part_is s.encoded
      ∙ ap (λ n. moved_chunk (inverse_map region.lengths (composition (part_map codec (window_of sizes region)) (region_map codecs next))) (elements type n held)) s.count
      ∙ sym (ap (λ m. moved_chunk (inverse_map region.lengths m) (elements type (product region.lengths) held)) s.map_is)

  pub decoded_here : (r : Result Held CodecError) → GivesBy (Holds type) r (Ok (part_decoded codec type region below)) → GivesBy (Holds type) r (Ok (decoded_of all type (window_of sizes region) held))
  decoded_here r g = subst (λ (c : Chunk). GivesBy (Holds type) r (Ok c)) decoded_is g

-- where the window stays, so do the elements
pub decoded_stay : (all : List ArrayMapping) (sizes : List ℕ) (region : Region) (type : ElementType) (held : Held) → WindowStays all sizes region → validity type (product region.lengths) held ≡ Ok tt → Holds type held (decoded_of all type (window_of sizes region) held)
decoded_stay all sizes region type held s v =
    subst (Holds type held)
    (sym (kept_places region.lengths (elements type (product region.lengths) held) (length-elements type (product region.lengths) held)) ∙ sym (ap (λ m. moved_chunk (inverse_map region.lengths m) (elements type (product region.lengths) held)) s.map_is))
    (holds_elements type (product region.lengths) held v)

-- ---- a last codec

-- the elements of a chunk that a map brings back to these lengths
abbrev brought_to : List ℕ → CoordinateMap → Chunk → Chunk
brought_to lengths m chunk = moved_chunk (inverse_map lengths m) chunk

last_is_moved : (codec : ArrayMapping) (type : ElementType) (sizes : List ℕ) (region : Region) (held : Held) → part_decoded codec type region held ≡ decoded_of (codec ∷ []) type (window_of sizes region) held
last_is_moved codec type sizes region held = part_is_moved codec type sizes region held ∙ by (array_meaning codec).boxes refl (elements type (product region.lengths) held)
  where
    stays : (keeps : Bool) (lengths : List ℕ) (m : CoordinateMap) (chunk : Chunk) → keeps ≡ true → brought_to region.lengths (if keeps then same_places lengths else m) chunk ≡ brought_to region.lengths (same_places region.lengths) chunk
    stays true lengths m chunk h = refl
    stays false lengths m chunk h = absurd (cc)

    by : (boxes : Option BoxMap) → (array_meaning codec).boxes ≡ boxes → (chunk : Chunk)
        → brought_to region.lengths (part_map codec (window_of sizes region)) chunk ≡ brought_to region.lengths (behind_window (next_of boxes (window_of sizes region)) (same_places region.lengths) (λ next. composition (part_map codec (window_of sizes region)) (region_map [] next))) chunk
    by None is chunk = stays (keeps_places codec) (next_lengths codec (window_of sizes region)) (part_moves codec region.lengths) chunk ((array_laws codec).boxes_or_places is)
    by (Some boxes) is chunk = refl

pub decoded_last : (all : List ArrayMapping) (codec : ArrayMapping) (sizes : List ℕ) (region : Region) (type : ElementType) (held : Held) (r : Result Held CodecError) → all ≡ codec ∷ [] → GivesBy (Holds type) r (Ok (part_decoded codec type region held)) → GivesBy (Holds type) r (Ok (decoded_of all type (window_of sizes region) held))
decoded_last all codec sizes region type held r e g =
    subst (λ (c : Chunk). GivesBy (Holds type) r (Ok c)) (last_is_moved codec type sizes region held ∙ sym (ap (λ cs. decoded_of cs type (window_of sizes region) held) e)) g
