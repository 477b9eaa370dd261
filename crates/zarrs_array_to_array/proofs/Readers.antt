-- What a reader answers over the reader of a moved chunk, by places.
use Rattle.std.proofs.Common.{◌≡◌, ℕ, ◌<◌, ◌^◌, Bool, List, length, map, Result, Ok, Err, arith, refl, ap, ◌∙◌}
use Rattle.std.specs.List.{All}
use Rattle.std.proofs.lemmas.List.{length-map}
use Rattle.std.proofs.lemmas.Simd.{map-map}
use Rattle.zarrs_chunk.specs.Answer.{◌>>=◌, checked_u64}
use Rattle.zarrs_chunk.specs.ChunkShape.{product}
use Rattle.zarrs_chunk.specs.Selection.{Selection, tuples_of, bounds_of, len_of, places_of}
use Rattle.zarrs_chunk.specs.Tuples.{row_major}
use Rattle.zarrs_chunk.specs.declared.codec_error.CodecError.{CodecError}
use Rattle.zarrs_chunk.proofs.PlaceLaws.{known_below}
use Rattle.zarrs_data_type.specs.Element.{Element, Chunk}
use Rattle.zarrs_array_bytes.specs.Elements.{select}
use Rattle.zarrs_codec.specs.ArrayReader.{ArrayReader}
use Rattle.zarrs_codec.specs.CoordinateMap.{CoordinateMap, IsCoordinateMap, moved_chunk}
use Rattle.zarrs_codec.specs.MappedSelection.{IsImage, image_of}
use Rattle.zarrs_array_to_array.specs.ArrayToArrayCodec.{ArrayMapping, IsMapping, coordinates}
use Rattle.zarrs_array_to_array.specs.EncodedSelection.{selection_in}
use Rattle.zarrs_array_to_array.specs.ReaderLaws.{AnswersByPlaces, ReadsChunk, ReadsFill, reader_through}
use Rattle.zarrs_array_to_array.proofs.ArrayLaws.{array_laws}
use Rattle.zarrs_array_to_array.proofs.Chains.{codec_map}
use Rattle.zarrs_array_to_array.proofs.CoordinateMaps.{moved_select}
use Rattle.zarrs_chunk.proofs.Inside.{lt_test}

-- ---- what is asked for

pub codec_image : (codec : ArrayMapping) (sizes : List ℕ) (m : CoordinateMap) (selection : Selection) → IsMapping codec → coordinates codec sizes ≡ Ok m → bounds_of selection sizes ≡ Ok tt → IsImage sizes m selection (selection_in codec sizes m.encoded selection)
codec_image codec sizes m selection is takes inside = (array_laws codec).image_is sizes m selection is takes inside

-- ---- what is answered

few_counted : (selection : Selection) → length (tuples_of selection) < 2 ^ 64 → len_of selection ≡ Ok (length (tuples_of selection))
few_counted selection few = rw (lt_test (length (tuples_of selection)) (2 ^ 64) few) refl

module _ (codec : ArrayMapping) (sizes : List ℕ) (m : CoordinateMap) (is : IsMapping codec) (positive : All (λ size. 0 < size) sizes) (takes : coordinates codec sizes ≡ Ok m) where
  map_is : IsCoordinateMap sizes m
  map_is = codec_map codec sizes m is positive takes

  -- the tuples that are asked for are as many
  pub image_few : (selection image : Selection) → IsImage sizes m selection image → length (tuples_of selection) < 2 ^ 64 → length (tuples_of image) < 2 ^ 64
  image_few selection image at few =
      omega (arith, few, ap length at.places, length-map (tuples_of image) (row_major m.encoded), length-map (map (row_major sizes) (tuples_of selection)) m.to, length-map (tuples_of selection) (row_major sizes))

  pub image_is : (selection : Selection) → bounds_of selection sizes ≡ Ok tt → length (tuples_of selection) < 2 ^ 64 → image_of (coordinates codec sizes) (selection_in codec sizes) sizes selection ≡ Ok (selection_in codec sizes m.encoded selection)
  image_is selection inside few = rw (inside, takes, few_counted selection few) refl

  -- the places of what is asked for are those where the selection's go
  pub image_places : {B : Type 0} (selection image : Selection) (answer : List ℕ → Result B CodecError) → bounds_of selection sizes ≡ Ok tt → IsImage sizes m selection image → (places_of image m.encoded >>= answer) ≡ (places_of selection sizes >>= λ places. answer (map m.to places))
  image_places {B} selection image answer inside at =
      rw (inside, at.inside, map_is.count) (go (checked_u64 (product sizes)))
    where
      go : (counted : Result ℕ CodecError) → ((counted >>= λ _. Ok (map (row_major m.encoded) (tuples_of image))) >>= answer) ≡ ((counted >>= λ _. Ok (map (row_major sizes) (tuples_of selection))) >>= λ places. answer (map m.to places))
      go (Ok n) = ap answer at.places
      go (Err e) = refl

  pub asked_by_places : (in_part : Bool) (input : ArrayReader) (answer : List ℕ → Result Chunk CodecError) → input.sizes ≡ m.encoded → AnswersByPlaces input answer → AnswersByPlaces (reader_through codec sizes in_part input) (λ places. answer (map m.to places))
  asked_by_places in_part input answer same by = λ selection few. go selection few (bounds_of selection sizes) refl
    where
      go : (selection : Selection) → length (tuples_of selection) < 2 ^ 64 → (bounds : Result (Unit {0}) CodecError) → bounds_of selection sizes ≡ bounds → (image_of (coordinates codec sizes) (selection_in codec sizes) sizes selection >>= input.answer) ≡ (places_of selection sizes >>= λ places. answer (map m.to places))
      go selection few (Err e) refused = rw refused refl
      go selection few (Ok u) inside =
          let image = selection_in codec sizes m.encoded selection in
          let at : IsImage sizes m selection image = codec_image codec sizes m selection is takes inside in
          ap (λ asked. asked >>= input.answer) (image_is selection inside few)
          ∙ by image (image_few selection image at few)
          ∙ ap (λ encoded. places_of image encoded >>= answer) same
          ∙ image_places selection image answer inside at

  -- places that are known may be asked otherwise
  pub where_known : {B : Type 0} (selection : Selection) (f g : List ℕ → Result B CodecError) → ((places : List ℕ) → All (λ place. place < product sizes) places → f places ≡ g places) → (places_of selection sizes >>= f) ≡ (places_of selection sizes >>= g)
  where_known {B} selection f g h = go (places_of selection sizes) refl
    where
      go : (at : Result (List ℕ) CodecError) → places_of selection sizes ≡ at → (at >>= f) ≡ (at >>= g)
      go (Ok places) e = h places (known_below selection sizes places e)
      go (Err e) is = refl

  pub chunk_read : (in_part : Bool) (input : ArrayReader) (chunk : Chunk) → input.sizes ≡ m.encoded → ReadsChunk input (moved_chunk m chunk) → ReadsChunk (reader_through codec sizes in_part input) chunk
  chunk_read in_part input chunk same by = λ selection few.
      asked_by_places in_part input (λ places. Ok (select (moved_chunk m chunk) places)) same by selection few
      ∙ where_known selection (λ places. Ok (select (moved_chunk m chunk) (map m.to places))) (λ places. Ok (select chunk places)) (λ places below. ap (λ c. Ok c) (moved_select sizes m chunk places map_is below))

  pub fill_read : (in_part : Bool) (input : ArrayReader) (fill : Element) → input.sizes ≡ m.encoded → ReadsFill input fill → ReadsFill (reader_through codec sizes in_part input) fill
  fill_read in_part input fill same by = λ selection few.
      asked_by_places in_part input (λ places. Ok (map (λ _. fill) places)) same by selection few
      ∙ where_known selection (λ places. Ok (map (λ _. fill) (map m.to places))) (λ places. Ok (map (λ _. fill) places)) (λ places below. ap (λ c. Ok c) (map-map (λ (_ : ℕ). fill) m.to places))
