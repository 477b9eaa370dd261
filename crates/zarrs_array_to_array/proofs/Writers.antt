-- What a writer leaves over the writer of a moved chunk.
use Rattle.std.proofs.Common.{◌≡◌, ℕ, ◌<◌, ◌^◌, Bool, Option, List, length, map, Result, Ok, Err, refl, ap, sym, ◌∙◌}
use Rattle.std.specs.List.{All}
use Rattle.std.proofs.lemmas.List.{length-map}
use Rattle.zarrs_chunk.specs.Answer.{◌>>=◌}
use Rattle.zarrs_chunk.specs.ChunkShape.{product}
use Rattle.zarrs_chunk.specs.Selection.{Selection, tuples_of, bounds_of, places_of}
use Rattle.zarrs_chunk.specs.declared.codec_error.CodecError.{CodecError}
use Rattle.zarrs_data_type.specs.Element.{Chunk}
use Rattle.zarrs_data_type.specs.ElementType.{ElementType}
use Rattle.zarrs_array_bytes.specs.Elements.{elements}
use Rattle.zarrs_array_bytes.specs.Held.{Held}
use Rattle.zarrs_array_bytes.specs.Update.{update}
use Rattle.zarrs_array_bytes.specs.Validity.{data_fit}
use Rattle.zarrs_codec.specs.ArrayWriter.{ArrayWriter}
use Rattle.zarrs_codec.specs.ChunkEdits.{edited_chunk, with_elements}
use Rattle.zarrs_codec.specs.CoordinateMap.{CoordinateMap, moved_chunk}
use Rattle.zarrs_codec.specs.MappedSelection.{IsImage, image_of}
use Rattle.zarrs_array_to_array.specs.ArrayToArrayCodec.{ArrayMapping, IsMapping, coordinates}
use Rattle.zarrs_array_to_array.specs.EncodedSelection.{selection_in}
use Rattle.zarrs_array_to_array.specs.WriterLaws.{EditsChunk, writer_through}
use Rattle.zarrs_array_to_array.proofs.Chains.{codec_map}
use Rattle.zarrs_array_to_array.proofs.CoordinateMaps.{moved_update}
use Rattle.zarrs_array_to_array.proofs.Readers.{codec_image, image_few, image_is, image_places, where_known}

-- what is left of an edit, by its places
abbrev left_at : ElementType → Chunk → Held → (Chunk → Result (List ℕ) CodecError) → List ℕ → Result (List ℕ) CodecError
left_at type chunk new value_of places = data_fit type (length places) new >>= λ _. value_of (with_elements type chunk places new)

edit_left : (sizes : List ℕ) (type : ElementType) (chunk : Chunk) (selection : Selection) (new : Held) (value_of : Chunk → Result (List ℕ) CodecError) → (edited_chunk sizes type chunk selection new >>= value_of) ≡ (places_of selection sizes >>= left_at type chunk new value_of)
edit_left sizes type chunk selection new value_of = go (places_of selection sizes)
  where
    fits : (places : List ℕ) (fit : Result (Unit {0}) CodecError) → (((fit >>= λ _. Ok places) >>= λ at. Ok (with_elements type chunk at new)) >>= value_of) ≡ (fit >>= λ _. value_of (with_elements type chunk places new))
    fits places (Ok u) = refl
    fits places (Err e) = refl

    go : (at : Result (List ℕ) CodecError) → (((at >>= λ places. data_fit type (length places) new >>= λ _. Ok places) >>= λ places. Ok (with_elements type chunk places new)) >>= value_of) ≡ (at >>= left_at type chunk new value_of)
    go (Ok places) = fits places (data_fit type (length places) new)
    go (Err e) = refl

module _ (codec : ArrayMapping) (sizes : List ℕ) (m : CoordinateMap) (is : IsMapping codec) (positive : All (λ size. 0 < size) sizes) (takes : coordinates codec sizes ≡ Ok m) where
  -- an edit of the moved chunk at the places where they go is the edit of the chunk
  left_moved : (type : ElementType) (chunk : Chunk) (new : Held) (value_of : Chunk → Result (List ℕ) CodecError) → length chunk ≡ product sizes → (places : List ℕ) → All (λ place. place < product sizes) places
      → left_at type (moved_chunk m chunk) new value_of (map m.to places) ≡ left_at type chunk new (λ edited. value_of (moved_chunk m edited)) places
  left_moved type chunk new value_of count places below =
      let moved : moved_chunk m (with_elements type chunk places new) ≡ update (moved_chunk m chunk) (map m.to places) (elements type (length places) new)
      = moved_update sizes m chunk places (elements type (length places) new) (codec_map codec sizes m is positive takes) count below in
      ap (λ n. data_fit type n new >>= λ _. value_of (update (moved_chunk m chunk) (map m.to places) (elements type n new))) (length-map places m.to)
      ∙ ap (λ edited. data_fit type (length places) new >>= λ _. value_of edited) (sym moved)

  pub chunk_edited : (in_part : Bool) (input : ArrayWriter) (type : ElementType) (stored : Option (List ℕ)) (chunk : Chunk) (value_of : Chunk → Result (List ℕ) CodecError) → length chunk ≡ product sizes → EditsChunk input m.encoded type stored (moved_chunk m chunk) value_of
      → EditsChunk (writer_through codec sizes in_part input) sizes type stored chunk (λ edited. value_of (moved_chunk m edited))
  chunk_edited in_part input type stored chunk value_of count by = λ selection new few. go selection new few (bounds_of selection sizes) refl
    where
      go : (selection : Selection) (new : Held) → length (tuples_of selection) < 2 ^ 64 → (bounds : Result (Unit {0}) CodecError) → bounds_of selection sizes ≡ bounds
          → (image_of (coordinates codec sizes) (selection_in codec sizes) sizes selection >>= λ image. input.written stored image new) ≡ (edited_chunk sizes type chunk selection new >>= λ edited. value_of (moved_chunk m edited))
      go selection new few (Err e) refused = rw refused refl
      go selection new few (Ok u) inside =
          let image = selection_in codec sizes m.encoded selection in
          let at : IsImage sizes m selection image = codec_image codec sizes m selection is takes inside in
          let moved_value : Chunk → Result (List ℕ) CodecError = λ edited. value_of (moved_chunk m edited) in
          ap (λ asked. asked >>= λ image. input.written stored image new) (image_is codec sizes m is positive takes selection inside few)
          ∙ by image new (image_few codec sizes m is positive takes selection image at few)
          ∙ edit_left m.encoded type (moved_chunk m chunk) image new value_of
          ∙ image_places codec sizes m is positive takes selection image (left_at type (moved_chunk m chunk) new value_of) inside at
          ∙ where_known codec sizes m is positive takes selection (λ places. left_at type (moved_chunk m chunk) new value_of (map m.to places)) (left_at type chunk new moved_value) (λ places below. left_moved type chunk new value_of count places below)
          ∙ sym (edit_left sizes type chunk selection new moved_value)
