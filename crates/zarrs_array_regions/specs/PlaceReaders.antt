-- What answers the elements at places, in any order of the places.
use Rattle.std.specs.Prelude.{◌≡◌, ℕ, List, length, map, get_or, Result}
use Rattle.std.specs.List.{range_with_len}
use Rattle.zarrs_chunk.specs.Answer.{seen}
use Rattle.zarrs_chunk.specs.ChunkShape.{product}
use Rattle.zarrs_chunk.specs.declared.codec_error.CodecError.{CodecError}
use Rattle.zarrs_data_type.specs.Element.{Chunk}
use Rattle.zarrs_codec.specs.CoordinateMap.{CoordinateMap, IsCoordinateMap, inverse_map, moved_chunk}

-- Items in another order, by a map of chunks of these lengths: where the map goes from a place, the item there. Past the end it is this one.
abbrev pub brought_back : {A : Type 0} → List ℕ → CoordinateMap → A → List A → List A
brought_back lengths part default items = map (λ index. get_or items (part.to index) default) (range_with_len 0 (product lengths))

-- items in the order to which the map takes them
abbrev pub taken_along : {A : Type 0} → List ℕ → CoordinateMap → A → List A → List A
taken_along lengths part default items = map (λ index. get_or items (part.from index) default) (range_with_len 0 (product lengths))

-- Of places in another order the elements are returned in that order, or the same error.
pub record ReadsInAnyOrder (read : List ℕ → Result Chunk CodecError) : Type 0 where
  pub moved : (lengths : List ℕ) (part : CoordinateMap) (places : List ℕ) → IsCoordinateMap lengths part → length places ≡ product lengths
      → read (brought_back lengths part 0 places) ≡ seen (moved_chunk (inverse_map lengths part)) (read places)
