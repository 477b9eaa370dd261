-- Where boxes of a chunk go through one codec, and what becomes of their elements.
use Rattle.std.specs.Prelude.{◌≡◌, ℕ, Bool, false, is_some, option_map, List, Option, Ok, if◌then◌else◌}
use Rattle.zarrs_array_to_array.specs.ArrayToArrayCodec.{ArrayMapping, array_meaning, coordinates, keeps_places}
use Rattle.zarrs_chunk.specs.Region.{Region}
use Rattle.zarrs_codec.specs.CoordinateMap.{CoordinateMap, inverse_map, moved_chunk}
use Rattle.zarrs_data_type.specs.Element.{Chunk}

-- the codec takes each box of a chunk to a box of the moved one
abbrev pub keeps_boxes : ArrayMapping → Bool
keeps_boxes codec = is_some (array_meaning codec).boxes

-- the sizes of the moved chunk, and where a box of a chunk of these sizes goes in it; none where the codec makes no boxes of boxes
abbrev pub encoded_box : ArrayMapping → List ℕ → Region → Option (List ℕ × Region)
encoded_box codec sizes region = option_map (λ boxes. boxes sizes region) (array_meaning codec).boxes

-- what a codec by which places don't stay does to the elements of a box of these lengths, as a chunk of its own
abbrev pub part_moves : ArrayMapping → List ℕ → CoordinateMap
part_moves codec lengths = (array_meaning codec).part lengths

-- where places don't stay, the codec accepts a box of these lengths as a chunk of its own
abbrev pub FitsBox : ArrayMapping → List ℕ → Type 0
FitsBox codec lengths = keeps_places codec ≡ false → coordinates codec lengths ≡ Ok (part_moves codec lengths)

-- the elements of a box of these lengths as the codec moves them
abbrev pub box_encoded : ArrayMapping → List ℕ → Chunk → Chunk
box_encoded codec lengths chunk = if keeps_places codec then chunk else moved_chunk (part_moves codec lengths) chunk

-- and as it moves them back
abbrev pub box_decoded : ArrayMapping → List ℕ → Chunk → Chunk
box_decoded codec lengths chunk =
    if keeps_places codec then chunk else moved_chunk (inverse_map lengths (part_moves codec lengths)) chunk
