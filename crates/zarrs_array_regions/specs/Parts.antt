-- What one codec does to the elements of a region, at the region's own lengths.
use Rattle.std.specs.Prelude.{Result, Ok}
use Rattle.zarrs_chunk.specs.Answer.{GivesBy}
use Rattle.zarrs_chunk.specs.ChunkShape.{product}
use Rattle.zarrs_chunk.specs.Region.{Region}
use Rattle.zarrs_chunk.specs.declared.codec_error.CodecError.{CodecError}
use Rattle.zarrs_data_type.specs.Element.{Chunk}
use Rattle.zarrs_data_type.specs.ElementType.{ElementType}
use Rattle.zarrs_array_bytes.specs.Elements.{elements}
use Rattle.zarrs_array_bytes.specs.Held.{Held}
use Rattle.zarrs_array_bytes.specs.Validity.{Holds}
use Rattle.zarrs_array_to_array.specs.ArrayToArrayCodec.{ArrayMapping}
use Rattle.zarrs_array_to_array.specs.EncodedBoxes.{FitsBox, box_decoded, box_encoded}

-- the codec accepts the region as a chunk of its own lengths, where places don't stay
abbrev pub FitsRegion : ArrayMapping → Region → Type 0
FitsRegion codec region = FitsBox codec region.lengths

-- the elements that a container has for a region
abbrev pub held_elements : ElementType → Region → Held → Chunk
held_elements type region held = elements type (product region.lengths) held

-- the region's elements, from those of the window behind the codec
abbrev pub part_decoded : ArrayMapping → ElementType → Region → Held → Chunk
part_decoded codec type region held = box_decoded codec region.lengths (held_elements type region held)

-- the elements of the window behind the codec, from the region's
abbrev pub part_encoded : ArrayMapping → ElementType → Region → Held → Chunk
part_encoded codec type region held = box_encoded codec region.lengths (held_elements type region held)

-- what is given is a container of them
abbrev pub EncodesPart : ArrayMapping → ElementType → Region → Held → Result Held CodecError → Type 0
EncodesPart codec type region held result = GivesBy (Holds type) result (Ok (part_encoded codec type region held))
