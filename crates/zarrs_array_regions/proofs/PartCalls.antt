-- The elements of a region, moved by one codec as a chunk of the region's own lengths.
use Rattle.std.proofs.Common.{◌≡◌, ℕ, true, List, Result, Ok, refl, subst}
use Rattle.zarrs_array_bytes.specs.Elements.{elements}
use Rattle.zarrs_array_bytes.specs.Held.{Held}
use Rattle.zarrs_array_bytes.specs.Validity.{Holds, validity}
use Rattle.zarrs_chunk.specs.Answer.{GivesBy}
use Rattle.zarrs_chunk.specs.ChunkShape.{product}
use Rattle.zarrs_chunk.specs.Region.{Region}
use Rattle.zarrs_chunk.specs.declared.codec_error.CodecError.{CodecError}
use Rattle.zarrs_data_type.specs.ElementType.{ElementType}
use Rattle.zarrs_array_to_array.specs.ArrayToArrayCodec.{ArrayMapping, keeps_places}
use Rattle.zarrs_array_to_array.specs.EncodedBoxes.{box_encoded}
use Rattle.zarrs_array_to_array.proofs.MappedChunks.{holds_elements}
use Rattle.zarrs_array_regions.specs.Parts.{EncodesPart, part_decoded}

-- where places stay, a container is handed on
pub decoded_kept : (codec : ArrayMapping) (type : ElementType) (region : Region) (held : Held) → keeps_places codec ≡ true → validity type (product region.lengths) held ≡ Ok tt → GivesBy (Holds type) (Ok held) (Ok (part_decoded codec type region held))
decoded_kept codec type region held keeps valid = rw keeps (record { is = holds_elements type (product region.lengths) held valid; no_fault = refl })

-- the encoded elements of a box are those of the region that has these lengths and as many elements
pub encoded_part_is : (codec : ArrayMapping) (type : ElementType) (region : Region) (held : Held) (lengths : List ℕ) (count : ℕ) (result : Result Held CodecError) → lengths ≡ region.lengths → count ≡ product region.lengths
    → GivesBy (Holds type) result (Ok (box_encoded codec lengths (elements type count held))) → EncodesPart codec type region held result
encoded_part_is codec type region held lengths count result l n h =
    subst (λ xs. GivesBy (Holds type) result (Ok (box_encoded codec xs (elements type (product region.lengths) held)))) l
    (subst (λ k. GivesBy (Holds type) result (Ok (box_encoded codec lengths (elements type k held)))) n h)
