-- What a writer of a chunk leaves over the writer of the moved chunk.
use Rattle.std.specs.Prelude.{◌≡◌, ℕ, ◌<◌, ◌^◌, Bool, Option, List, length, Result, Ok, All}
use Rattle.zarrs_chunk.specs.Answer.{◌>>=◌}
use Rattle.zarrs_chunk.specs.ChunkShape.{product}
use Rattle.zarrs_chunk.specs.Selection.{Selection, tuples_of}
use Rattle.zarrs_chunk.specs.declared.codec_error.CodecError.{CodecError}
use Rattle.zarrs_data_type.specs.Element.{Chunk}
use Rattle.zarrs_data_type.specs.ElementType.{ElementType}
use Rattle.zarrs_array_bytes.specs.Held.{Held}
use Rattle.zarrs_codec.specs.ArrayWriter.{ArrayWriter, mapped_writer}
use Rattle.zarrs_codec.specs.ChunkEdits.{edited_chunk}
use Rattle.zarrs_codec.specs.CoordinateMap.{CoordinateMap, moved_chunk}
use Rattle.zarrs_array_to_array.specs.ArrayToArrayCodec.{ArrayMapping, IsMapping, coordinates}
use Rattle.zarrs_array_to_array.specs.EncodedSelection.{selection_in}

-- Over what is stored, a write of new elements at a selection is an edit of this chunk: it leaves the value of the edited chunk, or the first error. A selection has fewer than 2^64 tuples, as a list in memory has.
abbrev pub EditsChunk : ArrayWriter → List ℕ → ElementType → Option (List ℕ) → Chunk → (Chunk → Result (List ℕ) CodecError) → Type 0
EditsChunk writer sizes type stored chunk value_of =
    (selection : Selection) (new : Held) → length (tuples_of selection) < 2 ^ 64
    → writer.written stored selection new ≡ (edited_chunk sizes type chunk selection new >>= value_of)

-- the writer of a chunk of these sizes over one of the moved chunk
abbrev pub writer_through : ArrayMapping → List ℕ → Bool → ArrayWriter → ArrayWriter
writer_through codec sizes in_part input = mapped_writer (coordinates codec sizes) (selection_in codec sizes) in_part sizes input

-- Over a writer by which a write is an edit of the moved chunk, a write is an edit of the chunk, and leaves the value of the moved one.
abbrev pub WritersEditChunks : Type 0
WritersEditChunks =
    (codec : ArrayMapping) (sizes : List ℕ) (m : CoordinateMap) (in_part : Bool) (input : ArrayWriter) (type : ElementType) (stored : Option (List ℕ)) (chunk : Chunk) (value_of : Chunk → Result (List ℕ) CodecError)
    → IsMapping codec → All (λ size. 0 < size) sizes → coordinates codec sizes ≡ Ok m → length chunk ≡ product sizes
    → EditsChunk input m.encoded type stored (moved_chunk m chunk) value_of → EditsChunk (writer_through codec sizes in_part input) sizes type stored chunk (λ edited. value_of (moved_chunk m edited))
