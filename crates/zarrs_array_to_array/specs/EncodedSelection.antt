-- Which elements of a moved chunk are those that are selected of the decoded one.
use Rattle.std.specs.Prelude.{ℕ, List, Result}
use Rattle.zarrs_chunk.specs.Selection.{Selection}
use Rattle.zarrs_chunk.specs.declared.codec_error.CodecError.{CodecError}
use Rattle.zarrs_chunk.specs.declared.indexer.Indexer.{Indexer}
use Rattle.zarrs_codec.specs.MappedSelection.{AsksImage, KeepsPlaces}
use Rattle.zarrs_array_to_array.specs.ArrayToArrayCodec.{ArrayMapping, array_meaning, coordinates}

-- what a codec asks for of a chunk of the encoded sizes
abbrev pub selection_in : ArrayMapping → List ℕ → List ℕ → Selection → Selection
selection_in codec sizes encoded selection = (array_meaning codec).asked sizes encoded selection

-- the answer is the indexer of what the codec asks for of the moved chunk, or the first error
abbrev pub MovesIndexer : ArrayMapping → List ℕ → Indexer → Result Indexer CodecError → Type 0
MovesIndexer codec sizes indexer result = AsksImage (coordinates codec) (selection_in codec) sizes indexer result

-- the indexer that is returned selects of the moved chunk, in the same order, the elements that the given one selects
abbrev pub MovesPlaces : ArrayMapping → List ℕ → Indexer → Result Indexer CodecError → Type 0
MovesPlaces codec sizes indexer result = KeepsPlaces (coordinates codec) sizes indexer result
