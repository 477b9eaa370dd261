-- The places of a selection in a moved chunk.
use Rattle.std.specs.Prelude.{◌≡◌, ℕ, List, length, map, Result, Ok, IfOk, IsOkAnd}
use Rattle.zarrs_chunk.specs.Answer.{◌>>=◌, Gives}
use Rattle.zarrs_chunk.specs.Indexer.{selection_of}
use Rattle.zarrs_chunk.specs.Selection.{Selection, tuples_of, bounds_of, len_of}
use Rattle.zarrs_chunk.specs.Tuples.{row_major}
use Rattle.zarrs_chunk.specs.declared.codec_error.CodecError.{CodecError}
use Rattle.zarrs_chunk.specs.declared.indexer.Indexer.{Indexer}
use Rattle.zarrs_codec.specs.CoordinateMap.{CoordinateMap}

-- The second selection, of the moved chunk, lies inside it, and selects there, in the same order, the elements that the first one selects of the decoded chunk.
pub record IsImage (sizes : List ℕ) (m : CoordinateMap) (selection image : Selection) : Type 0 where
  pub inside : bounds_of image m.encoded ≡ Ok tt
  pub places : map (row_major m.encoded) (tuples_of image) ≡ map m.to (map (row_major sizes) (tuples_of selection))

-- What is asked for of a moved chunk, or the first error: the selection's bounds, then the codec's, then the count of elements.
abbrev pub image_of : Result CoordinateMap CodecError → (List ℕ → Selection → Selection) → List ℕ → Selection → Result Selection CodecError
image_of coordinates asked sizes selection = do
  _ ← bounds_of selection sizes
  m ← coordinates
  _ ← len_of selection
  Ok (asked m.encoded selection)

-- the image by what a codec does, where it does it
abbrev pub IsImageBy : Result CoordinateMap CodecError → List ℕ → Selection → Selection → Type 0
IsImageBy coordinates sizes selection image = IsOkAnd coordinates (λ m. IsImage sizes m selection image)

-- The answer is the indexer of what is asked for of the moved chunk, or the first error.
abbrev pub AsksImage : (List ℕ → Result CoordinateMap CodecError) → (List ℕ → List ℕ → Selection → Selection) → List ℕ → Indexer → Result Indexer CodecError → Type 0
AsksImage coordinates asked sizes indexer result =
    Gives selection_of result (image_of (coordinates sizes) (asked sizes) sizes (selection_of indexer))

-- the indexer that is answered selects of the moved chunk, in the same order, the elements that the given one selects
abbrev pub KeepsPlaces : (List ℕ → Result CoordinateMap CodecError) → List ℕ → Indexer → Result Indexer CodecError → Type 0
KeepsPlaces coordinates sizes indexer result =
    IfOk result (λ encoded. IsImageBy (coordinates sizes) sizes (selection_of indexer) (selection_of encoded))

-- each selection that is made of another one has as many tuples
abbrev pub KeepsCount : (Selection → Result Selection CodecError) → Type 0
KeepsCount made = (selection image : Selection) → made selection ≡ Ok image → length (tuples_of image) ≡ length (tuples_of selection)
