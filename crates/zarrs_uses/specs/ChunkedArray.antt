-- An array that chunks of one shape make, one behind another along the first axis.
use Rattle.std.specs.Prelude.{◌≡◌, ℕ, ◌-◌, ◌*◌, ◌/◌, ◌%◌, ◌^◌, ◌<◌, ◌≤◌, true, List, [], ◌∷◌, ◌++◌, length, map, get_or, Result, Ok}
use Rattle.zarrs_codecs.specs.Answer.{◌>>=◌, AnswersBy, checked_u64, demand, memory_or_fault, seen}
use Rattle.zarrs_codecs.specs.ChunkShape.{product}
use Rattle.zarrs_codecs.specs.Region.{Region}
use Rattle.zarrs_codecs.specs.Selection.{Selection, subset, len_of, places_of}
use Rattle.zarrs_codecs.specs.Tuples.{row_major, box_tuples, is_box_inside}
use Rattle.zarrs_codecs.specs.CodecError.{CodecError}
use Rattle.zarrs_codecs.specs.CodecError.TheVariants.{InvalidFillValue}
use Rattle.zarrs_codecs.specs.Element.{Element, absent, Chunk}
use Rattle.zarrs_codecs.specs.ElementType.{ElementType}
use Rattle.zarrs_codecs.specs.FillValue.{fill_fits}
use Rattle.zarrs_codecs.specs.Form.{Form}
use Rattle.zarrs_codecs.specs.Elements.{elements, select}
use Rattle.zarrs_codecs.specs.Held.{Held}
use Rattle.zarrs_codecs.specs.Validity.{Holds}
use Rattle.zarrs_codecs.specs.ArrayReader.{ArrayReader}

-- The element of the array at an index tuple: that of the chunk in which the tuple's row lies, at the row that it is there.
abbrev pub array_element : List ℕ → List Chunk → List ℕ → Element
array_element (rows ∷ sizes) chunks (row ∷ tuple) =
    get_or (get_or chunks (row / rows) []) (row_major (rows ∷ sizes) ((row % rows) ∷ tuple)) absent
array_element _ chunks _ = absent

-- The elements of a region of the array, in row-major order; or the first error: that of the fill value, `Overflow` where 64 bits don't count those of a chunk, or these.
abbrev pub array_region : Form → List Chunk → Region → Result Chunk CodecError
array_region form chunks region = do
  _ ← checked_u64 (product form.sizes)
  _ ← len_of (subset region)
  _ ← demand (fill_fits form.type form.fill) InvalidFillValue
  Ok (map (array_element form.sizes chunks) (box_tuples region.starts region.lengths))

-- A reader reads the selections of a chunk: it answers the chunk's elements at the places of each selection, or the selection's error.
abbrev pub ReadsSelections : List ℕ → ArrayReader → Chunk → Type 0
ReadsSelections sizes reader chunk =
    (selection : Selection) → reader.answer selection ≡ seen (select chunk) (places_of selection sizes)

-- there is a reader for each chunk, in order, and reads it
pub record ReadChunks (sizes : List ℕ) (readers : List ArrayReader) (chunks : List Chunk) : Type 0 where
  pub count_is : length readers ≡ length chunks
  pub each : (number : ℕ) (default : ArrayReader) → number < length chunks → ReadsSelections sizes (get_or readers number default) (get_or chunks number [])

-- Of whatever chunks the readers read, a container of the region's elements is answered where the region lies inside the array: an axis of so many rows as all chunks have, and then their other axes. Only lack of memory or a failure of a handle may come in its place.
abbrev pub ReadsRegion : List ArrayReader → Form → Region → Result Held CodecError → Type 0
ReadsRegion readers form region result =
    (rows : ℕ) (sizes : List ℕ) (chunks : List Chunk) → form.sizes ≡ rows ∷ sizes → ReadChunks form.sizes readers chunks
    → is_box_inside ((length chunks * rows) ∷ sizes) region.starts region.lengths ≡ true
    → AnswersBy memory_or_fault (Holds form.type) result (array_region form chunks region)

-- The same of the rows of a box from `start` to `end`, of chunks that have so many rows each.
abbrev pub ReadsRows : List ArrayReader → ElementType → ℕ → (start end : ℕ) → (starts lengths : List ℕ) → Result Held CodecError → Type 0
ReadsRows readers type rows start end starts lengths result =
    (sizes : List ℕ) (chunks : List Chunk) → ReadChunks (rows ∷ sizes) readers chunks → product (rows ∷ sizes) < 2 ^ 64 → is_box_inside sizes starts lengths ≡ true → end ≤ length chunks * rows
    → AnswersBy memory_or_fault (Holds type) result (Ok (map (array_element (rows ∷ sizes) chunks) (box_tuples (start ∷ starts) ((end - start) ∷ lengths))))

-- What a reader answers of a part was put behind so many elements of a container, or the first error is returned. Only lack of memory or a failure of the handle may come in its place.
abbrev pub AppendsPart : ElementType → ℕ → Held → Result Chunk CodecError → Result Held CodecError → Type 0
AppendsPart type done joined answer result =
    AnswersBy memory_or_fault (Holds type) result (seen (λ chunk. elements type done joined ++ chunk) answer)

-- The same of the part of the reader with this number, where there is one.
abbrev pub AppendsFrom : List ArrayReader → ℕ → Region → ElementType → ℕ → Held → Result Held CodecError → Type 0
AppendsFrom readers number part type done joined result =
    (default : ArrayReader) → number < length readers → AppendsPart type done joined ((get_or readers number default).answer (subset part)) result
