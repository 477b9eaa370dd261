-- New elements at the places of a selection of a chunk.
use Rattle.std.specs.Prelude.{ℕ, List, length, Result, Ok}
use Rattle.zarrs_chunk.specs.Answer.{◌>>=◌, seen}
use Rattle.zarrs_chunk.specs.Selection.{Selection, places_of}
use Rattle.zarrs_chunk.specs.declared.codec_error.CodecError.{CodecError}
use Rattle.zarrs_data_type.specs.Element.{Chunk}
use Rattle.zarrs_data_type.specs.ElementType.{ElementType}
use Rattle.zarrs_array_bytes.specs.Elements.{elements}
use Rattle.zarrs_array_bytes.specs.Held.{Held}
use Rattle.zarrs_array_bytes.specs.Update.{update}
use Rattle.zarrs_array_bytes.specs.Validity.{data_fit}

-- the places of a selection, where there is one new element for each, or the first error
abbrev pub data_places : List ℕ → ElementType → Selection → Held → Result (List ℕ) CodecError
data_places sizes type selection new = do
  places ← places_of selection sizes
  _ ← data_fit type (length places) new
  Ok places

-- that there is one new element for each place of a selection, or the first error
abbrev pub data_checked : List ℕ → ElementType → Selection → Held → Result (Unit {0}) CodecError
data_checked sizes type selection new = seen (λ _. tt) (data_places sizes type selection new)

-- the chunk with the elements at these places replaced by the new ones, one after another
abbrev pub with_elements : ElementType → Chunk → List ℕ → Held → Chunk
with_elements type chunk places new = update chunk places (elements type (length places) new)

-- the chunk with new elements at a selection, or the first error
abbrev pub edited_chunk : List ℕ → ElementType → Chunk → Selection → Held → Result Chunk CodecError
edited_chunk sizes type chunk selection new = do
  places ← data_places sizes type selection new
  Ok (with_elements type chunk places new)
