-- What the calls over a chunk's container return, as chunks.
-- Source: zarrs, `extract_array_subset` and `update_array_bytes`.
use Rattle.std.specs.Prelude.{ℕ, List, length, replicate, Result, Ok}
use Rattle.zarrs_chunk.specs.Answer.{◌>>=◌, demand}
use Rattle.zarrs_chunk.specs.ChunkShape.{product}
use Rattle.zarrs_chunk.specs.Selection.{Selection, places_of}
use Rattle.zarrs_chunk.specs.declared.codec_error.CodecError.{CodecError}
use Rattle.zarrs_chunk.specs.declared.codec_error.CodecError.TheVariants.{InvalidFillValue}
use Rattle.zarrs_data_type.specs.ElementType.{ElementType}
use Rattle.zarrs_data_type.specs.FillValue.{fill_fits}
use Rattle.zarrs_data_type.specs.Element.{Chunk, fill_element}
use Rattle.zarrs_array_bytes.specs.Held.{Held}
use Rattle.zarrs_array_bytes.specs.Elements.{elements, select}
use Rattle.zarrs_array_bytes.specs.Validity.{sizes_fit, validity, data_fit}
use Rattle.zarrs_array_bytes.specs.Update.{update}

-- so many fill elements, or the first error
abbrev pub fill_chunk : ElementType → ℕ → List ℕ → Result Chunk CodecError
fill_chunk type count fill = do
  _ ← demand (fill_fits type fill) InvalidFillValue
  _ ← sizes_fit type count
  Ok (replicate count (fill_element type fill))

-- the elements at these places of a container of so many, or the first error
abbrev pub chunk_at : ElementType → ℕ → List ℕ → Held → Result Chunk CodecError
chunk_at type count places held = do
  _ ← validity type count held
  Ok (select (elements type count held) places)

-- the elements at the selected places of a container, or the first error
abbrev pub selected_chunk : ElementType → List ℕ → Selection → Held → Result Chunk CodecError
selected_chunk type sizes selection held = do
  places ← places_of selection sizes
  chunk_at type (product sizes) places held

-- the old elements have the type and their count, and there is one new element of the type for each place, or the first error
abbrev pub update_fit : ElementType → ℕ → List ℕ → Held → Held → Result (Unit {0}) CodecError
update_fit type count places held new = do
  _ ← validity type count held
  data_fit type (length places) new

-- the chunk with the elements at these places replaced by the new ones, or the first error
abbrev pub update_at_places : ElementType → ℕ → List ℕ → Held → Held → Result Chunk CodecError
update_at_places type count places held new = do
  _ ← update_fit type count places held new
  Ok (update (elements type count held) places (elements type (length places) new))

-- the chunk with the elements at the selected places replaced by the new ones, or the first error
abbrev pub chunk_update : ElementType → List ℕ → Selection → Held → Held → Result Chunk CodecError
chunk_update type sizes selection held new = do
  places ← places_of selection sizes
  update_at_places type (product sizes) places held new
