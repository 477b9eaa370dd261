-- What a read in part answers of what is stored.
use Rattle.std.specs.Prelude.{ℕ, Option, Some, None, List, map, Result, Ok}
use Rattle.zarrs_chunk.specs.Answer.{◌>>=◌}
use Rattle.zarrs_chunk.specs.ChunkShape.{product}
use Rattle.zarrs_chunk.specs.Selection.{Selection, places_of}
use Rattle.zarrs_chunk.specs.declared.codec_error.CodecError.{CodecError}
use Rattle.zarrs_data_type.specs.Element.{Chunk, fill_element}
use Rattle.zarrs_data_type.specs.ElementType.{ElementType}
use Rattle.zarrs_chain_meaning.specs.vlen.PlainForm.{PlainForm}
use Rattle.zarrs_plain_vlen.specs.VlenRead.{vlen_read}

-- the elements at places of what is stored, or the first error; the fill element at each place, where nothing is stored
abbrev pub plain_read : PlainForm → ℕ → ElementType → List ℕ → Option (List ℕ) → List ℕ → Result Chunk CodecError
plain_read form count type fill None places = Ok (map (λ _. fill_element type fill) places)
plain_read form count type fill (Some value) places = vlen_read form count value places

-- the elements that a selection selects, in its order, of what is stored, or the first error: the selection's; the value's
abbrev pub plain_part : PlainForm → List ℕ → ElementType → List ℕ → Option (List ℕ) → Selection → Result Chunk CodecError
plain_part form sizes type fill stored selection = do
  places ← places_of selection sizes
  plain_read form (product sizes) type fill stored places
