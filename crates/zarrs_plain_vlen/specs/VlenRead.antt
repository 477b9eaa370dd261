-- What a read in part answers through a plain `vlen`, and the bytes that the answer rests on.
use Rattle.std.specs.Prelude.{ℕ, ◌+◌, ◌-◌, Bool, nat_le, ◌||◌, Option, Some, None, List, [], ◌++◌, length, map, slice_index, Result, Ok}
use Rattle.std.specs.Result.{result_unwrap_or}
use Rattle.std.specs.List.{flat_map, list_all, range_with_len}
use Rattle.zarrs_chunk.specs.Answer.{◌>>=◌, demand, seen}
use Rattle.zarrs_chunk.specs.declared.codec_error.CodecError.{CodecError}
use Rattle.zarrs_chunk.specs.declared.codec_error.CodecError.TheVariants.{InvalidByteRange}
use Rattle.zarrs_data_type.specs.Element.{plain, Chunk}
use Rattle.zarrs_data_type.specs.Form.{form_of}
use Rattle.zarrs_array_bytes.specs.Elements.{cut}
use Rattle.zarrs_bytes.specs.BytesCodec.{bytes_chunk}
use Rattle.zarrs_chain_meaning.specs.vlen.Vlen.{vlen_offsets, vlen_value_parts}
use Rattle.zarrs_chain_meaning.specs.vlen.PlainForm.{PlainForm}
use Rattle.zarrs_chain_meaning.specs.vlen.VlenLayout.{span_numbers, head_of, layout_of, span_bytes}

-- ---- the answer

-- the offsets of so many elements, one more than these, that an index part stands for, or the first error
abbrev pub offsets_read : PlainForm → ℕ → List ℕ → Result (List ℕ) CodecError
offsets_read form = vlen_offsets form.wide (λ sizes type fill. bytes_chunk (Some form.order) (form_of sizes type fill))

-- the element at a place is empty, or ends within so many bytes of data
abbrev pub element_is_there : List ℕ → ℕ → ℕ → Bool
element_is_there offsets size place =
    nat_le (slice_index offsets (place + 1)) (slice_index offsets place) || nat_le (slice_index offsets (place + 1)) size

-- the elements at places, each the data from its offset to the next, where all are there
abbrev pub elements_read : List ℕ → List ℕ → List ℕ → Result Chunk CodecError
elements_read offsets content places = do
  _ ← demand (list_all (element_is_there offsets (length content)) places) InvalidByteRange
  Ok (map (λ place. plain (cut offsets content place)) places)

-- The elements at places of a chunk of so many, by a value's index and the elements' bytes alone; or the first error: of the value's parts; of the index, also where there are no places; of an element that isn't there.
abbrev pub vlen_read : PlainForm → ℕ → List ℕ → List ℕ → Result Chunk CodecError
vlen_read form count value places = do
  parts ← vlen_value_parts form.at_end value
  offsets ← offsets_read form count parts.0
  elements_read offsets parts.1 places

-- ---- what it rests on

-- the numbers of the bytes of the index's length, where a value of so many bytes has them
abbrev pub head_numbers : Bool → ℕ → List ℕ
head_numbers at_end size = result_unwrap_or (seen span_numbers (head_of at_end size)) []

-- the numbers of the bytes of the elements at places, of data that begin at `start`
abbrev pub element_numbers : ℕ → List ℕ → List ℕ → List ℕ
element_numbers start offsets places =
    flat_map (λ place. range_with_len (start + slice_index offsets place) (slice_index offsets (place + 1) - slice_index offsets place)) places

-- the numbers of the bytes of a value that hold the elements at places, where it has offsets
abbrev pub elements_at : PlainForm → ℕ → List ℕ → List ℕ → Result (List ℕ) CodecError
elements_at form count value places = do
  layout ← layout_of form.at_end value
  offsets ← offsets_read form count (span_bytes value layout.index)
  Ok (element_numbers layout.content.start offsets places)

-- The numbers of the bytes that a read of these places rests on: those of the index's length, those of the index and those of the elements; of a value that is rejected, those of the parts that it has.
abbrev pub rests_on : PlainForm → ℕ → List ℕ → List ℕ → List ℕ
rests_on form count value places =
    head_numbers form.at_end (length value)
    ++ (result_unwrap_or (seen (λ layout. span_numbers layout.index) (layout_of form.at_end value)) [] ++ result_unwrap_or (elements_at form count value places) [])

-- the numbers of the bytes that a read of places rests on; none, where nothing is stored
abbrev pub stored_rests_on : PlainForm → ℕ → Option (List ℕ) → List ℕ → List ℕ
stored_rests_on form count None places = []
stored_rests_on form count (Some value) places = rests_on form count value places

-- the elements at places of what is stored, or the first error; none, where nothing is stored
abbrev pub stored_vlen_read : PlainForm → ℕ → Option (List ℕ) → List ℕ → Result (Option Chunk) CodecError
stored_vlen_read form count None places = Ok None
stored_vlen_read form count (Some value) places = do
  chunk ← vlen_read form count value places
  Ok (Some chunk)
