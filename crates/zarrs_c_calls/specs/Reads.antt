-- What is due to a call that reads a chunk in part.
use Rattle.std.specs.Prelude.{ℕ, Bool, if◌then◌else◌, List, length, Option, Some, None, Result, Ok}
use Rattle.std.specs.Option.{option_map}
use Rattle.std.proofs.Common.{Bor}
use Rattle.zarrs_chunk.specs.Answer.{◌>>=◌, AnswersBy}
use Rattle.zarrs_chunk.specs.Selection.{Selection}
use Rattle.zarrs_chunk.specs.declared.codec_error.CodecError.{CodecError}
use Rattle.zarrs_chunk.specs.Indexer.{selection_of}
use Rattle.zarrs_chunk.specs.declared.indexer.Indexer.{Indexer}
use Rattle.zarrs_data_type.specs.Element.{Chunk}
use Rattle.zarrs_array_bytes.specs.Held.{Held}
use Rattle.zarrs_array_bytes.specs.Validity.{Holds}
use Rattle.zarrs_json.specs.KnownBytesCodec.{known_codecs, known_reads}
use Rattle.zarrs_codecs.specs.MadeCoder.{made_read}
use Rattle.zarrs_json.specs.Header.{HeaderForm, Header, header_form}
use Rattle.zarrs_json.specs.HeaderRead.{header_seen}
use Rattle.zarrs_json.specs.declared.header.ChunkHeader.{ChunkHeader}
use Rattle.zarrs_c_calls.specs.Codes.{codec_call_answer}
use Rattle.zarrs_c_calls.specs.Selections.{selection_given}
use Rattle.zarrs_c_calls.specs.Told.{Elements}
use Rattle.zarrs_c_calls.specs.declared.cause.Cause.{Cause}

-- what is stored: these bytes, or nothing
abbrev pub stored_value : Bool → List ℕ → Option (List ℕ)
stored_value is_stored value = if is_stored then Some value else None

-- the value that is lent, or none
abbrev pub lent_stored : Option (Bor (List ℕ)) → Option (List ℕ)
lent_stored stored = option_map (λ value. value.now) stored

-- the form of the chunks of a header that was read
abbrev pub form_seen : ChunkHeader → HeaderForm
form_seen form = header_form (header_seen form)

-- the elements that a selection selects of what is stored, by a decoder that is made for it
abbrev pub form_read : HeaderForm → Option (List ℕ) → Selection → Result Chunk CodecError
form_read form stored selection = made_read known_codecs known_reads form stored selection

-- those of the chunk of a header that was read
abbrev pub header_read : Header → Option (List ℕ) → ℕ → List ℕ → Result Elements Cause
header_read header stored tuples numbers = do
  selection ← selection_given (length header.sizes) tuples numbers
  chunk ← codec_call_answer (form_read (header_form header) stored selection)
  Ok (header.data_type, chunk)

-- what is due to a read in part of a header's chunk: the selected elements, or the first error
abbrev pub part_read : Result Header Cause → Option (List ℕ) → ℕ → List ℕ → Result Elements Cause
part_read given_header stored tuples numbers = do
  header ← given_header
  header_read header stored tuples numbers

-- a read of what is stored answers the elements that are due; what `excuse` names may come at any time
abbrev pub ReadsForm : (CodecError → Bool) → ChunkHeader → Option (List ℕ) → Indexer → Result Held CodecError → Type 0
ReadsForm excuse form stored indexer result =
    AnswersBy excuse (Holds (header_seen form).data_type) result (form_read (form_seen form) stored (selection_of indexer))
