-- What is due to a call that writes a chunk in part.
use Rattle.std.specs.Prelude.{ℕ, List, length, Option, Some, Result}
use Rattle.zarrs_chunk.specs.Answer.{◌>>=◌, seen}
use Rattle.zarrs_chunk.specs.Indexer.{selection_of}
use Rattle.zarrs_chunk.specs.declared.indexer.Indexer.{Indexer}
use Rattle.zarrs_chunk.specs.Selection.{Selection}
use Rattle.zarrs_chunk.specs.declared.codec_error.CodecError.{CodecError}
use Rattle.zarrs_array_bytes.specs.Held.{Held}
use Rattle.zarrs_json.specs.KnownBytesCodec.{known_codecs}
use Rattle.zarrs_json.specs.declared.header.ChunkHeader.{ChunkHeader}
use Rattle.zarrs_codecs.specs.MadeCoder.{made_written}
use Rattle.zarrs_json.specs.Header.{HeaderForm, Header, header_form}
use Rattle.zarrs_c_calls.specs.Buffers.{Buffers, buffers}
use Rattle.zarrs_c_calls.specs.Codes.{cause_memory, codec_call_answer}
use Rattle.zarrs_c_calls.specs.Given.{elements_given}
use Rattle.zarrs_c_calls.specs.Reads.{form_seen}
use Rattle.zarrs_c_calls.specs.Selections.{selection_given}
use Rattle.zarrs_c_calls.specs.Written.{WritesDue}
use Rattle.zarrs_c_calls.specs.declared.cause.Cause.{Cause}
use Rattle.zarrs_c_calls.specs.declared.part_writes.Edit.{Edit}
use Rattle.zarrs_c_calls.specs.declared.written.Written.{Written}

-- the value that new elements at a selection leave of what is stored, by an encoder that is made for it: errors of its construction come first, then those of the selection, then those of the new elements
abbrev pub known_written : HeaderForm → Option (List ℕ) → Selection → Held → Result (List ℕ) CodecError
known_written form stored selection new = made_written known_codecs form stored selection new

-- what the new elements that cross leave of the chunk of a header that was read
abbrev pub header_written : Header → Option (List ℕ) → ℕ → List ℕ → Buffers → Result (List ℕ) Cause
header_written header stored tuples numbers elements = do
  selection ← selection_given (length header.sizes) tuples numbers
  new ← elements_given header.data_type elements
  codec_call_answer (known_written (header_form header) stored selection new)

-- what is due to a write in part of a header's chunk: the value that new elements at a selection leave, or the first error
abbrev pub part_written : Result Header Cause → Option (List ℕ) → ℕ → List ℕ → Buffers → Result (List ℕ) Cause
part_written given_header stored tuples numbers elements = do
  header ← given_header
  header_written header stored tuples numbers elements

-- the value that is due of a write through an encoder that is made for it, or the first error
abbrev pub write_due : ChunkHeader → Option (List ℕ) → Indexer → Held → Result (List ℕ) CodecError
write_due form stored indexer new = known_written (form_seen form) stored (selection_of indexer) new

-- the same, as what is stored afterwards
abbrev pub stored_due : ChunkHeader → Option (List ℕ) → Indexer → Held → Result (Option (List ℕ)) CodecError
stored_due form stored indexer new = seen Some (write_due form stored indexer new)

-- the value that an edit leaves of what is stored is written
abbrev pub WritesEdit : Result Header Cause → Option (List ℕ) → Edit → (old new apart : List ℕ) → Result Written Cause → Type 0
WritesEdit given_header stored edit old new apart result =
    WritesDue cause_memory (part_written given_header stored edit.tuples edit.numbers.now (buffers edit.masks.now edit.offsets.now edit.bytes.now)) old new apart result
