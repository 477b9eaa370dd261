-- What edits of a caller's own value give, before it is returned to C.
use Rattle.std.specs.Prelude.{◌≡◌, ℕ, suc, true, List, length, Some, IfNone, IfSome, OnErr, Result, Ok, Err}
use Rattle.zarrs_chunk.specs.Answer.{Answers, Excused, seen}
use Rattle.zarrs_json.specs.KnownBytesCodec.{known_codecs}
use Rattle.zarrs_chain_meaning.specs.CodecMeaning.{chain_representation}
use Rattle.zarrs_codecs.specs.PartialEncoder.{encoder_handle}
use Rattle.zarrs_codecs.specs.declared.partial_encoder.array_partial_encoder.ArrayPartialEncoder.{ArrayPartialEncoder}
use Rattle.zarrs_json.specs.Header.{Header}
use Rattle.zarrs_json.specs.HeaderRead.{header_seen}
use Rattle.zarrs_json.specs.declared.header.ChunkHeader.{ChunkHeader}
use Rattle.zarrs_c_calls.specs.BufferHandle.{buffer_bytes}
use Rattle.zarrs_c_calls.specs.Buffers.{buffers}
use Rattle.zarrs_c_calls.specs.Codes.{cause_memory}
use Rattle.zarrs_c_calls.specs.Edits.{HasEdits, all_are_taken, edited, edits_left}
use Rattle.zarrs_c_calls.specs.Writes.{header_written}
use Rattle.zarrs_c_calls.specs.declared.buffer_handle.BufferHandle.{BufferHandle}
use Rattle.zarrs_c_calls.specs.declared.cause.Cause.{Cause}
use Rattle.zarrs_c_calls.specs.declared.edits.Edits.{Edits}
use Rattle.zarrs_c_calls.specs.declared.edits.EditsOutcome.{EditsOutcome}
use Rattle.zarrs_c_calls.specs.declared.part_writes.Edit.{Edit}

-- the buffer that an encoder writes
abbrev pub buffer_of : {B : Type 0} {h : _} {w : _} {b : _} → ArrayPartialEncoder BufferHandle B h w b → BufferHandle
buffer_of encoder = encoder_handle encoder

-- and its bytes
abbrev pub encoder_bytes : {B : Type 0} {h : _} {w : _} {b : _} → ArrayPartialEncoder BufferHandle B h w b → List ℕ
encoder_bytes encoder = buffer_bytes (buffer_of encoder)

-- the edits take just all numbers and bytes
abbrev pub AreTaken : Edits → Type 0
AreTaken edits = all_are_taken edits.sizes.now (length edits.numbers.now) (length edits.bytes.now) ≡ true

-- the header's chain has a representation of its chunks
abbrev pub IsRepresented : ChunkHeader → Type 0
IsRepresented form =
    seen (λ _. tt {0}) (chain_representation known_codecs (header_seen form).chain (header_seen form).sizes (header_seen form).data_type (header_seen form).fill) ≡ Ok tt

-- an edit leaves in a buffer what `zarrs_write` leaves of its bytes, or the first error is returned, and the bytes stay as they were
pub record MakesEdit {B : Type 0} {h : _} {w : _} {b : _} (form : ChunkHeader) (before after : ArrayPartialEncoder BufferHandle B h w b) (edit : Edit) (result : Result (Unit {0}) Cause) : Type 0 where
  pub made : Answers cause_memory (λ _. encoder_bytes after) result (header_written (header_seen form) (Some (encoder_bytes before)) edit.tuples edit.numbers.now (buffers edit.masks.now edit.offsets.now edit.bytes.now))
  pub kept : OnErr result (encoder_bytes after ≡ encoder_bytes before)

-- What edits of a value give: the value has the first `done` ones. Where none failed, these are all; else the next one failed for this cause, lack of memory aside.
pub record EditsInOrder (form : ChunkHeader) (before after : List ℕ) (edits : Edits) (outcome : EditsOutcome) : Type 0 where
  pub made : edits_left (header_seen form) edits.sizes.now edits.numbers.now edits.bytes.now before outcome.done ≡ Ok after
  pub all : IfNone outcome.refusal (outcome.done ≡ length edits.sizes.now)
  pub refused : IfSome outcome.refusal (λ cause. Excused (cause_memory cause) (edits_left (header_seen form) edits.sizes.now edits.numbers.now edits.bytes.now before (suc outcome.done) ≡ Err cause))

-- the same of the chunk of a header, which may be rejected before any edit is made
pub record EditsValue (given_header : Result Header Cause) (before after : List ℕ) (edits : Edits) (outcome : EditsOutcome) : Type 0 where
  pub made : HasEdits given_header edits.sizes.now edits.numbers.now edits.bytes.now before after outcome.done
  pub all : IfNone outcome.refusal ((edited given_header edits.sizes.now edits.numbers.now edits.bytes.now before (length edits.sizes.now) ≡ Ok after) × (outcome.done ≡ length edits.sizes.now))
  pub refused : IfSome outcome.refusal (λ cause. Excused (cause_memory cause) (edited given_header edits.sizes.now edits.numbers.now edits.bytes.now before (suc outcome.done) ≡ Err cause))
