-- What a session is seen as, and what its calls give.
use Rattle.std.specs.Prelude.{ℕ, Vec, Result}
use Rattle.std.specs.declared.alloc.Global.{Global}
use Rattle.zarrs_chunk.specs.Answer.{AnswersBy, memory}
use Rattle.zarrs_chunk.specs.Indexer.{selection_of}
use Rattle.zarrs_chunk.specs.declared.codec_error.CodecError.{CodecError}
use Rattle.zarrs_chunk.specs.declared.indexer.Indexer.{Indexer}
use Rattle.zarrs_array_bytes.specs.Held.{Held}
use Rattle.zarrs_array_bytes.specs.Validity.{Holds}
use Rattle.zarrs_codec.specs.MemoryHandle.{handle_value}
use Rattle.zarrs_codec.specs.declared.memory_handle.MemoryHandle.{MemoryHandle}
use Rattle.zarrs_json.specs.Refusal.{ReadsAs}
use Rattle.zarrs_json.specs.declared.refusal.Refusal.{Refusal}
use Rattle.zarrs_json.specs.HeaderRead.{header_seen}
use Rattle.zarrs_json.specs.declared.header.ChunkHeader.{ChunkHeader}
use Rattle.zarrs_tool_lines.specs.Commands.{State, LineAnswer, line_part}
use Rattle.zarrs_tool_lines.specs.declared.session.Session.{Session}

-- the state of a header and what a handle has
abbrev pub state_with : ChunkHeader → MemoryHandle → State
state_with header handle = record { header = header_seen header; value = handle_value handle }

-- the header that opened it, and what is stored since
abbrev pub state_of : Session → State
state_of session = state_with session.header session.handle

-- the line that is answered, and the state that the session has then, are the expected ones, or the first error is returned; only out of memory may come in their place
abbrev pub Replies : Session → Result (Vec ℕ Global) Refusal → LineAnswer → Type 0
Replies session result expected = ReadsAs (λ line. (line.items, state_of session)) result expected

-- ---- over a handle, of the chunk that a header says

-- a container of the elements that an indexer selects of what is stored, or the first error
abbrev pub GivesChunkPart : ChunkHeader → MemoryHandle → Indexer → Result Held CodecError → Type 0
GivesChunkPart header handle indexer result =
    AnswersBy memory (Holds header.data_type) result (line_part (header_seen header) (handle_value handle) (selection_of indexer))
