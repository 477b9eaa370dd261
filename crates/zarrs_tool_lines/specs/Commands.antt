-- What each command answers, and what is stored afterwards.
use Rattle.std.specs.Prelude.{◌==◌, ◌+◌, ℕ, List, take, drop, position, Option, Some, None, ok_or, Result, Ok, Err, codes, if◌then◌else◌}
use Rattle.std.specs.Str.{bytes_eq}
use Rattle.zarrs_chunk.specs.Answer.{◌>>=◌, Answers, memory, seen}
use Rattle.zarrs_chunk.specs.Selection.{Selection}
use Rattle.zarrs_chunk.specs.declared.codec_error.CodecError.{CodecError}
use Rattle.zarrs_data_type.specs.Element.{Chunk}
use Rattle.zarrs_array_bytes.specs.Held.{Held}
use Rattle.zarrs_json.specs.KnownBytesCodec.{known_codecs, known_reads}
use Rattle.zarrs_json.specs.declared.known_bytes_codec.KnownBytesCodec.{KnownBytesCodec}
use Rattle.zarrs_chain_meaning.specs.Chain.{held_value}
use Rattle.zarrs_chain.specs.Reencode.{reencoded_value}
use Rattle.zarrs_codecs.specs.MadeCoder.{made_read, made_written}
use Rattle.zarrs_chain_meaning.specs.CodecMeaning.{PlainChain, chain_chunk}
use Rattle.zarrs_json.specs.declared.refusal.Refusal.{Refusal}
use Rattle.zarrs_json.specs.declared.refusal.Refusal.TheVariants.{Syntax}
use Rattle.zarrs_json.specs.Refusal.{codec_answer}
use Rattle.zarrs_json.specs.Json.{tree_of, hex_of, hex_tree, ok_line}
use Rattle.zarrs_json.specs.Elements.{elements_of, chunk_tree}
use Rattle.zarrs_json.specs.Containers.{container_of}
use Rattle.zarrs_json.specs.Indexer.{selection_shown}
use Rattle.zarrs_json.specs.Edit.{PlainEdit, edit_in}
use Rattle.zarrs_json.specs.Header.{Header, header_form, line_codecs}
use Rattle.zarrs_json.specs.declared.known_maker.KnownMaker.TheVariants.{WithSamples}

-- what a session keeps: the header that opened it, and the stored value
pub record State : Type 0 where
  pub header : Header
  pub value : Option (List ℕ)

-- at first nothing is stored
abbrev pub first_state : Header → State
first_state header = record { header = header; value = None }

-- the answer to a line and the state after it, or the line's error
abbrev pub LineAnswer : Type 0
LineAnswer = Result (List ℕ × State) Refusal

-- the answer where nothing is stored
abbrev pub ok_none : List ℕ
ok_none = codes "ok none"

-- what a stored value is answered, or that there is none
abbrev pub stored_answer : (State → List ℕ → LineAnswer) → State → Option (List ℕ) → LineAnswer
stored_answer answer state None = Ok (ok_none, state)
stored_answer answer state (Some value) = answer state value

-- ---- the commands

-- the value of the elements in a container, which isn't stored
abbrev pub held_answer : State → Held → LineAnswer
held_answer state held = do
  value ← codec_answer (held_value known_codecs state.header.chain state.header.sizes state.header.data_type state.header.fill held)
  Ok (ok_line (hex_tree value), state)

-- encode ELEMENTS: the value of the chunk of these elements
abbrev pub encode_answer : State → List ℕ → LineAnswer
encode_answer state text = do
  tree ← tree_of text
  chunk ← elements_of state.header.data_type tree
  held_answer state (container_of state.header.data_type chunk)

-- load "HEX": these bytes are stored
abbrev pub load_answer : State → List ℕ → LineAnswer
load_answer state text = do
  tree ← tree_of text
  value ← ok_or (hex_of tree) Syntax
  Ok (codes "ok", record { header = state.header; value = Some value })

-- the chunk that a value stands for
abbrev pub chunk_answer : State → List ℕ → LineAnswer
chunk_answer state value = do
  chunk ← codec_answer (chain_chunk known_codecs state.header.chain state.header.sizes state.header.data_type state.header.fill value)
  Ok (ok_line (chunk_tree chunk), state)

-- decode: the chunk that the stored value stands for, or none
abbrev pub decode_answer : State → LineAnswer
decode_answer state = stored_answer chunk_answer state state.value

-- the elements that an indexer selects of a stored value of a header's chunk, by a decoder that is made for it
abbrev pub line_part : Header → Option (List ℕ) → Selection → Result Chunk CodecError
line_part header value selection = made_read known_codecs known_reads (header_form header) value selection

-- read INDEXER: the elements that it means
abbrev pub read_answer : State → List ℕ → LineAnswer
read_answer state text = do
  tree ← tree_of text
  selection ← selection_shown tree
  chunk ← codec_answer (line_part state.header state.value selection)
  Ok (ok_line (chunk_tree chunk), state)

-- the value that an edit leaves of what is stored, by an encoder that is made for it
abbrev pub line_value_left : Header → Option (List ℕ) → PlainEdit → Result (List ℕ) CodecError
line_value_left header value edit = made_written known_codecs (header_form header) value edit.selection edit.new

-- write {"at":INDEXER,"data":ELEMENTS}: the value with the new elements is stored
abbrev pub write_answer : State → List ℕ → LineAnswer
write_answer state text = do
  tree ← tree_of text
  edit ← edit_in state.header.data_type tree
  value ← codec_answer (line_value_left state.header state.value edit)
  Ok (codes "ok", record { header = state.header; value = Some value })

-- erase: nothing is stored from here on
abbrev pub erase_answer : State → LineAnswer
erase_answer state = Ok (codes "ok", record { header = state.header; value = None })

-- a value in hex
abbrev pub hex_answer : State → List ℕ → LineAnswer
hex_answer state value = Ok (ok_line (hex_tree value), state)

-- value: the stored value, or none
abbrev pub value_answer : State → LineAnswer
value_answer state = stored_answer hex_answer state state.value

-- what a chain writes for the chunk that a value stands for
abbrev pub reencoded_answer : PlainChain KnownBytesCodec → State → List ℕ → LineAnswer
reencoded_answer to state value = do
  other ← codec_answer (reencoded_value known_codecs state.header.chain known_codecs to (record { sizes = state.header.sizes; type = state.header.data_type; fill = state.header.fill }) value)
  Ok (ok_line (hex_tree other), state)

-- reencode METADATAS: what the chain of these codecs writes for the chunk that the stored value stands for, or none; the list is read and its chain made in either case, and the stored value stays
abbrev pub reencode_answer : State → List ℕ → LineAnswer
reencode_answer state text = do
  to ← line_codecs WithSamples text
  stored_answer (reencoded_answer to) state state.value

-- ---- lines

-- a command and its argument
pub data Command : Type 0 where
  encode : List ℕ → Command
  load : List ℕ → Command
  read_part : List ℕ → Command
  write_part : List ℕ → Command
  reencode : List ℕ → Command
  decode : Command
  erase : Command
  value : Command
  unknown : Command

-- the command of this word, with the argument behind it where there is one
abbrev pub command_named : List ℕ → Option (List ℕ) → Command
command_named word None =
    if bytes_eq word (codes "decode") then decode
    else if bytes_eq word (codes "erase") then erase
    else if bytes_eq word (codes "value") then value
    else unknown
command_named word (Some argument) =
    if bytes_eq word (codes "encode") then encode argument
    else if bytes_eq word (codes "load") then load argument
    else if bytes_eq word (codes "read") then read_part argument
    else if bytes_eq word (codes "write") then write_part argument
    else if bytes_eq word (codes "reencode") then reencode argument
    else unknown

-- the command of a line with its first space at this place: a word before it and an argument behind it, or a word alone
abbrev pub command_at : Option ℕ → List ℕ → Command
command_at None line = command_named line None
command_at (Some at) line = command_named (take at line) (Some (drop (at + 1) line))

-- a line is a word and, behind the first space, an argument
abbrev pub command_of : List ℕ → Command
command_of line = command_at (position (λ byte. byte == 32) line) line

-- what a command answers; the word or its argument may be unknown
abbrev pub command_answer : State → Command → LineAnswer
command_answer state (encode text) = encode_answer state text
command_answer state (load text) = load_answer state text
command_answer state (read_part text) = read_answer state text
command_answer state (write_part text) = write_answer state text
command_answer state (reencode text) = reencode_answer state text
command_answer state decode = decode_answer state
command_answer state erase = erase_answer state
command_answer state value = value_answer state
command_answer state unknown = Err Syntax

-- what a line answers
unfoldable pub answer_to : State → List ℕ → LineAnswer
answer_to state line = command_answer state (command_of line)

-- ---- what the calls give that answer them

-- the value with new elements is stored afterwards, or the first error is returned
abbrev pub StoresEdit : State → State → PlainEdit → Result (Unit {0}) CodecError → Type 0
StoresEdit before after edit result =
    Answers memory (λ _. after) result (seen (λ value. record { header = before.header; value = Some value }) (line_value_left before.header before.value edit))
