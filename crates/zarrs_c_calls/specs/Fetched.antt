-- Pieces of a value as they cross: ranges, each a start and an end, and the bytes of all of them, joined.
use Rattle.std.specs.Prelude.{◌≡◌, ◌⊎◌, ℕ, ◌-◌, ◌&&◌, ◌||◌, nat_le, Bool, true, false, is_ok, List, [], ◌∷◌, length, take, drop, Some, Vec, Result, Ok, Err, IfErr}
use Rattle.std.specs.declared.alloc.Global.{Global}
use Rattle.zarrs_chunk.specs.Answer.{◌>>=◌, demand, fault, is_fault, memory_or_fault, AnswersBy}
use Rattle.zarrs_chunk.specs.Indexer.{selection_of}
use Rattle.zarrs_chunk.specs.Selection.{Selection, bounds_of}
use Rattle.zarrs_chunk.specs.declared.codec_error.CodecError.{CodecError}
use Rattle.zarrs_chunk.specs.declared.indexer.Indexer.{Indexer}
use Rattle.zarrs_array_bytes.specs.Held.{Held}
use Rattle.zarrs_array_bytes.specs.Validity.{Holds}
use Rattle.zarrs_json.specs.KnownBytesCodec.{known_codecs}
use Rattle.zarrs_codec.specs.StorageState.{StorageState}
use Rattle.zarrs_json.specs.declared.refusal.Refusal.TheVariants.{Syntax, Making, Codec}
use Rattle.zarrs_json.specs.Header.{HeaderForm, Header, header_form}
use Rattle.zarrs_json.specs.HeaderRead.{header_seen}
use Rattle.zarrs_json.specs.declared.header.ChunkHeader.{ChunkHeader}
use Rattle.zarrs_lent_handles.specs.Elsewhere.{own_bytes}
use Rattle.zarrs_lent_handles.specs.Pieces.{PlainPiece, HasPieces, are_apart, are_at_hand, pieces_seen}
use Rattle.zarrs_lent_handles.specs.declared.piece.Piece.{Piece}
use Rattle.zarrs_codecs.specs.ChunkRead.{are_asked_sure, asks_in_part, read_rests_on}
use Rattle.zarrs_codecs.specs.PlannedReads.{ArePlanned}
use Rattle.zarrs_c_calls.specs.Buffers.{Room, crossed}
use Rattle.zarrs_c_calls.specs.Codes.{IsRefusal, cause_memory, codec_call_answer}
use Rattle.zarrs_c_calls.specs.LackingByte.{LacksByte, apart_read}
use Rattle.zarrs_c_calls.specs.Reads.{form_seen, part_read}
use Rattle.zarrs_c_calls.specs.Selections.{selection_given}
use Rattle.zarrs_c_calls.specs.Told.{Elements, HoldsThese, ToldParts, TellsElements}
use Rattle.zarrs_c_calls.specs.declared.cause.Cause.{Cause}
use Rattle.zarrs_c_calls.specs.declared.cause.Cause.TheVariants.{Argument, NotInPlace, Refused}
use Rattle.zarrs_c_calls.specs.declared.fetched.Fetched.{Fetched}

-- the bytes of a range, at the front of those that are left
abbrev pub front_bytes : ℕ → ℕ → List ℕ → Result (List ℕ) Cause
front_bytes start end bytes = do
  _ ← demand (nat_le start end && nat_le (end - start) (length bytes)) Argument
  Ok (take (end - start) bytes)

-- the pieces: as many bytes for each range, and none over
abbrev pub pieces_given : List ℕ → List ℕ → Result (List PlainPiece) Cause
pieces_given [] [] = Ok []
pieces_given [] (byte ∷ bytes) = Err Argument
pieces_given (start ∷ []) bytes = Err Argument
pieces_given (start ∷ end ∷ ranges) bytes = do
  front ← front_bytes start end bytes
  pieces ← pieces_given ranges (drop (end - start) bytes)
  Ok (record { start = start; bytes = front } ∷ pieces)

-- the selected elements of the value of so many bytes that has these pieces, and these bytes elsewhere
abbrev pub pieces_read : (ℕ → ℕ) → Result Header Cause → ℕ → List ℕ → List ℕ → ℕ → List ℕ → Result Elements Cause
pieces_read elsewhere given_header len ranges fetched tuples numbers = do
  header ← given_header
  selection ← selection_given (length header.sizes) tuples numbers
  pieces ← pieces_given ranges fetched
  chunk ← codec_call_answer (apart_read elsewhere (header_form header) len pieces selection)
  Ok (header.data_type, chunk)

-- The value has so many bytes and these pieces, and all bytes that a read of the selection plans to ask for are among them.
pub record HasPlannedPieces (given_header : Result Header Cause) (len : ℕ) (ranges fetched : List ℕ) (tuples : ℕ) (numbers value : List ℕ) : Type 0 where
  pub header : Header
  pub selection : Selection
  pub pieces : List PlainPiece
  pub planned : List ℕ
  pub header_is : given_header ≡ Ok header
  pub selection_is : selection_given (length header.sizes) tuples numbers ≡ Ok selection
  pub pieces_are : pieces_given ranges fetched ≡ Ok pieces
  pub stand_apart : are_apart len 0 pieces ≡ true
  pub planned_are : ArePlanned known_codecs (header_form header) selection planned
  pub at_hand : are_at_hand pieces planned ≡ true
  pub has : HasPieces len pieces value

-- a byte isn't at hand
abbrev pub cause_lacks : Cause → Bool
cause_lacks Argument = false
cause_lacks NotInPlace = false
cause_lacks (Refused Syntax) = false
cause_lacks (Refused (Making error)) = false
cause_lacks (Refused (Codec error)) = fault error

-- memory is wanting, or a byte isn't at hand
abbrev pub memory_or_lack : Cause → Bool
memory_or_lack cause = cause_memory cause || cause_lacks cause

-- The header, the selection and the pieces have no error, and a byte is lacking, of the value that has these bytes elsewhere.
pub record Lacks (elsewhere : ℕ → ℕ) (given_header : Result Header Cause) (len : ℕ) (ranges fetched : List ℕ) (tuples : ℕ) (numbers : List ℕ) : Type 0 where
  pub header : Header
  pub selection : Selection
  pub pieces : List PlainPiece
  pub header_is : given_header ≡ Ok header
  pub selection_is : selection_given (length header.sizes) tuples numbers ≡ Ok selection
  pub pieces_are : pieces_given ranges fetched ≡ Ok pieces
  pub lacking : LacksByte elsewhere (header_form header) len pieces selection

-- The call returns a container of the elements that are due; or it fails, or returns the code 11, where a byte is lacking, and it leaves the buffers and the counts as they were.
abbrev pub TellsOrLacks : Type 0 → Result Elements Cause → ℕ → Room → Room → Type 0
TellsOrLacks Lacking expected code old new =
    ((elements : Elements) × (held : Held) × (expected ≡ Ok elements) × HoldsThese held elements × ToldParts (crossed held) code old.parts new.parts new.needed)
    ⊎ ((IsRefusal expected code ⊎ ((code ≡ 11) × Lacking)) × (new.parts ≡ old.parts) × (new.needed ≡ old.needed))

-- The value has so many bytes and these pieces, which stand apart.
pub record HasFetched (len : ℕ) (ranges fetched value : List ℕ) : Type 0 where
  pub pieces : List PlainPiece
  pub pieces_are : pieces_given ranges fetched ≡ Ok pieces
  pub stand_apart : are_apart len 0 pieces ≡ true
  pub has : HasPieces len pieces value

-- what a read of pieces returns: what is due of the value that has the bytes of this one elsewhere, or a byte is lacking; where this one has the pieces itself, what is due of it; and for each value that has them, where they are enough, what a read of that value returns
pub record TellsPieces (given_header : Result Header Cause) (len : ℕ) (ranges fetched : List ℕ) (tuples : ℕ) (numbers value : List ℕ) (code : ℕ) (old new : Room) : Type 0 where
  pub told : TellsOrLacks (Lacks (own_bytes value) given_header len ranges fetched tuples numbers) (pieces_read (own_bytes value) given_header len ranges fetched tuples numbers) code old new
  pub each : HasFetched len ranges fetched value → TellsOrLacks (Lacks (own_bytes value) given_header len ranges fetched tuples numbers) (part_read given_header (Some value) tuples numbers) code old new
  pub alike : (other : List ℕ) → HasPlannedPieces given_header len ranges fetched tuples numbers other → TellsElements (part_read given_header (Some other) tuples numbers) code old new

-- ---- before it is returned

-- the pieces of a vector
abbrev pub pieces_in : Vec Piece Global → List PlainPiece
pieces_in pieces = pieces_seen pieces.items

-- where a read asks for a part of the value alone, no byte is lacking if the selection has an error, or if all bytes are at hand that it asks for
pub record AsksSurely (form : HeaderForm) (state : StorageState) (selection : Selection) (failed : Bool) : Type 0 where
  pub refused : is_ok (bounds_of selection form.sizes) ≡ false → failed ≡ false
  pub sure : are_asked_sure state.sure (read_rests_on known_codecs form state.value selection) ≡ true → failed ≡ false

-- a read of pieces answers the elements that are due of the value that has them, and these bytes elsewhere, or a byte isn't at hand
abbrev pub ReadsApart : (ℕ → ℕ) → ChunkHeader → ℕ → Vec Piece Global → Indexer → Result Held CodecError → Type 0
ReadsApart elsewhere form len pieces indexer result =
    AnswersBy memory_or_fault (Holds (header_seen form).data_type) result (apart_read elsewhere (form_seen form) len (pieces_in pieces) (selection_of indexer))

-- where a read asks for a part of the value alone, no byte is lacking if the selection has an error, or if all bytes are at hand that it asks for
abbrev pub ReadsSurelyInPart : ChunkHeader → StorageState → Indexer → Result Held CodecError → Type 0
ReadsSurelyInPart form state indexer result =
    asks_in_part (form_seen form).chain.bytes_to_bytes (form_seen form).chain.array_to_bytes ≡ true → AsksSurely (form_seen form) state (selection_of indexer) (is_fault result)

-- of each value that has the fetched pieces, where all bytes that are planned are among them, the answer is that of a read of the value
abbrev pub ReadsFetchedAlike : Result Header Cause → Fetched → ℕ → List ℕ → Result Held Cause → Type 0
ReadsFetchedAlike given_header fetched tuples numbers result =
    (value : List ℕ) → HasPlannedPieces given_header fetched.len fetched.ranges.now fetched.bytes.now tuples numbers value → AnswersBy cause_memory HoldsThese result (part_read given_header (Some value) tuples numbers)

-- the error that a byte isn't at hand comes only where it is due, or where a byte is lacking
abbrev pub LacksWhereAnswered : (ℕ → ℕ) → Result Header Cause → Fetched → ℕ → List ℕ → Result Held Cause → Type 0
LacksWhereAnswered elsewhere given_header fetched tuples numbers result =
    IfErr result (λ cause. cause_lacks cause ≡ true → (pieces_read elsewhere given_header fetched.len fetched.ranges.now fetched.bytes.now tuples numbers ≡ Err cause) ⊎ Lacks elsewhere given_header fetched.len fetched.ranges.now fetched.bytes.now tuples numbers)
