-- What a read of pieces lacks, as it crosses: ranges, each a start and an end.
use Rattle.std.specs.Prelude.{◌≡◌, ◌⊎◌, ℕ, ◌<◌, ◌==◌, ◌&&◌, nat_lt, true, false, is_ok, None, List, [], length, Vec, Result, Ok, Err}
use Rattle.std.specs.List.{All, list_any}
use Rattle.std.specs.declared.alloc.Global.{Global}
use Rattle.zarrs_chunk.specs.Answer.{Excused, fault, memory}
use Rattle.zarrs_chunk.specs.Selection.{Selection}
use Rattle.zarrs_chunk.specs.declared.codec_error.CodecError.{CodecError}
use Rattle.zarrs_array_to_array.specs.ArrayToArrayCodec.{IsMapping}
use Rattle.zarrs_codec.specs.ByteSpan.{ByteSpan}
use Rattle.zarrs_json.specs.KnownBytesCodec.{known_codecs, known_reads}
use Rattle.zarrs_json.specs.Header.{Header, HeaderForm, header_form}
use Rattle.zarrs_lent_handles.specs.Joined.{have_number}
use Rattle.zarrs_lent_handles.specs.Lacking.{are_all_lacking, are_of_failure, is_lacking}
use Rattle.zarrs_lent_handles.specs.Pieces.{PlainPiece, zeros}
use Rattle.zarrs_lent_handles.specs.PiecesHandle.{HandleLacks, are_unsure, made_state, pieces_state}
use Rattle.zarrs_lent_handles.specs.declared.pieces_handle.PiecesHandle.{PiecesHandle}
use Rattle.zarrs_codecs.specs.ChunkSource.{source_made}
use Rattle.zarrs_codecs.specs.PlannedReads.{ArePlanned}
use Rattle.zarrs_c_calls.specs.Codes.{IsRefusal, cause_memory}
use Rattle.zarrs_c_calls.specs.Fetched.{pieces_given, pieces_read}
use Rattle.zarrs_c_calls.specs.LackingByte.{LacksByte, apart_read, whole_value}
use Rattle.zarrs_c_calls.specs.Plans.{range_numbers}
use Rattle.zarrs_c_calls.specs.Selections.{selection_given}
use Rattle.zarrs_c_calls.specs.Told.{ToldBytes}
use Rattle.zarrs_c_calls.specs.declared.cause.Cause.{Cause}
use Rattle.zarrs_c_calls.specs.declared.fetched.Fetched.{Fetched}

-- There are ranges where a byte is lacking, and none where the read is answered. They come in order, each has a byte, and between one and the next is at least one; the value has each of their bytes, and no piece has one. Where the read of the selection plans its bytes, and the value has them, the ranges have all of these that are lacking, and no others.
pub record AreLackingTo (form : HeaderForm) (len : ℕ) (pieces : List PlainPiece) (selection : Selection) (lacking : List ByteSpan) : Type 0 where
  pub all : are_all_lacking len pieces lacking ≡ true
  pub some : nat_lt 0 (length lacking) ≡ true → LacksByte zeros form len pieces selection
  pub none : lacking ≡ [] → is_ok (apart_read zeros form len pieces selection) ≡ true
  pub planned : (planned : List ℕ) → ArePlanned known_codecs form selection planned → All (λ number. number < len) planned
      → (number : ℕ) → have_number lacking number ≡ (list_any (λ other. other == number) planned && is_lacking len pieces number)

-- The header, the selection and the pieces have no error, and these are the ranges that are lacking.
pub record IsLackingOf (given_header : Result Header Cause) (len : ℕ) (ranges fetched : List ℕ) (tuples : ℕ) (numbers : List ℕ) (lacking : List ByteSpan) : Type 0 where
  pub header : Header
  pub selection : Selection
  pub pieces : List PlainPiece
  pub header_is : given_header ≡ Ok header
  pub selection_is : selection_given (length header.sizes) tuples numbers ≡ Ok selection
  pub pieces_are : pieces_given ranges fetched ≡ Ok pieces
  pub are : AreLackingTo (header_form header) len pieces selection lacking

-- The call returns the ranges that are lacking, each a start and an end; or the first error of the read, and then it leaves the buffer and the count as they were.
abbrev pub TellsLacking : Result Header Cause → ℕ → List ℕ → List ℕ → ℕ → List ℕ → ℕ → List ℕ → List ℕ → ℕ → ℕ → Type 0
TellsLacking given_header len ranges fetched tuples numbers code old new needed_old needed_new =
    ((lacking : List ByteSpan) × IsLackingOf given_header len ranges fetched tuples numbers lacking × ToldBytes (range_numbers lacking) code old new needed_new)
    ⊎ (IsRefusal (pieces_read zeros given_header len ranges fetched tuples numbers) code × (new ≡ old) × (needed_new ≡ needed_old))

-- ---- before they are returned

-- the numbers of the ranges that are lacking of what was fetched, or the first error of the read
abbrev pub AnswersLacking : Result Header Cause → Fetched → ℕ → List ℕ → Result (Vec ℕ Global) Cause → Type 0
AnswersLacking given_header fetched tuples numbers (Ok told) =
    (lacking : List ByteSpan) × IsLackingOf given_header fetched.len fetched.ranges.now fetched.bytes.now tuples numbers lacking × (told.items ≡ range_numbers lacking)
AnswersLacking given_header fetched tuples numbers (Err cause) = Excused (cause_memory cause) (pieces_read zeros given_header fetched.len fetched.ranges.now fetched.bytes.now tuples numbers ≡ Err cause)

-- the same of a chunk of which there are pieces
abbrev pub AnswersPartLacking : HeaderForm → ℕ → List PlainPiece → Selection → Result (Vec ℕ Global) CodecError → Type 0
AnswersPartLacking form len pieces selection (Ok told) = (lacking : List ByteSpan) × AreLackingTo form len pieces selection lacking × (told.items ≡ range_numbers lacking)
AnswersPartLacking form len pieces selection (Err error) = Excused (memory error) (apart_read zeros form len pieces selection ≡ Err error)

-- No size of the form is zero, and its array-to-array codecs are mappings.
pub record IsSoundForm (form : HeaderForm) : Type 0 where
  pub mappings : All IsMapping form.chain.array_to_array
  pub positive : All (λ size. 0 < size) form.sizes

-- The handle is on a value of so many bytes of which these pieces are at hand, and not the whole value in one of them.
pub record IsOver {E : Type 0} (handle : PiecesHandle E) (len : ℕ) (pieces : List PlainPiece) : Type 0 where
  pub made : Ok (pieces_state handle) ≡ made_state len pieces
  pub in_part : whole_value len pieces ≡ None

-- the same, where these are the pieces of the handle
abbrev pub AnswersOver : {E : Type 0} → HeaderForm → PiecesHandle E → Selection → Result (Vec ℕ Global) CodecError → Type 0
AnswersOver form handle selection result =
    IsSoundForm form → (len : ℕ) (pieces : List PlainPiece) → IsOver handle len pieces → AnswersPartLacking form len pieces selection result

-- the same, where a decoder over the handle can be made
abbrev pub AnswersMade : {E : Type 0} → HeaderForm → PiecesHandle E → Selection → Result (Vec ℕ Global) CodecError → Type 0
AnswersMade form handle selection result =
    is_ok (source_made known_codecs known_reads form (pieces_state handle).value) ≡ true → AnswersOver form handle selection result

-- Bytes that the value has and that aren't sure, as ranges; there are some just where a call of the handle has failed.
pub record AreKept {E : Type 0} (handle : PiecesHandle E) (ranges : List ByteSpan) : Type 0 where
  pub unsure : are_unsure (pieces_state handle) ranges ≡ true
  pub failed : are_of_failure (pieces_state handle).failure ranges ≡ true

-- Those of the asked bytes that the handle lacks, where it lacks one; else the ranges that it kept.
abbrev pub IsLackedOrKept : {E : Type 0} → PiecesHandle E → List ByteSpan → List ByteSpan → Type 0
IsLackedOrKept handle asked ranges =
    (HandleLacks handle asked ranges × (nat_lt 0 (length ranges) ≡ true))
    ⊎ (HandleLacks handle asked [] × AreKept handle ranges)

-- the numbers of the ranges that a handle lacks of those that are asked for, or else kept
abbrev pub AreOfLackedOrKept : {E : Type 0} → PiecesHandle E → List ByteSpan → List ℕ → Type 0
AreOfLackedOrKept handle asked told = (ranges : List ByteSpan) × IsLackedOrKept handle asked ranges × (told ≡ range_numbers ranges)

-- the numbers of the ranges that a handle kept whose failure an error is, or an error that is none
abbrev pub AnswersKept : {E : Type 0} → CodecError → PiecesHandle E → Result (Vec ℕ Global) CodecError → Type 0
AnswersKept error handle (Ok told) = (fault error ≡ true) × (ranges : List ByteSpan) × AreKept handle ranges × (told.items ≡ range_numbers ranges)
AnswersKept error handle (Err cause) = Excused (memory cause) ((fault error ≡ false) × (error ≡ cause))
