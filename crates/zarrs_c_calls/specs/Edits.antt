-- What is due to a call that edits a caller's own value.
use Rattle.std.specs.Prelude.{◌≡◌, ◌⊎◌, ℕ, zero, suc, ◌-◌, ◌==◌, ◌&&◌, nat_le, Bool, false, List, [], ◌∷◌, length, take, drop, Some, Result, Ok}
use Rattle.zarrs_chunk.specs.Answer.{◌>>=◌, demand}
use Rattle.zarrs_chunk.specs.declared.codec_error.CodecError.{CodecError}
use Rattle.zarrs_json.specs.KnownBytesCodec.{known_codecs}
use Rattle.zarrs_codec.specs.declared.bytes_representation.BytesRepresentation.{BytesRepresentation}
use Rattle.zarrs_codec.specs.declared.bytes_representation.BytesRepresentation.TheVariants.{FixedSize, BoundedSize, UnboundedSize}
use Rattle.zarrs_chain_meaning.specs.Chain.{chain_writes}
use Rattle.zarrs_chain_meaning.specs.CodecMeaning.{chain_representation}
use Rattle.zarrs_json.specs.Header.{Header}
use Rattle.zarrs_c_calls.specs.Buffers.{buffers}
use Rattle.zarrs_c_calls.specs.Codes.{IsRefusal, codec_call_answer}
use Rattle.zarrs_c_calls.specs.Writes.{header_written}
use Rattle.zarrs_c_calls.specs.declared.cause.Cause.{Cause}
use Rattle.zarrs_c_calls.specs.declared.cause.Cause.TheVariants.{Argument, NotInPlace}
use Rattle.zarrs_c_calls.specs.declared.sizes.EditSize.{EditSize}

-- ---- errors of all edits together

-- each edit takes its numbers and bytes in front of those that are left, and none are over
abbrev pub all_are_taken : List EditSize → ℕ → ℕ → Bool
all_are_taken [] numbers bytes = numbers == 0 && bytes == 0
all_are_taken (size ∷ sizes) numbers bytes =
    nat_le size.numbers numbers && (nat_le size.bytes bytes && all_are_taken sizes (numbers - size.numbers) (bytes - size.bytes))

-- a value of so many bytes has all bytes of a chunk, of which there are always as many
abbrev pub has_all_bytes : BytesRepresentation → ℕ → Bool
has_all_bytes (FixedSize size) len = nat_le size len
has_all_bytes (BoundedSize size) len = false
has_all_bytes UnboundedSize len = false

-- edits are written where a value of so many bytes stands: all codecs of the chain write a part, which no bytes-to-bytes codec does that a header names, and the value has all bytes of the chunk
abbrev pub edits_in_place : Header → ℕ → Result Bool CodecError
edits_in_place header len = do
  representation ← chain_representation known_codecs header.chain header.sizes header.data_type header.fill
  Ok ((chain_writes (λ _. record { partial_encode = false }) header.chain).partial_encode && has_all_bytes representation len)

-- the header whose chunk is edited in a value of so many bytes, where the edits take just so many numbers and bytes
abbrev pub edits_opened : Result Header Cause → ℕ → List EditSize → ℕ → ℕ → Result Header Cause
edits_opened given_header len sizes numbers bytes = do
  header ← given_header
  _ ← demand (all_are_taken sizes numbers bytes) Argument
  in_place ← codec_call_answer (edits_in_place header len)
  _ ← demand in_place NotInPlace
  Ok header

-- ---- one after another

-- the value that the first so many edits leave of a value, made one after another as `zarrs_write` makes each; or the first error
abbrev pub edits_left : Header → List EditSize → List ℕ → List ℕ → List ℕ → ℕ → Result (List ℕ) Cause
edits_left header sizes numbers bytes value zero = Ok value
edits_left header [] numbers bytes value (suc count) = Ok value
edits_left header (size ∷ sizes) numbers bytes value (suc count) = do
  left ← header_written header (Some value) size.tuples (take size.numbers numbers) (buffers [] [] (take size.bytes bytes))
  edits_left header sizes (drop size.numbers numbers) (drop size.bytes bytes) left count

-- the same of the chunk of a header, where its edits are written in place
abbrev pub edited : Result Header Cause → List EditSize → List ℕ → List ℕ → List ℕ → ℕ → Result (List ℕ) Cause
edited given_header sizes numbers bytes value count = do
  header ← edits_opened given_header (length value) sizes (length numbers) (length bytes)
  edits_left header sizes numbers bytes value count

-- ---- returned

-- the value has the first so many edits and no others; none of them is made where nothing is opened
abbrev pub HasEdits : Result Header Cause → List EditSize → List ℕ → List ℕ → (old new : List ℕ) → ℕ → Type 0
HasEdits given_header sizes numbers bytes old new done = (done ≡ 0 × new ≡ old) ⊎ (edited given_header sizes numbers bytes old done ≡ Ok new)

-- All edits are made, and the code is 0; or the edit after the first `done` ones fails, or all are rejected, and the value has these edits and no others.
abbrev pub TellsEdits : Result Header Cause → List EditSize → List ℕ → List ℕ → (old new : List ℕ) → ℕ → ℕ → Type 0
TellsEdits given_header sizes numbers bytes old new code done =
    ((edited given_header sizes numbers bytes old (length sizes) ≡ Ok new) × (code ≡ 0) × (done ≡ length sizes))
    ⊎ (IsRefusal (edited given_header sizes numbers bytes old (suc done)) code × HasEdits given_header sizes numbers bytes old new done)
