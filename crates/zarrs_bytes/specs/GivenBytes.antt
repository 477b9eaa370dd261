-- Calls that answer in no new memory, and with the very bytes that they were given.
use Rattle.std.specs.Prelude.{◌≡◌, ℕ, List, Result, IfOk}
use Rattle.std.proofs.Common.{Global}
use Rattle.std.specs.declared.borrow.CowSlice.{CowSlice}
use Rattle.zarrs_chunk.specs.Answer.{AnswersBy, never, seen}
use Rattle.zarrs_chunk.specs.declared.codec_error.CodecError.{CodecError}
use Rattle.zarrs_data_type.specs.Element.{Chunk}
use Rattle.zarrs_data_type.specs.Form.{Form}
use Rattle.zarrs_array_bytes.specs.Held.{Held, flen, items_of, raw_of}
use Rattle.zarrs_array_bytes.specs.Validity.{Holds}

-- the answer is the value of a container of such a chunk by the codec, or the first error; it is never out of memory
abbrev pub EncodesNow : (Form → Held → Result (List ℕ) CodecError) → Form → Held → Result (CowSlice ℕ Global) CodecError → Type 0
EncodesNow encoded form held result = seen items_of result ≡ encoded form held

-- the answer is a container of the chunk that the value stands for by the codec, or the first error; it is never out of memory
abbrev pub DecodesNow : (Form → List ℕ → Result Chunk CodecError) → Form → List ℕ → Result Held CodecError → Type 0
DecodesNow decoded form value result = AnswersBy never (Holds form.type) result (decoded form value)

-- what is answered is the bytes that the container holds, owned or borrowed as they were given
abbrev pub IsGiven : Held → Result (CowSlice ℕ Global) CodecError → Type 0
IsGiven held result = IfOk result (λ value. held ≡ flen (raw_of value))

-- what is answered is a container of the bytes, owned or borrowed as they were given
abbrev pub HoldsGiven : CowSlice ℕ Global → Result Held CodecError → Type 0
HoldsGiven given result = IfOk result (λ elements. elements ≡ flen (raw_of given))
