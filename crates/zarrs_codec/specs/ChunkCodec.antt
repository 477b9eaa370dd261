-- What the calls of an array-to-bytes codec give, by the functions that it computes. `OutOfMemory` may come at any time, and `Storage` never comes.
-- Source: zarrs, `ArrayToBytesCodecTraits`.
use Rattle.std.specs.Prelude.{◌≡◌, ℕ, Option, None, List, Result, Ok, IfOk, option_map}
use Rattle.std.proofs.Common.{Global}
use Rattle.std.specs.declared.borrow.CowSlice.{CowSlice}
use Rattle.zarrs_chunk.specs.Answer.{Gives, GivesBy, seen}
use Rattle.zarrs_chunk.specs.ChunkShape.{product}
use Rattle.zarrs_chunk.specs.declared.codec_error.CodecError.{CodecError}
use Rattle.zarrs_data_type.specs.Element.{Chunk}
use Rattle.zarrs_data_type.specs.ElementType.{ElementType}
use Rattle.zarrs_data_type.specs.Form.{Form}
use Rattle.zarrs_array_bytes.specs.Held.{Held, items_of, raw_of}
use Rattle.zarrs_array_bytes.specs.Validity.{Holds, validity}
use Rattle.zarrs_codec.specs.declared.bytes_representation.BytesRepresentation.{BytesRepresentation}

-- the answer is how many bytes the codec states that the value of such a chunk has, or the first error
abbrev pub RepresentsBy : (Form → Result BytesRepresentation CodecError) → Form → Result BytesRepresentation CodecError → Type 0
RepresentsBy represented form result = Gives (λ representation. representation) result (represented form)

-- the answer is the value that the codec makes of a container of such a chunk, or the first error
abbrev pub EncodesBy : (Form → Held → Result (List ℕ) CodecError) → Form → Held → Result (CowSlice ℕ Global) CodecError → Type 0
EncodesBy encoded form held result = Gives items_of result (encoded form held)

-- the answer is a container of the chunk that the codec reads of the value, or the first error
abbrev pub DecodesBy : (Form → List ℕ → Result Chunk CodecError) → Form → List ℕ → Result Held CodecError → Type 0
DecodesBy decoded form value result = GivesBy (Holds form.type) result (decoded form value)

-- the container that is answered has as many elements of the type as a chunk of these sizes
abbrev pub GivesValid : ElementType → List ℕ → Result Held CodecError → Type 0
GivesValid type sizes result = IfOk result (λ elements. validity type (product sizes) elements ≡ Ok tt)

-- the answer is that no value of fewer bytes is known, where the codec opens the value; or the first error
abbrev pub CompactsNone : (Form → List ℕ → Result (Unit {0}) CodecError) → Form → List ℕ → Result (Option (CowSlice ℕ Global)) CodecError → Type 0
CompactsNone opened form value result = Gives (option_map raw_of) result (seen (λ _. None) (opened form value))
