-- What calls give that are asked about chunks of a form.
-- Source: zarrs, `ArrayToBytesCodecTraits`.
use Rattle.std.specs.Prelude.{ℕ, List, Result, IsOk}
use Rattle.std.proofs.Common.{Global}
use Rattle.std.specs.declared.borrow.CowSlice.{CowSlice}
use Rattle.zarrs_chunk.specs.Answer.{Gives, GivesBy, GivesValue}
use Rattle.zarrs_chunk.specs.declared.codec_error.CodecError.{CodecError}
use Rattle.zarrs_data_type.specs.Form.{Form}
use Rattle.zarrs_array_bytes.specs.Held.{Held, items_of}
use Rattle.zarrs_array_bytes.specs.Validity.{Holds}
use Rattle.zarrs_codec.specs.BytesToBytesCodec.{BytesCodecs}
use Rattle.zarrs_codec.specs.declared.bytes_representation.BytesRepresentation.{BytesRepresentation}
use Rattle.zarrs_chain_meaning.specs.Chain.{codec_held_value, taken_chunk, held_part}
use Rattle.zarrs_chain_meaning.specs.CodecMeaning.{PlainCodec, PlainChain, codec_representation, chain_representation, codec_chunk}
use Rattle.zarrs_data_type.specs.ElementType.{ElementType}

-- an array-to-bytes codec takes such chunks: it says how many bytes their value has
abbrev pub IsTaken : {B : Type 0} → BytesCodecs B → PlainCodec B → Form → Type 0
IsTaken f codec form = IsOk (codec_representation f codec form.sizes form.type form.fill)

-- how many bytes the codec makes of one, or why it doesn't take it
abbrev pub codec_represented : {B : Type 0} → BytesCodecs B → PlainCodec B → Form → Result BytesRepresentation CodecError
codec_represented f codec form = codec_representation f codec form.sizes form.type form.fill

-- this is given
abbrev pub GivesRepresentation : {B : Type 0} → BytesCodecs B → PlainCodec B → Form → Result BytesRepresentation CodecError → Type 0
GivesRepresentation f codec form result = GivesValue result (codec_represented f codec form)

-- and of a chain
abbrev pub GivesChainRepresentation : {B : Type 0} → BytesCodecs B → PlainChain B → Form → Result BytesRepresentation CodecError → Type 0
GivesChainRepresentation f chain form result =
    GivesValue result (chain_representation f chain form.sizes form.type form.fill)

-- the value that the codec writes of the chunk that a container holds, or the first error
abbrev pub GivesCodecValue : {B : Type 0} → BytesCodecs B → PlainCodec B → Form → Held → Result (CowSlice ℕ Global) CodecError → Type 0
GivesCodecValue f codec form held result = Gives items_of result (codec_held_value f codec form.sizes form.type form.fill held)

-- a container of the chunk that a value stands for is given, by an array-to-bytes codec that takes such chunks; or the first error
abbrev pub GivesCodecChunk : {B : Type 0} → BytesCodecs B → PlainCodec B → Form → List ℕ → Result Held CodecError → Type 0
GivesCodecChunk f codec form value result = GivesBy (Holds form.type) result (codec_chunk f codec form.sizes form.type form.fill value)

-- of any codec, whose representation rejects first
abbrev pub GivesTakenChunk : {B : Type 0} → BytesCodecs B → PlainCodec B → Form → List ℕ → Result Held CodecError → Type 0
GivesTakenChunk f codec form value result = GivesBy (Holds form.type) result (taken_chunk f codec form.sizes form.type form.fill value)

-- the part that a chain writes of a row of so many elements that a container holds
abbrev pub GivesPartValue : {B : Type 0} → BytesCodecs B → PlainChain B → ℕ → ElementType → List ℕ → Held → Result (CowSlice ℕ Global) CodecError → Type 0
GivesPartValue f chain count type fill held result = Gives items_of result (held_part f chain count type fill held)
