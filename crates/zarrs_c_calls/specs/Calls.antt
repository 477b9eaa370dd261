-- What is due to a call: its value, or the first error.
use Rattle.std.specs.Prelude.{ℕ, List, Result, Ok}
use Rattle.zarrs_chunk.specs.Answer.{◌>>=◌}
use Rattle.zarrs_json.specs.KnownBytesCodec.{known_codecs}
use Rattle.zarrs_codec.specs.declared.bytes_representation.BytesRepresentation.{BytesRepresentation}
use Rattle.zarrs_chain_meaning.specs.Chain.{held_value}
use Rattle.zarrs_chain_meaning.specs.CodecMeaning.{chain_chunk, chain_representation}
use Rattle.zarrs_chain.specs.Reencode.{reencoded_value}
use Rattle.zarrs_json.specs.Header.{Header, line_header, line_codecs}
use Rattle.zarrs_json.specs.HeaderRead.{header_seen}
use Rattle.zarrs_json.specs.declared.header.ChunkHeader.{ChunkHeader}
use Rattle.zarrs_c_calls.specs.Buffers.{Buffers}
use Rattle.zarrs_c_calls.specs.Codes.{refusal_answer, codec_call_answer}
use Rattle.zarrs_c_calls.specs.Given.{elements_given}
use Rattle.zarrs_c_calls.specs.Told.{Elements}
use Rattle.zarrs_c_calls.specs.declared.cause.Cause.{Cause}
use Rattle.zarrs_json.specs.declared.known_maker.KnownMaker.TheVariants.{Shipped}

-- the header that a text is, or the first error
abbrev pub header_given : List ℕ → Result Header Cause
header_given text = refusal_answer (line_header Shipped text)

-- a header that was read before
abbrev pub known_header : ChunkHeader → Result Header Cause
known_header header = Ok (header_seen header)

-- how many bytes the value of a header's chunk has, or the first error
abbrev pub represented : Result Header Cause → Result BytesRepresentation Cause
represented given_header = do
  header ← given_header
  codec_call_answer (chain_representation known_codecs header.chain header.sizes header.data_type header.fill)

-- the value that is written for the chunk of these elements, or the first error
abbrev pub encoded : Result Header Cause → Buffers → Result (List ℕ) Cause
encoded given_header elements = do
  header ← given_header
  held ← elements_given header.data_type elements
  codec_call_answer (held_value known_codecs header.chain header.sizes header.data_type header.fill held)

-- the elements of the chunk of a header that a value stands for, or the first error
abbrev pub value_decoded : Header → List ℕ → Result Elements Cause
value_decoded header value = do
  chunk ← codec_call_answer (chain_chunk known_codecs header.chain header.sizes header.data_type header.fill value)
  Ok (header.data_type, chunk)

-- the elements of the chunk that a value stands for, or the first error
abbrev pub decoded : Result Header Cause → List ℕ → Result Elements Cause
decoded given_header value = do
  header ← given_header
  value_decoded header value

-- the value that the chain of these codecs writes for the chunk that a value stands for, or the first error
abbrev pub reencoded : Result Header Cause → List ℕ → List ℕ → Result (List ℕ) Cause
reencoded given_header value codecs = do
  header ← given_header
  to ← refusal_answer (line_codecs Shipped codecs)
  codec_call_answer (reencoded_value known_codecs header.chain known_codecs to (record { sizes = header.sizes; type = header.data_type; fill = header.fill }) value)
