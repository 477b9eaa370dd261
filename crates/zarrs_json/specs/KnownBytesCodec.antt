-- What the bytes-to-bytes codecs compute that a header names: each what its own definition says.
use Rattle.std.specs.Prelude.{false, ℕ, List, Result}
use Rattle.zarrs_chunk.specs.declared.codec_error.CodecError.{CodecError}
use Rattle.zarrs_metadata.specs.Metadata.{Metadata}
use Rattle.zarrs_codec.specs.BytesToBytesCodec.{BytesCodecs}
use Rattle.zarrs_codec.specs.SampleBytesCodec.{sample_codecs}
use Rattle.zarrs_codec.specs.SampleMetadata.{sample_metadata}
use Rattle.zarrs_codec.specs.declared.capabilities.PartialDecoderCapability.{PartialDecoderCapability}
use Rattle.zarrs_codec.specs.declared.bytes_representation.BytesRepresentation.{BytesRepresentation}
use Rattle.zarrs_crc32c.specs.Crc32cCodec.{crc32c_codecs}
use Rattle.zarrs_crc32c.specs.Crc32cMetadata.{crc32c_metadata}
use Rattle.zarrs_json.specs.declared.known_bytes_codec.KnownBytesCodec.{KnownBytesCodec}
use Rattle.zarrs_json.specs.declared.known_bytes_codec.KnownBytesCodec.TheVariants.{Crc32c, Sample}

-- the bytes that a known codec makes
abbrev pub known_encoded_bytes : KnownBytesCodec → List ℕ → List ℕ
known_encoded_bytes (Crc32c codec) bytes = crc32c_codecs.encoded_bytes codec bytes
known_encoded_bytes (Sample codec) bytes = sample_codecs.encoded_bytes codec bytes

-- the bytes that a known codec reads, or the error
abbrev pub known_decoded_bytes : KnownBytesCodec → BytesRepresentation → List ℕ → Result (List ℕ) CodecError
known_decoded_bytes (Crc32c codec) r bytes = crc32c_codecs.decoded_bytes codec r bytes
known_decoded_bytes (Sample codec) r bytes = sample_codecs.decoded_bytes codec r bytes

-- how many bytes a known codec makes
abbrev pub known_representation : KnownBytesCodec → BytesRepresentation → BytesRepresentation
known_representation (Crc32c codec) r = crc32c_codecs.representation codec r
known_representation (Sample codec) r = sample_codecs.representation codec r

-- what they compute
abbrev pub known_codecs : BytesCodecs KnownBytesCodec
known_codecs = record {
  encoded_bytes = known_encoded_bytes;
  decoded_bytes = known_decoded_bytes;
  representation = known_representation;
}

-- what is written of them
abbrev pub known_metadata : KnownBytesCodec → Metadata
known_metadata (Crc32c codec) = crc32c_metadata
known_metadata (Sample codec) = sample_metadata codec

-- they read nothing in part
abbrev pub known_reads : KnownBytesCodec → PartialDecoderCapability
known_reads codec = record { partial_read = false; partial_decode = false }
