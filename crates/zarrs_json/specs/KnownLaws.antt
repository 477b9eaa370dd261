-- The bytes-to-bytes codecs that a header names are lawful, as each of them is.
use Rattle.std.specs.Prelude.{◌≡◌, ℕ, ◌<◌, ◌^◌, List, length, Ok, Err}
use Rattle.zarrs_chunk.specs.declared.codec_error.CodecError.{CodecError}
use Rattle.zarrs_codec.specs.BytesToBytesCodec.{KeepsTo, IsAtMost, AreBytes, IsValue, IsBytesRefusal, IsLawful}
use Rattle.zarrs_codec.specs.SampleLaws.{sample_is_lawful}
use Rattle.zarrs_codec.specs.declared.bytes_representation.BytesRepresentation.{BytesRepresentation}
use Rattle.zarrs_crc32c.specs.Lawful.{crc32c_is_lawful}
use Rattle.zarrs_json.specs.KnownBytesCodec.{known_encoded_bytes, known_decoded_bytes, known_representation, known_codecs}
use Rattle.zarrs_json.specs.declared.known_bytes_codec.KnownBytesCodec.{KnownBytesCodec}
use Rattle.zarrs_json.specs.declared.known_bytes_codec.KnownBytesCodec.TheVariants.{Crc32c, Sample}

known_undone : (codec : KnownBytesCodec) (r : BytesRepresentation) (bytes : List ℕ) → IsValue bytes → KeepsTo r bytes → length (known_encoded_bytes codec bytes) < 2 ^ 64 → known_decoded_bytes codec r (known_encoded_bytes codec bytes) ≡ Ok bytes
known_undone (Crc32c codec) r bytes value keeps small = crc32c_is_lawful.decode_undoes codec r bytes value keeps small
known_undone (Sample codec) r bytes value keeps small = sample_is_lawful.decode_undoes codec r bytes value keeps small

known_kept : (codec : KnownBytesCodec) (r : BytesRepresentation) (bytes : List ℕ) → IsValue bytes → KeepsTo r bytes → length (known_encoded_bytes codec bytes) < 2 ^ 64 → KeepsTo (known_representation codec r) (known_encoded_bytes codec bytes)
known_kept (Crc32c codec) r bytes value keeps small = crc32c_is_lawful.kept codec r bytes value keeps small
known_kept (Sample codec) r bytes value keeps small = sample_is_lawful.kept codec r bytes value keeps small

known_are_bytes : (codec : KnownBytesCodec) (bytes : List ℕ) → IsValue bytes → AreBytes (known_encoded_bytes codec bytes)
known_are_bytes (Crc32c codec) bytes value = crc32c_is_lawful.are_bytes codec bytes value
known_are_bytes (Sample codec) bytes value = sample_is_lawful.are_bytes codec bytes value

known_refusal : (codec : KnownBytesCodec) (r : BytesRepresentation) (bytes : List ℕ) (error : CodecError) → known_decoded_bytes codec r bytes ≡ Err error → IsBytesRefusal error
known_refusal (Crc32c codec) r bytes error e = crc32c_is_lawful.refusal codec r bytes error e
known_refusal (Sample codec) r bytes error e = sample_is_lawful.refusal codec r bytes error e

known_grows : (codec : KnownBytesCodec) (r s : BytesRepresentation) → IsAtMost r s → IsAtMost (known_representation codec r) (known_representation codec s)
known_grows (Crc32c codec) r s h = crc32c_is_lawful.grows codec r s h
known_grows (Sample codec) r s h = sample_is_lawful.grows codec r s h

pub known_is_lawful : IsLawful known_codecs
known_is_lawful = record {
  decode_undoes = known_undone;
  kept = known_kept;
  are_bytes = known_are_bytes;
  refusal = known_refusal;
  grows = known_grows;
}
