-- What the sample codecs of bytes compute.
use Rattle.std.specs.Prelude.{ℕ, ◌+◌, ◌^◌, ◌==◌, nat_le, nat_lt, if◌then◌else◌, List, ◌++◌, length, reverse, take, drop, Result, Ok}
use Rattle.std.specs.Int.{w64, to_le_bytes, from_le_bytes}
use Rattle.zarrs_chunk.specs.Answer.{◌>>=◌, demand}
use Rattle.zarrs_chunk.specs.declared.codec_error.CodecError.{CodecError}
use Rattle.zarrs_chunk.specs.declared.codec_error.CodecError.TheVariants.{BytesCodec}
use Rattle.zarrs_codec.specs.BytesToBytesCodec.{BytesCodecs}
use Rattle.zarrs_codec.specs.declared.bytes_representation.BytesRepresentation.{BytesRepresentation}
use Rattle.zarrs_codec.specs.declared.bytes_representation.BytesRepresentation.TheVariants.{FixedSize, BoundedSize, UnboundedSize}
use Rattle.zarrs_codec.specs.declared.sample_bytes_codec.SampleBytesCodec.{SampleBytesCodec}
use Rattle.zarrs_codec.specs.declared.sample_bytes_codec.SampleBytesCodec.TheVariants.{Reverse, Length}

-- how many bytes these are, in 8 bytes with the lowest first; shut, since it computes to a long list
unfoldable pub length_bytes : List ℕ → List ℕ
length_bytes bytes = to_le_bytes w64 (length bytes)

-- the number that 8 such bytes stand for; shut, since it computes to a long sum
unfoldable pub stored_length : List ℕ → ℕ
stored_length bytes = from_le_bytes w64 (take 8 bytes)

-- the bytes behind their length, where there is one and it is theirs
abbrev pub behind_length : List ℕ → Result (List ℕ) CodecError
behind_length bytes = do
  _ ← demand (nat_le 8 (length bytes)) (BytesCodec 1)
  _ ← demand (stored_length bytes == length (drop 8 bytes)) (BytesCodec 2)
  Ok (drop 8 bytes)

-- the bytes that a sample codec makes: the reversed ones, or these behind their length
abbrev pub sample_encoded_bytes : SampleBytesCodec → List ℕ → List ℕ
sample_encoded_bytes Reverse bytes = reverse bytes
sample_encoded_bytes Length bytes = length_bytes bytes ++ bytes

-- the bytes that a sample codec reads, or the error
abbrev pub sample_decoded_bytes : SampleBytesCodec → BytesRepresentation → List ℕ → Result (List ℕ) CodecError
sample_decoded_bytes Reverse r bytes = Ok (reverse bytes)
sample_decoded_bytes Length r bytes = behind_length bytes

-- with 8 bytes before them; unbounded where 64 bits don't count so many
abbrev pub with_length : BytesRepresentation → BytesRepresentation
with_length (FixedSize size) = if nat_lt (size + 8) (2 ^ 64) then FixedSize (size + 8) else UnboundedSize
with_length (BoundedSize size) = if nat_lt (size + 8) (2 ^ 64) then BoundedSize (size + 8) else UnboundedSize
with_length UnboundedSize = UnboundedSize

-- how many bytes a sample codec makes
abbrev pub sample_representation : SampleBytesCodec → BytesRepresentation → BytesRepresentation
sample_representation Reverse r = r
sample_representation Length r = with_length r

-- what the sample codecs compute
abbrev pub sample_codecs : BytesCodecs SampleBytesCodec
sample_codecs = record {
  encoded_bytes = sample_encoded_bytes;
  decoded_bytes = sample_decoded_bytes;
  representation = sample_representation;
}
