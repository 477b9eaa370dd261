-- What the codec `crc32c` computes: the bytes, and behind them their checksum.
-- Source: the Zarr v3 codec `crc32c`.
use Rattle.std.specs.Prelude.{ℕ, ◌+◌, ◌-◌, ◌^◌, ◌==◌, nat_le, nat_lt, if◌then◌else◌, List, ◌++◌, length, take, drop, Result, Ok}
use Rattle.std.specs.Int.{w32, to_le_bytes, from_le_bytes}
use Rattle.zarrs_chunk.specs.Answer.{◌>>=◌, demand, seen}
use Rattle.zarrs_chunk.specs.declared.codec_error.CodecError.{CodecError}
use Rattle.zarrs_chunk.specs.declared.codec_error.CodecError.TheVariants.{BytesCodec}
use Rattle.zarrs_array_bytes.specs.Held.{Raw}
use Rattle.zarrs_codec.specs.BytesToBytesCodec.{BytesCodecs}
use Rattle.zarrs_codec.specs.declared.bytes_representation.BytesRepresentation.{BytesRepresentation}
use Rattle.zarrs_codec.specs.declared.bytes_representation.BytesRepresentation.TheVariants.{FixedSize, BoundedSize, UnboundedSize}
use Rattle.zarrs_crc32c.specs.Checksum.{crc32c}
use Rattle.zarrs_crc32c.specs.declared.crc32c_codec.Crc32cCodec.{Crc32cCodec}

-- the checksum of some bytes in 4 bytes, the lowest first; shut, since it computes to a long list
unfoldable pub checksum_bytes : List ℕ → List ℕ
checksum_bytes bytes = to_le_bytes w32 (crc32c bytes)

-- the number that 4 such bytes stand for; shut, since it computes to a long sum
unfoldable pub checksum_in : List ℕ → ℕ
checksum_in bytes = from_le_bytes w32 bytes

-- the bytes and their checksum
abbrev pub with_checksum : List ℕ → List ℕ
with_checksum bytes = bytes ++ checksum_bytes bytes

-- all but the last 4 bytes, and those
abbrev pub bytes_before : List ℕ → List ℕ
bytes_before encoded = take (length encoded - 4) encoded

-- the last four bytes
abbrev pub last_four : List ℕ → List ℕ
last_four encoded = drop (length encoded - 4) encoded

-- the bytes that stand before a checksum, or the first error: there is one, and it is theirs
abbrev pub checked_bytes : List ℕ → Result (List ℕ) CodecError
checked_bytes encoded = do
  _ ← demand (nat_le 4 (length encoded)) (BytesCodec 1)
  _ ← demand (checksum_in (last_four encoded) == crc32c (bytes_before encoded)) (BytesCodec 2)
  Ok (bytes_before encoded)

-- the bytes before a checksum where it is theirs, or the first error: lent ones stay so, and owned ones are cut
abbrev pub checked_raw : Raw → Result Raw CodecError
checked_raw encoded =
    seen (λ items. record { items = items; is_owned = encoded.is_owned }) (checked_bytes encoded.items)

-- 4 bytes more; unbounded where 64 bits don't count so many
abbrev pub four_more : BytesRepresentation → BytesRepresentation
four_more (FixedSize size) = if nat_lt (size + 4) (2 ^ 64) then FixedSize (size + 4) else UnboundedSize
four_more (BoundedSize size) = if nat_lt (size + 4) (2 ^ 64) then BoundedSize (size + 4) else UnboundedSize
four_more UnboundedSize = UnboundedSize

-- what the codec computes
abbrev pub crc32c_codecs : BytesCodecs Crc32cCodec
crc32c_codecs = record {
  encoded_bytes = λ codec bytes. with_checksum bytes;
  decoded_bytes = λ codec representation encoded. checked_bytes encoded;
  representation = λ codec representation. four_more representation;
}
