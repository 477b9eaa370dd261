-- What the checksum owes beside its definition.
use Rattle.std.specs.Prelude.{◌≡◌, ◌≢◌, ◌<◌, ℕ, bit_xor, List, [], ◌∷◌, ◌++◌, length, map, replicate, reverse, codes, Err}
use Rattle.std.specs.List.{range_with_len}
use Rattle.std.specs.Simd.Lanes.{zip2}
use Rattle.zarrs_chunk.specs.declared.codec_error.CodecError.TheVariants.{BytesCodec}
use Rattle.zarrs_codec.specs.BytesToBytesCodec.{AreBytes}
use Rattle.zarrs_crc32c.specs.Checksum.{after_bytes, crc32c}
use Rattle.zarrs_crc32c.specs.Crc32cCodec.{with_checksum, checked_bytes}

-- The examples of RFC 3720, B.4, with the lowest byte first there: 32 bytes of zeros, of ones, rising and falling; and the check value of the catalogues of checksums.
abbrev pub StandardVectors : Type 0
StandardVectors =
    map crc32c (replicate 32 0 ∷ replicate 32 255 ∷ range_with_len 0 32 ∷ reverse (range_with_len 0 32) ∷ codes "123456789" ∷ [])
    ≡ 0x8a91_36aa ∷ 0x62a8_ab43 ∷ 0x46dd_794e ∷ 0x113f_db5c ∷ 0xe306_9283 ∷ []

-- Bytes with their checksum, of which one byte was replaced by another one, are rejected: whether it stands in the bytes or in the checksum.
abbrev pub FindsReplacedByte : Type 0
FindsReplacedByte =
    (bytes front back : List ℕ) (byte other : ℕ) → AreBytes bytes → other < 256 → with_checksum bytes ≡ front ++ byte ∷ back → other ≢ byte
    → checked_bytes (front ++ other ∷ back) ≡ Err (BytesCodec 2)

-- The register is linear: bytes that are the sums of two lists of equal length leave the sum of what these leave.
abbrev pub IsLinear : Type 0
IsLinear =
    (first second : ℕ) (xs ys : List ℕ) → length xs ≡ length ys
    → after_bytes (bit_xor first second) (zip2 bit_xor xs ys) ≡ bit_xor (after_bytes first xs) (after_bytes second ys)
