-- The steps of a codec `vlen-utf8` or `vlen-bytes`, each by what its call is given.
use Rattle.std.specs.Prelude.{ℕ, ◌+◌, ◌-◌, nat_le, List, length, take, drop, Result, Ok}
use Rattle.zarrs_chunk.specs.Answer.{◌>>=◌, demand}
use Rattle.zarrs_chunk.specs.declared.codec_error.CodecError.{CodecError}
use Rattle.zarrs_chunk.specs.declared.codec_error.CodecError.TheVariants.{OffsetTooLarge, InvalidBytesLength}
use Rattle.zarrs_vlen_v2.specs.VlenV2Codec.{u32_of, fits_u32}

-- the number has four bytes, or the error
abbrev pub number_fits : ℕ → Result (Unit {0}) CodecError
number_fits n = demand (fits_u32 n) OffsetTooLarge

-- the bytes of the element whose length stands at a place of a value, or the error
abbrev pub element_in : List ℕ → ℕ → Result (List ℕ) CodecError
element_in value at = do
  let row = drop at value
  _ ← demand (nat_le 4 (length row)) (InvalidBytesLength (length value) (at + 4))
  let size = u32_of (take 4 row)
  _ ← demand (nat_le size (length row - 4)) (InvalidBytesLength (length value) (at + 4 + size))
  Ok (take size (drop 4 row))
