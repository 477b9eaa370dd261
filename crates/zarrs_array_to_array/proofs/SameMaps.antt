-- One coordinate map under two names.
use Rattle.std.proofs.Common.{◌≡◌, Result, Ok}
use Rattle.zarrs_chunk.specs.declared.codec_error.CodecError.{CodecError}
use Rattle.zarrs_codec.specs.CoordinateMap.{CoordinateMap}

pub same_map : (m n : CoordinateMap) → ◌≡◌ {A = Result CoordinateMap CodecError} (Ok n) (Ok m) → n ≡ m
same_map m n e = cc
