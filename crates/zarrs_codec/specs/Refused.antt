-- How the making of a coder came out.
use Rattle.std.specs.Prelude.{Result, Ok, Err}
use Rattle.zarrs_chunk.specs.declared.codec_error.CodecError.{CodecError}
use Rattle.zarrs_codec.specs.declared.refused.Refused.{Refused}

-- a coder was made, or the error
abbrev pub outcome : {T H : Type 0} → Result T (Refused H) → Result (Unit {0}) CodecError
outcome (Ok _) = Ok tt
outcome (Err refused) = Err refused.error
