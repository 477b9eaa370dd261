-- Which error a wrong length gives.
use Rattle.zarrs_chunk.specs.declared.codec_error.CodecError.TheVariants as error
use Rattle.zarrs_array_bytes.specs.Validity.{LengthRefusal}
use Rattle.zarrs_array_bytes.specs.declared.validate.WrongLength.{WrongLength}
use Rattle.zarrs_array_bytes.specs.declared.validate.WrongLength.TheVariants.{InvalidBytesLength, DataMismatch}

-- the error that it names, of the length that is found and the one that is due
abbrev pub refusal_of : WrongLength → LengthRefusal
refusal_of InvalidBytesLength found expected = error.InvalidBytesLength found expected
refusal_of DataMismatch found expected = error.DataMismatch
