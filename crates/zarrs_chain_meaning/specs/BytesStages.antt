-- What the bytes-to-bytes codecs of a chain do, one after another.
use Rattle.std.specs.Prelude.{ℕ, ◌^◌, nat_lt, if◌then◌else◌, List, [], ◌∷◌, length, Result, Ok, Err}
use Rattle.zarrs_chunk.specs.Answer.{◌>>=◌}
use Rattle.zarrs_chunk.specs.declared.codec_error.CodecError.{CodecError}
use Rattle.zarrs_chunk.specs.declared.codec_error.CodecError.TheVariants.{OutOfMemory}
use Rattle.zarrs_codec.specs.BytesToBytesCodec.{BytesCodecs}
use Rattle.zarrs_codec.specs.declared.bytes_representation.BytesRepresentation.{BytesRepresentation}

-- bytes, or `OutOfMemory` where 64 bits don't count them
abbrev pub in_memory : List ℕ → Result (List ℕ) CodecError
in_memory bytes = if nat_lt (length bytes) (2 ^ 64) then Ok bytes else Err OutOfMemory

-- the bytes that codecs make of bytes, one codec after another; or the first error
abbrev pub outer_value : {B : Type 0} → BytesCodecs B → List B → List ℕ → Result (List ℕ) CodecError
outer_value f [] bytes = in_memory bytes
outer_value f (codec ∷ codecs) bytes = do
  below ← in_memory bytes
  outer_value f codecs (f.encoded_bytes codec below)

-- the bytes below the codecs, or the first error: the last codec is asked first
abbrev pub outer_bytes : {B : Type 0} → BytesCodecs B → List B → BytesRepresentation → List ℕ → Result (List ℕ) CodecError
outer_bytes f [] r value = Ok value
outer_bytes f (codec ∷ codecs) r value = do
  above ← outer_bytes f codecs (f.representation codec r) value
  f.decoded_bytes codec r above

-- how many bytes the codecs make of so many, one codec after another
abbrev pub outer_representation : {B : Type 0} → BytesCodecs B → List B → BytesRepresentation → BytesRepresentation
outer_representation f [] r = r
outer_representation f (codec ∷ codecs) r = outer_representation f codecs (f.representation codec r)
