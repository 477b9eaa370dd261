-- What is asked before a value is made shorter.
use Rattle.std.specs.Prelude.{ℕ, List, Result, Ok}
use Rattle.zarrs_chunk.specs.Answer.{◌>>=◌, seen}
use Rattle.zarrs_chunk.specs.declared.codec_error.CodecError.{CodecError}
use Rattle.zarrs_data_type.specs.ElementType.{ElementType}
use Rattle.zarrs_codec.specs.BytesToBytesCodec.{BytesCodecs}
use Rattle.zarrs_chain_meaning.specs.BytesStages.{outer_bytes}
use Rattle.zarrs_chain_meaning.specs.Chain.{taken_form}
use Rattle.zarrs_chain_meaning.specs.CodecMeaning.{PlainCodec, PlainChain, codec_representation}

-- that an array-to-bytes codec takes such chunks, or the first error
abbrev pub codec_opened : {B : Type 0} → BytesCodecs B → PlainCodec B → List ℕ → ElementType → List ℕ → Result (Unit {0}) CodecError
codec_opened f codec sizes type fill = seen (λ _. tt) (codec_representation f codec sizes type fill)

-- that a chain takes such chunks and its bytes-to-bytes codecs decode the value, or the first error
abbrev pub chain_opened : {B : Type 0} → BytesCodecs B → PlainChain B → List ℕ → ElementType → List ℕ → List ℕ → Result (Unit {0}) CodecError
chain_opened f chain sizes type fill value = do
  taken ← taken_form f chain sizes type fill
  _ ← outer_bytes f chain.bytes_to_bytes taken.1 value
  Ok tt
