-- Construction of a coder of chunks in part.
use Rattle.std.specs.Prelude.{ℕ, Option, List, Result}
use Rattle.zarrs_chunk.specs.Answer.{Gives, seen}
use Rattle.zarrs_chunk.specs.declared.codec_error.CodecError.{CodecError}
use Rattle.zarrs_data_type.specs.ElementType.{ElementType}
use Rattle.zarrs_data_type.specs.Form.{form_of}
use Rattle.zarrs_data_type.specs.declared.endianness.Endianness.{Endianness}
use Rattle.zarrs_codec.specs.Refused.{outcome}
use Rattle.zarrs_codec.specs.declared.refused.Refused.{Refused}
use Rattle.zarrs_bytes.specs.BytesCodec.{bytes_length}

-- A coder is made where something is expected, else the expected error is returned. Only a lack of memory may come in its place.
abbrev pub GivesCoder : {T H A : Type 0} → Result T (Refused H) → Result A CodecError → Type 0
GivesCoder result expected = Gives (λ made. made) (outcome result) (seen (λ _. tt) expected)

-- a coder is made where the codec `bytes` accepts such chunks, else the first error is returned
abbrev pub GivesBytesCoder : {T H : Type 0} → Option Endianness → List ℕ → ElementType → List ℕ → Result T (Refused H) → Type 0
GivesBytesCoder order sizes type fill result = GivesCoder result (bytes_length order (form_of sizes type fill))
