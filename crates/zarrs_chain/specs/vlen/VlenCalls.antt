-- What calls give that are asked of a `vlen` about chunks, whose sizes, type and fill value come one by one.
use Rattle.std.specs.Prelude.{◌≡◌, ℕ, List, Result}
use Rattle.zarrs_chunk.specs.declared.codec_error.CodecError.{CodecError}
use Rattle.zarrs_data_type.specs.ElementType.{ElementType}
use Rattle.zarrs_data_type.specs.Form.{form_of}
use Rattle.zarrs_codec.specs.BytesToBytesCodec.{BytesCodecs}
use Rattle.zarrs_codec.specs.declared.bytes_representation.BytesRepresentation.{BytesRepresentation}
use Rattle.zarrs_chain_meaning.specs.CallAnswers.{codec_represented, GivesRepresentation}
use Rattle.zarrs_chain.specs.ChainView.{plain_vlen}
use Rattle.zarrs_chain.specs.declared.vlen.vlen_codec.VlenCodec.{VlenCodec}

-- a `vlen` gives how many bytes the value of such a chunk has, or the first error
abbrev pub VlenRepresents : {B : Type 0} → BytesCodecs B → VlenCodec B → List ℕ → ElementType → List ℕ → Result BytesRepresentation CodecError → Type 0
VlenRepresents f codec sizes type fill result = GivesRepresentation f (plain_vlen codec) (form_of sizes type fill) result

-- the answer is how many bytes the value of such a chunk has, or the first error; it is never out of memory
abbrev pub Says : {B : Type 0} → BytesCodecs B → VlenCodec B → List ℕ → ElementType → List ℕ → Result BytesRepresentation CodecError → Type 0
Says f codec sizes type fill result = result ≡ codec_represented f (plain_vlen codec) (form_of sizes type fill)
