-- What calls give that are asked of a chain about chunks: their sizes, their type and their fill value come one by one.
use Rattle.std.specs.Prelude.{ℕ, List, Result, IfOk}
use Rattle.zarrs_chunk.specs.declared.codec_error.CodecError.{CodecError}
use Rattle.zarrs_data_type.specs.ElementType.{ElementType}
use Rattle.zarrs_data_type.specs.Form.{form_of}
use Rattle.zarrs_codec.specs.BytesToBytesCodec.{BytesCodecs}
use Rattle.zarrs_codec.specs.declared.bytes_representation.BytesRepresentation.{BytesRepresentation}
use Rattle.zarrs_chain_meaning.specs.ArrayStages.{IsMapWhere}
use Rattle.zarrs_chain_meaning.specs.CallAnswers.{GivesChainRepresentation}
use Rattle.zarrs_chain.specs.ChainView.{plain_chain}
use Rattle.zarrs_chain.specs.declared.codec_chain.CodecChain.{CodecChain}

-- a chain gives how many bytes the value of such a chunk has, or the first error
abbrev pub ChainRepresents : {B : Type 0} → BytesCodecs B → CodecChain B → List ℕ → ElementType → List ℕ → Result BytesRepresentation CodecError → Type 0
ChainRepresents f chain sizes type fill result = GivesChainRepresentation f (plain_chain chain) (form_of sizes type fill) result

-- where a call answers Ok, what the array-to-array codecs do to such chunks is a coordinate map
abbrev pub MapsArrays : {B E T : Type 0} → CodecChain B → ElementType → List ℕ → Result T E → Type 0
MapsArrays chain type sizes result = IfOk result (λ _. IsMapWhere type (plain_chain chain).array_to_array sizes)
