-- What calls give that are asked of an `optional` about chunks, whose sizes, type and fill value come one by one.
use Rattle.std.specs.Prelude.{◌≡◌, ◌+◌, ◌<◌, ◌^◌, ℕ, List, length, Result, Ok}
use Rattle.std.specs.declared.alloc.Global.{Global}
use Rattle.std.specs.declared.borrow.CowSlice.{CowSlice}
use Rattle.zarrs_chunk.specs.declared.codec_error.CodecError.{CodecError}
use Rattle.zarrs_data_type.specs.ElementType.{ElementType}
use Rattle.zarrs_data_type.specs.Form.{form_of}
use Rattle.zarrs_array_bytes.specs.Held.{items_of}
use Rattle.zarrs_codec.specs.BytesToBytesCodec.{BytesCodecs}
use Rattle.zarrs_codec.specs.declared.bytes_representation.BytesRepresentation.{BytesRepresentation}
use Rattle.zarrs_array_bytes.specs.Validity.{sizes_fit}
use Rattle.zarrs_chain_meaning.specs.CallAnswers.{GivesRepresentation}
use Rattle.zarrs_chain.specs.ChainView.{plain_optional}
use Rattle.zarrs_chain.specs.declared.optional.optional_codec.OptionalCodec.{OptionalCodec}

-- an `optional` gives how many bytes the value of such a chunk has, or the first error
abbrev pub OptionalRepresents : {B : Type 0} → BytesCodecs B → OptionalCodec B → List ℕ → ElementType → List ℕ → Result BytesRepresentation CodecError → Type 0
OptionalRepresents f codec sizes type fill result = GivesRepresentation f (plain_optional codec) (form_of sizes type fill) result

-- 64 bits count what as many elements as mask bytes take, where they count the offsets of so many
abbrev pub HasMaskRoom : ElementType → CowSlice ℕ Global → Type 0
HasMaskRoom type mask = length (items_of mask) + 1 < 2 ^ 64 → sizes_fit type (length (items_of mask)) ≡ Ok tt
