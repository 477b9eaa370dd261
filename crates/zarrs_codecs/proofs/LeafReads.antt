-- What is read of a value in a span through a codec that isn't `sharding_indexed`.
use Rattle.std.proofs.Common.{◌≡◌, ℕ, false, Option, Some, List, [], Result, refl, subst}
use Rattle.zarrs_array_bytes.specs.Elements.{select}
use Rattle.zarrs_array_bytes.specs.Held.{Held}
use Rattle.zarrs_array_bytes.specs.Validity.{Holds}
use Rattle.zarrs_chain_meaning.specs.Chain.{codec_reads}
use Rattle.zarrs_chain_meaning.specs.CodecMeaning.{PlainCodec, PlainChain, codec_chunk}
use Rattle.zarrs_chunk.specs.Answer.{AnswersBy, memory, memory_or_fault, seen}
use Rattle.zarrs_codec.specs.BytesToBytesCodec.{BytesCodecs}
use Rattle.zarrs_codec.specs.declared.bytes_representation.BytesRepresentation.TheVariants.{UnboundedSize}
use Rattle.zarrs_codecs.proofs.SpanChains.{moved_alone}
use Rattle.zarrs_codecs.proofs.WholeReads.{whole_answer}
use Rattle.zarrs_codecs.specs.CodecPart.{codec_read}
use Rattle.zarrs_data_type.specs.ElementType.{ElementType}

-- a chain of this codec alone
abbrev pub lone_chain : {B : Type 0} → PlainCodec B → PlainChain B
lone_chain codec = record { array_to_array = []; array_to_bytes = codec; bytes_to_bytes = [] }

-- a codec that reads no part answers by the whole chunk
pub wholly_answered : {B : Type 0} (f : BytesCodecs B) (codec : PlainCodec B) (sizes : List ℕ) (type : ElementType) (fill : List ℕ) (stored : Option (List ℕ)) (value places : List ℕ) (result : Result Held _) → (codec_reads codec).partial_decode ≡ false → stored ≡ Some value
    → AnswersBy memory (Holds type) result (seen (λ chunk. select chunk places) (codec_chunk f codec sizes type fill value)) → AnswersBy memory_or_fault (Holds type) result (codec_read f codec sizes type fill stored places)
wholly_answered f codec sizes type fill stored value places result whole is h =
    subst (AnswersBy memory_or_fault (Holds type) result) (moved_alone f (lone_chain codec) sizes type fill UnboundedSize stored places refl)
    (whole_answer f (lone_chain codec) sizes type fill UnboundedSize stored value places result whole is h)
