-- A chunk that is encoded and decoded again.
use Rattle.std.specs.Prelude.{Result}
use Rattle.zarrs_codecs.specs.Answer.{GivesBy}
use Rattle.zarrs_codecs.specs.BytesToBytesCodec.{BytesCodecs}
use Rattle.zarrs_codecs.specs.Chain.{held_value}
use Rattle.zarrs_codecs.specs.CodecError.{CodecError}
use Rattle.zarrs_codecs.specs.CodecMeaning.{PlainChain, normal_form}
use Rattle.zarrs_codecs.specs.Element.{Chunk}
use Rattle.zarrs_codecs.specs.Form.{Form}
use Rattle.zarrs_codecs.specs.Held.{Held}
use Rattle.zarrs_codecs.specs.Validity.{Holds}

-- Where the chain writes a value of what was given, a container is returned of what the chain keeps of the chunk, its normal form; else the error of encoding. Only lack of memory may come in its place.
abbrev pub ComesBack : {B : Type 0} → BytesCodecs B → PlainChain B → Form → Held → Result Held CodecError → Type 0
ComesBack f chain form given result =
    GivesBy (λ decoded _. (chunk : Chunk) × Holds form.type given chunk × Holds form.type decoded (normal_form chain.array_to_bytes form.type chunk)) result
    (held_value f chain form.sizes form.type form.fill given)
