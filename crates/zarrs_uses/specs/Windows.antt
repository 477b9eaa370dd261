-- What a window of a stored chunk is.
use Rattle.std.specs.Prelude.{◌≡◌, ℕ, Option, Some, List, Result}
use Rattle.zarrs_codecs.specs.Answer.{AnswersBy, memory_or_fault, seen}
use Rattle.zarrs_codecs.specs.Selection.{Selection, places_of}
use Rattle.zarrs_codecs.specs.CodecError.{CodecError}
use Rattle.zarrs_codecs.specs.Element.{Chunk}
use Rattle.zarrs_codecs.specs.Elements.{select}
use Rattle.zarrs_codecs.specs.Held.{Held}
use Rattle.zarrs_codecs.specs.Validity.{Holds}
use Rattle.zarrs_codecs.specs.BytesToBytesCodec.{BytesCodecs}
use Rattle.zarrs_codecs.specs.ChunkForm.{ChunkForm}
use Rattle.zarrs_codecs.specs.CodecMeaning.{ChainStands}

-- Where the stored value stands for a chunk, the answer holds the chunk's elements at the places that are selected, in their order, or is the selection's error. Only a lack of memory or a failure of the handle may come in its place.
abbrev pub ReadsWindow : {B : Type 0} → BytesCodecs B → ChunkForm B → Option (List ℕ) → Selection → Result Held CodecError → Type 0
ReadsWindow f form stored selection result =
    (value : List ℕ) (chunk : Chunk) → stored ≡ Some value → ChainStands f form.chain form.sizes form.type form.fill value chunk
    → AnswersBy memory_or_fault (Holds form.type) result (seen (select chunk) (places_of selection form.sizes))
