-- What a coder answers that is made for one call: an error of its construction comes first.
use Rattle.std.specs.Prelude.{ℕ, List, Option, Result}
use Rattle.zarrs_chunk.specs.Answer.{◌>>=◌}
use Rattle.zarrs_chunk.specs.Selection.{Selection}
use Rattle.zarrs_chunk.specs.declared.codec_error.CodecError.{CodecError}
use Rattle.zarrs_data_type.specs.Element.{Chunk}
use Rattle.zarrs_array_bytes.specs.Held.{Held}
use Rattle.zarrs_codec.specs.BytesToBytesCodec.{BytesCodecs}
use Rattle.zarrs_codec.specs.declared.capabilities.PartialDecoderCapability.{PartialDecoderCapability}
use Rattle.zarrs_chain_meaning.specs.ChunkForm.{ChunkForm}
use Rattle.zarrs_chain_meaning.specs.CodecMeaning.{chain_representation}
use Rattle.zarrs_codecs.specs.ChunkRead.{stored_read}
use Rattle.zarrs_codecs.specs.ChunkSource.{source_made}
use Rattle.zarrs_codecs.specs.ChunkWrite.{stored_written}

-- the elements that a selection selects of what is stored, by a decoder that is made for it
abbrev pub made_read : {B : Type 0} → BytesCodecs B → (B → PartialDecoderCapability) → ChunkForm B → Option (List ℕ) → Selection → Result Chunk CodecError
made_read f reads form stored selection = do
  _ ← source_made f reads form stored
  stored_read f form stored selection

-- the value that new elements at a selection leave of what is stored, by an encoder that is made for it
abbrev pub made_written : {B : Type 0} → BytesCodecs B → ChunkForm B → Option (List ℕ) → Selection → Held → Result (List ℕ) CodecError
made_written f form stored selection new = do
  _ ← chain_representation f form.chain form.sizes form.type form.fill
  stored_written f form stored selection new
