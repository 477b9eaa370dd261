-- Reading runs of places through a `vlen` codec: what the calls for that ask and give.
use Rattle.std.specs.Prelude.{◌≡◌, ℕ, Option, List, Result, true, false}
use Rattle.zarrs_chunk.specs.Answer.{GivesValue, is_fault, seen}
use Rattle.zarrs_chunk.specs.ChunkShape.{product}
use Rattle.zarrs_chunk.specs.Runs.{joined_runs}
use Rattle.zarrs_chunk.specs.declared.codec_error.CodecError.{CodecError}
use Rattle.zarrs_data_type.specs.Element.{Chunk}
use Rattle.zarrs_data_type.specs.ElementType.{ElementType}
use Rattle.zarrs_data_type.specs.Form.{Form}
use Rattle.zarrs_array_bytes.specs.Held.{Held}
use Rattle.zarrs_codec.specs.BytesToBytesCodec.{BytesCodecs}
use Rattle.zarrs_codec.specs.StorageState.{StorageState, are_sure}
use Rattle.zarrs_chain_meaning.specs.CallAnswers.{codec_represented}
use Rattle.zarrs_chain_meaning.specs.Chain.{codec_reads}
use Rattle.zarrs_chain_meaning.specs.CodecMeaning.{codec_chunk}
use Rattle.zarrs_chain_meaning.specs.vlen.PlainVlen.{plain_form}
use Rattle.zarrs_chain_meaning.specs.declared.vlen.plain_vlen.PlainVlen.{PlainVlen}
use Rattle.zarrs_chain.specs.ChainView.{plain_vlen}
use Rattle.zarrs_chain.specs.declared.vlen.vlen_codec.VlenCodec.{VlenCodec}
use Rattle.zarrs_plain_vlen.specs.PlainRead.{plain_read}
use Rattle.zarrs_plain_vlen.specs.VlenRead.{stored_rests_on}
use Rattle.zarrs_codecs.specs.ChunkRead.{AnswersRuns, SureRuns}
use Rattle.zarrs_codecs.specs.PartRead.{whole_read}

-- ---- which chunks the codec takes

-- the three parts of a form are given where it takes such chunks, or why it doesn't
abbrev pub GivesForm : {B : Type 0} → BytesCodecs B → VlenCodec B → Form → Result (List ℕ × ElementType × List ℕ) CodecError → Type 0
GivesForm f codec form result =
    GivesValue result (seen (λ _. (form.sizes, form.type, form.fill)) (codec_represented f (plain_vlen codec) form))

-- ---- by the whole value

-- the elements at the places of these runs, of the chunk that the value stands for; fill elements, where there is no value
abbrev pub vlen_whole_runs : {B : Type 0} → BytesCodecs B → VlenCodec B → Form → Option (List ℕ) → List (ℕ × ℕ) → Result Chunk CodecError
vlen_whole_runs f codec form value runs = whole_read (codec_chunk f (plain_vlen codec)) form.sizes form.type form.fill value (joined_runs runs)

-- ---- of a plain `vlen`, by the offsets and the elements' bytes

-- the elements at the places of these runs, of what a handle keeps; fill elements, where nothing is stored
abbrev pub ReadsPlain : PlainVlen → Form → StorageState → List (ℕ × ℕ) → Result Held CodecError → Type 0
ReadsPlain codec form before runs result =
    AnswersRuns form.type (plain_read (plain_form codec) (product form.sizes) form.type form.fill before.value (joined_runs runs)) result

-- no failure of the handle comes where the bytes are sure that such a read rests on
abbrev pub SurePlain : {T : Type 0} → PlainVlen → Form → StorageState → List (ℕ × ℕ) → Result T CodecError → Type 0
SurePlain codec form before runs result =
    are_sure before.sure (stored_rests_on (plain_form codec) (product form.sizes) before.value (joined_runs runs)) ≡ true → is_fault result ≡ false

-- ---- either way

-- of a codec that reads in part, no failure of the handle comes where the bytes are sure that a read of these runs rests on
abbrev pub SureVlenRuns : {B T : Type 0} → BytesCodecs B → VlenCodec B → Form → StorageState → List (ℕ × ℕ) → Result T CodecError → Type 0
SureVlenRuns f codec form before runs result =
    (codec_reads (plain_vlen codec)).partial_decode ≡ true → SureRuns f (plain_vlen codec) form before runs result
