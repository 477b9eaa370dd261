-- What a partial decoder of `vlen` is made of, and what it reads of a chunk.
use Rattle.std.specs.Prelude.{◌≡◌, ℕ, ◌&&◌, Bool, true, Option, is_some, IfOk, List, Result, false, Some, None, map, Err, IfErr}
use Rattle.zarrs_chunk.specs.Answer.{◌>>=◌, AnswersBy, is_fault, memory, memory_or_fault, seen}
use Rattle.zarrs_chunk.specs.Selection.{Selection, places_of, bounds_of}
use Rattle.zarrs_chunk.specs.declared.codec_error.CodecError.{CodecError}
use Rattle.zarrs_data_type.specs.Element.{Chunk, fill_element}
use Rattle.zarrs_data_type.specs.ElementType.{ElementType}
use Rattle.zarrs_codec.specs.ArrayReader.{ArrayReader}
use Rattle.zarrs_codec.specs.BytesToBytesCodec.{BytesCodecs}
use Rattle.zarrs_codec.specs.StorageState.{are_sure, StorageState}
use Rattle.zarrs_chain_meaning.specs.Chain.{codec_reads}
use Rattle.zarrs_chain.specs.ChainView.{plain_vlen}
use Rattle.zarrs_codecs.specs.ChunkRead.{are_given_sure}
use Rattle.zarrs_codecs.specs.CodecPart.{codec_read, codec_rests_on}
use Rattle.zarrs_codecs.specs.declared.vlen.vlen_partial_decoder.VlenPartialDecoder.{VlenPartialDecoder}
use Rattle.zarrs_array_bytes.specs.Elements.{select}
use Rattle.zarrs_array_bytes.specs.Held.{Held}
use Rattle.zarrs_array_bytes.specs.Validity.{Holds}
use Rattle.zarrs_chain_meaning.specs.CodecMeaning.{PlainCodec, CodecStands}
use Rattle.zarrs_codec.specs.CodersOverHandles.{OnlyReads}

-- the chunk that is read: through which array-to-bytes codec, its sizes, its type and its fill value
pub record CodecForm (B : Type 0) : Type 0 where
  pub codec : PlainCodec B
  pub sizes : List ℕ
  pub type : ElementType
  pub fill : List ℕ

-- the chunk that a decoder of `vlen` reads
abbrev pub vlen_form : {H B : Type 0} {h : _} {b : _} → VlenPartialDecoder H B h b → CodecForm B
vlen_form decoder =
    record { codec = plain_vlen decoder.codec.now; sizes = decoder.shape; type = decoder.data_type; fill = decoder.fill_value }

-- the handle that a decoder of `vlen` reads
abbrev pub vlen_handle_of : {H B : Type 0} {h : _} {b : _} → VlenPartialDecoder H B h b → H
vlen_handle_of decoder = decoder.handle

-- The elements that a selection selects, in its order, of what is stored, or the first error: the selection's; the codec's. Where nothing is stored, the fill element at each place.
abbrev pub codec_stored_read : {B : Type 0} → BytesCodecs B → CodecForm B → Option (List ℕ) → Selection → Result Chunk CodecError
codec_stored_read f form stored selection = do
  places ← places_of selection form.sizes
  codec_read f form.codec form.sizes form.type form.fill stored places

-- the numbers of the bytes that a read rests on, of what is stored, or the first error: the selection's; the codec's
abbrev pub codec_selection_rests_on : {B : Type 0} → BytesCodecs B → CodecForm B → Option (List ℕ) → Selection → Result (List ℕ) CodecError
codec_selection_rests_on f form stored selection = do
  places ← places_of selection form.sizes
  codec_rests_on f form.codec form.sizes form.type form.fill stored places

-- P, where a read asks for a part of the value alone and the bytes that it rests on are sure
abbrev pub CodecWhereSure : {B : Type 0} → BytesCodecs B → CodecForm B → StorageState → Selection → Type 0 → Type 0
CodecWhereSure f form before selection P =
    (codec_reads form.codec).partial_decode ≡ true → IfOk (codec_selection_rests_on f form before.value selection) (λ numbers. are_sure before.sure numbers ≡ true → P)

-- a read of the selection never meets a failure of the handle that has this value and these sure bytes: it asks for a part of the value alone, and the bytes are sure that it rests on
abbrev pub codec_reads_surely : {B : Type 0} → BytesCodecs B → CodecForm B → Option (List ℕ) → Option (ℕ → Bool) → Selection → Bool
codec_reads_surely f form stored sure selection =
    (codec_reads form.codec).partial_decode && are_given_sure sure (codec_selection_rests_on f form stored selection)

-- the reader of a chunk of this form, where these bytes are sure and this value or none is stored: it answers of a selection what `codec_stored_read` says
abbrev pub codec_reader : {B : Type 0} → BytesCodecs B → CodecForm B → Option (ℕ → Bool) → Option (List ℕ) → Bool → ArrayReader
codec_reader f form sure stored in_part = record {
  sizes = form.sizes;
  type = form.type;
  is_stored = is_some stored;
  answer = codec_stored_read f form stored;
  sure = codec_reads_surely f form stored sure;
  in_part = in_part;
}

-- ---- what calls give

-- What a read gives: the elements at the selected places, of the chunk that the stored value stands for, or of fill elements where nothing is stored; or the first error. Only a lack of memory or a failure of the handle may come in its place, a failure behind the errors of the selection, and never where the codec is plain and the bytes are sure that the answer rests on.
pub record ReadsVlen {B : Type 0} (f : BytesCodecs B) (form : CodecForm B) (before : StorageState) (selection : Selection) (result : Result Held CodecError) : Type 0 where
  pub selected : (value : List ℕ) (chunk : Chunk) → before.value ≡ Some value → CodecStands f form.codec form.sizes form.type form.fill value chunk
      → AnswersBy memory_or_fault (Holds form.type) result (seen (select chunk) (places_of selection form.sizes))
  pub unstored : before.value ≡ None
      → AnswersBy memory_or_fault (Holds form.type) result (seen (map (λ _. fill_element form.type form.fill)) (places_of selection form.sizes))
  pub exact : AnswersBy memory_or_fault (Holds form.type) result (codec_stored_read f form before.value selection)
  pub indexer_first : IfErr (bounds_of selection form.sizes) (λ cause. AnswersBy memory (Holds form.type) result (Err cause))
  pub sure : CodecWhereSure f form before selection (is_fault result ≡ false)

-- a reading call of a decoder leaves all as it was, but for the failure that it answers (`state` says what a handle keeps)
abbrev pub VlenLeaves : {H B T L : Type 0} {h : _} {b : _} → (H → StorageState) → (H → L) → VlenPartialDecoder H B h b → VlenPartialDecoder H B h b → Result T CodecError → Type 0
VlenLeaves state lent before after result =
    OnlyReads (λ decoder. state (vlen_handle_of decoder)) (λ decoder. lent (vlen_handle_of decoder)) vlen_form before after result
