-- What a partial decoder of `packbits` is made of, and what it reads of a chunk.
-- Source: zarrs, `PackBitsPartialDecoder`.
use Rattle.std.specs.Prelude.{◌≡◌, ℕ, Bool, Option, is_some, List, Result, IfOk, Vec}
use Rattle.std.proofs.Common.{Global}
use Rattle.zarrs_chunk.specs.Answer.{GivesBy}
use Rattle.zarrs_chunk.specs.Indexer.{selection_of}
use Rattle.zarrs_chunk.specs.Selection.{places_of}
use Rattle.zarrs_chunk.specs.declared.codec_error.CodecError.{CodecError}
use Rattle.zarrs_chunk.specs.declared.indexer.Indexer.{Indexer}
use Rattle.zarrs_data_type.specs.ElementType.{ElementType}
use Rattle.zarrs_array_bytes.specs.Held.{Held}
use Rattle.zarrs_codec.specs.ArrayReader.{ArrayReader}
use Rattle.zarrs_codec.specs.ByteSpan.{ByteSpan}
use Rattle.zarrs_codec.specs.Calls.{AsksRanges, Calls, MakesReads}
use Rattle.zarrs_codec.specs.StorageState.{StorageState}
use Rattle.zarrs_codec.specs.declared.refused.Refused.{Refused}
use Rattle.zarrs_data_type.specs.Form.{Form, form_of}
use Rattle.zarrs_packbits.specs.PackBitsSettings.{PackBitsSettings}
use Rattle.zarrs_packbits.specs.PartialRead.{packbits_places, packbits_plan, packbits_read, reading_calls_of}
use Rattle.zarrs_packbits.specs.ReadPlan.{IsPackBitsPlan, asked_of}
use Rattle.zarrs_bytes.specs.BytesCodecPartial.{plan_is_sure}
use Rattle.zarrs_bytes.specs.ReadingCalls.{consecutive_runs}
use Rattle.zarrs_codec.specs.CodersOverHandles.{ReadsPart, OnlyReads}
use Rattle.zarrs_packbits.specs.PackBitsGrammar.{packbits_grammar, packbits_reads_part}
use Rattle.zarrs_packbits.specs.declared.packbits_partial_decoder.PackBitsPartialDecoder.{PackBitsPartialDecoder}

-- the chunks that a decoder reads: the settings, the shape, the type and the fill value
pub record PackBitsForm : Type 0 where
  pub settings : PackBitsSettings
  pub sizes : List ℕ
  pub type : ElementType
  pub fill : List ℕ

-- the form without the settings
abbrev pub packbits_form_in : PackBitsForm → Form
packbits_form_in form = record { sizes = form.sizes; type = form.type; fill = form.fill }

-- a decoder's settings, and the form of its chunk
abbrev pub packbits_form_of : {H : Type 0} → PackBitsPartialDecoder H → PackBitsForm
packbits_form_of decoder =
    record { settings = decoder.codec; sizes = decoder.shape; type = decoder.data_type; fill = decoder.fill_value }

-- the handle that a decoder reads
abbrev pub packbits_handle_of : {H : Type 0} → PackBitsPartialDecoder H → H
packbits_handle_of decoder = decoder.handle

-- what is seen of a decoder's handle
abbrev pub decoder_state : {H : Type 0} → (H → StorageState) → PackBitsPartialDecoder H → StorageState
decoder_state state decoder = state (packbits_handle_of decoder)

-- the value that a decoder's handle keeps, or none
abbrev pub packbits_stored_in : {H : Type 0} → (H → StorageState) → PackBitsPartialDecoder H → Option (List ℕ)
packbits_stored_in state decoder = (decoder_state state decoder).value

-- a decoder that is made has these settings, and is one of chunks of this form
abbrev pub HasPackBitsForm : {H : Type 0} → PackBitsSettings → Form → Result (PackBitsPartialDecoder H) (Refused H) → Type 0
HasPackBitsForm settings form result =
    IfOk result (λ decoder. packbits_form_of decoder ≡ record { settings = settings; sizes = form.sizes; type = form.type; fill = form.fill })

-- the elements at a selection are read, of the chunk that the stored value stands for, or fill elements, by the places' bits alone (`state` is what a handle keeps)
abbrev pub PackBitsReads : {H : Type 0} → (H → StorageState) → PackBitsPartialDecoder H → Indexer → Result Held CodecError → Type 0
PackBitsReads state decoder indexer result =
    ReadsPart (packbits_grammar decoder.codec) (packbits_reads_part decoder.codec) (form_of decoder.shape decoder.data_type decoder.fill_value) (state decoder.handle) (selection_of indexer) result

-- a call of a decoder leaves all as it was, but for the failure that it answers
abbrev pub PackBitsLeaves : {H T L : Type 0} → (H → StorageState) → (H → L) → PackBitsPartialDecoder H → PackBitsPartialDecoder H → Result T CodecError → Type 0
PackBitsLeaves state lent before after result =
    OnlyReads (decoder_state state) (λ decoder. lent (packbits_handle_of decoder)) packbits_form_of before after result

-- the record of a decoder's handle, where it keeps one
abbrev pub decoder_calls : {H : Type 0} → (H → Option Calls) → PackBitsPartialDecoder H → Option Calls
decoder_calls calls decoder = calls (packbits_handle_of decoder)

-- how many reading calls a read of these places makes: one; where all bits of whole bytes are kept, as many as of the codec `bytes`
abbrev pub packbits_read_count : {H : Type 0} → (H → StorageState) → PackBitsPartialDecoder H → List ℕ → ℕ
packbits_read_count state decoder places =
    reading_calls_of decoder.codec (form_of decoder.shape decoder.data_type decoder.fill_value) (packbits_stored_in state decoder) (consecutive_runs places)

-- an accepted read makes so many (`calls` is the record of a handle)
abbrev pub PackBitsCountsReads : {H T : Type 0} → (H → StorageState) → (H → Option Calls) → PackBitsPartialDecoder H → PackBitsPartialDecoder H → Indexer → Result T CodecError → Type 0
PackBitsCountsReads state calls before after indexer result =
    IfOk (places_of (selection_of indexer) before.shape) (λ places.
    MakesReads (decoder_calls calls) (packbits_read_count state before places) before after result)

-- the ranges that a decoder's handle was asked for, where it keeps them
abbrev pub decoder_asked : {H : Type 0} → (H → Option (List ByteSpan)) → PackBitsPartialDecoder H → Option (List ByteSpan)
decoder_asked asked decoder = asked (packbits_handle_of decoder)

-- an accepted read asks for the ranges of its places, one for each run of consecutive places; where all bits of whole bytes are kept, as the codec `bytes` does (`asked` states which ranges a handle was asked for)
abbrev pub PackBitsAsksReads : {H T : Type 0} → (H → StorageState) → (H → Option (List ByteSpan)) → PackBitsPartialDecoder H → PackBitsPartialDecoder H → Indexer → Result T CodecError → Type 0
PackBitsAsksReads state asked before after indexer result =
    IfOk (places_of (selection_of indexer) before.shape) (λ places.
    AsksRanges (decoder_asked asked) (asked_of before.codec (form_of before.shape before.data_type before.fill_value) (packbits_stored_in state before) (consecutive_runs places)) before after result)

-- the ranges that a decoder plans are the plan of a read of the places that the indexer selects, or the first error is returned
abbrev pub Plans : {H : Type 0} → PackBitsPartialDecoder H → Indexer → Result (Vec ByteSpan Global) CodecError → Type 0
Plans decoder indexer result =
    GivesBy (λ ranges read. IsPackBitsPlan read.1 read.0 ranges.items) result (packbits_places decoder.codec (form_of decoder.shape decoder.data_type decoder.fill_value) (selection_of indexer))

-- the reader of a chunk of this form, where this value or none is stored, and these bytes are sure: it answers of a selection what `packbits_read` states
abbrev pub packbits_reader : PackBitsForm → Option (List ℕ) → Option (ℕ → Bool) → Bool → ArrayReader
packbits_reader form stored sure in_part = record {
  sizes = form.sizes;
  type = form.type;
  is_stored = is_some stored;
  answer = packbits_read form.settings (packbits_form_in form) stored;
  sure = λ selection. plan_is_sure sure (packbits_plan form.settings (packbits_form_in form) selection);
  in_part = in_part;
}
