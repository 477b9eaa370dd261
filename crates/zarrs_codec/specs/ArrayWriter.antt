-- What contracts see of a partial encoder of chunks.
-- Source: zarrs, `ArrayPartialEncoderTraits`.
use Rattle.std.specs.Prelude.{◌≡◌, ◌⊎◌, ℕ, Bool, false, Option, Some, is_some, List, [], length, Result, Ok, Err, IfErr}
use Rattle.zarrs_chunk.specs.Answer.{◌>>=◌, no_refusal, seen}
use Rattle.zarrs_chunk.specs.Indexer.{selection_of}
use Rattle.zarrs_chunk.specs.Selection.{Selection, bounds_of, tuples_of}
use Rattle.zarrs_chunk.specs.declared.codec_error.CodecError.{CodecError}
use Rattle.zarrs_chunk.specs.declared.indexer.Indexer.{Indexer}
use Rattle.zarrs_data_type.specs.ElementType.{bytes}
use Rattle.zarrs_array_bytes.specs.Held.{Held}
use Rattle.zarrs_array_bytes.specs.Validity.{data_fit}
use Rattle.zarrs_codec.specs.ArrayReader.{ArrayReader, mapped_reader}
use Rattle.zarrs_codec.specs.CoordinateMap.{CoordinateMap}
use Rattle.zarrs_codec.specs.MappedSelection.{image_of}
use Rattle.zarrs_codec.specs.StorageState.{StorageState, after_reading, after_writing, apart_from_value, value_or_empty}

-- What is read where this value, or none, is stored; whether new elements at a selection are rejected whatever is stored, with the first error; and the value that writing them leaves of the stored one, or the first error.
pub record ArrayWriter : Type 0 where
  pub reads : Option (List ℕ) → ArrayReader
  pub checks : Selection → Held → Result (Unit {0}) CodecError
  pub written : Option (List ℕ) → Selection → Held → Result (List ℕ) CodecError

-- what stands for a writer where a chunk is only read: nothing is asked of it
abbrev pub no_writer : ArrayWriter
no_writer = record {
  reads = λ stored. record { sizes = []; type = bytes; is_stored = is_some stored; answer = λ selection. Ok []; sure = λ selection. false; in_part = false };
  checks = λ selection new. no_refusal;
  written = λ stored selection new. Ok (value_or_empty stored);
}

-- The writer of a decoded chunk of these sizes over one of the moved chunk: what that one is asked for, and given the same elements at, is the encoded selection.
abbrev pub mapped_writer : Result CoordinateMap CodecError → (List ℕ → Selection → Selection) → Bool → List ℕ → ArrayWriter → ArrayWriter
mapped_writer coordinates asked in_part sizes input = record {
  reads = λ stored. mapped_reader coordinates asked in_part sizes (input.reads stored);
  checks = λ selection new. image_of coordinates asked sizes selection >>= λ image. input.checks image new;
  written = λ stored selection new. image_of coordinates asked sizes selection >>= λ image. input.written stored image new;
}

-- What a writer checks of a selection and new elements: that the selection is inside the chunk, which comes first, and that there is a new element of the type for each of its tuples.
pub record ChecksData (reader : ArrayReader) (writer : ArrayWriter) : Type 0 where
  pub bounds : (selection : Selection) (new : Held) → IfErr (bounds_of selection reader.sizes) (λ cause. writer.checks selection new ≡ Err cause)
  pub fit : (selection : Selection) (new : Held) → writer.checks selection new ≡ Ok tt → data_fit reader.type (length (tuples_of selection)) new ≡ Ok tt

-- what a failed write leaves of the handle: nothing was written, and all is as a reading call leaves it that answers the same; or the one writing call that was made failed
abbrev pub IsRefusedWrite : {T : Type 0} → Result T CodecError → StorageState → StorageState → Type 0
IsRefusedWrite result old new =
    (new ≡ after_reading result old) ⊎ (apart_from_value new ≡ after_writing result old)

-- a write that failed made no writing call, or the one that failed (`state` is what a coder knows of its handle)
abbrev pub LeftByRefusal : {C T : Type 0} → (C → StorageState) → C → C → Result T CodecError → Type 0
LeftByRefusal state before after result = IsRefusedWrite result (state before) (state after)

-- the value that a handle keeps once new elements are written at an indexer's places, or the first error
abbrev pub written_value : ArrayWriter → StorageState → Indexer → Held → Result (Option (List ℕ)) CodecError
written_value writer state indexer new = seen Some (writer.written state.value (selection_of indexer) new)

-- new elements can be written at an indexer's places, as far as that is seen without the handle; or the first error
abbrev pub edit_check : ArrayWriter → Indexer → Held → Result (Unit {0}) CodecError
edit_check writer indexer new = writer.checks (selection_of indexer) new
