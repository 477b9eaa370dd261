-- What contracts see of a partial decoder of chunks.
-- Source: zarrs, `ArrayPartialDecoderTraits`.
use Rattle.std.specs.Prelude.{◌≡◌, ℕ, Bool, true, ◌&&◌, List, length, Option, None, Result, Ok, Err}
use Rattle.zarrs_chunk.specs.Answer.{◌>>=◌}
use Rattle.zarrs_chunk.specs.Selection.{Selection, bounds_of, tuples_of}
use Rattle.zarrs_chunk.specs.declared.codec_error.CodecError.{CodecError}
use Rattle.zarrs_data_type.specs.ElementType.{ElementType}
use Rattle.zarrs_data_type.specs.Element.{Chunk}
use Rattle.zarrs_codec.specs.CoordinateMap.{CoordinateMap}
use Rattle.zarrs_codec.specs.MappedSelection.{image_of}

-- The sizes of the chunk that is read, and the type of its elements; whether it is stored; what is answered of a selection, its elements or the first error; of which selections a read never meets a failure of the handle; and whether a part is read without the rest.
pub record ArrayReader : Type 0 where
  pub sizes : List ℕ
  pub type : ElementType
  pub is_stored : Bool
  pub answer : Selection → Result Chunk CodecError
  pub sure : Selection → Bool
  pub in_part : Bool

-- whether a read is sure that asks for this image of its selection, or fails before it asks
abbrev pub image_is_sure : (Selection → Bool) → Result Selection CodecError → Bool
image_is_sure sure (Ok image) = sure image
image_is_sure sure (Err _) = true

-- how many reading calls are made for this image of a selection, where that is known
abbrev pub image_calls : (Selection → Option ℕ) → Result Selection CodecError → Option ℕ
image_calls calls (Ok image) = calls image
image_calls calls (Err _) = None

-- The reader of a decoded chunk of these sizes over one of the moved chunk: it answers what that one answers where it is asked for the encoded selection, and is as sure, since it asks for no more.
abbrev pub mapped_reader : Result CoordinateMap CodecError → (List ℕ → Selection → Selection) → Bool → List ℕ → ArrayReader → ArrayReader
mapped_reader coordinates asked in_part sizes input = record {
  sizes = sizes;
  type = input.type;
  is_stored = input.is_stored;
  answer = λ selection. image_of coordinates asked sizes selection >>= input.answer;
  sure = λ selection. image_is_sure input.sure (image_of coordinates asked sizes selection);
  in_part = in_part && input.in_part;
}

-- What is answered of a selection is of tuples inside the chunk, and has an element for each.
pub record CountsTuples (reader : ArrayReader) (selection : Selection) (chunk : Chunk) : Type 0 where
  pub inside : bounds_of selection reader.sizes ≡ Ok tt
  pub count : length chunk ≡ length (tuples_of selection)

-- a reader answers selections inside the chunk alone, with an element for each tuple
abbrev pub IsCounted : ArrayReader → Type 0
IsCounted reader = (selection : Selection) (chunk : Chunk) → reader.answer selection ≡ Ok chunk → CountsTuples reader selection chunk
