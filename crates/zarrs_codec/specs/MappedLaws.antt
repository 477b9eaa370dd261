-- What a reader and a writer of a decoded chunk keep of those of the encoded one: an answer has an element for each tuple, and what passes the checks fits.
use Rattle.std.specs.Prelude.{◌≡◌, ℕ, Bool, List, Result, Ok, Err, IfErr, refl}
use Rattle.std.proofs.Common.{subst, ◌∙◌}
use Rattle.zarrs_chunk.specs.Answer.{◌>>=◌}
use Rattle.zarrs_chunk.specs.Selection.{Selection, bounds_of, len_of}
use Rattle.zarrs_chunk.specs.declared.codec_error.CodecError.{CodecError}
use Rattle.zarrs_array_bytes.specs.Validity.{data_fit}
use Rattle.zarrs_codec.specs.ArrayReader.{ArrayReader, IsCounted, mapped_reader}
use Rattle.zarrs_codec.specs.ArrayWriter.{ArrayWriter, ChecksData, mapped_writer}
use Rattle.zarrs_codec.specs.CoordinateMap.{CoordinateMap}
use Rattle.zarrs_codec.specs.CountLaws.{passed}
use Rattle.zarrs_codec.specs.MappedSelection.{image_of, KeepsCount}

-- where the bounds are rejected, so is what comes behind them
refused_first : {A B : Type 0} (bounds : Result (Unit {0}) CodecError) (next : Unit {0} → Result A CodecError) (last : A → Result B CodecError) → IfErr bounds (λ cause. (bounds >>= next) >>= last ≡ Err cause)
refused_first (Ok u) next last = tt
refused_first (Err c) next last = refl

-- what is asked for of the moved chunk behind the bounds
abbrev pub asked_behind : Result CoordinateMap CodecError → (List ℕ → Selection → Selection) → Selection → Unit {0} → Result Selection CodecError
asked_behind coordinates asked selection _ = do
  m ← coordinates
  _ ← len_of selection
  Ok (asked m.encoded selection)

pub mapped_reader-counts : (coordinates : Result CoordinateMap CodecError) (asked : List ℕ → Selection → Selection) (in_part : Bool) (sizes : List ℕ) (input : ArrayReader)
    → KeepsCount (image_of coordinates asked sizes) → IsCounted input → IsCounted (mapped_reader coordinates asked in_part sizes input)
mapped_reader-counts coordinates asked in_part sizes input keeps counted selection chunk e =
    let image = passed (image_of coordinates asked sizes selection) input.answer chunk e in
    let bounds = passed (bounds_of selection sizes) (asked_behind coordinates asked selection) image.given image.first_is in
    record {
      inside = bounds.first_is;
      count = (counted image.given chunk image.second_is).count ∙ keeps selection image.given image.first_is;
    }

pub mapped_writer-checks : (coordinates : Result CoordinateMap CodecError) (asked : List ℕ → Selection → Selection) (in_part : Bool) (sizes : List ℕ) (input : ArrayReader) (over : ArrayWriter)
    → KeepsCount (image_of coordinates asked sizes) → ChecksData input over → ChecksData (mapped_reader coordinates asked in_part sizes input) (mapped_writer coordinates asked in_part sizes over)
mapped_writer-checks coordinates asked in_part sizes input over keeps checked = record {
  bounds = λ selection new. refused_first (bounds_of selection sizes) (asked_behind coordinates asked selection) (λ image. over.checks image new);
  fit = λ selection new e.
      let image = passed (image_of coordinates asked sizes selection) (λ image. over.checks image new) tt e in
      subst (λ n. data_fit input.type n new ≡ Ok tt) (keeps selection image.given image.first_is) (checked.fit image.given new image.second_is);
}
