-- What is read in part has as many elements as were asked for.
use Rattle.std.specs.Prelude.{◌≡◌, ℕ, Bool, Option, Some, None, List, length, map, Ok}
use Rattle.std.specs.List.{list_all}
use Rattle.std.proofs.Common.{◌∙◌, ap, sym}
use Rattle.std.proofs.lemmas.List.{length-map}
use Rattle.zarrs_chunk.specs.Answer.{demand}
use Rattle.zarrs_chunk.specs.Selection.{places_of}
use Rattle.zarrs_chunk.specs.declared.codec_error.CodecError.TheVariants.{InvalidByteRange}
use Rattle.zarrs_data_type.specs.Element.{Chunk, fill_element}
use Rattle.zarrs_data_type.specs.ElementType.{ElementType}
use Rattle.zarrs_data_type.specs.declared.endianness.Endianness.{Endianness}
use Rattle.zarrs_codec.specs.ArrayReader.{IsCounted}
use Rattle.zarrs_codec.specs.CountLaws.{passed, same_value, places_counted}
use Rattle.zarrs_bytes.specs.BytesCodec.{bytes_element}
use Rattle.zarrs_bytes.specs.BytesCodecPartial.{BytesForm, bytes_reader}
use Rattle.zarrs_bytes.specs.PartialRead.{has_place, read_places}

pub read_count : (order : Option Endianness) (type : ElementType) (fill : List ℕ) (stored : Option (List ℕ)) (places : List ℕ) (chunk : Chunk) → read_places order type fill stored places ≡ Ok chunk → length chunk ≡ length places
read_count order type fill None places chunk e =
    ap length (sym (same_value (map (λ _. fill_element type fill) places) chunk e)) ∙ length-map places (λ _. fill_element type fill)
read_count order type fill (Some value) places chunk e =
    let read : Chunk = map (bytes_element order type value) places in
    let rest = passed (demand (list_all (has_place type value) places) InvalidByteRange) (λ _. Ok read) chunk e in
    ap length (sym (same_value read chunk rest.second_is)) ∙ length-map places (bytes_element order type value)

pub bytes_counts : (form : BytesForm) (stored : Option (List ℕ)) (sure : Option (ℕ → Bool)) (in_part : Bool) → IsCounted (bytes_reader form stored sure in_part)
bytes_counts form stored sure in_part selection chunk e =
    let places = passed (places_of selection form.sizes) (read_places form.order form.type form.fill stored) chunk e in
    let counted = places_counted selection form.sizes places.given places.first_is in
    record {
      inside = counted.inside;
      count = read_count form.order form.type form.fill stored places.given chunk places.second_is ∙ counted.count;
    }
