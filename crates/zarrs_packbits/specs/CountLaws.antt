-- What is read in part has as many elements as were asked for.
use Rattle.std.specs.Prelude.{◌≡◌, ℕ, Bool, Option, Some, None, List, length, map, Ok}
use Rattle.std.proofs.Common.{◌∙◌, ap, sym}
use Rattle.std.proofs.lemmas.List.{length-map}
use Rattle.zarrs_chunk.specs.Answer.{demand}
use Rattle.zarrs_chunk.specs.Selection.{places_of}
use Rattle.zarrs_chunk.specs.declared.codec_error.CodecError.TheVariants.{InvalidByteRange}
use Rattle.zarrs_data_type.specs.Element.{Chunk, fill_element}
use Rattle.zarrs_data_type.specs.ElementType.{ElementType}
use Rattle.zarrs_data_type.specs.Form.{Form}
use Rattle.zarrs_codec.specs.ArrayReader.{IsCounted}
use Rattle.zarrs_codec.specs.CountLaws.{passed, same_value, places_counted}
use Rattle.zarrs_packbits.specs.BitStream.{packed_element}
use Rattle.zarrs_packbits.specs.PackBitsPartialDecoder.{PackBitsForm, packbits_form_in, packbits_reader}
use Rattle.zarrs_packbits.specs.PackBitsSettings.{PackBitsSettings, packed_layout}
use Rattle.zarrs_packbits.specs.PartialRead.{all_below, packed_places_bytes, read_packed_places, read_places_of}
use Rattle.zarrs_packbits.specs.declared.layout.PackedLayout.{PackedLayout}

read_count : (l : PackedLayout) (type : ElementType) (fill : List ℕ) (stored : Option (List ℕ)) (places : List ℕ) (chunk : Chunk) → read_packed_places l type fill stored places ≡ Ok chunk → length chunk ≡ length places
read_count l type fill None places chunk e =
    ap length (sym (same_value (map (λ _. fill_element type fill) places) chunk e)) ∙ length-map places (λ _. fill_element type fill)
read_count l type fill (Some value) places chunk e =
    let read : Chunk = map (packed_element l value) places in
    let rest = passed (demand (all_below (length value) (packed_places_bytes l places)) InvalidByteRange) (λ _. Ok read) chunk e in
    ap length (sym (same_value read chunk rest.second_is)) ∙ length-map places (packed_element l value)

pub read_count_of : (settings : PackBitsSettings) (form : Form) (stored : Option (List ℕ)) (places : List ℕ) (chunk : Chunk) → read_places_of settings form stored places ≡ Ok chunk → length chunk ≡ length places
read_count_of settings form stored places chunk e =
    let layout = passed (packed_layout settings form) (λ l. read_packed_places l form.type form.fill stored places) chunk e in
    read_count layout.given form.type form.fill stored places chunk layout.second_is

pub packbits_counts : (form : PackBitsForm) (stored : Option (List ℕ)) (sure : Option (ℕ → Bool)) (in_part : Bool) → IsCounted (packbits_reader form stored sure in_part)
packbits_counts form stored sure in_part selection chunk e =
    let places = passed (places_of selection form.sizes) (read_places_of form.settings (packbits_form_in form) stored) chunk e in
    let counted = places_counted selection form.sizes places.given places.first_is in
    record {
      inside = counted.inside;
      count = read_count_of form.settings (packbits_form_in form) stored places.given chunk places.second_is ∙ counted.count;
    }
