-- What is read in part through a chain has as many elements as were asked for.
use Rattle.std.specs.Prelude.{ℕ, Bool, Option, Some, None, List, length, map, Ok}
use Rattle.std.proofs.Common.{◌∙◌, ap, sym}
use Rattle.std.proofs.lemmas.List.{length-map}
use Rattle.zarrs_chunk.specs.Answer.{◌>>=◌}
use Rattle.zarrs_chunk.specs.Selection.{places_of}
use Rattle.zarrs_codec.specs.ArrayReader.{IsCounted}
use Rattle.zarrs_codec.specs.BytesToBytesCodec.{BytesCodecs}
use Rattle.zarrs_codec.specs.CountLaws.{passed, same_value, places_counted}
use Rattle.zarrs_chain_meaning.specs.ArrayStages.{arrays_map}
use Rattle.zarrs_chain_meaning.specs.Chain.{taken_form}
use Rattle.zarrs_codecs.specs.ChunkRead.{encoded_places, outer_stored}
use Rattle.zarrs_chain_meaning.specs.ChunkForm.{ChunkForm}
use Rattle.zarrs_bytes.specs.CountLaws.{read_count}
use Rattle.zarrs_packbits.specs.CountLaws.{read_count_of}
use Rattle.zarrs_chain_meaning.specs.CodecFacts.{facts}
use Rattle.zarrs_chain_meaning.specs.CodecMeaning.{PlainCodec, bytes_codec, packbits_codec, vlen_codec, sharding_codec, meaning}
use Rattle.zarrs_chain_meaning.specs.Meaning.{Meaning, through}
use Rattle.zarrs_chain_meaning.specs.vlen.PlainForm.{PlainForm}
use Rattle.zarrs_chunk.specs.ChunkShape.{product}
use Rattle.zarrs_data_type.specs.Form.{form_of}
use Rattle.zarrs_codecs.specs.CodecPart.{codec_read, part_of, vlen_part}
use Rattle.zarrs_codecs.specs.PartRead.{AnswersEach, whole_count, plain_count}
use Rattle.zarrs_codecs.specs.PlaceLaws.{read_through}
use Rattle.zarrs_codecs.specs.ShardRead.{shard_count}
use Rattle.zarrs_codecs.specs.PartialDecoder.{chunk_reader}
use Rattle.zarrs_codecs.specs.vlen.VlenPartialDecoder.{CodecForm, codec_reader}

-- ---- an element for each place

vlen_counted : {B : Type 0} (f : BytesCodecs B) (form : Option PlainForm) (m : Meaning B) → AnswersEach ((vlen_part form m).read f)
vlen_counted f None m = whole_count (m.chunk f)
vlen_counted f (Some form) m = λ sizes. plain_count form (product sizes)

-- what an array-to-bytes codec reads of places has an element for each
pub part_counted : {B : Type 0} (f : BytesCodecs B) (codec : PlainCodec B) → AnswersEach ((part_of codec).read f)
part_counted f (bytes_codec order) = λ sizes. read_count order
part_counted f (packbits_codec settings) = λ sizes type fill. read_count_of settings (form_of sizes type fill)
part_counted f (vlen_codec ia ix ib da dx db wide at_end) = vlen_counted f (facts (vlen_codec ia ix ib da dx db wide at_end)).plain (meaning (vlen_codec ia ix ib da dx db wide at_end))
part_counted f (sharding_codec sa sx sb ia ix ib shape at_end) =
    let index = through ia (meaning ix) ib in
    shard_count shape at_end (index.representation f) (index.chunk f) (read_through f sa ((meaning sx).representation f) ((part_of sx).read f) sb)
part_counted f codec = whole_count ((meaning codec).chunk f)

-- ---- as many as are selected

pub chunk_counts : {B : Type 0} (f : BytesCodecs B) (form : ChunkForm B) (cached : Bool) (sure : Option (ℕ → Bool)) (stored : Option (List ℕ)) (in_part : Bool) → IsCounted (chunk_reader f form cached sure stored in_part)
chunk_counts f form cached sure stored in_part selection chunk e =
    let encoded = passed (encoded_places form.type form.chain.array_to_array form.sizes selection)
    (λ places. taken_form f form.chain form.sizes form.type form.fill >>= λ taken. outer_stored f form.chain.bytes_to_bytes taken.1 stored >>= λ below. codec_read f form.chain.array_to_bytes taken.0 form.type form.fill below places) chunk e in
    let places = passed (places_of selection form.sizes) (λ places. arrays_map form.type form.chain.array_to_array form.sizes >>= λ m. Ok (map m.to places)) encoded.given encoded.first_is in
    let moved = passed (arrays_map form.type form.chain.array_to_array form.sizes) (λ m. Ok (map m.to places.given)) encoded.given places.second_is in
    let taken = passed (taken_form f form.chain form.sizes form.type form.fill) (λ taken. outer_stored f form.chain.bytes_to_bytes taken.1 stored >>= λ below. codec_read f form.chain.array_to_bytes taken.0 form.type form.fill below encoded.given) chunk encoded.second_is in
    let below = passed (outer_stored f form.chain.bytes_to_bytes taken.given.1 stored) (λ below. codec_read f form.chain.array_to_bytes taken.given.0 form.type form.fill below encoded.given) chunk taken.second_is in
    let counted = places_counted selection form.sizes places.given places.first_is in
    record {
      inside = counted.inside;
      count = part_counted f form.chain.array_to_bytes taken.given.0 form.type form.fill below.given encoded.given chunk below.second_is
          ∙ ap length (sym (same_value (map moved.given.to places.given) encoded.given moved.second_is)) ∙ length-map places.given moved.given.to ∙ counted.count;
    }

pub codec_counts : {B : Type 0} (f : BytesCodecs B) (form : CodecForm B) (sure : Option (ℕ → Bool)) (stored : Option (List ℕ)) (in_part : Bool) → IsCounted (codec_reader f form sure stored in_part)
codec_counts f form sure stored in_part selection chunk e =
    let places = passed (places_of selection form.sizes) (codec_read f form.codec form.sizes form.type form.fill stored) chunk e in
    let counted = places_counted selection form.sizes places.given places.first_is in
    record {
      inside = counted.inside;
      count = part_counted f form.codec form.sizes form.type form.fill stored places.given chunk places.second_is ∙ counted.count;
    }
