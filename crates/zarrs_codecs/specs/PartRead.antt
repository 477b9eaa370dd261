-- What reads of places answer by the whole chunk, or by the plain form of a `vlen`; an answer has an element for each place.
use Rattle.std.specs.Prelude.{◌≡◌, ℕ, Option, Some, None, List, length, map, get_or, Result, Ok}
use Rattle.std.specs.List.{list_all}
use Rattle.std.proofs.Common.{◌∙◌, ap, sym}
use Rattle.std.proofs.lemmas.List.{length-map}
use Rattle.zarrs_array_bytes.specs.Elements.{cut, select}
use Rattle.zarrs_chain_meaning.specs.Meaning.{Decoder}
use Rattle.zarrs_chain_meaning.specs.vlen.PlainForm.{PlainForm}
use Rattle.zarrs_chain_meaning.specs.vlen.Vlen.{vlen_value_parts}
use Rattle.zarrs_chunk.specs.Answer.{◌>>=◌, demand}
use Rattle.zarrs_chunk.specs.declared.codec_error.CodecError.{CodecError}
use Rattle.zarrs_chunk.specs.declared.codec_error.CodecError.TheVariants.{InvalidByteRange}
use Rattle.zarrs_codec.specs.CountLaws.{passed, same_value}
use Rattle.zarrs_data_type.specs.Element.{Element, plain, absent, Chunk, fill_element}
use Rattle.zarrs_data_type.specs.ElementType.{ElementType}
use Rattle.zarrs_plain_vlen.specs.PlainRead.{plain_read}
use Rattle.zarrs_plain_vlen.specs.VlenRead.{element_is_there, offsets_read, elements_read}

-- what answers the elements at places of a chunk of these sizes, this type and this fill value, by the bytes that are there, or by none
abbrev pub PlaceReader : Type 0
PlaceReader = List ℕ → ElementType → List ℕ → Option (List ℕ) → List ℕ → Result Chunk CodecError

-- by the whole chunk: its elements; the fill element at each place, where no bytes are there
abbrev pub whole_read : Decoder → PlaceReader
whole_read decode sizes type fill None places = Ok (map (λ _. fill_element type fill) places)
whole_read decode sizes type fill (Some value) places = do
  chunk ← decode sizes type fill value
  Ok (select chunk places)

-- ---- an element for each place

-- where such a read answers, it answers an element for each place
abbrev pub AnswersEach : PlaceReader → Type 0
AnswersEach read =
    (sizes : List ℕ) (type : ElementType) (fill : List ℕ) (stored : Option (List ℕ)) (places : List ℕ) (chunk : Chunk)
    → read sizes type fill stored places ≡ Ok chunk → length chunk ≡ length places

-- what is made of places one by one
pub each_count : (f : ℕ → Element) (places : List ℕ) (chunk : Chunk) → (let made : Result Chunk CodecError = Ok (map f places) in made ≡ Ok chunk) → length chunk ≡ length places
each_count f places chunk e = ap length (sym (same_value (map f places) chunk e)) ∙ length-map places f

-- by the whole chunk
pub whole_count : (decode : Decoder) → AnswersEach (whole_read decode)
whole_count decode sizes type fill None places chunk e = each_count (λ _. fill_element type fill) places chunk e
whole_count decode sizes type fill (Some value) places chunk e =
    let whole = passed (decode sizes type fill value) (λ c. Ok (select c places)) chunk e in
    each_count (λ place. get_or whole.given place absent) places chunk whole.second_is

-- and of a `vlen` by its plain form
pub plain_count : (form : PlainForm) (count : ℕ) (type : ElementType) (fill : List ℕ) (stored : Option (List ℕ)) (places : List ℕ) (chunk : Chunk) → plain_read form count type fill stored places ≡ Ok chunk → length chunk ≡ length places
plain_count form count type fill None places chunk e = each_count (λ _. fill_element type fill) places chunk e
plain_count form count type fill (Some value) places chunk e =
    let parts = passed (vlen_value_parts form.at_end value) (λ parts. offsets_read form count parts.0 >>= λ offsets. elements_read offsets parts.1 places) chunk e in
    let offsets = passed (offsets_read form count parts.given.0) (λ offsets. elements_read offsets parts.given.1 places) chunk parts.second_is in
    let read = passed (demand (list_all (element_is_there offsets.given (length parts.given.1)) places) InvalidByteRange) (λ _. Ok (map (λ place. plain (cut offsets.given parts.given.1 place)) places)) chunk offsets.second_is in
    each_count (λ place. plain (cut offsets.given parts.given.1 place)) places chunk read.second_is
