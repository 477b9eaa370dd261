-- What joins the members of the codec `bytes`: what is decoded is of chunks that it accepts, and has as many elements as they have.
use Rattle.std.specs.Prelude.{◌≡◌, ℕ, ◌==◌, Option, List, length, map, Result, Ok, Err, IsOk, refl}
use Rattle.std.specs.List.{range_with_len}
use Rattle.std.proofs.Common.{◌∙◌, ap, sym}
use Rattle.std.proofs.lemmas.List.FromFn.{length-map-range_with_len}
use Rattle.zarrs_chunk.specs.Answer.{◌>>=◌, demand, seen}
use Rattle.zarrs_chunk.specs.ChunkShape.{product}
use Rattle.zarrs_chunk.specs.declared.codec_error.CodecError.{CodecError}
use Rattle.zarrs_chunk.specs.declared.codec_error.CodecError.TheVariants.{InvalidBytesLength}
use Rattle.zarrs_data_type.specs.Element.{Chunk}
use Rattle.zarrs_data_type.specs.Form.{Form}
use Rattle.zarrs_data_type.specs.declared.endianness.Endianness.{Endianness}
use Rattle.zarrs_codec.specs.CodecMembers.{FitsForm}
use Rattle.zarrs_codec.specs.CountLaws.{passed, same_value}
use Rattle.zarrs_codec.specs.declared.bytes_representation.BytesRepresentation.TheVariants.{FixedSize}
use Rattle.zarrs_bytes.specs.BytesCodec.{bytes_element, bytes_length, bytes_represented, bytes_chunk}

seen_ok : {A B : Type 0} (view : A → B) (r : Result A CodecError) (a : A) → r ≡ Ok a → IsOk (seen view r)
seen_ok view (Ok x) a e = refl
seen_ok view (Err c) a e = cc

pub bytes_fits : (order : Option Endianness) (form : Form) (value : List ℕ) (chunk : Chunk) → bytes_chunk order form value ≡ Ok chunk → FitsForm (bytes_represented order form) form chunk
bytes_fits order form value chunk e =
    let read : Chunk = map (bytes_element order form.type value) (range_with_len 0 (product form.sizes)) in
    let len = passed (bytes_length order form) (λ len. demand (length value == len) (InvalidBytesLength (length value) len) >>= λ _. Ok read) chunk e in
    let rest = passed (demand (length value == len.given) (InvalidBytesLength (length value) len.given)) (λ _. Ok read) chunk len.second_is in
    record {
      taken = seen_ok FixedSize (bytes_length order form) len.given len.first_is;
      count = ap length (sym (same_value read chunk rest.second_is)) ∙ length-map-range_with_len (bytes_element order form.type value) 0 (product form.sizes);
    }
