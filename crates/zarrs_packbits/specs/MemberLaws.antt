-- What joins the members of the codec `packbits`: what is decoded is of chunks that it accepts, and has as many elements as they have.
use Rattle.std.specs.Prelude.{◌≡◌, ℕ, ◌==◌, List, length, map, Result, Ok, Err, IsOk, refl}
use Rattle.std.specs.List.{range_with_len}
use Rattle.std.proofs.Common.{◌∙◌, ap, sym}
use Rattle.std.proofs.lemmas.List.FromFn.{length-map-range_with_len}
use Rattle.zarrs_chunk.specs.Answer.{◌>>=◌, demand, seen}
use Rattle.zarrs_chunk.specs.ChunkShape.{product}
use Rattle.zarrs_chunk.specs.declared.codec_error.CodecError.{CodecError}
use Rattle.zarrs_chunk.specs.declared.codec_error.CodecError.TheVariants.{InvalidBytesLength, PaddingByte}
use Rattle.zarrs_data_type.specs.Element.{Chunk}
use Rattle.zarrs_data_type.specs.Form.{Form}
use Rattle.zarrs_codec.specs.CodecMembers.{FitsForm}
use Rattle.zarrs_codec.specs.CountLaws.{passed, same_value}
use Rattle.zarrs_codec.specs.declared.bytes_representation.BytesRepresentation.TheVariants.{FixedSize}
use Rattle.zarrs_packbits.specs.BitStream.{packed_element}
use Rattle.zarrs_packbits.specs.PackBitsCodec.{packbits_chunk}
use Rattle.zarrs_packbits.specs.PackBitsSettings.{PackBitsSettings, packed_layout, packbits_represented}
use Rattle.zarrs_packbits.specs.PaddingByte.{value_len, padding_holds}
use Rattle.zarrs_packbits.specs.declared.layout.PackedLayout.{PackedLayout}

seen_ok : {A B C : Type 0} (view : A → B) (outer : B → C) (r : Result A CodecError) (a : A) → r ≡ Ok a → IsOk (seen outer (seen view r))
seen_ok view outer (Ok x) a e = refl
seen_ok view outer (Err c) a e = cc

pub packbits_fits : (settings : PackBitsSettings) (form : Form) (value : List ℕ) (chunk : Chunk) → packbits_chunk settings form value ≡ Ok chunk → FitsForm (packbits_represented settings form) form chunk
packbits_fits settings form value chunk e =
    let read : PackedLayout → Chunk = λ l. map (packed_element l value) (range_with_len 0 (product form.sizes)) in
    let padded : PackedLayout → Result Chunk CodecError = λ l. demand (padding_holds l value) PaddingByte >>= λ _. Ok (read l) in
    let layout = passed (packed_layout settings form) (λ l. demand (length value == value_len l) (InvalidBytesLength (length value) (value_len l)) >>= λ _. padded l) chunk e in
    let l : PackedLayout = layout.given in
    let sized = passed (demand (length value == value_len l) (InvalidBytesLength (length value) (value_len l))) (λ _. padded l) chunk layout.second_is in
    let rest = passed (demand (padding_holds l value) PaddingByte) (λ _. Ok (read l)) chunk sized.second_is in
    record {
      taken = seen_ok value_len FixedSize (packed_layout settings form) l layout.first_is;
      count = ap length (sym (same_value (read l) chunk rest.second_is)) ∙ length-map-range_with_len (packed_element l value) 0 (product form.sizes);
    }
