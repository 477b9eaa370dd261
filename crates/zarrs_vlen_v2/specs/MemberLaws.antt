-- What joins the members of the codecs `vlen-utf8` and `vlen-bytes`: what is decoded is of chunks that they accept, and has as many elements as they have.
use Rattle.std.specs.Prelude.{◌≡◌, ℕ, zero, suc, ◌+◌, ◌-◌, ◌==◌, nat_le, List, [], ◌∷◌, length, take, drop, Result, Ok, IsOk, refl}
use Rattle.std.proofs.Common.{◌∙◌, ap, sym, subst}
use Rattle.zarrs_chunk.specs.Answer.{demand}
use Rattle.zarrs_chunk.specs.ChunkShape.{product}
use Rattle.zarrs_chunk.specs.declared.codec_error.CodecError.{CodecError}
use Rattle.zarrs_chunk.specs.declared.codec_error.CodecError.TheVariants.{InvalidBytesLength, ElementCount}
use Rattle.zarrs_data_type.specs.Element.{plain, Chunk}
use Rattle.zarrs_data_type.specs.Form.{Form}
use Rattle.zarrs_codec.specs.CodecMembers.{FitsForm}
use Rattle.zarrs_codec.specs.CountLaws.{passed, same_value}
use Rattle.zarrs_vlen_v2.specs.VlenV2Codec.{u32_of, elements_in, elements_of_value, vlen_v2_represented, vlen_v2_chunk}
use Rattle.zarrs_vlen_v2.specs.declared.vlen_v2_codec.VlenV2Codec.{VlenV2Codec}

row_count : (count whole at : ℕ) (row : List ℕ) (chunk : Chunk) → elements_in count whole at row ≡ Ok chunk → length chunk ≡ count
row_count zero whole at row chunk e =
    let none = passed (demand (length row == 0) (InvalidBytesLength whole at)) (λ _. Ok []) chunk e in
    ap length (sym (same_value [] chunk none.second_is))
row_count (suc count) whole at row chunk e =
    let size = u32_of (take 4 row) in
    let next : Chunk → Result Chunk CodecError = λ rest. Ok (plain (take size (drop 4 row)) ∷ rest) in
    let head = passed (demand (nat_le 4 (length row)) (InvalidBytesLength whole (at + 4))) _ chunk e in
    let fits = passed (demand (nat_le size (length row - 4)) (InvalidBytesLength whole (at + 4 + size))) _ chunk head.second_is in
    let rest = passed (elements_in count whole (at + 4 + size) (drop size (drop 4 row))) next chunk fits.second_is in
    ap length (sym (same_value (plain (take size (drop 4 row)) ∷ rest.given) chunk rest.second_is)) ∙ ap suc (row_count count whole (at + 4 + size) (drop size (drop 4 row)) rest.given rest.first_is)

pub vlen_v2_fits : (codec : VlenV2Codec) (form : Form) (value : List ℕ) (chunk : Chunk) → vlen_v2_chunk codec form value ≡ Ok chunk → FitsForm (vlen_v2_represented codec form) form chunk
vlen_v2_fits codec form value chunk e =
    let taken = passed (vlen_v2_represented codec form) (λ _. elements_of_value (product form.sizes) value) chunk e in
    let head = passed (demand (nat_le 4 (length value)) (InvalidBytesLength (length value) 4)) _ chunk taken.second_is in
    let count = passed (demand (u32_of (take 4 value) == product form.sizes) ElementCount) _ chunk head.second_is in
    record {
      taken = subst IsOk (sym taken.first_is) refl;
      count = row_count (product form.sizes) (length value) 4 (drop 4 value) chunk count.second_is;
    }
