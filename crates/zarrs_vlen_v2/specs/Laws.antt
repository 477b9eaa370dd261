-- Laws of the codecs `vlen-utf8` and `vlen-bytes`.
use Rattle.std.specs.Prelude.{◌≡◌, ◌↔◌, ℕ, List}
use Rattle.zarrs_data_type.specs.Element.{Chunk}
use Rattle.zarrs_data_type.specs.Form.{Form}
use Rattle.zarrs_vlen_v2.specs.VlenV2Codec.{VlenV2Written}
use Rattle.zarrs_vlen_v2.specs.declared.vlen_v2_codec.VlenV2Codec.{VlenV2Codec}

-- Two chunks are written alike exactly if they are equal.
abbrev pub VlenV2WrittenAlike : Type 0
VlenV2WrittenAlike =
    (codec : VlenV2Codec) (form : Form) (value other_value : List ℕ) (chunk other : Chunk)
    → VlenV2Written codec form value chunk → VlenV2Written codec form other_value other
    → (value ≡ other_value) ↔ (chunk ≡ other)
