-- Which bits a codec `packbits` keeps, and how it packs the chunks that it accepts.
-- Source: zarrs, `PackBitsCodec`.
use Rattle.std.specs.Prelude.{◌≡◌, ℕ, ◌+◌, ◌-◌, ◌*◌, ◌==◌, ◌&&◌, nat_le, nat_lt, Bool, true, false, not, Option, Some, None, unwrap_or, List, Result, Ok, Err, is_ok, if◌then◌else◌}
use Rattle.zarrs_chunk.specs.Answer.{◌>>=◌, demand, checked_u64, seen}
use Rattle.zarrs_chunk.specs.ChunkShape.{product}
use Rattle.zarrs_chunk.specs.declared.codec_error.CodecError.{CodecError}
use Rattle.zarrs_chunk.specs.declared.codec_error.CodecError.TheVariants.{UnsupportedDataType, InvalidFillValue, BitRange, Overflow}
use Rattle.zarrs_data_type.specs.ElementType.{ElementType, fixed, component_bytes}
use Rattle.zarrs_data_type.specs.FillValue.{fill_fits}
use Rattle.zarrs_metadata.specs.declared.codec.packbits.PackBitsPaddingEncoding.{PackBitsPaddingEncoding}
use Rattle.zarrs_metadata.specs.declared.codec.packbits.PackBitsPaddingEncoding.TheVariants as padding
use Rattle.zarrs_metadata.specs.declared.plugin_create_error.PluginCreateError.{PluginCreateError}
use Rattle.zarrs_metadata.specs.declared.plugin_create_error.PluginCreateError.TheVariants.{BitOrder}
use Rattle.zarrs_data_type.specs.Form.{Form, form_of}
use Rattle.zarrs_codec.specs.declared.bytes_representation.BytesRepresentation.{BytesRepresentation}
use Rattle.zarrs_codec.specs.declared.bytes_representation.BytesRepresentation.TheVariants.{FixedSize}
use Rattle.zarrs_packbits.specs.declared.layout.PackedLayout.{PackedLayout}
use Rattle.zarrs_packbits.specs.PackedLayout.{is_in_reach, is_whole}
use Rattle.zarrs_packbits.specs.PaddingByte.{value_len}
use Rattle.zarrs_packbits.specs.declared.packbits_codec.TheConstants.{PACKBITS}

-- where the padding byte stands, and the first and the last bit of a component that are kept, where they are given
pub record PackBitsSettings : Type 0 where
  pub padding : PackBitsPaddingEncoding
  pub first_bit : Option ℕ
  pub last_bit : Option ℕ

-- both bits are given, and the last is below the first
abbrev pub is_reversed : Option ℕ → Option ℕ → Bool
is_reversed (Some first) (Some last) = nat_lt last first
is_reversed (Some first) None = false
is_reversed None last = false

-- a codec's settings, or the error: the last bit isn't below the first
abbrev pub packbits_settings : PackBitsPaddingEncoding → Option ℕ → Option ℕ → Result PackBitsSettings PluginCreateError
packbits_settings padding first last = do
  _ ← demand (not (is_reversed first last)) BitOrder
  Ok (record { padding = padding; first_bit = first; last_bit = last })

-- the first bit of a component that is kept
abbrev pub first_of : PackBitsSettings → ℕ
first_of settings = unwrap_or settings.first_bit 0

-- the last bit that is kept of a component of so many bits
abbrev pub last_bit_of : PackBitsSettings → ℕ → ℕ
last_bit_of settings width = unwrap_or settings.last_bit (width - 1)

-- components of so many bits have the bits that are kept
abbrev pub has_bits : PackBitsSettings → ℕ → Bool
has_bits settings width = nat_le (first_of settings) (last_bit_of settings width) && nat_lt (last_bit_of settings width) width

-- where the padding byte stands: nowhere where all bits of whole bytes are kept
abbrev pub padding_for : PackBitsSettings → ℕ → ℕ → PackBitsPaddingEncoding
padding_for settings first above = if (first == 0) && (above == 0) then padding.None else settings.padding

-- how a chunk of so many elements is packed, each of so many components of so many bits
abbrev pub layout_for : PackBitsSettings → ℕ → ℕ → ℕ → Bool → PackedLayout
layout_for settings elements width components sign =
    let first = first_of settings in
    let last = last_bit_of settings width in
    let size = component_bytes width in
    let above = 8 * size - (last + 1) in
    record {
      elements = elements;
      group = components;
      size = size;
      first = first;
      count = last + 1 - first;
      above = above;
      sign = sign;
      padding = padding_for settings first above;
    }

-- How a chunk is packed, or the first error. An element has a component at least.
abbrev pub packed_layout : PackBitsSettings → Form → Result PackedLayout CodecError
packed_layout settings form = elim form.type [
  | fixed width components sign ↦ do
    _ ← demand (fill_fits (fixed width components sign) form.fill) InvalidFillValue
    _ ← demand (has_bits settings width && nat_lt 0 components) BitRange
    count ← checked_u64 (product form.sizes)
    _ ← demand (is_in_reach (layout_for settings count width components sign)) Overflow
    Ok (layout_for settings count width components sign)
  | _ ↦ Err (UnsupportedDataType PACKBITS)
]

-- how many bytes the value of such a chunk has, or the first error
abbrev pub packbits_length : PackBitsSettings → Form → Result ℕ CodecError
packbits_length settings form = seen value_len (packed_layout settings form)

-- the representation of the value of such a chunk, or the first error
abbrev pub packbits_represented : PackBitsSettings → Form → Result BytesRepresentation CodecError
packbits_represented settings form = seen FixedSize (packbits_length settings form)

-- the answer is the representation of the value of such a chunk, or the first error; it is never out of memory
abbrev pub PackBitsRepresentsNow : PackBitsSettings → List ℕ → ElementType → List ℕ → Result BytesRepresentation CodecError → Type 0
PackBitsRepresentsNow settings sizes type fill result = result ≡ packbits_represented settings (form_of sizes type fill)

-- the codec accepts such chunks
abbrev pub PackBitsTakes : PackBitsSettings → Form → Type 0
PackBitsTakes settings form = is_ok (packed_layout settings form) ≡ true

-- all bits of whole bytes are kept of the chunks that are packed so
abbrev pub keeps_all_bytes : Result PackedLayout CodecError → Bool
keeps_all_bytes (Ok l) = is_whole l
keeps_all_bytes (Err e) = false

-- the codec accepts such chunks, and keeps all bits of whole bytes of them
abbrev pub KeepsAllBytes : PackBitsSettings → Form → Type 0
KeepsAllBytes settings form = keeps_all_bytes (packed_layout settings form) ≡ true
