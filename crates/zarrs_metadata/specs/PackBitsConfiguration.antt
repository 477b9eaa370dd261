-- The configuration of codec `packbits`.
-- Source: zarr-extensions, `packbits`.
use Rattle.std.specs.Prelude.{ℕ, nat_le, Bool, true, List, Option, Some, None, option_and_then, Result, Ok, codes, if◌then◌else◌}
use Rattle.std.specs.Str.{bytes_eq}
use Rattle.serde_json.specs.Data.{Data, unsigned, null, number, string, Members, no_members, member}
use Rattle.serde_json.specs.Find.{as_str, get_member}
use Rattle.zarrs_chunk.specs.Answer.{◌>>=◌, demand}
use Rattle.zarrs_metadata.specs.Trees.{optional_key, without_floats, whole_number}
use Rattle.zarrs_metadata.specs.declared.codec.packbits.PackBitsPaddingEncoding.{PackBitsPaddingEncoding}
use Rattle.zarrs_metadata.specs.declared.codec.packbits.PackBitsPaddingEncoding.TheVariants.{FirstByte, LastByte}
use Rattle.zarrs_metadata.specs.declared.configuration.packbits.PackBitsCodecConfiguration.{PackBitsCodecConfiguration}
use Rattle.zarrs_metadata.specs.declared.configuration.packbits.PackBitsCodecConfiguration.TheVariants.{V1}
use Rattle.zarrs_metadata.specs.declared.configuration.packbits.PackBitsCodecConfigurationV1.{PackBitsCodecConfigurationV1}
use Rattle.zarrs_metadata.specs.declared.plugin_create_error.PluginCreateError.{PluginCreateError}
use Rattle.zarrs_metadata.specs.declared.plugin_create_error.PluginCreateError.TheVariants.{BitOrder}

-- what a configuration of `packbits` is seen as: its three fields
abbrev pub packbits_seen : PackBitsCodecConfiguration → PackBitsCodecConfigurationV1
packbits_seen (V1 c) = c

-- where the padding byte stands, by its name
abbrev pub padding_named : List ℕ → Option PackBitsPaddingEncoding
padding_named name =
    if bytes_eq name (codes "none") then Some PackBitsPaddingEncoding.None
    else if bytes_eq name (codes "first_byte") then Some FirstByte
    else if bytes_eq name (codes "last_byte") then Some LastByte
    else None

-- the place of the padding byte that a tree names, where it is one of the three texts
abbrev pub padding_in : Data → Option PackBitsPaddingEncoding
padding_in tree = option_and_then padding_named (as_str tree)

-- the last bit isn't below the first, where both are given
abbrev pub are_bits_in_order : Option ℕ → Option ℕ → Bool
are_bits_in_order None last = true
are_bits_in_order (Some first) None = true
are_bits_in_order (Some first) (Some last) = nat_le first last

-- the fields of a configuration, none where a key is missing or null; or the first error
abbrev pub read_packbits : Members → Result PackBitsCodecConfigurationV1 PluginCreateError
read_packbits configuration = do
  _ ← without_floats configuration
  padding ← optional_key padding_in (get_member (codes "padding_encoding") configuration)
  first ← optional_key whole_number (get_member (codes "first_bit") configuration)
  last ← optional_key whole_number (get_member (codes "last_bit") configuration)
  _ ← demand (are_bits_in_order first last) BitOrder
  Ok (record { padding_encoding = padding; first_bit = first; last_bit = last })

-- no padding byte where nothing is given
abbrev pub padding_or_none : Option PackBitsPaddingEncoding → PackBitsPaddingEncoding
padding_or_none None = PackBitsPaddingEncoding.None
padding_or_none (Some padding) = padding

-- the text of a place of the padding byte
abbrev pub padding_name : PackBitsPaddingEncoding → List ℕ
padding_name PackBitsPaddingEncoding.None = codes "none"
padding_name FirstByte = codes "first_byte"
padding_name LastByte = codes "last_byte"

-- how a bit number is written: null where it isn't given
abbrev pub bit_tree : Option ℕ → Data
bit_tree None = null
bit_tree (Some n) = number (unsigned n)

-- the members that are written of a configuration: always its three keys
abbrev pub write_packbits : PackBitsCodecConfigurationV1 → Members
write_packbits c =
    member (codes "first_bit") (bit_tree c.first_bit)
    (member (codes "last_bit") (bit_tree c.last_bit)
    (member (codes "padding_encoding") (string (padding_name (padding_or_none c.padding_encoding))) no_members))

-- the settings of a configuration, with the padding byte declared: `none` where it isn't given
abbrev pub with_padding_said : PackBitsCodecConfigurationV1 → PackBitsCodecConfigurationV1
with_padding_said c = record { padding_encoding = Some (padding_or_none c.padding_encoding); first_bit = c.first_bit; last_bit = c.last_bit }
