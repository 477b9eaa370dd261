-- What contracts see of codecs that were made.
use Rattle.std.specs.Prelude.{map, option_map}
use Rattle.zarrs_array_to_array.specs.Mapping.{mapping_of}
use Rattle.zarrs_chain.specs.ChainView.{plain_codec}
use Rattle.zarrs_chain_meaning.specs.MadeChain.{CodecMade, array_made, to_bytes_made, outer_made, Gathered}
use Rattle.zarrs_chain.specs.declared.metadata.chain_parts.ChainParts.{ChainParts}
use Rattle.zarrs_chain.specs.declared.metadata.chain_parts.MadeCodec.{MadeCodec}
use Rattle.zarrs_chain.specs.declared.metadata.chain_parts.MadeCodec.TheVariants.{Array, ToBytes, Outer}

-- the codec, by its kind
abbrev pub made_seen : {B : Type 0} → MadeCodec B → CodecMade B
made_seen (Array codec) = array_made (mapping_of codec)
made_seen (ToBytes codec) = to_bytes_made (plain_codec codec)
made_seen (Outer codec) = outer_made codec

-- the codecs, by their kinds
abbrev pub parts_seen : {B : Type 0} → ChainParts B → Gathered B
parts_seen parts = record {
  array_to_array = map mapping_of parts.array_to_array.items;
  array_to_bytes = option_map plain_codec parts.array_to_bytes;
  bytes_to_bytes = parts.bytes_to_bytes.items;
}
