-- Codecs that hand on what they are given, as it is: no byte is changed, moved or copied.
use Rattle.std.specs.Prelude.{◌≡◌, Bool, true, false, List, [], Result, IfOk, is_none, map}
use Rattle.std.specs.List.{list_all}
use Rattle.std.specs.Option.{option_map_or}
use Rattle.zarrs_chunk.specs.declared.codec_error.CodecError.{CodecError}
use Rattle.zarrs_data_type.specs.ElementType.{ElementType}
use Rattle.zarrs_array_bytes.specs.Held.{Held}
use Rattle.zarrs_array_to_array.specs.ArrayToArrayCodec.{keeps_places}
use Rattle.zarrs_array_to_array.specs.Mapping.{mapping_of}
use Rattle.zarrs_array_to_array.specs.declared.array_to_array_codec.ArrayToArrayCodec.{ArrayToArrayCodec}
use Rattle.zarrs_bytes.specs.BytesCodec.{turn_size}
use Rattle.zarrs_chain_meaning.specs.CodecFacts.{facts}
use Rattle.zarrs_chain_meaning.specs.CodecMeaning.{PlainCodec, PlainChain}

-- what is answered is the given container, owned or lent as it was, where these codecs hand it on
abbrev pub HandsOn : List ArrayToArrayCodec → Held → Result Held CodecError → Type 0
HandsOn codecs held result = list_all keeps_places (map mapping_of codecs) ≡ true → IfOk result (λ moved. moved ≡ held)

-- the codec is `bytes`, and leaves all bytes of elements of this type in their places
abbrev pub codec_keeps_bytes : {B : Type 0} → PlainCodec B → ElementType → Bool
codec_keeps_bytes codec type = option_map_or (λ order. is_none (turn_size order type)) (facts codec).order false

-- a chain changes no byte of a chunk and moves none: its array-to-array codecs leave each place where it is, its codec is `bytes` that leaves all bytes in their places, and it has no bytes-to-bytes codecs
pub record KeepsBytes {B : Type 0} (chain : PlainChain B) (type : ElementType) : Type 0 where
  pub arrays : list_all keeps_places chain.array_to_array ≡ true
  pub codec : codec_keeps_bytes chain.array_to_bytes type ≡ true
  pub outer : chain.bytes_to_bytes ≡ []
