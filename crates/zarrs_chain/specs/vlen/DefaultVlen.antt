-- The chains inside a codec `vlen` where nothing else is asked for.
-- Source: zarrs, `VlenCodec`.
use Rattle.std.specs.Prelude.{Option, []}
use Rattle.zarrs_data_type.specs.declared.endianness.Endianness.{Endianness}
use Rattle.zarrs_chain_meaning.specs.CodecMeaning.{bytes_codec, PlainChain}

-- the codec `bytes` in this byte order, alone
abbrev pub bytes_chain : {B : Type 0} → Option Endianness → PlainChain B
bytes_chain order = record { array_to_array = []; array_to_bytes = bytes_codec order; bytes_to_bytes = [] }
