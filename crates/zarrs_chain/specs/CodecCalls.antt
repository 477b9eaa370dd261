-- What is read of a value of `bytes` behind array-to-array codecs.
use Rattle.std.specs.Prelude.{ℕ, List, Option, Result, IfOk}
use Rattle.std.specs.declared.alloc.Global.{Global}
use Rattle.std.specs.declared.borrow.CowSlice.{CowSlice}
use Rattle.zarrs_chunk.specs.Answer.{GivesBy, seen}
use Rattle.zarrs_chunk.specs.declared.codec_error.CodecError.{CodecError}
use Rattle.zarrs_data_type.specs.Form.{Form}
use Rattle.zarrs_data_type.specs.declared.endianness.Endianness.{Endianness}
use Rattle.zarrs_array_bytes.specs.Held.{Held, items_of}
use Rattle.zarrs_array_bytes.specs.Validity.{Holds}
use Rattle.zarrs_array_to_array.specs.declared.array_to_array_codec.ArrayToArrayCodec.{ArrayToArrayCodec}
use Rattle.zarrs_bytes.specs.BytesCodec.{bytes_chunk}
use Rattle.zarrs_codec.specs.CoordinateMap.{moved_chunk, inverse_map}
use Rattle.zarrs_chain_meaning.specs.ArrayStages.{map_through}

-- A container of the chunk of these sizes that the value of `bytes` in this order stands for, as the array-to-array codecs decode it where they take such chunks; or the first error.
abbrev pub ReadsBehind : Option Endianness → List ArrayToArrayCodec → Form → CowSlice ℕ Global → Result Held CodecError → Type 0
ReadsBehind order codecs form value result =
    IfOk (map_through form.type codecs form.sizes) (λ m. GivesBy (Holds form.type) result (seen (moved_chunk (inverse_map form.sizes m)) (bytes_chunk order form (items_of value))))
