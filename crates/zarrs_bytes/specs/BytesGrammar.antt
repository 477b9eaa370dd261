-- What the codec `bytes` states of chunks.
use Rattle.std.specs.Prelude.{Option}
use Rattle.zarrs_data_type.specs.declared.endianness.Endianness.{Endianness}
use Rattle.zarrs_bytes.specs.BytesCodec.{BytesStands, BytesWritten, bytes_value, bytes_chunk}
use Rattle.zarrs_bytes.specs.PartialRead.{bytes_read, bytes_plan}
use Rattle.zarrs_codec.specs.Grammar.{Grammar}
use Rattle.zarrs_codec.specs.CodersOverHandles.{PartialReads}

-- what the codec states of chunks: for which a value stands, which value is written, what calls answer
abbrev pub bytes_grammar : Option Endianness → Grammar
bytes_grammar order = record {
  Stands = BytesStands order;
  Written = BytesWritten order;
  value = bytes_value order;
  chunk = bytes_chunk order;
}

-- what the codec reads in part: the elements at places, and the ranges of their bytes
abbrev pub bytes_reads_part : Option Endianness → PartialReads
bytes_reads_part order = record { read = bytes_read order; plan = λ form. bytes_plan form.sizes form.type }
