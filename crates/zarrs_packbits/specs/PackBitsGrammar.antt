-- What the codec `packbits` states of chunks.
use Rattle.zarrs_codec.specs.CodersOverHandles.{PartialReads}
use Rattle.zarrs_codec.specs.Grammar.{Grammar}
use Rattle.zarrs_packbits.specs.PackBitsCodec.{PackBitsStands, PackBitsWritten, packbits_value, packbits_chunk}
use Rattle.zarrs_packbits.specs.PackBitsSettings.{PackBitsSettings}
use Rattle.zarrs_packbits.specs.PartialRead.{packbits_plan, packbits_read}

-- what the codec states of chunks: for which a value stands, which value is written, what calls answer
abbrev pub packbits_grammar : PackBitsSettings → Grammar
packbits_grammar settings = record {
  Stands = PackBitsStands settings;
  Written = PackBitsWritten settings;
  value = packbits_value settings;
  chunk = packbits_chunk settings;
}

-- what is read of a chunk in part, and by which bytes
abbrev pub packbits_reads_part : PackBitsSettings → PartialReads
packbits_reads_part settings = record { read = packbits_read settings; plan = packbits_plan settings }
