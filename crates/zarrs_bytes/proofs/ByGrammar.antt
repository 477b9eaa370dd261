-- What the codec `bytes` promises of a call by its exact answer alone.
use Rattle.std.proofs.Common.{◌≡◌, ℕ, false, Result, List, Global}
use Rattle.std.specs.Prelude.{Option}
use Rattle.std.specs.declared.borrow.CowSlice.{CowSlice}
use Rattle.zarrs_chunk.specs.Answer.{Answers, AnswersBy, memory, is_fault}
use Rattle.zarrs_chunk.specs.declared.codec_error.CodecError.{CodecError}
use Rattle.zarrs_data_type.specs.declared.endianness.Endianness.{Endianness}
use Rattle.zarrs_array_bytes.specs.Held.{Held, items_of}
use Rattle.zarrs_array_bytes.specs.Validity.{Holds}
use Rattle.zarrs_data_type.specs.Form.{Form}
use Rattle.zarrs_bytes.specs.BytesGrammar.{bytes_grammar}
use Rattle.zarrs_codec.specs.Grammar.{Encodes, Decodes, WritesByGrammar, ReadsByGrammar}
use Rattle.zarrs_codec.proofs.ByGrammar.{encodes_from, decodes_from}
use Rattle.zarrs_bytes.proofs.Exact.{encoded_found, encoded_only, decoded_found, decoded_only}

pub bytes_writes : (order : Option Endianness) → WritesByGrammar (bytes_grammar order)
bytes_writes order = record {
  found = λ form held value e. encoded_found order form.sizes form.type form.fill value held e;
  only = λ form held chunk value holds written. encoded_only order form.sizes form.type form.fill value held chunk holds written;
}

pub bytes_reads : (order : Option Endianness) → ReadsByGrammar (bytes_grammar order)
bytes_reads order = record {
  found = λ form value chunk e. decoded_found order form.sizes form.type form.fill value chunk e;
  only = λ form value chunk stands. decoded_only order form.sizes form.type form.fill value chunk stands;
}

pub bytes_encodes : (order : Option Endianness) (form : Form) (held : Held) (r : Result (CowSlice ℕ Global) CodecError) → Answers memory items_of r ((bytes_grammar order).value form held) → is_fault r ≡ false → Encodes (bytes_grammar order) form held r
bytes_encodes order form held r exact none = encodes_from (bytes_grammar order) form held r (bytes_writes order) exact none

pub bytes_decodes : (order : Option Endianness) (form : Form) (value : List ℕ) (r : Result Held CodecError) → AnswersBy memory (Holds form.type) r ((bytes_grammar order).chunk form value) → is_fault r ≡ false → Decodes (bytes_grammar order) form value r
bytes_decodes order form value r exact none = decodes_from (bytes_grammar order) form value r (bytes_reads order) exact none
