-- The relations of the codec `packbits` are its functions.
use Rattle.std.proofs.Common.{◌≡◌, ℕ, false, Result, List, Global}
use Rattle.std.specs.declared.borrow.CowSlice.{CowSlice}
use Rattle.zarrs_chunk.specs.Answer.{Answers, AnswersBy, memory, is_fault}
use Rattle.zarrs_chunk.specs.declared.codec_error.CodecError.{CodecError}
use Rattle.zarrs_array_bytes.specs.Held.{Held, items_of}
use Rattle.zarrs_array_bytes.specs.Validity.{Holds}
use Rattle.zarrs_data_type.specs.Form.{Form}
use Rattle.zarrs_codec.specs.Grammar.{Encodes, Decodes, WritesByGrammar, ReadsByGrammar}
use Rattle.zarrs_codec.proofs.ByGrammar.{encodes_from, decodes_from}
use Rattle.zarrs_packbits.specs.PackBitsGrammar.{packbits_grammar}
use Rattle.zarrs_packbits.specs.PackBitsSettings.{PackBitsSettings}
use Rattle.zarrs_packbits.proofs.Exact.{encoded_found, encoded_only, decoded_found, decoded_only}

packbits_writes : (settings : PackBitsSettings) → WritesByGrammar (packbits_grammar settings)
packbits_writes settings = record {
  found = λ form held value e. encoded_found settings form.sizes form.type form.fill value held e;
  only = λ form held chunk value holds written. encoded_only settings form.sizes form.type form.fill value held chunk holds written;
}

packbits_reads : (settings : PackBitsSettings) → ReadsByGrammar (packbits_grammar settings)
packbits_reads settings = record {
  found = λ form value chunk e. decoded_found settings form.sizes form.type form.fill value chunk e;
  only = λ form value chunk stands. decoded_only settings form.sizes form.type form.fill value chunk stands;
}

pub packbits_encodes : (settings : PackBitsSettings) (form : Form) (held : Held) (r : Result (CowSlice ℕ Global) CodecError) → Answers memory items_of r ((packbits_grammar settings).value form held) → is_fault r ≡ false → Encodes (packbits_grammar settings) form held r
packbits_encodes settings form held r exact none = encodes_from (packbits_grammar settings) form held r (packbits_writes settings) exact none

pub packbits_decodes : (settings : PackBitsSettings) (form : Form) (value : List ℕ) (r : Result Held CodecError) → AnswersBy memory (Holds form.type) r ((packbits_grammar settings).chunk form value) → is_fault r ≡ false → Decodes (packbits_grammar settings) form value r
packbits_decodes settings form value r exact none = decodes_from (packbits_grammar settings) form value r (packbits_reads settings) exact none
