-- The relations of the codecs `vlen-utf8` and `vlen-bytes` are their functions.
use Rattle.std.proofs.Common.{◌≡◌, ℕ, false, Result, List, Global}
use Rattle.std.specs.declared.borrow.CowSlice.{CowSlice}
use Rattle.zarrs_chunk.specs.Answer.{Answers, AnswersBy, memory, is_fault}
use Rattle.zarrs_chunk.specs.declared.codec_error.CodecError.{CodecError}
use Rattle.zarrs_array_bytes.specs.Held.{Held, items_of}
use Rattle.zarrs_array_bytes.specs.Validity.{Holds}
use Rattle.zarrs_data_type.specs.Form.{Form}
use Rattle.zarrs_codec.specs.Grammar.{Encodes, Decodes, WritesByGrammar, ReadsByGrammar}
use Rattle.zarrs_codec.proofs.ByGrammar.{encodes_from, decodes_from}
use Rattle.zarrs_vlen_v2.specs.VlenV2Grammar.{vlen_v2_grammar}
use Rattle.zarrs_vlen_v2.specs.declared.vlen_v2_codec.VlenV2Codec.{VlenV2Codec}
use Rattle.zarrs_vlen_v2.proofs.CodecLaws.{held_written, written_held, decoded, decoded_only}

vlen_v2_writes : (codec : VlenV2Codec) → WritesByGrammar (vlen_v2_grammar codec)
vlen_v2_writes codec = record {
  found = λ form held value e. held_written codec form held value e;
  only = λ form held chunk value holds written. written_held codec form held chunk value holds written;
}

vlen_v2_reads : (codec : VlenV2Codec) → ReadsByGrammar (vlen_v2_grammar codec)
vlen_v2_reads codec = record {
  found = λ form value chunk e. (decoded codec form value chunk e).stands;
  only = λ form value chunk stands. decoded_only codec form value chunk stands;
}

pub vlen_v2_encodes : (codec : VlenV2Codec) (form : Form) (held : Held) (r : Result (CowSlice ℕ Global) CodecError) → Answers memory items_of r ((vlen_v2_grammar codec).value form held) → is_fault r ≡ false → Encodes (vlen_v2_grammar codec) form held r
vlen_v2_encodes codec form held r exact none = encodes_from (vlen_v2_grammar codec) form held r (vlen_v2_writes codec) exact none

pub vlen_v2_decodes : (codec : VlenV2Codec) (form : Form) (value : List ℕ) (r : Result Held CodecError) → AnswersBy memory (Holds form.type) r ((vlen_v2_grammar codec).chunk form value) → is_fault r ≡ false → Decodes (vlen_v2_grammar codec) form value r
vlen_v2_decodes codec form value r exact none = decodes_from (vlen_v2_grammar codec) form value r (vlen_v2_reads codec) exact none
