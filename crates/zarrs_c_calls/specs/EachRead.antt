-- What reads of a list of selections give, before it is returned to C.
use Rattle.std.specs.Prelude.{◌≡◌, ℕ, nat_le, true, Option, List, [], ◌∷◌, length, take, Vec, Result, is_ok}
use Rattle.std.proofs.Common.{Global}
use Rattle.zarrs_chunk.specs.Answer.{◌>>=◌, demand, AnswersBy}
use Rattle.zarrs_chunk.specs.Selection.{Selection}
use Rattle.zarrs_array_bytes.specs.Held.{Held}
use Rattle.zarrs_json.specs.KnownBytesCodec.{known_codecs, known_reads}
use Rattle.zarrs_json.specs.declared.known_bytes_codec.KnownBytesCodec.{KnownBytesCodec}
use Rattle.zarrs_chain_meaning.specs.ChunkForm.{ChunkForm}
use Rattle.zarrs_codecs.specs.ChunkSource.{source_made}
use Rattle.zarrs_codecs.specs.PartialDecoder.{handle_of}
use Rattle.zarrs_codecs.specs.declared.partial_decoder.array_partial_decoder.ArrayPartialDecoder.{ArrayPartialDecoder}
use Rattle.zarrs_lent_handles.specs.LentHandle.{lent_value}
use Rattle.zarrs_lent_handles.specs.declared.lent_handle.LentHandle.{LentHandle}
use Rattle.zarrs_json.specs.Header.{Header}
use Rattle.zarrs_json.specs.HeaderRead.{header_seen}
use Rattle.zarrs_json.specs.declared.header.ChunkHeader.{ChunkHeader}
use Rattle.zarrs_c_calls.specs.Codes.{cause_memory}
use Rattle.zarrs_c_calls.specs.ManyReads.{HoldEach, selections_read}
use Rattle.zarrs_c_calls.specs.Selections.{selection_given}
use Rattle.zarrs_c_calls.specs.declared.cause.Cause.{Cause}
use Rattle.zarrs_c_calls.specs.declared.cause.Cause.TheVariants.{Argument}
use Rattle.zarrs_c_calls.specs.declared.sizes.SelectionSize.{SelectionSize}

-- what is stored in the handle that a decoder reads
abbrev pub decoder_value : {B : Type 0} {h : _} {b : _} → ArrayPartialDecoder LentHandle B h b → Option (List ℕ)
decoder_value decoder = lent_value (handle_of decoder)

-- a selection whose numbers stand in front of those that are left
abbrev pub front_given : Header → SelectionSize → List ℕ → Result Selection Cause
front_given header size numbers = do
  _ ← demand (nat_le size.numbers (length numbers)) Argument
  selection_given (length header.sizes) size.tuples (take size.numbers numbers)

-- there is a first selection, and its numbers are read
abbrev pub FirstIsGiven : Header → List SelectionSize → List ℕ → Type 0
FirstIsGiven header [] numbers = ⊥
FirstIsGiven header (size ∷ sizes) numbers = is_ok (front_given header size numbers) ≡ true

-- a decoder is made of what is stored
abbrev pub IsSourced : ChunkForm KnownBytesCodec → Option (List ℕ) → Type 0
IsSourced form stored = is_ok (source_made known_codecs known_reads form stored) ≡ true

-- containers of the elements that are due, of the chunk of a header that was read, are answered, or the first cause
abbrev pub GivesEach : ChunkHeader → Option (List ℕ) → List SelectionSize → List ℕ → Result (Vec Held Global) Cause → Type 0
GivesEach form stored sizes numbers result =
    AnswersBy cause_memory (λ helds answers. HoldEach helds.items answers) result (selections_read (header_seen form) stored sizes numbers)
