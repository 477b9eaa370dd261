-- What is due to a read of a chunk in part.
use Rattle.std.proofs.Common.{◌≡◌, ℕ, Bool, List, Option, Result, Ok, Err, IsOkAnd, length, refl, ap, sym, ◌∙◌, subst}
use Rattle.zarrs_chunk.specs.Answer.{◌>>=◌, Excused}
use Rattle.zarrs_chunk.specs.Selection.{Selection}
use Rattle.zarrs_chunk.specs.declared.codec_error.CodecError.{CodecError}
use Rattle.zarrs_data_type.specs.Element.{Chunk}
use Rattle.zarrs_data_type.specs.ElementType.{ElementType}
use Rattle.zarrs_array_bytes.specs.Held.{Held}
use Rattle.zarrs_array_bytes.specs.Tight.{IsTight}
use Rattle.zarrs_array_bytes.specs.Validity.{Holds}
use Rattle.zarrs_json.specs.declared.refusal.Refusal.TheVariants.{Codec}
use Rattle.zarrs_json.specs.Header.{Header, header_form}
use Rattle.zarrs_json.specs.KnownBytesCodec.{known_codecs}
use Rattle.zarrs_chain_meaning.specs.CodecMeaning.{chain_chunk}
use Rattle.zarrs_chain_meaning.specs.Chain.{held_value}
use Rattle.zarrs_c_calls.specs.Buffers.{Buffers}
use Rattle.zarrs_c_calls.specs.Calls.{encoded, value_decoded}
use Rattle.zarrs_c_calls.specs.Given.{elements_given}
use Rattle.zarrs_c_calls.specs.Codes.{codec_call_answer}
use Rattle.zarrs_c_calls.specs.Reads.{form_read, part_read}
use Rattle.zarrs_c_calls.specs.Selections.{selection_given}
use Rattle.zarrs_c_calls.specs.Told.{Elements, HoldsThese}
use Rattle.zarrs_c_calls.specs.declared.cause.Cause.{Cause}
use Rattle.zarrs_c_calls.specs.declared.cause.Cause.TheVariants.{Refused}

-- elements of a type
abbrev pub typed : ElementType → Chunk → Result Elements Cause
typed type chunk = Ok (type, chunk)

-- the cause that a codec's error is
abbrev pub of_codec : CodecError → Cause
of_codec error = Refused (Codec error)

-- ---- a codec's answer

pub elements_due : (type : ElementType) (held : Held) (expected : Result Chunk CodecError) → IsOkAnd expected (Holds type held) → IsTight type held → IsOkAnd (codec_call_answer expected >>= typed type) (HoldsThese held)
elements_due type held (Ok chunk) h tight = record { holds = h; tight = tight }
elements_due type held (Err e) h tight = absurd h

pub elements_not_due : (type : ElementType) (error : CodecError) (expected : Result Chunk CodecError) → expected ≡ Err error → (codec_call_answer expected >>= typed type) ≡ Err (of_codec error)
elements_not_due type error (Ok chunk) e = absurd (cc)
elements_not_due type error (Err other) e = cc

-- ---- a read

-- where the header and the selection are read
pub read_by : (given_header : Result Header Cause) (stored : Option (List ℕ)) (tuples : ℕ) (numbers : List ℕ) (header : Header) (selection : Selection) → given_header ≡ Ok header → selection_given (length header.sizes) tuples numbers ≡ Ok selection
    → part_read given_header stored tuples numbers ≡ (codec_call_answer (form_read (header_form header) stored selection) >>= typed header.data_type)
read_by given_header stored tuples numbers header selection e f = rw (e, f) refl

module _ (given_header : Result Header Cause) (stored value : Option (List ℕ)) (tuples : ℕ) (numbers : List ℕ) (header : Header) (selection : Selection) (reads : given_header ≡ Ok header) (means : selection_given (length header.sizes) tuples numbers ≡ Ok selection) (same : value ≡ stored) where
  of_value : part_read given_header stored tuples numbers ≡ (codec_call_answer (form_read (header_form header) value selection) >>= typed header.data_type)
  of_value =
      read_by given_header stored tuples numbers header selection reads means
      ∙ ap (λ (v : Option (List ℕ)). codec_call_answer (form_read (header_form header) v selection) >>= typed header.data_type) (sym same)

  -- a container that holds what is read of the chunk holds what is due
  pub read_due : (held : Held) → IsOkAnd (form_read (header_form header) value selection) (Holds header.data_type held) → IsTight header.data_type held → IsOkAnd (part_read given_header stored tuples numbers) (HoldsThese held)
  read_due held h tight =
      subst (λ (x : Result Elements Cause). IsOkAnd x (HoldsThese held)) (sym of_value) (elements_due header.data_type held (form_read (header_form header) value selection) h tight)

  -- and an error of it is the one that is due
  pub read_refused : (excused : Bool) (error : CodecError) → Excused excused (form_read (header_form header) value selection ≡ Err error) → Excused excused (part_read given_header stored tuples numbers ≡ Err (of_codec error))
  read_refused excused error h = λ wants. of_value ∙ elements_not_due header.data_type error (form_read (header_form header) value selection) (h wants)

-- ---- a whole chunk

-- a tight container that holds the chunk of a value holds what is due
pub value_due : (header : Header) (value : List ℕ) (held : Held) → IsOkAnd (chain_chunk known_codecs header.chain header.sizes header.data_type header.fill value) (Holds header.data_type held) → IsTight header.data_type held
    → IsOkAnd (value_decoded header value) (HoldsThese held)
value_due header value held h tight = elements_due header.data_type held (chain_chunk known_codecs header.chain header.sizes header.data_type header.fill value) h tight

-- and an error of it is the one that is due
pub value_not_due : (header : Header) (value : List ℕ) (excused : Bool) (error : CodecError) → Excused excused (chain_chunk known_codecs header.chain header.sizes header.data_type header.fill value ≡ Err error) → Excused excused (value_decoded header value ≡ Err (of_codec error))
value_not_due header value excused error h = λ wants. elements_not_due header.data_type error (chain_chunk known_codecs header.chain header.sizes header.data_type header.fill value) (h wants)

-- the value of given elements is what is due
pub value_written : (given_header : Result Header Cause) (elements : Buffers) (header : Header) (held : Held) (items : List ℕ) → given_header ≡ Ok header → elements_given header.data_type elements ≡ Ok held
    → held_value known_codecs header.chain header.sizes header.data_type header.fill held ≡ Ok items → encoded given_header elements ≡ Ok items
value_written given_header elements header held items reads given is = rw (reads, given, is) refl

-- and so is an error of it
pub value_not_written : (given_header : Result Header Cause) (elements : Buffers) (header : Header) (held : Held) (excused : Bool) (error : CodecError) → given_header ≡ Ok header → elements_given header.data_type elements ≡ Ok held
    → Excused excused (held_value known_codecs header.chain header.sizes header.data_type header.fill held ≡ Err error) → Excused excused (encoded given_header elements ≡ Err (of_codec error))
value_not_written given_header elements header held excused error reads given h = λ wants. rw (reads, given, h wants) refl
