-- Which bytes a read plans to ask for, as they cross: ranges, each a start and an end.
use Rattle.std.specs.Prelude.{◌≡◌, ◌⊎◌, ℕ, Bool, true, false, Option, Some, None, List, [], ◌∷◌, length, Result, Ok}
use Rattle.std.specs.List.{flat_map}
use Rattle.zarrs_chunk.specs.Answer.{◌>>=◌}
use Rattle.zarrs_chunk.specs.Selection.{Selection}
use Rattle.zarrs_chunk.specs.declared.codec_error.CodecError.{CodecError}
use Rattle.zarrs_codec.specs.ByteSpan.{ByteSpan}
use Rattle.zarrs_json.specs.KnownBytesCodec.{known_codecs}
use Rattle.zarrs_json.specs.declared.known_bytes_codec.KnownBytesCodec.{KnownBytesCodec}
use Rattle.zarrs_chain_meaning.specs.CodecMeaning.{chain_representation}
use Rattle.zarrs_codecs.specs.ChunkRead.{IsReadPlan, planned_places}
use Rattle.zarrs_chain_meaning.specs.ChunkForm.{ChunkForm}
use Rattle.zarrs_json.specs.Header.{Header, header_form}
use Rattle.zarrs_lent_handles.specs.Joined.{Joins}
use Rattle.zarrs_c_calls.specs.Codes.{IsRefusal, codec_call_answer}
use Rattle.zarrs_c_calls.specs.Selections.{selection_given}
use Rattle.zarrs_c_calls.specs.Told.{ToldBytes}
use Rattle.zarrs_c_calls.specs.declared.cause.Cause.{Cause}

-- of which header's chunk a read is planned; and the places whose bytes it asks for, where it asks for these alone
abbrev pub Planned : Type 0
Planned = Header × Option (List ℕ)

-- the places that are planned by a coder that is made for it: an error of its construction comes first
abbrev pub places_planned : ChunkForm KnownBytesCodec → Selection → Result (Option (List ℕ)) CodecError
places_planned form selection = do
  _ ← chain_representation known_codecs form.chain form.sizes form.type form.fill
  planned_places form selection

-- the places whose bytes a read of a selection asks for, where it asks for these alone; or the first error
abbrev pub planned : Result Header Cause → ℕ → List ℕ → Result Planned Cause
planned given_header tuples numbers = do
  header ← given_header
  selection ← selection_given (length header.sizes) tuples numbers
  places ← codec_call_answer (places_planned (header_form header) selection)
  Ok (header, places)

-- The ranges have the bytes of the planned places and no others; they are in order, and between one and the next there is a byte. There are none where more is asked for than the bytes of places.
abbrev pub AreForPlan : Option (List ByteSpan) → Planned → Type 0
AreForPlan None plan = plan.1 ≡ None
AreForPlan (Some ranges) plan =
    (places : List ℕ) × (made : List ByteSpan) × (plan.1 ≡ Some places) × IsReadPlan known_codecs (header_form plan.0) (Some made) (Some places) × Joins made ranges

-- ranges as numbers, each a start and an end
abbrev pub range_numbers : List ByteSpan → List ℕ
range_numbers ranges = flat_map (λ range. range.start ∷ range.end ∷ []) ranges

-- the buffer and the numbers that a call leaves that returns a plan
pub record PlanBuffers : Type 0 where
  pub ranges : List ℕ
  pub is_planned : Bool
  pub needed : ℕ

-- what a call leaves that returns a plan: these numbers, whether there is a plan, and how many numbers are needed
abbrev pub plan_buffers : List ℕ → Bool → ℕ → PlanBuffers
plan_buffers ranges is_planned needed = record { ranges = ranges; is_planned = is_planned; needed = needed }

-- The call returns the ranges, as bytes are returned; or that there are none, and the buffer stays as it was.
abbrev pub ToldRanges : Option (List ByteSpan) → ℕ → PlanBuffers → PlanBuffers → Type 0
ToldRanges None code old new = (code ≡ 0) × (new ≡ plan_buffers old.ranges false 0)
ToldRanges (Some ranges) code old new = (new.is_planned ≡ true) × ToldBytes (range_numbers ranges) code old.ranges new.ranges new.needed

-- The call returns the plan that is due: ranges that have the bytes of the places and no others, in order and apart, or that there are none; or it fails, and leaves all as it was.
abbrev pub TellsPlan : Result Planned Cause → ℕ → PlanBuffers → PlanBuffers → Type 0
TellsPlan expected code old new =
    ((plan : Planned) × (ranges : Option (List ByteSpan)) × (expected ≡ Ok plan) × AreForPlan ranges plan × ToldRanges ranges code old new)
    ⊎ (IsRefusal expected code × (new ≡ old))
