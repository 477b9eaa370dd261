-- What is returned for a plan is enough to read pieces.
use Rattle.std.specs.Prelude.{◌≡◌, ℕ, true, Some, List, length, Ok}
use Rattle.zarrs_chunk.specs.Selection.{Selection}
use Rattle.zarrs_codec.specs.ByteSpan.{ByteSpan}
use Rattle.zarrs_json.specs.KnownBytesCodec.{known_codecs}
use Rattle.zarrs_json.specs.Header.{Header, header_form}
use Rattle.zarrs_lent_handles.specs.Joined.{have_number}
use Rattle.zarrs_lent_handles.specs.Pieces.{PlainPiece, are_at_hand, is_at_hand}
use Rattle.zarrs_codecs.specs.PlannedReads.{ArePlanned}
use Rattle.zarrs_c_calls.specs.Calls.{header_given}
use Rattle.zarrs_c_calls.specs.Plans.{Planned, AreForPlan, planned}
use Rattle.zarrs_c_calls.specs.Selections.{selection_given}

-- Where ranges are returned for a plan, pieces that have all bytes of these ranges have all bytes that a read of the selection plans to ask for.
abbrev pub PlanIsEnough : Type 0
PlanIsEnough =
    (text : List ℕ) (tuples : ℕ) (numbers : List ℕ) (header : Header) (selection : Selection) (plan : Planned) (ranges : List ByteSpan) (pieces : List PlainPiece)
    → header_given text ≡ Ok header → selection_given (length header.sizes) tuples numbers ≡ Ok selection → planned (header_given text) tuples numbers ≡ Ok plan → AreForPlan (Some ranges) plan
    → ((number : ℕ) → have_number ranges number ≡ true → is_at_hand pieces number ≡ true) → (asked : List ℕ) × ArePlanned known_codecs (header_form header) selection asked × (are_at_hand pieces asked ≡ true)
