-- What a handle over pieces of a value is seen as.
use Rattle.std.specs.Prelude.{◌≡◌, ℕ, ◌&&◌, nat_lt, not, Bool, true, false, Option, List, [], ◌∷◌, length, Some, None, Result, Ok, OnOk}
use Rattle.std.specs.List.{list_all}
use Rattle.zarrs_chunk.specs.Answer.{◌>>=◌, demand, is_fault}
use Rattle.zarrs_chunk.specs.declared.codec_error.CodecError.{CodecError}
use Rattle.zarrs_chunk.specs.declared.codec_error.CodecError.TheVariants.{InvalidByteRange}
use Rattle.zarrs_codec.specs.StorageState.{StorageState, are_sure, value_or_empty}
use Rattle.zarrs_codec.specs.ByteRanges.{range_indices}
use Rattle.zarrs_codec.specs.ByteSpan.{ByteSpan}
use Rattle.zarrs_lent_handles.specs.Joined.{ranges_apart}
use Rattle.zarrs_lent_handles.specs.Lacking.{AreLacking, ranges_kept}
use Rattle.zarrs_lent_handles.specs.LentHandle.{read_state}
use Rattle.zarrs_lent_handles.specs.Pieces.{PlainPiece, pieces_seen, value_around, zeros, is_at_hand, are_apart}
use Rattle.zarrs_lent_handles.specs.declared.pieces_handle.PiecesHandle.{PiecesHandle}

-- The state of a handle over pieces, whose value has the pieces' bytes, and these elsewhere. The bytes of the pieces are sure, and a read of any other one fails.
abbrev pub state_around : {E : Type 0} → (ℕ → ℕ) → PiecesHandle E → StorageState
state_around elsewhere handle =
    read_state (Some (value_around elsewhere handle.len (pieces_seen handle.pieces.items))) (is_at_hand (pieces_seen handle.pieces.items)) handle.faults handle.failure

-- the state of a handle that is made over pieces, with these bytes elsewhere, or the error
abbrev pub made_around : (ℕ → ℕ) → ℕ → List PlainPiece → Result StorageState CodecError
made_around elsewhere len pieces = do
  _ ← demand (are_apart len 0 pieces) InvalidByteRange
  Ok (read_state (Some (value_around elsewhere len pieces)) (is_at_hand pieces) 0 None)

-- the same with zeros elsewhere
abbrev pub pieces_state : {E : Type 0} → PiecesHandle E → StorageState
pieces_state handle = state_around zeros handle

-- and of one that is made, or the error
abbrev pub made_state : ℕ → List PlainPiece → Result StorageState CodecError
made_state len pieces = made_around zeros len pieces

-- what is read of the handle are sure bytes: all with these numbers are
abbrev pub ReadsSure : {E T : Type 0} → PiecesHandle E → List ℕ → Result T CodecError → Type 0
ReadsSure handle numbers result = OnOk result (are_sure (pieces_state handle).sure numbers ≡ true)

-- ---- what a read lacks

-- what the last of a handle's calls lacked that failed; none where none has
abbrev pub lacking_ranges : {E : Type 0} → PiecesHandle E → List ByteSpan
lacking_ranges handle = ranges_kept handle.lacking

-- the ranges have those bytes of the asked ones that a handle's value has and no piece
abbrev pub HandleLacks : {E : Type 0} → PiecesHandle E → List ByteSpan → List ByteSpan → Type 0
HandleLacks handle asked ranges = AreLacking handle.len (pieces_seen handle.pieces.items) asked ranges

-- A read of these ranges that fails keeps those of their bytes that are lacking. Any other leaves what was kept.
pub record KeepsLacking {E T : Type 0} (asked : List ByteSpan) (before after : PiecesHandle E) (result : Result T CodecError) : Type 0 where
  pub failed : is_fault result ≡ true → HandleLacks before asked (lacking_ranges after)
  pub kept : is_fault result ≡ false → lacking_ranges after ≡ lacking_ranges before

-- the range of all bytes of a value
abbrev pub whole_span : Option (List ℕ) → ByteSpan
whole_span value = record { start = 0; end = length (value_or_empty value) }

-- the value has the byte of this number, and a read of it isn't sure
abbrev pub is_unsure : StorageState → ℕ → Bool
is_unsure state number = nat_lt number (length (value_or_empty state.value)) && not (are_sure state.sure (number ∷ []))

-- none of the ranges' bytes is sure, and the value has them all; the ranges come in order, each has a byte, and between one and the next is at least one
abbrev pub are_unsure : StorageState → List ByteSpan → Bool
are_unsure state ranges = ranges_apart 0 ranges && list_all (is_unsure state) (range_indices ranges)
