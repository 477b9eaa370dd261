-- Pieces of a value: which bytes they have, and the values that have them.
use Rattle.std.specs.Prelude.{ℕ, ◌+◌, ◌-◌, ◌<◌, ◌≤◌, Bool, true, ◌&&◌, ◌≡◌, nat_le, nat_lt, Option, Some, None, is_some, List, [], ◌∷◌, Result, IfOk, length, map, if◌then◌else◌, get_or}
use Rattle.std.specs.List.{list_all, range_with_len}
use Rattle.zarrs_chunk.specs.declared.codec_error.CodecError.{CodecError}
use Rattle.zarrs_codec.specs.ByteSpan.{ByteSpan}
use Rattle.zarrs_codec.specs.HandleCalls.{NeverFailsIf}
use Rattle.zarrs_lent_handles.specs.declared.piece.Piece.{Piece}

-- a piece of a value: the number of its first byte, and its bytes
pub record PlainPiece : Type 0 where
  pub start : ℕ
  pub bytes : List ℕ

-- what a piece is seen as
abbrev pub piece_seen : Piece → PlainPiece
piece_seen piece = record { start = piece.start; bytes = piece.bytes.now }

-- pieces of a value, each the number of its first byte and its bytes
abbrev pub pieces_seen : List Piece → List PlainPiece
pieces_seen pieces = map piece_seen pieces

-- the byte of this number is in the piece
abbrev pub IsInPiece : ℕ → Piece → Type 0
IsInPiece number piece = (piece.start ≤ number) × (number - piece.start < length piece.bytes.now)

-- ---- which bytes are at hand

-- the piece has the byte of this number
abbrev pub piece_has_byte : PlainPiece → ℕ → Bool
piece_has_byte piece number = nat_le piece.start number && nat_lt (number - piece.start) (length piece.bytes)

-- the first piece that has it
abbrev pub piece_with : List PlainPiece → ℕ → Option PlainPiece
piece_with [] number = None
piece_with (piece ∷ pieces) number = if piece_has_byte piece number then Some piece else piece_with pieces number

-- the pieces come in order from a number on, with at least a byte between one and the next, and end inside so many bytes
abbrev pub are_apart : ℕ → ℕ → List PlainPiece → Bool
are_apart len free [] = true
are_apart len free (piece ∷ pieces) =
    nat_le free piece.start && (nat_le (piece.start + length piece.bytes) len && are_apart len (piece.start + length piece.bytes + 1) pieces)

-- the byte of this number is at hand
abbrev pub is_at_hand : List PlainPiece → ℕ → Bool
is_at_hand pieces number = is_some (piece_with pieces number)

-- all bytes with these numbers are at hand
abbrev pub are_at_hand : List PlainPiece → List ℕ → Bool
are_at_hand pieces numbers = list_all (is_at_hand pieces) numbers

-- the numbers of the bytes of a range
abbrev pub numbers_of : ByteSpan → List ℕ
numbers_of range = range_with_len range.start (range.end - range.start)

-- where all bytes with these numbers are at hand, a read doesn't fail, but for lack of memory
abbrev pub SureIfAtHand : {T : Type 0} → List Piece → List ℕ → Result T CodecError → Type 0
SureIfAtHand pieces numbers result = NeverFailsIf (are_at_hand (pieces_seen pieces) numbers) result

-- what is read are bytes at hand: all with these numbers are
abbrev pub OnlyAtHand : {T E : Type 0} → List Piece → List ℕ → Result T E → Type 0
OnlyAtHand pieces numbers result = IfOk result (λ _. are_at_hand (pieces_seen pieces) numbers ≡ true)

-- These pieces stand apart, too, and have the bytes that the others have from a number on.
pub record HaveFrom (len number : ℕ) (pieces near : List PlainPiece) : Type 0 where
  pub apart : are_apart len 0 near ≡ true
  pub same : (other : ℕ) → number ≤ other → piece_with near other ≡ piece_with pieces other

-- ---- values that have the pieces

-- the byte of this number in a piece; elsewhere the byte that stands there
abbrev pub byte_in : (ℕ → ℕ) → Option PlainPiece → ℕ → ℕ
byte_in elsewhere None number = elsewhere number
byte_in elsewhere (Some piece) number = get_or piece.bytes (number - piece.start) 0

-- the byte of this number, where these bytes stand that aren't at hand
abbrev pub byte_around : (ℕ → ℕ) → List PlainPiece → ℕ → ℕ
byte_around elsewhere pieces number = byte_in elsewhere (piece_with pieces number) number

-- the value of so many bytes that has these pieces, and these bytes elsewhere
abbrev pub value_around : (ℕ → ℕ) → ℕ → List PlainPiece → List ℕ
value_around elsewhere len pieces = map (byte_around elsewhere pieces) (range_with_len 0 len)

-- the same of pieces as they are given
abbrev pub value_of : (ℕ → ℕ) → ℕ → List Piece → List ℕ
value_of elsewhere len pieces = value_around elsewhere len (pieces_seen pieces)

-- zero at each number
abbrev pub zeros : ℕ → ℕ
zeros _ = 0

-- the byte of this number; zero where it isn't at hand
abbrev pub byte_at : List PlainPiece → ℕ → ℕ
byte_at pieces = byte_around zeros pieces

-- the value of so many bytes that has these pieces, and zeros elsewhere
abbrev pub value_of_pieces : ℕ → List PlainPiece → List ℕ
value_of_pieces len pieces = value_around zeros len pieces

-- the value has so many bytes, and each that is at hand is the piece's
pub record HasPieces (len : ℕ) (pieces : List PlainPiece) (value : List ℕ) : Type 0 where
  pub length_is : length value ≡ len
  pub same : (number : ℕ) → is_at_hand pieces number ≡ true → get_or value number 0 ≡ byte_at pieces number
