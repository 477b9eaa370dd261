-- Reads of a value of which pieces are at hand: which bytes they ask for, and where one is lacking.
use Rattle.std.specs.Prelude.{◌≡◌, ℕ, ◌==◌, ◌&&◌, true, false, is_ok, if◌then◌else◌, Option, Some, None, List, [], ◌∷◌, length, Result}
use Rattle.std.specs.List.{range_with_len}
use Rattle.zarrs_chunk.specs.Answer.{◌>>=◌, demand}
use Rattle.zarrs_chunk.specs.Selection.{Selection, bounds_of}
use Rattle.zarrs_chunk.specs.declared.codec_error.CodecError.{CodecError}
use Rattle.zarrs_chunk.specs.declared.codec_error.CodecError.TheVariants.{InvalidByteRange}
use Rattle.zarrs_data_type.specs.Element.{Chunk}
use Rattle.zarrs_json.specs.Header.{HeaderForm}
use Rattle.zarrs_json.specs.KnownBytesCodec.{known_codecs}
use Rattle.zarrs_lent_handles.specs.Pieces.{PlainPiece, are_apart, are_at_hand, is_at_hand, value_around}
use Rattle.zarrs_codecs.specs.ChunkRead.{are_asked_sure, asks_in_part, read_rests_on}
use Rattle.zarrs_c_calls.specs.Reads.{form_read}

-- the selected elements of the value of so many bytes that has these pieces, which stand apart, and these bytes elsewhere
abbrev pub apart_read : (ℕ → ℕ) → HeaderForm → ℕ → List PlainPiece → Selection → Result Chunk CodecError
apart_read elsewhere form len pieces selection = do
  _ ← demand (are_apart len 0 pieces) InvalidByteRange
  form_read form (Some (value_around elsewhere len pieces)) selection

-- the value, where the first of pieces that stand apart has all of its bytes
abbrev pub whole_value : ℕ → List PlainPiece → Option (List ℕ)
whole_value len [] = if len == 0 then Some [] else None
whole_value len (piece ∷ pieces) =
    if (piece.start == 0) && (length piece.bytes == len) then Some piece.bytes else None

-- The selection has no error, and not all bytes are at hand that a read of it asks for, of the value that has these bytes elsewhere.
pub record LacksAsked (elsewhere : ℕ → ℕ) (form : HeaderForm) (len : ℕ) (pieces : List PlainPiece) (selection : Selection) : Type 0 where
  pub selected : is_ok (bounds_of selection form.sizes) ≡ true
  pub not_asked : are_asked_sure (Some (is_at_hand pieces)) (read_rests_on known_codecs form (Some (value_around elsewhere len pieces)) selection) ≡ false

-- A byte is lacking: the pieces stand apart, and not all bytes of the value are at hand; where the read asks for a part of the value alone, not all bytes are that it asks for.
pub record LacksByte (elsewhere : ℕ → ℕ) (form : HeaderForm) (len : ℕ) (pieces : List PlainPiece) (selection : Selection) : Type 0 where
  pub stand_apart : are_apart len 0 pieces ≡ true
  pub not_all : are_at_hand pieces (range_with_len 0 len) ≡ false
  pub in_part : asks_in_part form.chain.bytes_to_bytes form.chain.array_to_bytes ≡ true → LacksAsked elsewhere form len pieces selection
