-- Writing pieces of a stored value: each is the number of its first byte and how many bytes it has.
-- Source: zarrs, `partial_encode_many`.
use Rattle.std.specs.Prelude.{ℕ, zero, suc, ◌+◌, ◌-◌, ◌^◌, ◌==◌, nat_lt, max, List, [], ◌∷◌, ◌++◌, length, replicate, Result}
use Rattle.std.specs.List.{list_all, range_with_len}
use Rattle.zarrs_chunk.specs.Answer.{◌>>=◌, demand}
use Rattle.zarrs_chunk.specs.Runs.{joined_runs}
use Rattle.zarrs_chunk.specs.declared.codec_error.CodecError.{CodecError}
use Rattle.zarrs_chunk.specs.declared.codec_error.CodecError.TheVariants.{Overflow, InvalidBytesLength}
use Rattle.zarrs_array_bytes.specs.Update.{update}

-- the number behind a piece's last byte; an empty one has none, and ends at 0
abbrev pub end_of : ℕ → ℕ → ℕ
end_of start zero = 0
end_of start (suc count) = start + suc count

-- the greatest of the pieces' ends
abbrev pub furthest_end : List (ℕ × ℕ) → ℕ
furthest_end [] = 0
furthest_end (piece ∷ pieces) = max (end_of piece.0 piece.1) (furthest_end pieces)

-- the value, with zeros behind it where it has fewer bytes than these
abbrev pub with_zeros : List ℕ → ℕ → List ℕ
with_zeros value count = value ++ replicate (count - length value) 0

-- the value up to the furthest end, with the bytes of the pieces' numbers replaced by the new ones, the last write of a byte standing
abbrev pub with_pieces : List ℕ → List (ℕ × ℕ) → List ℕ → List ℕ
with_pieces value pieces bytes = update (with_zeros value (furthest_end pieces)) (joined_runs pieces) bytes

-- pieces can be written with so many bytes: each ends below 2^64, so many are they together, and so many bytes are there; or the first error
abbrev pub pieces_fit : List (ℕ × ℕ) → ℕ → Result (Unit {0}) CodecError
pieces_fit pieces count = do
  _ ← demand (list_all (λ piece. nat_lt (piece.0 + piece.1) (2 ^ 64)) pieces) Overflow
  _ ← demand (nat_lt (length (joined_runs pieces)) (2 ^ 64)) Overflow
  demand (count == length (joined_runs pieces)) (InvalidBytesLength count (length (joined_runs pieces)))

-- the value with these bytes from a number on
abbrev pub with_bytes : List ℕ → ℕ → List ℕ → List ℕ
with_bytes value start bytes = update value (range_with_len start (length bytes)) bytes
