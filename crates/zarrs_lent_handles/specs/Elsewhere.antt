-- Which bytes stand where no piece is, and the values that have the pieces.
use Rattle.std.specs.Prelude.{◌≡◌, ℕ, true, List, get_or}
use Rattle.zarrs_lent_handles.specs.Pieces.{PlainPiece, HasPieces, are_apart, value_around}

-- the bytes of a value by their numbers; zeros past its end
abbrev pub own_bytes : List ℕ → ℕ → ℕ
own_bytes value = λ number. get_or value number 0

-- Each value that has the pieces is the one that has its own bytes elsewhere.
abbrev pub EachHasPieces : Type 0
EachHasPieces =
    (len : ℕ) (pieces : List PlainPiece) (value : List ℕ) → HasPieces len pieces value → value_around (own_bytes value) len pieces ≡ value

-- A value of pieces that stand apart has them, whichever bytes stand elsewhere.
abbrev pub ValuesHavePieces : Type 0
ValuesHavePieces =
    (elsewhere : ℕ → ℕ) (len : ℕ) (pieces : List PlainPiece) → are_apart len 0 pieces ≡ true → HasPieces len pieces (value_around elsewhere len pieces)
