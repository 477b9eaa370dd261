-- Reads in rounds: a caller gets what a read lacks, and reads again.
use Rattle.std.specs.Prelude.{◌≡◌, ℕ, ◌+◌, ◌<◌, ◌≤◌, nat_lt, true, List, length}
use Rattle.zarrs_codec.specs.ByteSpan.{ByteSpan}
use Rattle.zarrs_lent_handles.specs.Joined.{have_number}
use Rattle.zarrs_lent_handles.specs.Lacking.{AreLacking}
use Rattle.zarrs_lent_handles.specs.Pieces.{PlainPiece, is_at_hand}

-- The pieces of a round: a read of these ranges lacked bytes of the pieces before, one at least. They have all bytes that those had, and all that were lacking.
pub record IsNextRound (len : ℕ) (before after : List PlainPiece) (asked : List ByteSpan) : Type 0 where
  pub lacking : List ByteSpan
  pub are : AreLacking len before asked lacking
  pub some : nat_lt 0 (length lacking) ≡ true
  pub kept : (number : ℕ) → is_at_hand before number ≡ true → is_at_hand after number ≡ true
  pub added : (number : ℕ) → have_number lacking number ≡ true → is_at_hand after number ≡ true

-- In the next round all bytes of the asked ranges are at hand that the value has: the read that lacked some is answered.
abbrev pub RoundIsEnough : Type 0
RoundIsEnough =
    (len : ℕ) (before after : List PlainPiece) (asked : List ByteSpan) (number : ℕ)
    → IsNextRound len before after asked → have_number asked number ≡ true → number < len → is_at_hand after number ≡ true

-- There are at most as many rounds behind the first as the value has bytes, whatever each of them asks for.
abbrev pub RoundsEnd : Type 0
RoundsEnd =
    (len count : ℕ) (pieces : ℕ → List PlainPiece) (asked : ℕ → List ByteSpan)
    → ((round : ℕ) → round < count → IsNextRound len (pieces round) (pieces (round + 1)) (asked round)) → count ≤ len
