-- The lines of an input.
use Rattle.std.specs.Prelude.{ℕ, ◌<◌, Bool, true, false, List, [], ◌∷◌, ◌==◌, if◌then◌else◌, filter, ◌≡◌, Option, Some, IfSome, MatchBool, Vec, Result, IfOk}
use Rattle.std.specs.declared.alloc.Global.{Global}

-- a byte at the front of the first line
abbrev pub onto_first : ℕ → List (List ℕ) → List (List ℕ)
onto_first b [] = (b ∷ []) ∷ []
onto_first b (line ∷ lines) = (b ∷ line) ∷ lines

-- the lines, each without the byte 10 that ends it; the last one may lack it
abbrev pub lines_of : List ℕ → List (List ℕ)
lines_of [] = []
lines_of (b ∷ bs) = if b == 10 then [] ∷ lines_of bs else onto_first b (lines_of bs)

-- the line has bytes
abbrev pub line_is_filled : List ℕ → Bool
line_is_filled [] = false
line_is_filled (b ∷ bs) = true

-- the lines that aren't empty
abbrev pub filled_lines : List ℕ → List (List ℕ)
filled_lines input = filter line_is_filled (lines_of input)

-- ---- reading, by the bytes that the reader had and has left, where those are known

-- the next of these lines was read, or there was none
abbrev pub ReadsNext : (List ℕ → List (List ℕ)) → Option (List ℕ) → Option (List ℕ) → List ℕ → Bool → Type 0
ReadsNext lines unread left line is_read =
    IfSome unread (λ input. (rest : List ℕ) × (left ≡ Some rest) × MatchBool is_read (lines input ≡ line ∷ lines rest) ((lines input ≡ []) × (rest ≡ [])))

-- a call that answers Ok took the next of these lines of a reader, or found none
abbrev pub TakesNext : {R E : Type 0} → (List ℕ → List (List ℕ)) → (R → Option (List ℕ)) → R → R → Vec ℕ Global → Result Bool E → Type 0
TakesNext lines remaining before after line result =
    IfOk result (ReadsNext lines (remaining before) (remaining after) line.items)

-- a call that answers Ok, of a reader that gives so many lines at most, leaves fewer of them where it took one
abbrev pub LeavesFewer : {R E : Type 0} → (R → ℕ) → R → R → Result Bool E → Type 0
LeavesFewer lines_left before after result =
    IfOk result (λ is_read. is_read ≡ true → lines_left after < lines_left before)
