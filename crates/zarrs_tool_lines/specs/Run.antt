-- The answers to a header and to all lines after it.
use Rattle.std.specs.Prelude.{◌≡◌, ℕ, List, [], ◌∷◌, ◌++◌, ◌⊎◌, Option, Some, IfSome, Result, Ok, Err, OnOk, codes}
use Rattle.std.specs.Io.KnownBytes.{Appends}
use Rattle.zarrs_json.specs.declared.refusal.Refusal.{Refusal}
use Rattle.zarrs_json.specs.Refusal.{error_line}
use Rattle.zarrs_tool_lines.specs.Lines.{filled_lines}
use Rattle.zarrs_json.specs.Header.{Header, line_header}
use Rattle.zarrs_tool_lines.specs.Commands.{State, LineAnswer, first_state, answer_to}
use Rattle.zarrs_json.specs.declared.known_maker.KnownMaker.TheVariants.{WithSamples}

-- the reply that an answer makes, and the state after it; a command that fails leaves the state
abbrev pub reply_of : State → LineAnswer → List ℕ × State
reply_of state (Ok answer) = answer
reply_of state (Err refusal) = (error_line refusal, state)

-- what may be written in place of any answer
abbrev pub out_of_memory : List ℕ
out_of_memory = codes "error OutOfMemory"

-- this is written to a line, and this is the state after it: the line's answer, or that memory ran out, which leaves the state
abbrev pub IsReply : State → List ℕ → List ℕ → State → Type 0
IsReply state line reply next =
    ((reply, next) ≡ reply_of state (answer_to state line)) ⊎ ((reply ≡ out_of_memory) × (next ≡ state))

-- a line of output: a reply and its end
abbrev pub output_line : List ℕ → List ℕ
output_line line = line ++ 10 ∷ []

-- these are the replies to these lines, in order
abbrev pub AreReplies : State → List (List ℕ) → List ℕ → Type 0
AreReplies state [] output = output ≡ []
AreReplies state (line ∷ lines) output =
    (reply : List ℕ) × (next : State) × (more : List ℕ)
    × IsReply state line reply next × (output ≡ output_line reply ++ more) × AreReplies next lines more

-- there is no header and nothing is written, or the header is good and all lines after it are replied to
abbrev pub IsDone : List (List ℕ) → List ℕ → Type 0
IsDone [] output = output ≡ []
IsDone (line ∷ lines) output =
    (header : Header) × (line_header WithSamples line ≡ Ok header) × AreReplies (first_state header) lines output

-- what is written to a header that opens nothing
abbrev pub IsRefusedHeader : Result Header Refusal → List ℕ → Type 0
IsRefusedHeader (Ok header) output = ⊥
IsRefusedHeader (Err refusal) output = output ≡ output_line (error_line refusal)

-- there is a header, and what is written is its one answer: its first fault, or that memory ran out
abbrev pub IsBadHeader : List (List ℕ) → List ℕ → Type 0
IsBadHeader [] output = ⊥
IsBadHeader (line ∷ lines) output = IsRefusedHeader (line_header WithSamples line) output ⊎ (output ≡ output_line out_of_memory)

-- A run to the end, by the bytes that the reader had and has left and that the writer held and holds, where those are known: all is read, and what was written answers all lines that aren't empty.
abbrev pub EndsDone : Option (List ℕ) → Option (List ℕ) → Option (List ℕ) → Option (List ℕ) → Type 0
EndsDone unread left held holds =
    IfSome unread (λ input. (left ≡ Some []) × ((output : List ℕ) × Appends held holds output × IsDone (filled_lines input) output))

-- a run that a bad header ended, by the bytes that the reader had and that the writer held and holds
abbrev pub EndsBad : Option (List ℕ) → Option (List ℕ) → Option (List ℕ) → Type 0
EndsBad unread held holds =
    IfSome unread (λ input. (output : List ℕ) × Appends held holds output × IsBadHeader (filled_lines input) output)

-- the answer to a line that fails, and the line's end
abbrev pub refusal_line : Refusal → List ℕ
refusal_line refusal = output_line (error_line refusal)

-- A run from this state to the end: all is read, and what was written answers all lines that aren't empty.
abbrev pub EndsReplied : State → Option (List ℕ) → Option (List ℕ) → Option (List ℕ) → Option (List ℕ) → Type 0
EndsReplied state unread left held holds =
    IfSome unread (λ input. (left ≡ Some []) × ((output : List ℕ) × Appends held holds output × AreReplies state (filled_lines input) output))

-- a call that answers Ok wrote this behind what the writer held, where that is known
abbrev pub Outputs : {W E : Type 0} → (W → Option (List ℕ)) → W → W → List ℕ → Result (Unit {0}) E → Type 0
Outputs contents before after output result = OnOk result (Appends (contents before) (contents after) output)
