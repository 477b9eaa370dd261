-- What the loop over the commands keeps, and how a run ends.
use Rattle.std.proofs.Common.{◌≡◌, ◌∙◌, ℕ, List, [], ◌∷◌, ◌++◌, Option, Some, None, IfSome, MatchBool, Bool, true, false, Result, Ok, Err, inl, inr, refl, sym, ap, subst, append_assoc, append-nil}
use Rattle.std.proofs.lemmas.Bool.{false≢true}
use Rattle.std.specs.Io.KnownBytes.{Appends}
use Rattle.zarrs_chunk.specs.Answer.{Excused, seen}
use Rattle.zarrs_chunk.specs.declared.codec_error.CodecError.TheVariants.{OutOfMemory}
use Rattle.zarrs_metadata.specs.declared.plugin_create_error.PluginCreateError.TheVariants.{OutOfMemory as NoMemory}
use Rattle.zarrs_json.specs.declared.refusal.Refusal.{Refusal}
use Rattle.zarrs_json.specs.declared.refusal.Refusal.TheVariants.{Making, Codec}
use Rattle.zarrs_json.specs.Refusal.{refusal_memory, error_line}
use Rattle.zarrs_tool_lines.specs.Lines.{filled_lines}
use Rattle.zarrs_json.specs.Header.{Header, line_header}
use Rattle.zarrs_tool_lines.specs.Commands.{State, first_state, answer_to}
use Rattle.zarrs_tool_lines.specs.Run.{reply_of, out_of_memory, IsReply, output_line, AreReplies, IsDone, IsRefusedHeader, IsBadHeader, EndsDone, EndsBad}
use Rattle.std.proofs.KnownBytes.{Appends-nil, Appends-trans}
use Rattle.zarrs_json.specs.declared.known_maker.KnownMaker.TheVariants.{WithSamples}

-- ---- the loop over the commands

-- whatever the commands left are answered, the answers so far and those are answers to all commands
abbrev pub SoFar : Option (List ℕ) → Option (List ℕ) → Option (List ℕ) → Option (List ℕ) → State → State → Type 0
SoFar unread left held holds first now =
    IfSome unread (λ input. (rest : List ℕ) × (written : List ℕ) × (left ≡ Some rest) × Appends held holds written
    × ((more : List ℕ) → AreReplies now (filled_lines rest) more → AreReplies first (filled_lines input) (written ++ more)))

-- what `next_filled_line` says of the reader at a command, and at the end
abbrev pub Gives : Option (List ℕ) → Option (List ℕ) → List ℕ → Type 0
Gives left after line = IfSome left (λ input. (rest : List ℕ) × (after ≡ Some rest) × (filled_lines input ≡ line ∷ filled_lines rest))

abbrev pub Ends : Option (List ℕ) → Option (List ℕ) → Type 0
Ends left after = IfSome left (λ input. (rest : List ℕ) × (after ≡ Some rest) × (filled_lines input ≡ []) × (rest ≡ []))

pub so_far-more : (unread left after held holds grown : Option (List ℕ)) (first now next : State) (line reply : List ℕ) → SoFar unread left held holds first now → Gives left after line → IsReply now line reply next → Appends holds grown (output_line reply) → SoFar unread after held grown first next
so_far-more None left after held holds grown first now next line reply h given replied grew = tt
so_far-more (Some input) left after held holds grown first now next line reply (rest, written, at, appended, all) given replied grew =
    let taken : (others : List ℕ) × (after ≡ Some others) × (filled_lines rest ≡ line ∷ filled_lines others) = subst (λ (known : Option (List ℕ)). Gives known after line) at given in (
      taken.0,
      written ++ output_line reply,
      taken.1,
      Appends-trans held holds grown written (output_line reply) appended grew,
      λ more h.
          subst (λ out. AreReplies first (filled_lines input) out) (sym (append_assoc written (output_line reply) more))
          (all (output_line reply ++ more) (subst (λ commands. AreReplies now commands (output_line reply ++ more)) (sym taken.2) (reply, next, more, replied, refl, h))),
    )

pub so_far-end : (unread left after held holds : Option (List ℕ)) (first now : State) → SoFar unread left held holds first now → Ends left after → IfSome unread (λ input. (after ≡ Some []) × ((out : List ℕ) × Appends held holds out × AreReplies first (filled_lines input) out))
so_far-end None left after held holds first now h ends = tt
so_far-end (Some input) left after held holds first now (rest, written, at, appended, all) ends =
    let over : (others : List ℕ) × (after ≡ Some others) × (filled_lines rest ≡ []) × (others ≡ []) = subst (λ (known : Option (List ℕ)). Ends known after) at ends in
    (over.1 ∙ ap Some over.3, (written, appended, subst (λ out. AreReplies first (filled_lines input) out) (append-nil written) (all [] (subst (λ commands. AreReplies now commands []) (sym over.2) refl))))

-- `next_filled_line` at each answer
pub gives : (left after : Option (List ℕ)) (line : List ℕ) (more : Bool) → more ≡ true → IfSome left (λ input. (rest : List ℕ) × (after ≡ Some rest) × MatchBool more (filled_lines input ≡ line ∷ filled_lines rest) ((filled_lines input ≡ []) × (rest ≡ []))) → Gives left after line
gives None after line more is h = tt
gives (Some input) after line true is h = h
gives (Some input) after line false is h = absurd (cc)

pub ends : (left after : Option (List ℕ)) (line : List ℕ) (more : Bool) → more ≡ false → IfSome left (λ input. (rest : List ℕ) × (after ≡ Some rest) × MatchBool more (filled_lines input ≡ line ∷ filled_lines rest) ((filled_lines input ≡ []) × (rest ≡ []))) → Ends left after
ends None after line more is h = tt
ends (Some input) after line false is (rest, at, (none, over)) = (rest, at, none, over)
ends (Some input) after line true is h = absurd (cc)

-- the line and the answer as the calls saw them
pub so_far-replied : (unread left after held holds grown : Option (List ℕ)) (first now next : State) (line seen reply said : List ℕ) → seen ≡ line → said ≡ reply → SoFar unread left held holds first now → Gives left after line → IsReply now seen reply next → Appends holds grown (output_line said) → SoFar unread after held grown first next
so_far-replied unread left after held holds grown first now next line seen reply said is_line is_reply h given replied grew =
    so_far-more unread left after held holds grown first now next line reply h given
    (subst (λ (l : List ℕ). IsReply now l reply next) is_line replied)
    (subst (λ (l : List ℕ). Appends holds grown (output_line l)) is_reply grew)

-- ---- what a line is answered

-- an answer that was given
pub reply-given : (now next : State) (line reply : List ℕ) → answer_to now line ≡ Ok (reply, next) → IsReply now line reply next
reply-given now next line reply h = inl (sym (ap (reply_of now) h))

-- out of memory is shown by its name
error_line-memory : (refusal : Refusal) → refusal_memory refusal ≡ true → error_line refusal ≡ out_of_memory
error_line-memory (Making NoMemory) h = refl
error_line-memory (Codec OutOfMemory) h = refl
error_line-memory _ h = absurd (false≢true h)

refused_by : (b : Bool) (now : State) (line : List ℕ) (refusal : Refusal) → refusal_memory refusal ≡ b → Excused b (answer_to now line ≡ Err refusal) → IsReply now line (error_line refusal) now
refused_by true now line refusal is h = inr (error_line-memory refusal is, refl)
refused_by false now line refusal is h = inl (sym (ap (reply_of now) (h refl)))

-- an error that was returned
pub reply-refused : (now next : State) (line : List ℕ) (refusal : Refusal) → Excused (refusal_memory refusal) (answer_to now line ≡ Err refusal) → next ≡ now → IsReply now line (error_line refusal) next
reply-refused now next line refusal h kept =
    subst (λ (state : State). IsReply now line (error_line refusal) state) (sym kept) (refused_by (refusal_memory refusal) now line refusal refl h)

-- ---- what a header is answered

same_header : (header : Header) (state : State) → seen {E = Refusal} first_state (Ok header) ≡ Ok state → first_state header ≡ state
same_header header state h = cc

-- what a good header opened
opened_state : (line : List ℕ) (lines : List (List ℕ)) (output : List ℕ) (state : State) (r : Result Header Refusal) → line_header WithSamples line ≡ r → seen first_state r ≡ Ok state → AreReplies state lines output → IsDone (line ∷ lines) output
opened_state line lines output state (Ok header) is h replies = (header, is, subst (λ (s : State). AreReplies s lines output) (sym (same_header header state h)) replies)
opened_state line lines output state (Err refusal) is h replies = absurd (cc)

same_refusal : (x e : Refusal) → seen first_state (Err x) ≡ Err e → x ≡ e
same_refusal x e h = cc

refused_header : (r : Result Header Refusal) (refusal : Refusal) → seen first_state r ≡ Err refusal → IsRefusedHeader r (output_line (error_line refusal))
refused_header (Ok header) refusal h = absurd (cc)
refused_header (Err x) refusal h = ap (λ (y : Refusal). output_line (error_line y)) (sym (same_refusal x refusal h))

bad_by : (b : Bool) (line : List ℕ) (refusal : Refusal) → refusal_memory refusal ≡ b → Excused b (seen first_state (line_header WithSamples line) ≡ Err refusal) → IsBadHeader (line ∷ []) (output_line (error_line refusal))
bad_by true line refusal is h = inr (ap output_line (error_line-memory refusal is))
bad_by false line refusal is h = inl (refused_header (line_header WithSamples line) refusal (h refl))

-- a header that was rejected
pub bad_header : (line : List ℕ) (refusal : Refusal) → Excused (refusal_memory refusal) (seen first_state (line_header WithSamples line) ≡ Err refusal) → IsBadHeader (line ∷ []) (output_line (error_line refusal))
bad_header line refusal h = bad_by (refusal_memory refusal) line refusal refl h

-- ---- the endings

-- after a good header and all commands
pub ends_done : (unread mid left held holds : Option (List ℕ)) (line read : List ℕ) (state : State) → Gives unread mid line → read ≡ line → seen first_state (line_header WithSamples read) ≡ Ok state
    → IfSome mid (λ input. (left ≡ Some []) × ((output : List ℕ) × Appends held holds output × AreReplies state (filled_lines input) output)) → EndsDone unread left held holds
ends_done None mid left held holds line read state given is good served = tt
ends_done (Some input) mid left held holds line read state (rest, at, first) is good served =
    let all : (left ≡ Some []) × ((output : List ℕ) × Appends held holds output × AreReplies state (filled_lines rest) output) = subst (λ (known : Option (List ℕ)). IfSome known (λ others. (left ≡ Some []) × ((output : List ℕ) × Appends held holds output × AreReplies state (filled_lines others) output))) at served in
    (all.0, (all.1.0, all.1.1, subst (λ (commands : List (List ℕ)). IsDone commands all.1.0) (sym first) (opened_state line (filled_lines rest) all.1.0 state (line_header WithSamples line) refl (ap (λ l. seen first_state (line_header WithSamples l)) (sym is) ∙ good) all.1.2)))

-- without a header
pub ends_empty : (unread left held : Option (List ℕ)) → Ends unread left → EndsDone unread left held held
ends_empty None left held over = tt
ends_empty (Some input) left held (rest, at, none, over) =
    (at ∙ ap Some over, ([], Appends-nil held, subst (λ (commands : List (List ℕ)). IsDone commands []) (sym none) refl))

-- after a bad header
pub ends_bad : (unread mid held holds : Option (List ℕ)) (line read output : List ℕ) → Gives unread mid line → read ≡ line → IsBadHeader (read ∷ []) output → Appends held holds output → EndsBad unread held holds
ends_bad None mid held holds line read output given is bad replied = tt
ends_bad (Some input) mid held holds line read output (rest, at, first) is bad replied =
    (output, replied, subst (λ (commands : List (List ℕ)). IsBadHeader commands output) (sym first) (subst (λ (l : List ℕ). IsBadHeader (l ∷ filled_lines rest) output) is bad))
