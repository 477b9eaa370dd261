-- Elements that a codec answers, shown.
use Rattle.std.proofs.Common.{◌≡◌, ℕ, List, Result, Ok, Err, IsOkAnd, refl, sym, subst}
use Rattle.serde_json.specs.Data.{Data}
use Rattle.zarrs_chunk.specs.Answer.{Answers, ◌>>=◌}
use Rattle.zarrs_chunk.specs.Selection.{Selection}
use Rattle.zarrs_chunk.specs.declared.codec_error.CodecError.{CodecError}
use Rattle.zarrs_data_type.specs.Element.{Chunk}
use Rattle.zarrs_data_type.specs.ElementType.{ElementType}
use Rattle.zarrs_array_bytes.specs.Held.{Held}
use Rattle.zarrs_array_bytes.specs.Validity.{Holds}
use Rattle.zarrs_json.specs.declared.refusal.Refusal.{Refusal}
use Rattle.zarrs_tool_lines.specs.Commands.{State, line_part, read_answer}
use Rattle.zarrs_json.specs.Elements.{chunk_tree}
use Rattle.zarrs_json.specs.Json.{ok_line, tree_of}
use Rattle.zarrs_json.specs.Indexer.{selection_shown}
use Rattle.zarrs_json.specs.Refusal.{codec_answer, refusal_memory}

-- ---- elements shown

-- what is answered of a chunk is held
pub held_some : (type own : ElementType) (held : Held) (expected : Result Chunk CodecError) → own ≡ type → IsOkAnd expected (Holds type held) → (chunk : Chunk) × Holds own held chunk
held_some type own held (Ok chunk) same h = (chunk, subst (λ (t : ElementType). Holds t held chunk) (sym same) h)
held_some type own held (Err e) same h = absurd h

shown_by : {T : Type 0} (items : T → List ℕ) (r : Result T Refusal) (line : List ℕ) (state : State) → Answers refusal_memory items r (Ok line) → Answers {V = List ℕ × State} refusal_memory (λ x. (items x, state)) r (Ok (line, state))
shown_by items (Ok x) line state h = cc
shown_by items (Err e) line state h = λ m. absurd (let wrong : Ok line ≡ Err e = h m in cc)

-- the line that shows the elements which a container holds
pub shown_elements : {T : Type 0} (items : T → List ℕ) (type own : ElementType) (held : Held) (expected : Result Chunk CodecError) (r : Result T Refusal) (before after : State) → after ≡ before → own ≡ type →
    IsOkAnd expected (Holds type held) → ((chunk : Chunk) → Holds own held chunk → Answers refusal_memory items r (Ok (ok_line (chunk_tree chunk))))
    → Answers {V = List ℕ × State} refusal_memory (λ x. (items x, after)) r (codec_answer expected >>= λ chunk. Ok (ok_line (chunk_tree chunk), before))
shown_elements items type own held (Ok chunk) r before after kept same holds shown =
    subst (λ (s : State). Answers {V = List ℕ × State} refusal_memory (λ x. (items x, s)) r (Ok (ok_line (chunk_tree chunk), before))) (sym kept)
    (shown_by items r (ok_line (chunk_tree chunk)) before (shown chunk (subst (λ (t : ElementType). Holds t held chunk) (sym same) holds)))
shown_elements items type own held (Err e) r before after kept same holds shown = absurd holds

-- what `read` answers to an indexer that reads
pub read_answer-selection : (state : State) (text : List ℕ) (tree : Data) (selection : Selection) → tree_of text ≡ Ok tree → selection_shown tree ≡ Ok selection
    → read_answer state text ≡ (codec_answer (line_part state.header state.value selection) >>= λ chunk. Ok (ok_line (chunk_tree chunk), state))
read_answer-selection state text tree selection reads means = rw (reads, means) refl
