-- The answer to `encode`, by the container of the elements that a text lists.
use Rattle.std.proofs.Common.{◌≡◌, ◌∙◌, ℕ, List, Result, Ok, Err, refl, ap}
use Rattle.serde_json.specs.Data.{Data}
use Rattle.zarrs_chunk.specs.Answer.{◌>>=◌, seen}
use Rattle.zarrs_data_type.specs.Element.{Chunk}
use Rattle.zarrs_array_bytes.specs.Held.{Held}
use Rattle.zarrs_json.specs.Containers.{container_of}
use Rattle.zarrs_json.specs.Edit.{container_listed}
use Rattle.zarrs_json.specs.Elements.{elements_of}
use Rattle.zarrs_json.specs.Json.{tree_of}
use Rattle.zarrs_json.specs.declared.refusal.Refusal.{Refusal}
use Rattle.zarrs_tool_lines.specs.Commands.{State, LineAnswer, held_answer, encode_answer}

of_held : (r : Result Chunk Refusal) (view : Chunk → Held) (answer : Held → LineAnswer) → (r >>= λ chunk. answer (view chunk)) ≡ (seen view r >>= answer)
of_held (Ok chunk) view answer = refl
of_held (Err e) view answer = refl

of_tree : (r : Result Data Refusal) (shown : Data → Result Chunk Refusal) (view : Chunk → Held) (answer : Held → LineAnswer)
    → (r >>= λ tree. shown tree >>= λ chunk. answer (view chunk)) ≡ (r >>= (λ tree. seen view (shown tree)) >>= answer)
of_tree (Ok tree) shown view answer = of_held (shown tree) view answer
of_tree (Err e) shown view answer = refl

by_container : (state : State) (text : List ℕ) → encode_answer state text ≡ (container_listed state.header.data_type text >>= held_answer state)
by_container state text = of_tree (tree_of text) (elements_of state.header.data_type) (container_of state.header.data_type) (held_answer state)

-- the elements read
pub encode_read : (state : State) (text : List ℕ) (held : Held) → container_listed state.header.data_type text ≡ Ok held → encode_answer state text ≡ held_answer state held
encode_read state text held read = by_container state text ∙ ap (λ r. r >>= held_answer state) read

-- they don't read
pub encode_refused : (state : State) (text : List ℕ) (refusal : Refusal) → container_listed state.header.data_type text ≡ Err refusal → encode_answer state text ≡ Err refusal
encode_refused state text refusal read = by_container state text ∙ ap (λ r. r >>= held_answer state) read
