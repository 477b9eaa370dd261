-- The errors of lines, and how an answer shows them.
use Rattle.std.specs.Prelude.{ℕ, ◌++◌, Bool, false, List, Vec, Result, Ok, Err, codes}
use Rattle.std.specs.declared.alloc.Global.{Global}
use Rattle.zarrs_chunk.specs.Answer.{memory, Answers}
use Rattle.zarrs_chunk.specs.CodecError.{name_of}
use Rattle.zarrs_chunk.specs.declared.codec_error.CodecError.{CodecError}
use Rattle.zarrs_metadata.specs.PluginCreateError.{plugin_memory, plugin_name_of}
use Rattle.zarrs_chain.specs.declared.metadata.chain_json_error.ChainJsonError.{ChainJsonError}
use Rattle.zarrs_chain.specs.declared.metadata.chain_json_error.ChainJsonError.TheVariants.{NotJson, NotAList, Create}
use Rattle.zarrs_json.specs.declared.refusal.Refusal.{Refusal}
use Rattle.zarrs_json.specs.declared.refusal.Refusal.TheVariants.{Syntax, Making, Codec}

-- out of memory
abbrev pub refusal_memory : Refusal → Bool
refusal_memory Syntax = false
refusal_memory (Making error) = plugin_memory error
refusal_memory (Codec error) = memory error

-- The answer of a reading is the expected one, its value or its first error; only lack of memory may come in its place.
abbrev pub ReadsJson : {T : Type 0} → Result T Refusal → Result T Refusal → Type 0
ReadsJson result expected = Answers refusal_memory (λ value. value) result expected

-- the same, of a value that is seen by `view`
abbrev pub ReadsAs : {T V : Type 0} → (T → V) → Result T Refusal → Result V Refusal → Type 0
ReadsAs view result expected = Answers refusal_memory view result expected

-- the same of a vector, which is read by its items
abbrev pub ReadsItems : {A : Type 0} → Result (Vec A Global) Refusal → Result (List A) Refusal → Type 0
ReadsItems result expected = ReadsAs (λ v. v.items) result expected

-- why a line fails where JSON in it makes no chain: what is no list of codecs is no argument
abbrev pub chain_refusal : ChainJsonError → Refusal
chain_refusal NotJson = Syntax
chain_refusal NotAList = Syntax
chain_refusal (Create error) = Making error

-- the answer of a chain made from JSON as a part of a line's answer
abbrev pub chain_answer : {A : Type 0} → Result A ChainJsonError → Result A Refusal
chain_answer (Ok value) = Ok value
chain_answer (Err error) = Err (chain_refusal error)

-- a codec's answer as a part of a line's answer
abbrev pub codec_answer : {A : Type 0} → Result A CodecError → Result A Refusal
codec_answer (Ok value) = Ok value
codec_answer (Err error) = Err (Codec error)

-- the name that an answer has for an error
abbrev pub refusal_name : Refusal → List ℕ
refusal_name Syntax = codes "Syntax"
refusal_name (Making error) = plugin_name_of error
refusal_name (Codec error) = name_of error

-- the answer to a line that fails
abbrev pub error_line : Refusal → List ℕ
error_line refusal = codes "error " ++ refusal_name refusal
