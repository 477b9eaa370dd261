-- The chain that JSON lists, by a maker of bytes-to-bytes codecs, or the first error.
use Rattle.std.specs.Prelude.{ℕ, Bool, false, List, [], ◌∷◌, Option, ok_or, Result, Ok, Err}
use Rattle.serde_json.specs.Data.{Data, Items, no_items, item}
use Rattle.serde_json.specs.Find.{as_array}
use Rattle.serde_json.specs.Read.{read}
use Rattle.zarrs_chunk.specs.Answer.{◌>>=◌}
use Rattle.zarrs_metadata.specs.Metadata.{Metadata, read_metadata}
use Rattle.zarrs_metadata.specs.PluginCreateError.{plugin_memory}
use Rattle.zarrs_metadata.specs.declared.plugin_create_error.PluginCreateError.{PluginCreateError}
use Rattle.zarrs_chain_meaning.specs.MadeChain.{chain_made}
use Rattle.zarrs_chain_meaning.specs.CodecMeaning.{PlainChain}
use Rattle.zarrs_chain.specs.declared.metadata.chain_json_error.ChainJsonError.{ChainJsonError}
use Rattle.zarrs_chain.specs.declared.metadata.chain_json_error.ChainJsonError.TheVariants.{NotJson, NotAList, Create}

-- out of memory, while the JSON is read or the chain is made
abbrev pub json_memory : ChainJsonError → Bool
json_memory NotJson = false
json_memory NotAList = false
json_memory (Create error) = plugin_memory error

-- what is read or made of metadata, as a part of the answer to JSON
abbrev pub create_answer : {A : Type 0} → Result A PluginCreateError → Result A ChainJsonError
create_answer (Ok value) = Ok value
create_answer (Err error) = Err (Create error)

-- the metadata that a list's items are
abbrev pub metadatas_shown : Items → Result (List Metadata) PluginCreateError
metadatas_shown no_items = Ok []
metadatas_shown (item tree items) = do
  metadata ← read_metadata tree
  metadatas ← metadatas_shown items
  Ok (metadata ∷ metadatas)

-- the chain of a tree that is a list of metadata, each of which is read before a codec is made
abbrev pub chain_shown : {B : Type 0} → (Metadata → Result (Option B) PluginCreateError) → Data → Result (PlainChain B) ChainJsonError
chain_shown makes tree = do
  items ← ok_or (as_array tree) NotAList
  metadatas ← create_answer (metadatas_shown items)
  create_answer (chain_made makes metadatas)

-- the chain of a text, which is one JSON value
abbrev pub chain_in_text : {B : Type 0} → (Metadata → Result (Option B) PluginCreateError) → List ℕ → Result (PlainChain B) ChainJsonError
chain_in_text makes text = do
  tree ← ok_or (read text) NotJson
  chain_shown makes tree
