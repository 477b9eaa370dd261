-- Edits as JSON: {"at":INDEXER,"data":ELEMENTS}.
use Rattle.std.specs.Prelude.{ℕ, List, ◌==◌, ok_or, Result, Ok, codes}
use Rattle.serde_json.specs.Data.{Data, Members}
use Rattle.serde_json.specs.Find.{as_object}
use Rattle.zarrs_chunk.specs.Answer.{◌>>=◌, demand, seen}
use Rattle.zarrs_chunk.specs.Indexer.{selection_of}
use Rattle.zarrs_chunk.specs.Selection.{Selection}
use Rattle.zarrs_data_type.specs.ElementType.{ElementType}
use Rattle.zarrs_array_bytes.specs.Held.{Held}
use Rattle.zarrs_json.specs.declared.edits.Edit.{Edit}
use Rattle.zarrs_json.specs.declared.refusal.Refusal.{Refusal}
use Rattle.zarrs_json.specs.declared.refusal.Refusal.TheVariants.{Syntax}
use Rattle.zarrs_json.specs.Refusal.{ReadsAs}
use Rattle.zarrs_json.specs.Json.{tree_of, needed_member, member_count}
use Rattle.zarrs_json.specs.Elements.{elements_of}
use Rattle.zarrs_json.specs.Containers.{container_of}
use Rattle.zarrs_json.specs.Indexer.{selection_shown}

-- new elements in a container, and the places where they go
pub record PlainEdit : Type 0 where
  pub selection : Selection
  pub new : Held

-- what an edit that was read is seen as
abbrev pub edit_seen : Edit → PlainEdit
edit_seen edit = record { selection = selection_of edit.indexer; new = edit.elements }

-- the edit that is read is the expected one, or the first error is returned; only lack of memory may come in its place
abbrev pub ReadsEdit : Result Edit Refusal → Result PlainEdit Refusal → Type 0
ReadsEdit result expected = ReadsAs edit_seen result expected

-- the container of the elements that a list shows, or the first error
abbrev pub container_in : ElementType → Data → Result Held Refusal
container_in type tree = seen (container_of type) (elements_of type tree)

-- the container of the elements that a text lists, or the first error
abbrev pub container_listed : ElementType → List ℕ → Result Held Refusal
container_listed type text = do
  tree ← tree_of text
  container_in type tree

-- of the trees of its two parts; the first one is read before the second
abbrev pub edit_at : ElementType → Data → Data → Result PlainEdit Refusal
edit_at type at elements = do
  selection ← selection_shown at
  new ← container_in type elements
  Ok (record { selection = selection; new = new })

-- of an object's members: these two keys and no other
abbrev pub edit_among : ElementType → Members → Result PlainEdit Refusal
edit_among type members = do
  _ ← demand (member_count members == 2) Syntax
  at ← needed_member (codes "at") members
  elements ← needed_member (codes "data") members
  edit_at type at elements

-- the edit that a tree shows, or the first error
abbrev pub edit_in : ElementType → Data → Result PlainEdit Refusal
edit_in type tree = do
  members ← ok_or (as_object tree) Syntax
  edit_among type members
