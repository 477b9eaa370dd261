-- A container with the elements of another behind its own.
use Rattle.std.specs.Prelude.{ℕ, ◌≡◌, ◌+◌, ◌-◌, ◌<◌, List, ◌++◌, length, map, Result}
use Rattle.std.specs.List.{range_with_len}
use Rattle.zarrs_chunk.specs.Answer.{GivesBy, no_refusal}
use Rattle.zarrs_chunk.specs.declared.codec_error.CodecError.{CodecError}
use Rattle.zarrs_data_type.specs.ElementType.{ElementType}
use Rattle.zarrs_data_type.specs.Element.{Chunk}
use Rattle.zarrs_array_bytes.specs.Held.{Held}
use Rattle.zarrs_array_bytes.specs.Elements.{cut, element_at, elements}
use Rattle.zarrs_array_bytes.specs.Cuts.{run_bytes}
use Rattle.zarrs_array_bytes.specs.Pieces.{ends}
use Rattle.zarrs_array_bytes.specs.Blank.{AbsentAreBlank}
use Rattle.zarrs_array_bytes.specs.Tight.{IsFlush}
use Rattle.zarrs_array_bytes.specs.Validity.{HasElements}

-- the elements of a container, so many, and then those of another
abbrev pub appended_elements : ElementType → ℕ → Held → ℕ → Held → Chunk
appended_elements type count held more_count more = elements type count held ++ elements type more_count more

-- bytes and offsets of elements of any length, with those of others behind them
abbrev pub joined_cuts : List ℕ → List ℕ → List ℕ → List ℕ → List ℕ × List ℕ
joined_cuts offsets items more_offsets more = (
  items ++ run_bytes more_offsets more 0 (length more_offsets - 1),
  offsets ++ ends (length items) (map (cut more_offsets more) (range_with_len 0 (length more_offsets - 1))),
)

-- a container has the elements of one, so many, and then those of another; it is flush where the first is, and blank elements are under absent ones where they are in both
pub record IsJoined (type : ElementType) (count more_count : ℕ) (held more joined : Held) : Type 0 where
  pub fits : HasElements type (count + more_count) joined
  pub front : (place : ℕ) → place < count → element_at type joined place ≡ element_at type held place
  pub back : (place : ℕ) → place < more_count → element_at type joined (count + place) ≡ element_at type more place
  pub flush : IsFlush held → IsFlush joined
  pub blank : AbsentAreBlank type held → AbsentAreBlank type more → AbsentAreBlank type joined

-- such a container is given
abbrev pub GivesJoined : ElementType → ℕ → ℕ → Held → Held → Result Held CodecError → Type 0
GivesJoined type count more_count held more result = GivesBy (λ joined _. IsJoined type count more_count held more joined) result no_refusal
