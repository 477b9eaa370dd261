-- Calls that write the elements of a chunk, all of one size, into a slice.
use Rattle.std.specs.Prelude.{◌≡◌, ℕ, List, Option, Result, OnOk, OnErr}
use Rattle.zarrs_chunk.specs.Answer.{seen}
use Rattle.zarrs_chunk.specs.declared.codec_error.CodecError.{CodecError}
use Rattle.zarrs_array_bytes.specs.Held.{Held, Raw, flen}
use Rattle.zarrs_array_bytes.specs.Turned.{turned_bytes}

-- a call that returns Ok has left these items; one that returns an error has left what was there
abbrev pub PutsItems : {E : Type 0} → List ℕ → List ℕ → Result (Unit {0}) E → List ℕ → Type 0
PutsItems old new result items = OnOk result (new ≡ items) × OnErr result (new ≡ old)

-- A call that returns Ok has written the bytes of a container that it might as well have returned, each component of the size that is turned round; one that returns an error has left what was there.
pub record WritesHeld (turn : Option ℕ) (old new : List ℕ) (result : Result (Unit {0}) CodecError) (Answered : Result Held CodecError → Type 0) : Type 0 where
  pub raw : Raw
  pub there : PutsItems old new result (turned_bytes turn raw.items)
  pub answered : Answered (seen (λ _. flen raw) result)
