-- What is given of the parts of a container.
use Rattle.std.specs.Prelude.{ℕ, List, Vec, Result, Ok}
use Rattle.std.specs.declared.alloc.Global.{Global}
use Rattle.zarrs_chunk.specs.Answer.{Gives, GivesItems}
use Rattle.zarrs_chunk.specs.Runs.{joined_runs}
use Rattle.zarrs_chunk.specs.declared.codec_error.CodecError.{CodecError}
use Rattle.zarrs_array_bytes.specs.Update.{cuts_update}

-- these items are given; only out of memory may come in their place
abbrev pub MakesItems : {A : Type 0} → Result (Vec A Global) CodecError → List A → Type 0
MakesItems result items = GivesItems result (Ok items)

-- the same of bytes and of where the elements begin and end in them
abbrev pub GivesCuts : Result (Vec ℕ Global × Vec ℕ Global) CodecError → List ℕ × List ℕ → Type 0
GivesCuts result parts = Gives (λ vectors. (vectors.0.items, vectors.1.items)) result (Ok parts)

-- the bytes and offsets are given with those of the elements at the runs replaced by the new ones
abbrev pub UpdatesCuts : List ℕ → List ℕ → List ℕ → List ℕ → List (ℕ × ℕ) → Result (Vec ℕ Global × Vec ℕ Global) CodecError → Type 0
UpdatesCuts offsets items new_offsets new_items runs result =
    GivesCuts result (cuts_update offsets items new_offsets new_items (joined_runs runs))
