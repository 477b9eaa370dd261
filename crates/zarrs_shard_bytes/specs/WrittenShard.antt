-- What is written of a shard.
use Rattle.std.specs.Prelude.{ℕ, ◌-◌, Bool, true, false, Option, Some, None, List, [], ◌∷◌, ◌++◌, length, drop, Result, Ok}
use Rattle.zarrs_chunk.specs.Answer.{Gives}
use Rattle.zarrs_chunk.specs.declared.codec_error.CodecError.{CodecError}
use Rattle.zarrs_chain_meaning.specs.sharding.Sharding.{missing}
use Rattle.zarrs_shard_bytes.specs.declared.written_shard.WrittenShard.{WrittenShard}

-- what is written so far: the bytes, and the numbers of the index
abbrev pub written_seen : WrittenShard → (List ℕ × List ℕ)
written_seen written = (written.bytes.items, written.numbers.items)

-- with one inner chunk more, which is left out or has this value
abbrev pub written_with : (List ℕ × List ℕ) → Option (List ℕ) → (List ℕ × List ℕ)
written_with so_far None = (so_far.0, so_far.1 ++ missing ∷ missing ∷ [])
written_with so_far (Some part) = (so_far.0 ++ part, so_far.1 ++ length so_far.0 ∷ length part ∷ [])

-- an inner chunk more is written, which is left out or has this value
abbrev pub WritesPart : WrittenShard → WrittenShard → Option (List ℕ) → Result (Unit {0}) CodecError → Type 0
WritesPart old new part result = Gives (λ _. written_seen new) result (Ok (written_with (written_seen old) part))

-- the bytes from an offset on are listed as the value of an inner chunk
abbrev pub ListsFrom : WrittenShard → WrittenShard → ℕ → Result (Unit {0}) CodecError → Type 0
ListsFrom old new offset result =
    Gives (λ _. written_seen new) result (Ok (old.bytes.items, old.numbers.items ++ offset ∷ (length old.bytes.items - offset) ∷ []))

-- the index part in the place of the first bytes, or behind all of them
abbrev pub with_index : Bool → ℕ → List ℕ → List ℕ → List ℕ
with_index false size bytes part = part ++ drop size bytes
with_index true size bytes part = bytes ++ part
