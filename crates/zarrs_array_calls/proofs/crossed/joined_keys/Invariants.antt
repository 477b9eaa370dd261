use Rattle.std.proofs.Common.{◌≡◌, ◌∷◌, map, take, string_bytes}
use Rattle.std.specs.List.{flat_map}
use Rattle.zarrs_array_bytes.specs.Pieces.{ends}
use Rattle.zarrs_array_plan.specs.declared.planned_chunk.PlannedChunk.{PlannedChunk}
use Rattle.zarrs_array_calls.proofs.crossed.joined_keys.Given as goal

abbrev pub invariant-loop-it : goal.invariant-loop-it
invariant-loop-it l = record {
  keys : l.keys.items ≡ flat_map (λ (it : PlannedChunk). string_bytes it.key) (take l.it-index l.planned);
  offsets : l.offsets.items ≡ 0 ∷ ends 0 (map (λ (it : PlannedChunk). string_bytes it.key) (take l.it-index l.planned));
}
