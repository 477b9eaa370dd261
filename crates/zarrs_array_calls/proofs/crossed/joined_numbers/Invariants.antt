use Rattle.std.proofs.Common.{◌≡◌, take}
use Rattle.std.specs.List.{flat_map}
use Rattle.zarrs_array_plan.specs.declared.planned_chunk.PlannedChunk.{PlannedChunk}
use Rattle.zarrs_array_calls.specs.CrossedPlans.{numbers_of_part}
use Rattle.zarrs_array_calls.proofs.crossed.joined_numbers.Given as goal

abbrev pub invariant-loop-it : goal.invariant-loop-it
invariant-loop-it l = l.numbers.items ≡ flat_map (λ (it : PlannedChunk). numbers_of_part it.part) (take l.it-index l.planned)
