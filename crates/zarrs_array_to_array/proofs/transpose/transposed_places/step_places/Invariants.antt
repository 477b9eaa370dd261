use Rattle.std.proofs.Common.{◌≡◌, ◌++◌, take, drop, map}
use Rattle.zarrs_array_to_array.specs.Strides.{stepped_by}
use Rattle.zarrs_array_to_array.proofs.transpose.transposed_places.step_places.Given as goal

abbrev pub invariant-loop-index : goal.invariant-loop-index
invariant-loop-index l = l.places ≡ map (stepped_by l.strides l.steps) (take l.index l.fn.places) ++ drop l.index l.fn.places
