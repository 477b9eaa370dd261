use Rattle.std.proofs.Common.{◌≡◌, take}
use Rattle.zarrs_metadata.proofs.configuration.transpose.as_axes.Given as goal

abbrev pub invariant-loop-number : goal.invariant-loop-number
invariant-loop-number l = l.axes.items ≡ take l.number-index l.numbers
