-- What is under a mask has fewer masks.
use Rattle.std.proofs.Common.{◌≤◌, max, arith}
use Rattle.zarrs_array_bytes.specs.Held.{mask_levels}
use Rattle.zarrs_array_bytes.specs.ArrayBytes.{held_of}
use Rattle.zarrs_array_bytes.specs.declared.array_bytes.Parts.{Parts}
use Rattle.zarrs_array_bytes.specs.declared.array_bytes.Parts.TheVariants.{Fixed, Variable, Optional}
use Rattle.zarrs_array_bytes.specs.declared.array_bytes.ArrayBytes.TheDeep.{deep-Parts}

pub held_of-mask_levels : (parts : Parts) → max (deep-Parts parts) 0 ≤ mask_levels (held_of parts)
held_of-mask_levels (Fixed bytes) = omega arith
held_of-mask_levels (Variable bytes offsets) = omega arith
held_of-mask_levels (Optional inner mask) = omega arith
