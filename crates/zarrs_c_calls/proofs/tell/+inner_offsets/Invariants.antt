use Rattle.zarrs_array_bytes.specs.Held.{mask_levels}
use Rattle.zarrs_c_calls.proofs.tell.+inner_offsets.Given as goal

abbrev pub decreases-inner_offsets : goal.decreases-inner_offsets
decreases-inner_offsets l = mask_levels l.elements.now
