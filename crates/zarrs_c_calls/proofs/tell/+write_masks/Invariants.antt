use Rattle.zarrs_array_bytes.specs.Held.{mask_levels}
use Rattle.zarrs_c_calls.proofs.tell.+write_masks.Given as goal

abbrev pub decreases-write_masks : goal.decreases-write_masks
decreases-write_masks l = mask_levels l.elements.now
