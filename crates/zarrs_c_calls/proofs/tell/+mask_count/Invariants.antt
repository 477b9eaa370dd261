use Rattle.zarrs_array_bytes.specs.Held.{mask_levels}
use Rattle.zarrs_c_calls.proofs.tell.+mask_count.Given as goal

abbrev pub decreases-mask_count : goal.decreases-mask_count
decreases-mask_count l = mask_levels l.elements.now
