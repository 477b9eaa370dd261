use Rattle.zarrs_array_bytes.specs.Held.{mask_levels}
use Rattle.zarrs_c_calls.proofs.tell.+inner_bytes.Given as goal

abbrev pub decreases-inner_bytes : goal.decreases-inner_bytes
decreases-inner_bytes l = mask_levels l.elements.now
