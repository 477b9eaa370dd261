use Rattle.std.proofs.Common.{arith}
use Rattle.zarrs_fill_values.proofs.shown.are_bytes.Goals as goal

pub returns : goal.returns
returns c = record { bytes = λ i. omega (arith, c.type_inv.fill i) }
