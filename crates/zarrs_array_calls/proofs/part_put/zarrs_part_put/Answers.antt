use Rattle.std.proofs.Common.{inl, inr, refl}
use Rattle.zarrs_array_calls.specs.PartBytes.{part_put}
use Rattle.zarrs_array_calls.proofs.RefusalNumbers.{refuses}
use Rattle.zarrs_array_calls.proofs.part_put.zarrs_part_put.Goals as goal

pub returns-in-Ok : goal.returns-in-Ok
returns-in-Ok c = record { told = inl (c.in-Ok.ensures.written, refl) }

pub returns-in-Err : goal.returns-in-Err
returns-in-Err c =
    let due = part_put c.args.size c.args.lengths.now c.args.part.now c.args.elements.now c.args.region.now in
    record { told = inr (refuses c.in-Err.refusal due c.refusal_number.result c.in-Err.ensures.written c.refusal_number.ensures.value, c.in-Err.ensures.kept) }
